-- Reading is exact: the bytes that are read are those that are written, and no others.
use Rattle.std.proofs.Common.{◌≡◌, ℕ, ◌+◌, ◌*◌, ◌/◌, ◌%◌, ◌<◌, ◌≤◌, true, not, ◌||◌, eqb, ltb, leb, List, [], ◌∷◌, ◌++◌, map, length, get_or, drop, is_some, Some, None, Ok, Option, sym, refl, ap, ◌∙◌, subst, ap₂, arith}
use Rattle.std.specs.List.{flat_map}
use Rattle.std.proofs.lemmas.Nat.{div-mul-add, mod-mul-add, div-add-mod'}
use Rattle.std.proofs.lemmas.List.{take-append-drop, length-drop, length-append, length-map, map-id, append-nil}
use Rattle.std.proofs.lemmas.Bool.{and_parts, and_from, leb-true, ltb-true, le-leb, lt-ltb, false≢true, or_parts, or_from, ltb-false, le-ltb, eqb-true, eqb-false, eq-eqb, ne_eqb, not-false, not_from_true, cond-false}
use Rattle.derivation.specs.declared.types.TypeEntry.{TypeEntry}
use Rattle.derivation.specs.declared.rows.Rule.{Rule}
use Rattle.derivation.specs.declared.rows.Rule.TheVariants.{Variable, Zero, One, Gate, Lambda, PairLambda, Apply, Pair}
use Rattle.derivation.specs.declared.rows.Row.{Row}
use Rattle.basics.specs.declared.refusal.Refusal.{Refusal}
use Rattle.derivation.specs.Trees.{types_fault}
use Rattle.derivation.specs.Rows.{row_of, record_of}
use Rattle.derivation.specs.Accepted.{Derivation, rows_fault, fault, valid}
use Rattle.derivation.specs.Format.{Cut, and_then, unless, Parsed, cut, trailing_fault, header_fault, type_bytes, row_bytes, rule_bytes, record_bytes, encode, type_length, row_length, front_type, front_row, parse, derivation_of}
use Rattle.derivation.proofs.FaultLaws.{cond_none, or_else_both}
use Rattle.derivation.proofs.FormatCut.{take-firsts, unless_ok, and_then_ok, ok_same, cut-length, cut-sound, cut_complete}
use Rattle.derivation.proofs.FormatRecords.{types_exact, rows_exact, rows-known, rows-again}

-- the header

-- what the first five bytes say
pub record Header (bytes : List ℕ) : Type 0 where
  pub long : 5 ≤ length bytes
  pub version : get_or bytes 0 0 ≡ 1
  pub counted : get_or bytes 1 0 * 256 + get_or bytes 2 0 ≡ length bytes
  pub types : get_or bytes 3 0 ≤ 64
  pub some : 0 < get_or bytes 4 0
  pub rows : get_or bytes 4 0 ≤ 128

-- a header says so exactly if it has no fault
pub header-from_none : (bytes : List ℕ) → header_fault bytes ≡ None → Header bytes
header-from_none bytes e =
    let a = cond_none (ltb (length bytes) 5) _ _ e in
    let b = cond_none (not (eqb (get_or bytes 0 0) 1)) _ _ a.1 in
    let c = cond_none (not (eqb (get_or bytes 1 0 * 256 + get_or bytes 2 0) (length bytes))) _ _ b.1 in
    let d = cond_none (ltb 64 (get_or bytes 3 0)) _ _ c.1 in
    let f = cond_none (eqb (get_or bytes 4 0) 0 || ltb 128 (get_or bytes 4 0)) _ _ d.1 in
    let g = or_parts (eqb (get_or bytes 4 0) 0) (ltb 128 (get_or bytes 4 0)) f.0 in
    let some = eqb-false (get_or bytes 4 0) 0 g.0 in
    record {
      long = ltb-false (length bytes) 5 a.0;
      version = eqb-true (get_or bytes 0 0) 1 (not-false _ b.0);
      counted = eqb-true (get_or bytes 1 0 * 256 + get_or bytes 2 0) (length bytes) (not-false _ c.0);
      types = ltb-false 64 (get_or bytes 3 0) d.0;
      some = omega arith;
      rows = ltb-false 128 (get_or bytes 4 0) g.1;
    }

pub none_from_header : (bytes : List ℕ) → Header bytes → header_fault bytes ≡ None
none_from_header bytes h =
    cond-false (ltb (length bytes) 5) _ _ (le-ltb (length bytes) 5 h.long)
    ∙ cond-false (not (eqb (get_or bytes 0 0) 1)) _ _ (not_from_true _ (eq-eqb (get_or bytes 0 0) 1 h.version))
    ∙ cond-false (not (eqb (get_or bytes 1 0 * 256 + get_or bytes 2 0) (length bytes))) _ _
    (not_from_true _ (eq-eqb (get_or bytes 1 0 * 256 + get_or bytes 2 0) (length bytes) h.counted))
    ∙ cond-false (ltb 64 (get_or bytes 3 0)) _ _ (le-ltb 64 (get_or bytes 3 0) h.types)
    ∙ cond-false (eqb (get_or bytes 4 0) 0 || ltb 128 (get_or bytes 4 0)) _ _
    (or_from _ _ (ne_eqb (get_or bytes 4 0) 0 (λ e. omega arith)) (le-ltb 128 (get_or bytes 4 0) h.rows))

-- validity, part by part

-- no fault was found
no_fault : (o : Option Refusal) → not (is_some o) ≡ true → o ≡ None
no_fault None e = refl
no_fault (Some r) e = absurd (false≢true e)

-- a derivation is valid exactly if its numbers of types and rows are in bounds and no check finds a fault
pub valid-parts : (es : List TypeEntry) (rows : List Row) → valid es rows ≡ true →
    (length es ≤ 64) × (0 < length rows) × (length rows ≤ 128) × (fault es (map record_of rows) ≡ None)
unfolding valid
valid-parts es rows v =
    let a = and_parts (leb (length es) 64) _ v in
    let b = and_parts (ltb 0 (length rows)) _ a.1 in
    let c = and_parts (leb (length rows) 128) _ b.1 in
    (leb-true (length es) 64 a.0, ltb-true 0 (length rows) b.0, leb-true (length rows) 128 c.0, no_fault _ c.1)

pub valid-from : (es : List TypeEntry) (rows : List Row) → length es ≤ 64 → 0 < length rows → length rows ≤ 128 →
    fault es (map record_of rows) ≡ None → valid es rows ≡ true
unfolding valid
valid-from es rows t s r e =
    and_from _ _ (le-leb (length es) 64 t)
    (and_from _ _ (lt-ltb 0 (length rows) s)
    (and_from _ _ (le-leb (length rows) 128 r) (ap (λ o. not (is_some o)) e)))

-- the length of what is written

-- five bytes of header, and the records
pub encode-length : (es : List TypeEntry) (rows : List Row) → length (encode es rows) ≡ 5 + length (record_bytes es rows)
unfolding encode
encode-length es rows = omega arith

-- a type has four bytes
pub types-length : (es : List TypeEntry) → length (flat_map type_bytes es) ≡ 4 * length es
types-length [] = refl
types-length (e ∷ es) = omega (arith, types-length es)

-- a row has at most six bytes
rule-length : (t : ℕ) (rule : Rule) → length (rule_bytes t rule) ≤ 6
rule-length t Variable = omega arith
rule-length t Zero = omega arith
rule-length t One = omega arith
rule-length t (Gate g) = omega arith
rule-length t (Lambda p x) = omega arith
rule-length t (PairLambda p x y) = omega arith
rule-length t (Apply f a) = omega arith
rule-length t (Pair l r) = omega arith

rows-length : (rows : List Row) → length (flat_map row_bytes rows) ≤ 6 * length rows
rows-length [] = omega arith
rows-length (row ∷ rows) =
    rw (length-append (row_bytes row) (flat_map row_bytes rows))
    (omega (arith, rule-length row.ty.0 row.rule, rows-length rows))

-- no derivation has more bytes than this
pub encode-bound : (es : List TypeEntry) (rows : List Row) → length es ≤ 64 → length rows ≤ 128 → length (encode es rows) ≤ 1029
encode-bound es rows t r =
    rw (encode-length es rows, length-append (flat_map type_bytes es) (flat_map row_bytes rows))
    (omega (arith, types-length es, rows-length rows))

-- the whole

-- nothing is left over
nothing_left : (total : ℕ) (left : List ℕ) → trailing_fault total left ≡ None → left ≡ []
nothing_left total [] e = refl
nothing_left total (b ∷ bs) e = let z : ◌≡◌ {A = ℕ} 0 1 = cc in absurd (omega arith)

-- the parts of bytes that were read: a header, the types up to the bytes of rows, and the rows up to the end
record Pieces (bytes : List ℕ) (p : Parsed) : Type 0 where
  header : Header bytes
  middle : List ℕ
  types_cut : cut type_length front_type (length bytes) (get_or bytes 3 0) (drop 5 bytes) ≡ Ok (record { items = p.types; rest = middle })
  rows_cut : cut row_length front_row (length bytes) (get_or bytes 4 0) middle ≡ Ok (record { items = p.records; rest = [] })

-- behind the header and the types
pieces_from_rows : (bytes : List ℕ) (p : Parsed) → Header bytes →
    (ts : Cut TypeEntry) → cut type_length front_type (length bytes) (get_or bytes 3 0) (drop 5 bytes) ≡ Ok ts →
    and_then (cut row_length front_row (length bytes) (get_or bytes 4 0) ts.rest)
    (λ rs. unless (trailing_fault (length bytes) rs.rest) (Ok (record { types = ts.items; records = rs.items }))) ≡ Ok p →
    Pieces bytes p
pieces_from_rows bytes p h ts et e =
    let c = and_then_ok (cut row_length front_row (length bytes) (get_or bytes 4 0) ts.rest) _ p e in
    let d = unless_ok (trailing_fault (length bytes) c.0.rest) _ p c.2 in
    let same = ok_same d.1 in
    record {
      header = h;
      middle = ts.rest;
      types_cut = et ∙ ap (λ q. Ok (record { items = q.types; rest = ts.rest })) same;
      rows_cut = c.1 ∙ ap₂ (λ q l. Ok (record { items = q.records; rest = l })) same (nothing_left (length bytes) c.0.rest d.0);
    }

-- bytes were read exactly if they have these parts
pieces_from_parse : (bytes : List ℕ) (p : Parsed) → parse bytes ≡ Ok p → Pieces bytes p
unfolding parse
pieces_from_parse bytes p e =
    let a = unless_ok (header_fault bytes) _ p e in
    let b = and_then_ok (cut type_length front_type (length bytes) (get_or bytes 3 0) (drop 5 bytes)) _ p a.1 in
    pieces_from_rows bytes p (header-from_none bytes a.0) b.0 b.1 b.2

parse-from_pieces : (bytes : List ℕ) (p : Parsed) → Pieces bytes p → parse bytes ≡ Ok p
unfolding parse
parse-from_pieces bytes p x = rw (none_from_header bytes x.header, x.types_cut, x.rows_cut) refl

-- bytes whose header says what there is, and whose rest is the records, are written so
encode-from-header : (bytes : List ℕ) (es : List TypeEntry) (rows : List Row) → Header bytes → get_or bytes 2 0 < 256 →
    length es ≡ get_or bytes 3 0 → length rows ≡ get_or bytes 4 0 → drop 5 bytes ≡ record_bytes es rows → bytes ≡ encode es rows
unfolding encode
encode-from-header bytes es rows h low t r e =
    let hi = get_or bytes 1 0 in
    let lo = get_or bytes 2 0 in
    let total : 5 + length (record_bytes es rows) ≡ hi * 256 + lo = omega (arith, ap length e, length-drop 5 bytes) in
    let over : (5 + length (record_bytes es rows)) / 256 ≡ hi = ap (λ n. n / 256) total ∙ div-mul-add hi 256 lo low in
    let under : (5 + length (record_bytes es rows)) % 256 ≡ lo = ap (λ n. n % 256) total ∙ mod-mul-add hi 256 lo low in
    sym (take-append-drop 5 bytes) ∙ ap₂ ◌++◌ (take-firsts 0 5 bytes h.long) e ∙ cc

-- bytes that were read, with a rule in each row, are written so
encode-from_pieces : (bytes : List ℕ) (p : Parsed) → get_or bytes 2 0 < 256 → Pieces bytes p →
    map record_of (map row_of p.records) ≡ p.records → bytes ≡ encode p.types (map row_of p.records)
encode-from_pieces bytes p low x known =
    encode-from-header bytes p.types (map row_of p.records) x.header low
    (cut-length type_length front_type (length bytes) _ _ _ x.types_cut)
    (length-map p.records row_of ∙ cut-length row_length front_row (length bytes) _ _ _ x.rows_cut)
    (cut-sound types_exact (length bytes) _ _ _ x.types_cut (map-id _ ∙ map-id _)
    ∙ ap₂ (λ es l. flat_map type_bytes es ++ l) (map-id p.types)
    (cut-sound rows_exact (length bytes) _ _ _ x.rows_cut known ∙ append-nil _))

-- and if no check finds a fault they are valid
pieces_valid : (bytes : List ℕ) (p : Parsed) → Pieces bytes p → map record_of (map row_of p.records) ≡ p.records →
    fault p.types p.records ≡ None → valid p.types (map row_of p.records) ≡ true
pieces_valid bytes p x known e =
    let t = cut-length type_length front_type (length bytes) _ _ _ x.types_cut in
    let r = length-map p.records row_of ∙ cut-length row_length front_row (length bytes) _ _ _ x.rows_cut in
    valid-from p.types (map row_of p.records) (omega arith) (omega arith) (omega arith) (ap (fault p.types) known ∙ e)

-- what is read is valid, and it was written so
pub read_sound : (bytes : List ℕ) (d : Derivation) → ((i : ℕ) → i < length bytes → get_or bytes i 0 < 256) → derivation_of bytes ≡ Ok d →
    (bytes ≡ encode d.types d.rows) × (valid d.types d.rows ≡ true)
unfolding derivation_of
read_sound bytes d small e =
    let a = and_then_ok (parse bytes) _ d e in
    let b = unless_ok (fault a.0.types a.0.records) _ d a.2 in
    subst (λ d. (bytes ≡ encode d.types d.rows) × (valid d.types d.rows ≡ true)) (ok_same b.1)
    (of-parsed a.0 (pieces_from_parse bytes a.0 a.1) b.0)
  where
    of-parsed : (p : Parsed) → Pieces bytes p → fault p.types p.records ≡ None →
        (bytes ≡ encode p.types (map row_of p.records)) × (valid p.types (map row_of p.records) ≡ true)
    of-parsed p x f =
        let behind-types = (or_else_both (types_fault p.types) _ f).1 in
        let known = rows-known p.types [] p.records (or_else_both (rows_fault p.types p.records) _ behind-types).0 in
        (encode-from_pieces bytes p (small 2 (omega arith)) x known, pieces_valid bytes p x known f)

-- the header that is written
encode-header : (es : List TypeEntry) (rows : List Row) → length es ≤ 64 → 0 < length rows → length rows ≤ 128 → Header (encode es rows)
unfolding encode
encode-header es rows t s r = record {
  long = omega arith;
  version = refl;
  counted = div-add-mod' (5 + length (record_bytes es rows)) 256 ∙ sym (encode-length es rows);
  types = t;
  some = s;
  rows = r;
}

-- what is written has its parts
encode_pieces : (es : List TypeEntry) (rows : List Row) → length es ≤ 64 → 0 < length rows → length rows ≤ 128 →
    Pieces (encode es rows) (record { types = es; records = map record_of rows })
unfolding encode
encode_pieces es rows t s r =
    let total = length (encode es rows) in
    record {
      header = encode-header es rows t s r;
      middle = flat_map row_bytes rows;
      types_cut =
          cut_complete types_exact total es (flat_map row_bytes rows)
          ∙ ap (λ l. Ok (record { items = l; rest = flat_map row_bytes rows })) (map-id es);
      rows_cut =
          ap (cut row_length front_row total (length rows)) (sym (append-nil (flat_map row_bytes rows)))
          ∙ cut_complete rows_exact total rows [];
    }

-- what is valid is read as it was written
pub read_complete : (es : List TypeEntry) (rows : List Row) → valid es rows ≡ true → derivation_of (encode es rows) ≡ Ok (record { types = es; rows = rows })
unfolding derivation_of
read_complete es rows v =
    let a = valid-parts es rows v in
    rw (parse-from_pieces (encode es rows) _ (encode_pieces es rows a.0 a.1 a.2), a.3, rows-again rows) refl

-- what was read has few types and rows, and some row
pub parse-counts : (bytes : List ℕ) (p : Parsed) → parse bytes ≡ Ok p → (length p.types ≤ 64) × (0 < length p.records) × (length p.records ≤ 128)
parse-counts bytes p e =
    let x = pieces_from_parse bytes p e in
    let t = cut-length type_length front_type (length bytes) _ _ _ x.types_cut in
    let r = cut-length row_length front_row (length bytes) _ _ _ x.rows_cut in
    let h = x.header in
    (omega arith, omega arith, omega arith)
