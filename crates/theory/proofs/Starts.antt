-- The places of a derivation, its starts and its ends: each stands in its list exactly once.
use Rattle.std.proofs.Common.{◌≡◌, ℕ, zero, suc, ◌+◌, ◌<◌, ◌≤◌, Bool, true, false, cond, not, ◌&&◌, eqb, ltb, List, [], ◌∷◌, ◌++◌, length, get_or, sym, refl, ap, ◌∙◌, ap₂, ⊎_elim, add-zero, add-suc, suc-add, zero-add, arith}
use mathlib.Core.Bool.{and-true, and-false, and_assoc, and_comm}
use Rattle.std.specs.List.{flat_map}
use Rattle.std.proofs.lemmas.List.{length-append}
use Rattle.std.proofs.lemmas.Bool.{and_parts, and_from, eq-eqb, ne_eqb, cases_Bool, cases_eq, cases_lt, lt-ltb, le-ltb}
use Rattle.derivation.specs.declared.types.TypeEntry.{TypeEntry}
use Rattle.derivation.specs.declared.rows.Rule.TheVariants.{Zero, One}
use Rattle.derivation.specs.declared.rows.Row.{Row}
use Rattle.derivation.specs.declared.rows.Part.{Part}
use Rattle.derivation.specs.declared.rows.Part.TheVariants.{Ty, Variable as Var}
use Rattle.derivation.specs.declared.rows.Place.{Place}
use Rattle.basics.specs.Sets.{has}
use Rattle.derivation.specs.Trees.{Tree, qubit, atoms}
use Rattle.derivation.specs.Rows.{no_row}
use Rattle.derivation.specs.Judgements.{rule_at, env_at, tree_at}
use Rattle.derivation.specs.Places.{numbers, places_in, places_at, places, negative, given, is_bit, bits, wires}
use Rattle.derivation.specs.Weights.{weight, sum_to}
use Rattle.derivation.specs.Accepted.{Accepted}
use Rattle.derivation.proofs.PlaceLaws.{sum_to-same, weight-sum, size_joined, size-places-at, length-keep-append, length-keep-map}
use Rattle.derivation.proofs.RowLaws.{env-low}
use Rattle.theory.specs.Ports.{at, width, part_width, is_place, last, is_end, is_start, bit_places, starts, ends}
use Rattle.theory.specs.Tokens.{same_part, same_place, no_place}
use Rattle.theory.specs.Laws.{StartLaws}
use Rattle.theory.proofs.Signs.{bit-of, Closed, rule_says}
use Rattle.theory.proofs.Occurrences.{one, one-small, cond_zero, occ, keep-cons, occ-keep, occ-at, occ-some, occ-distinct}

-- a sum of nothing
pub sum_none : (f : ℕ → ℕ) (n : ℕ) → ((x : ℕ) → x < n → f x ≡ 0) → sum_to f n ≡ 0
sum_none f zero h = refl
sum_none f (suc n) h = omega (arith, sum_none f n (λ x l. h x (omega arith)), h n (omega arith))

-- a sum of one number
pub sum_one : (f : ℕ → ℕ) (k n : ℕ) → k < n → ((x : ℕ) → x < n → (x ≡ k → ⊥) → f x ≡ 0) → sum_to f n ≡ f k
sum_one f k zero l h = absurd (omega arith)
sum_one f k (suc n) l h =
    ⊎_elim
    (λ (e : n ≡ k). omega (arith, ap f e, sum_none f n (λ x m. h x (omega arith) (omega arith))))
    (λ ne. omega (arith, h n (omega arith) ne, sum_one f k n (omega arith) (λ x m. h x (omega arith))))
    (cases_eq n k)

-- a number that counts only at k, and there if it is below n
pub sum-at : (b : ℕ → Bool) (k n : ℕ) → sum_to (λ x. one (eqb x k && b x)) n ≡ one (ltb k n && b k)
sum-at b k n =
    ⊎_elim
    (λ (l : k < n).
    sum_one (λ x. one (eqb x k && b x)) k n l (λ x m ne. rw (ne_eqb x k ne) refl) ∙ rw (eq-eqb k k refl, lt-ltb k n l) refl)
    (λ (l : n ≤ k).
    sum_none (λ x. one (eqb x k && b x)) n (λ x m. rw (ne_eqb x k (omega arith)) refl) ∙ rw (le-ltb k n l) refl)
    (cases_lt k n)

-- the last of three tests comes first
last_first : (a b c : Bool) → (a && (b && c)) ≡ (c && (a && b))
last_first a b c = sym (and_assoc a b c) ∙ and_comm (a && b) c

-- the second of three tests comes first
second-first : (a b c : Bool) → (a && (b && c)) ≡ (b && (a && c))
second-first a b c = sym (and_assoc a b c) ∙ ap (λ x. x && c) (and_comm a b) ∙ and_assoc b a c

-- the places in one part
occ_in : (q : Place) (r : ℕ) (part : Part) (t : Tree)
    → occ q (places_in r part t) ≡ one (eqb r q.row.0 && (same_part part q.part && ltb q.atom.0 (atoms t)))
occ_in q r part t =
    let row = eqb r q.row.0 in
    let same = same_part part q.part in
    length-keep-map (λ p. same_place p q) _ (atoms t)
    ∙ sum_to-same _ _ (atoms t) (λ i l. ap one (last_first row same (eqb i q.atom.0)))
    ∙ sum-at (λ i. row && same) q.atom.0 (atoms t)
    ∙ ap one (sym (last_first row same (ltb q.atom.0 (atoms t))))

-- a set's sum of what counts only at z
weight-at : (m z n : ℕ) (b : ℕ → Bool) → (has m z ≡ true → z < n) → weight m (λ x. one (eqb x z && b x)) n ≡ one (has m z && b z)
weight-at m z n b low =
    weight-sum m (λ x. one (eqb x z && b x)) n
    ∙ sum_to-same _ _ n (λ x l. inner (has m x) (eqb x z) (b x))
    ∙ sum-at (λ x. has m x && b x) z n
    ∙ go (has m z) refl
  where
    inner : (h e c : Bool) → cond h (one (e && c)) 0 ≡ one (e && (h && c))
    inner true e c = refl
    inner false true c = refl
    inner false false c = refl

    go : (h : Bool) → has m z ≡ h → one (ltb z n && (h && b z)) ≡ one (h && b z)
    go true e = rw (lt-ltb z n (low e)) refl
    go false e = ⊎_elim (λ f. rw f refl) (λ f. rw f refl) (cases_Bool (ltb z n))

-- a set's sum of nothing
weight_zero : (m n : ℕ) → weight m (λ x. 0) n ≡ 0
weight_zero m n = weight-sum m (λ x. 0) n ∙ sum_none _ n (λ x l. cond_zero (has m x))

module _ (es : List TypeEntry) (rows : List Row) (a : Accepted es rows) where
  -- the places of a row
  occ-row : (q : Place) (r : ℕ) → r < length rows
      → occ q (places_at es rows r) ≡ one (eqb r q.row.0 && ltb q.atom.0 (part_width es rows r q.part))
  occ-row q r l =
      size-places-at (occ q) refl (length-keep-append (λ p. same_place p q)) es rows r _ _
      (λ x. occ_in q r (Var (record { 0 = x })) (tree_at es rows x)) (occ_in q r Ty (tree_at es rows r))
      ∙ go (eqb r q.row.0) q.part
    where
      below : (w i : ℕ) (b : Bool) → one (b && ltb i w) ≡ one (ltb i (cond b w 0))
      below w i true = refl
      below w i false = rw (le-ltb i 0 (omega arith)) refl

      go : (row : Bool) (part : Part)
          → weight (env_at rows r) (λ x. one (row && (same_part (Var (record { 0 = x })) part && ltb q.atom.0 (atoms (tree_at es rows x))))) (length rows)
          + one (row && (same_part Ty part && ltb q.atom.0 (atoms (tree_at es rows r))))
          ≡ one (row && ltb q.atom.0 (part_width es rows r part))
      go false part = omega (arith, weight_zero (env_at rows r) (length rows))
      go true Ty = omega (arith, weight_zero (env_at rows r) (length rows))
      go true (Var z) =
          add-zero _
          ∙ weight-at (env_at rows r) z.0 (length rows) (λ x. ltb q.atom.0 (atoms (tree_at es rows x))) (λ h. omega (arith, env-low rows a.lower r z.0 l h))
          ∙ below (width es rows z.0) q.atom.0 (has (env_at rows r) z.0)

  -- the places of all rows: each stands among them once
  pub occ-places : (q : Place) → occ q (places es rows) ≡ one (is_place es rows q)
  unfolding places
  occ-places q =
      size_joined (occ q) refl (length-keep-append (λ p. same_place p q)) (places_at es rows) (length rows)
      ∙ sum_to-same _ _ (length rows) (λ r l. occ-row q r l)
      ∙ sum-at (λ r. ltb q.atom.0 (part_width es rows r q.part)) q.row.0 (length rows)

  -- the places of one row among all
  pub occ-placed : (q : Place) (r : ℕ) → r < length rows → occ q (places_at es rows r) ≡ one (is_place es rows q && eqb q.row.0 r)
  occ-placed q r l =
      ⊎_elim
      (λ (e : q.row.0 ≡ r).
      occ-row q r l ∙ rw (← e) (rw (eq-eqb q.row.0 q.row.0 refl, lt-ltb q.row.0 (length rows) (omega arith)) (ap one (sym (and-true _)))))
      (λ ne. occ-row q r l ∙ rw (ne_eqb r q.row.0 (λ e. ne (sym e)), ne_eqb q.row.0 r ne) (ap one (sym (and-false _))))
      (cases_eq q.row.0 r)

-- the places of zero and one rows, as a join over the rows
bits_joined : (es : List TypeEntry) (rows : List Row) (k : ℕ) (rest : List Row)
    → ((i : ℕ) → i < length rest → rule_at rows (k + i) ≡ (get_or rest i no_row).rule)
    → bit_places es rows k rest ≡ flat_map (λ r. cond (is_bit (rule_at rows r)) (at r 0 ∷ []) []) (numbers k (length rest))
bits_joined es rows k [] agree = refl
bits_joined es rows k (row ∷ rest) agree =
    let here : row.rule ≡ rule_at rows k = sym (agree 0 (omega arith)) ∙ rw add-zero refl in
    rw here (go (is_bit (rule_at rows k)) (bits_joined es rows (suc k) rest (λ i l. rw (suc-add, ← add-suc) (agree (suc i) (omega arith)))))
  where
    go : (b : Bool) {xs ys : List Place} → xs ≡ ys → cond b (at k 0 ∷ xs) xs ≡ cond b (at k 0 ∷ []) [] ++ ys
    go true e = ap (λ l. at k 0 ∷ l) e
    go false e = e

-- as many as the rows
length-bits : (es : List TypeEntry) (rows : List Row) (k : ℕ) (rest : List Row) → length (bit_places es rows k rest) ≡ length (bits rest)
length-bits es rows k [] = refl
length-bits es rows k (row ∷ rest) = go (is_bit row.rule) (length-bits es rows (suc k) rest)
  where
    go : (b : Bool) → length (bit_places es rows (suc k) rest) ≡ length (bits rest)
        → length (cond b (at k 0 ∷ bit_places es rows (suc k) rest) (bit_places es rows (suc k) rest)) ≡ length (cond b (row ∷ bits rest) (bits rest))
    go true e = ap suc e
    go false e = e

-- the first atom is the only one below 1
eqb_first : (i : ℕ) → eqb 0 i ≡ ltb i 1
eqb_first i =
    ⊎_elim (λ (e : 0 ≡ i). eq-eqb 0 i e ∙ sym (lt-ltb i 1 (omega arith))) (λ ne. ne_eqb 0 i ne ∙ sym (le-ltb i 1 (omega arith))) (cases_eq 0 i)

module _ (es : List TypeEntry) (rows : List Row) (a : Accepted es rows) where
  -- a zero or one row is a qubit, and has no variables
  bit-row : (r : ℕ) → r < length rows → is_bit (rule_at rows r) ≡ true → (tree_at es rows r ≡ qubit) × Closed (env_at rows r)
  bit-row r l e = ⊎_elim (rule_says es rows a r Zero l) (rule_says es rows a r One l) (bit-of (rule_at rows r) e)

  -- the places of zero and one rows are their first atoms
  occ-firsts : (q : Place)
      → occ q (bit_places es rows 0 rows)
      ≡ one (ltb q.row.0 (length rows) && (is_bit (rule_at rows q.row.0) && (same_part Ty q.part && eqb 0 q.atom.0)))
  occ-firsts q =
      ap (occ q) (bits_joined es rows 0 rows (λ i l. rw zero-add refl))
      ∙ size_joined (occ q) refl (length-keep-append (λ p. same_place p q)) _ (length rows)
      ∙ sum_to-same _ _ (length rows) (λ r l. first r (is_bit (rule_at rows r)) ∙ ap one (second-first (is_bit (rule_at rows r)) (eqb r q.row.0) _))
      ∙ sum-at (λ r. is_bit (rule_at rows r) && (same_part Ty q.part && eqb 0 q.atom.0)) q.row.0 (length rows)
    where
      first : (r : ℕ) (b : Bool) → occ q (cond b (at r 0 ∷ []) []) ≡ one (b && (eqb r q.row.0 && (same_part Ty q.part && eqb 0 q.atom.0)))
      first r true = keep-cons (λ p. same_place p q) (at r 0) [] ∙ add-zero _
      first r false = refl

  -- the places of zero and one rows are all places of those rows, and positive
  occ-bits : (q : Place) → occ q (bit_places es rows 0 rows) ≡ cond (negative es rows q) 0 (one (is_place es rows q && is_bit (rule_at rows q.row.0)))
  occ-bits q =
      occ-firsts q
      ∙ ⊎_elim
      (λ l. rw (lt-ltb r (length rows) l) (inside l (is_bit (rule_at rows r)) refl q.part))
      (λ l. rw (le-ltb r (length rows) l) (sym (cond_zero _)))
      (cases_lt r (length rows))
    where
      r : ℕ
      r = q.row.0

      i : ℕ
      i = q.atom.0

      inside : r < length rows → (b : Bool) → is_bit (rule_at rows r) ≡ b → (part : Part)
          → one (b && (same_part Ty part && eqb 0 i))
          ≡ cond (negative es rows (record { row = q.row; part = part; atom = q.atom })) 0 (one (ltb i (part_width es rows r part) && b))
      inside l true e Ty = rw ((bit-row r l e).0, eqb_first i) (ap one (sym (and-true _)))
      inside l true e (Var z) = rw ((bit-row r l e).1 z.0, le-ltb i 0 (omega arith)) (sym (cond_zero _))
      inside l false e part = rw (and-false (ltb i (part_width es rows r part))) (sym (cond_zero _))

  -- each start stands among the starts once, and nothing else does
  pub occ-starts : (q : Place) → occ q (starts es rows) ≡ one (is_place es rows q && is_start es rows q)
  unfolding starts given
  occ-starts q =
      length-keep-append (λ p. same_place p q) (given es rows) (bit_places es rows 0 rows)
      ∙ ap₂ ◌+◌
      (occ-keep (negative es rows) q (places_at es rows (last es rows)) ∙ ap (λ n. cond (negative es rows q) n 0) (occ-placed es rows a q (last es rows) (omega (arith, a.some))))
      (occ-bits q)
      ∙ go (negative es rows q) (is_place es rows q) (eqb q.row.0 (last es rows)) (is_bit (rule_at rows q.row.0))
    where
      go : (n p x y : Bool) → cond n (one (p && x)) 0 + cond n 0 (one (p && y)) ≡ one (p && cond n x y)
      go true p x y = add-zero _
      go false p x y = zero-add _

  -- each end stands among the ends once, and nothing else does
  pub occ_ends : (q : Place) → occ q (ends es rows) ≡ one (is_place es rows q && is_end es rows q)
  unfolding ends
  occ_ends q =
      occ-keep (λ p. not (negative es rows p)) q (places_at es rows (last es rows))
      ∙ ap (λ n. cond (not (negative es rows q)) n 0) (occ-placed es rows a q (last es rows) (omega (arith, a.some)))
      ∙ go (not (negative es rows q)) (is_place es rows q) (eqb q.row.0 (last es rows))
    where
      go : (n p x : Bool) → cond n (one (p && x)) 0 ≡ one (p && (x && n))
      go true p x = ap (λ b. one (p && b)) (sym (and-true x))
      go false true x = ap one (sym (and-false x))
      go false false x = refl

-- a list in which each place that passes a test stands once, and nothing else
abbrev Lists : (Place → Bool) → List Place → Type 0
Lists t ps = (q : Place) → occ q ps ≡ one (t q)

-- a test that counts has passed
one_true : (b : Bool) → 1 ≤ one b → b ≡ true
one_true true h = refl
one_true false h = absurd (omega arith)

-- its elements pass the test, they differ, and they are all that pass
lists_each : (t : Place → Bool) (ps : List Place) → Lists t ps → (w : ℕ) → w < length ps → t (get_or ps w no_place) ≡ true
lists_each t ps h w l = one_true _ (omega (arith, occ-at ps w l, h (get_or ps w no_place)))

lists_distinct : (t : Place → Bool) (ps : List Place) → Lists t ps
    → (w v : ℕ) → w < length ps → v < length ps → get_or ps w no_place ≡ get_or ps v no_place → w ≡ v
lists_distinct t ps h = occ-distinct ps (λ q. omega (arith, h q, one-small (t q)))

lists_all : (t : Place → Bool) (ps : List Place) → Lists t ps → (q : Place) → t q ≡ true → (w : ℕ) × (w < length ps) × (get_or ps w no_place ≡ q)
lists_all t ps h q e = occ-some q ps (omega (arith, h q, ap one e))

-- the ends are different places, and all at which a token can end
pub record EndLaws (es : List TypeEntry) (rows : List Row) : Type 0 where
  pub each : (e : ℕ) → e < length (ends es rows) → (is_place es rows (get_or (ends es rows) e no_place) ≡ true) × (is_end es rows (get_or (ends es rows) e no_place) ≡ true)
  pub distinct : (e f : ℕ) → e < length (ends es rows) → f < length (ends es rows) → get_or (ends es rows) e no_place ≡ get_or (ends es rows) f no_place → e ≡ f
  pub all : (p : Place) → is_place es rows p ≡ true → is_end es rows p ≡ true → (e : ℕ) × (e < length (ends es rows)) × (get_or (ends es rows) e no_place ≡ p)

-- the laws of the ends
pub end_laws : (es : List TypeEntry) (rows : List Row) → Accepted es rows → EndLaws es rows
end_laws es rows a =
    let t : Place → Bool = λ q. is_place es rows q && is_end es rows q in
    record {
      each = λ e l. and_parts _ _ (lists_each t (ends es rows) (occ_ends es rows a) e l);
      distinct = lists_distinct t (ends es rows) (occ_ends es rows a);
      all = λ p hp he. lists_all t (ends es rows) (occ_ends es rows a) p (and_from _ _ hp he);
    }

-- a start for each wire
pub length-starts : (es : List TypeEntry) (rows : List Row) → length (starts es rows) ≡ wires es rows
unfolding starts
length-starts es rows = length-append (given es rows) (bit_places es rows 0 rows) ∙ ap (λ n. length (given es rows) + n) (length-bits es rows 0 rows)

-- the laws of the starts
pub start_laws : (es : List TypeEntry) (rows : List Row) → Accepted es rows → StartLaws es rows
start_laws es rows a =
    let t : Place → Bool = λ q. is_place es rows q && is_start es rows q in
    let many = length-starts es rows in
    record {
      count = many;
      each = λ w l. and_parts _ _ (lists_each t (starts es rows) (occ-starts es rows a) w (omega arith));
      distinct = λ w v hw hv. lists_distinct t (starts es rows) (occ-starts es rows a) w v (omega arith) (omega arith);
      all = λ p hp hs. let (w, l, e) = lists_all t (starts es rows) (occ-starts es rows a) p (and_from _ _ hp hs) in (w, omega arith, e);
    }
