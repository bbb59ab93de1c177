-- The byte format: what a derivation is written as, and what is read from bytes.
use Rattle.std.specs.Prelude.{ℕ, zero, suc, ◌+◌, ◌-◌, ◌*◌, ◌/◌, ◌%◌, cond, not, ◌||◌, List, [], ◌∷◌, ◌++◌, map, length, drop, Some, None, Ok, Err, Option, Result, ◌==◌, nat_lt, slice_index}
use Rattle.std.specs.List.{flat_map}
use Rattle.basics.specs.declared.gate.Gate.{Gate as GateName}
use Rattle.derivation.specs.declared.types.TypeKind.{TypeKind}
use Rattle.derivation.specs.declared.types.TypeKind.TheVariants.{Arrow, Pair as PairKind}
use Rattle.derivation.specs.declared.types.TypeEntry.{TypeEntry}
use Rattle.derivation.specs.declared.rows.Rule.{Rule}
use Rattle.derivation.specs.declared.rows.Rule.TheVariants.{Variable, Zero, One, Gate, Lambda, PairLambda, Apply, Pair}
use Rattle.derivation.specs.declared.rows.Row.{Row}
use Rattle.derivation.specs.declared.rows.Record.{Record}
use Rattle.basics.specs.declared.refusal.Refusal.{Refusal}
use Rattle.basics.specs.declared.refusal.Refusal.TheVariants.{TooShort, Version, LengthField, TypeCount, RowCount, RecordBounds, UnknownKind, RecordLength, Trailing}
use Rattle.basics.specs.Gates.{code, gate_of}
use Rattle.derivation.specs.Rows.{row_of}
use Rattle.derivation.specs.Accepted.{Derivation, fault}

-- writing

abbrev pub kind_code : TypeKind → ℕ
kind_code Arrow = 1
kind_code PairKind = 2

-- a type's record: the length of its rest, kind, left, right
abbrev pub type_bytes : TypeEntry → List ℕ
type_bytes e = 3 ∷ kind_code e.kind ∷ e.left.0 ∷ e.right.0 ∷ []

-- a row's record: the length of its rest, kind, type, operands
abbrev pub rule_bytes : ℕ → Rule → List ℕ
rule_bytes t Variable = 2 ∷ 1 ∷ t ∷ []
rule_bytes t Zero = 2 ∷ 2 ∷ t ∷ []
rule_bytes t One = 2 ∷ 3 ∷ t ∷ []
rule_bytes t (Gate g) = 3 ∷ 4 ∷ t ∷ code g ∷ []
rule_bytes t (Lambda p x) = 4 ∷ 5 ∷ t ∷ p.0 ∷ x.0 ∷ []
rule_bytes t (PairLambda p x y) = 5 ∷ 6 ∷ t ∷ p.0 ∷ x.0 ∷ y.0 ∷ []
rule_bytes t (Apply f a) = 4 ∷ 7 ∷ t ∷ f.0 ∷ a.0 ∷ []
rule_bytes t (Pair l r) = 4 ∷ 8 ∷ t ∷ l.0 ∷ r.0 ∷ []

abbrev pub row_bytes : Row → List ℕ
row_bytes row = rule_bytes row.ty.0 row.rule

-- the records of a derivation, types first
abbrev pub record_bytes : List TypeEntry → List Row → List ℕ
record_bytes es rows = flat_map type_bytes es ++ flat_map row_bytes rows

-- version, total length in two bytes, numbers of further types and rows, records
unfoldable pub encode : List TypeEntry → List Row → List ℕ
encode es rows =
    let n = 5 + length (record_bytes es rows) in
    1 ∷ n / 256 ∷ n % 256 ∷ length es ∷ length rows ∷ record_bytes es rows

-- reading

-- a fault, or else what follows
abbrev pub unless : {A : Type 0} → Option Refusal → Result A Refusal → Result A Refusal
unless (Some e) r = Err e
unless None r = r

abbrev pub and_then : {A B : Type 0} → Result A Refusal → (A → Result B Refusal) → Result B Refusal
and_then (Ok x) f = f x
and_then (Err e) f = Err e

abbrev pub header_fault : List ℕ → Option Refusal
header_fault bytes =
    cond (nat_lt (length bytes) 5) (Some (TooShort (length bytes)))
    (cond (not (slice_index bytes 0 == 1)) (Some Version)
    (cond (not (slice_index bytes 1 * 256 + slice_index bytes 2 == length bytes)) (Some LengthField)
    (cond (nat_lt 64 (slice_index bytes 3)) (Some TypeCount)
    (cond (slice_index bytes 4 == 0 || nat_lt 128 (slice_index bytes 4)) (Some RowCount) None))))

-- the length of a type record's rest by its kind, 0 for an unknown kind
abbrev pub type_length : ℕ → ℕ
type_length kind = cond (kind == 1 || kind == 2) 3 0

-- the same of a row record
abbrev pub row_length : ℕ → ℕ
row_length kind = cond (kind == 1 || (kind == 2 || kind == 3)) 2 (cond (kind == 4) 3 (cond (kind == 5 || (kind == 7 || kind == 8)) 4 (cond (kind == 6) 5 0)))

-- what is wrong with the record at the front of the bytes that are left, of total
abbrev pub record_fault : (ℕ → ℕ) → ℕ → List ℕ → Option Refusal
record_fault length_of total left =
    cond (slice_index left 0 == 0 || nat_lt (length left) (1 + slice_index left 0)) (Some (RecordBounds (total - length left)))
    (cond (length_of (slice_index left 1) == 0) (Some (UnknownKind (total - length left + 1)))
    (cond (length_of (slice_index left 1) == slice_index left 0) None (Some (RecordLength (total - length left)))))

abbrev pub type_kind : ℕ → TypeKind
type_kind kind = cond (kind == 1) Arrow PairKind

-- the type whose record stands at the front
abbrev pub front_type : List ℕ → TypeEntry
front_type left = record { kind = type_kind (slice_index left 1); left = record { 0 = slice_index left 2 }; right = record { 0 = slice_index left 3 } }

abbrev pub gate_rule : Option GateName → Option Rule
gate_rule None = None
gate_rule (Some g) = Some (Gate g)

-- the rule of a row record by its kind and its operands
abbrev pub rule_of : ℕ → ℕ → ℕ → ℕ → Option Rule
rule_of kind a b c =
    cond (kind == 1) (Some Variable)
    (cond (kind == 2) (Some Zero)
    (cond (kind == 3) (Some One)
    (cond (kind == 4) (gate_rule (gate_of a))
    (cond (kind == 5) (Some (Lambda (record { 0 = a }) (record { 0 = b })))
    (cond (kind == 6) (Some (PairLambda (record { 0 = a }) (record { 0 = b }) (record { 0 = c })))
    (cond (kind == 7) (Some (Apply (record { 0 = a }) (record { 0 = b })))
    (Some (Pair (record { 0 = a }) (record { 0 = b })))))))))

-- the row whose record stands at the front
abbrev pub front_row : List ℕ → Record
front_row left = record { ty = record { 0 = slice_index left 2 }; rule = rule_of (slice_index left 1) (slice_index left 3) (slice_index left 4) (slice_index left 5) }

-- items from the front of some bytes, and what follows them
pub record Cut (A : Type 0) : Type 0 where
  pub items : List A
  pub rest : List ℕ

abbrev pub prepend : {A : Type 0} → A → Result (Cut A) Refusal → Result (Cut A) Refusal
prepend x (Ok c) = Ok (record { items = x ∷ c.items; rest = c.rest })
prepend x (Err e) = Err e

-- n records from the front of what is left, each read by front
unfoldable pub cut : {A : Type 0} → (ℕ → ℕ) → (List ℕ → A) → ℕ → ℕ → List ℕ → Result (Cut A) Refusal
cut length_of front total zero left = Ok (record { items = []; rest = left })
cut length_of front total (suc n) left = unless (record_fault length_of total left) (prepend (front left) (cut length_of front total n (drop (1 + slice_index left 0) left)))

abbrev pub trailing_fault : ℕ → List ℕ → Option Refusal
trailing_fault total [] = None
trailing_fault total (b ∷ bs) = Some (Trailing (total - length (b ∷ bs)))

-- types and rows as their bytes have them, not yet checked
pub record Parsed : Type 0 where
  pub types : List TypeEntry
  pub records : List Record

unfoldable pub parse : List ℕ → Result Parsed Refusal
parse bytes =
    unless (header_fault bytes)
    (and_then (cut type_length front_type (length bytes) (slice_index bytes 3) (drop 5 bytes))
    (λ ts. and_then (cut row_length front_row (length bytes) (slice_index bytes 4) ts.rest)
    (λ rs. unless (trailing_fault (length bytes) rs.rest) (Ok (record { types = ts.items; records = rs.items })))))

-- the derivation that bytes stand for, or the refusal: all bytes are checked, then all types, then the rows
unfoldable pub derivation_of : List ℕ → Result Derivation Refusal
derivation_of bytes = and_then (parse bytes) (λ p. unless (fault p.types p.records) (Ok (record { types = p.types; rows = map row_of p.records })))
