-- What a reader answers of the header and of the record at the front of some bytes.
use Rattle.std.specs.Prelude.{◌≡◌, ℕ, ◌+◌, ◌-◌, ◌<◌, cond, ◌||◌, List, length, drop, Some, None, Ok, Err, Option, Result, ◌==◌, nat_lt, slice_index}
use Rattle.std.specs.Borrow.{Bor}
use Rattle.basics.specs.declared.refusal.Refusal.{Refusal}
use Rattle.basics.specs.declared.refusal.Refusal.TheVariants.{RecordBounds, UnknownKind, RecordLength}
use Rattle.derivation.specs.Format.{header_fault, record_fault}

-- a record stands at the front: it is within the bytes that are left, and as long as its kind says
pub record Framed (length_of : ℕ → ℕ) (left : List ℕ) : Type 0 where
  pub some : 0 < slice_index left 0
  pub within : slice_index left 0 < length left
  pub fitting : length_of (slice_index left 1) ≡ slice_index left 0

-- the item of the record at the front and the bytes that follow it, or no record stands there
abbrev pub ReadsFront : {A : Type 0} → (ℕ → ℕ) → (List ℕ → A) → List ℕ → Option (A × Bor (List ℕ)) → Type 0
ReadsFront length_of front left (Some v) = Framed length_of left × (v.0 ≡ front left) × (v.1.now ≡ drop (1 + slice_index left 0) left)
ReadsFront length_of front left None = Framed length_of left → ⊥

-- the item of the next record, where the bytes after it are left, or what is wrong with the record
abbrev pub ReadsNext : {A : Type 0} → (ℕ → ℕ) → (List ℕ → A) → ℕ → List ℕ → List ℕ → Result A Refusal → Type 0
ReadsNext length_of front total left after (Ok x) = (record_fault length_of total left ≡ None) × (x ≡ front left) × (after ≡ drop (1 + slice_index left 0) left)
ReadsNext length_of front total left after (Err e) = record_fault length_of total left ≡ Some e

-- the numbers of further types and rows and the bytes behind the header, or what is wrong with the header
abbrev pub ReadsHeader : List ℕ → Result (ℕ × ℕ × Bor (List ℕ)) Refusal → Type 0
ReadsHeader bytes (Ok v) = (header_fault bytes ≡ None) × (v.0 ≡ slice_index bytes 3) × (v.1 ≡ slice_index bytes 4) × (v.2.now ≡ drop 5 bytes)
ReadsHeader bytes (Err e) = header_fault bytes ≡ Some e

-- what is wrong with a record that is none of the kinds from 1 to kinds with its length
abbrev pub misfit : ℕ → ℕ → List ℕ → Refusal
misfit kinds total left =
    cond (slice_index left 0 == 0 || nat_lt (length left) (1 + slice_index left 0)) (RecordBounds (total - length left))
    (cond (slice_index left 1 == 0 || nat_lt kinds (slice_index left 1)) (UnknownKind (total - length left + 1)) (RecordLength (total - length left)))
