-- The steps of reading all bytes: header, types, rows, and what is left over.
use Rattle.std.proofs.Common.{◌≡◌, ℕ, zero, suc, ◌+◌, ◌-◌, ◌≤◌, ◌≢◌, List, [], ◌∷◌, length, get_or, drop, Some, None, Ok, Err, refl, ap, arith, length-drop}
use Rattle.derivation.specs.declared.types.TypeEntry.{TypeEntry}
use Rattle.derivation.specs.declared.rows.Record.{Record}
use Rattle.basics.specs.declared.refusal.Refusal.{Refusal}
use Rattle.basics.specs.declared.refusal.Refusal.TheVariants.{Trailing}
use Rattle.derivation.specs.Format.{header_fault, type_length, front_type, row_length, front_row, record_fault, Cut, cut, trailing_fault, parse}
use Rattle.derivation.proofs.FormatCut.{ok_same, unless_ok, prepend_ok}

-- what is left is a part of the bytes
pub cut_short : {A : Type 0} (length_of : ℕ → ℕ) (front : List ℕ → A) (total n : ℕ) (left : List ℕ) {c : Cut A} → cut length_of front total n left ≡ Ok c → length c.rest ≤ length left
unfolding cut
cut_short length_of front total zero left {c} e = let s = ap (λ z. length z.rest) (ok_same e) in omega arith
cut_short length_of front total (suc n) left {c} e =
    let p = unless_ok (record_fault length_of total left) _ c e in
    let q = prepend_ok (front left) _ c p.1 in
    let k = 1 + get_or left 0 0 in
    let m = cut_short length_of front total n (drop k left) q.1 in
    let s = ap length q.3 in
    omega (arith, length-drop k left)

-- bytes that are left over
trailing_some : (total : ℕ) (left : List ℕ) → length left ≢ 0 → trailing_fault total left ≡ Some (Trailing (total - length left))
trailing_some total [] h = absurd (h refl)
trailing_some total (b ∷ bs) h = refl

trailing_none : (total : ℕ) (left : List ℕ) → length left ≡ 0 → trailing_fault total left ≡ None
trailing_none total [] h = refl
trailing_none total (b ∷ bs) h = absurd (omega arith)

pub parse-header : (bytes : List ℕ) {d : Refusal} → header_fault bytes ≡ Some d → parse bytes ≡ Err d
unfolding parse
parse-header bytes e = rw e refl

module _ (bytes : List ℕ) {t r : ℕ} {left : List ℕ}
    (header : (header_fault bytes ≡ None) × (t ≡ get_or bytes 3 0) × (r ≡ get_or bytes 4 0) × (left ≡ drop 5 bytes)) where
  pub parse-types : {d : Refusal} → cut type_length front_type (length bytes) t left ≡ Err d → parse bytes ≡ Err d
  unfolding parse
  parse-types e = rw (header.0, ← header.1, ← header.3, e) refl

  module _ {ts : Cut TypeEntry} (types : cut type_length front_type (length bytes) t left ≡ Ok ts) where
    pub parse-rows : {d : Refusal} → cut row_length front_row (length bytes) r ts.rest ≡ Err d → parse bytes ≡ Err d
    unfolding parse
    parse-rows e = rw (header.0, ← header.1, ← header.3, types, ← header.2, e) refl

    module _ {rs : Cut Record} (rows : cut row_length front_row (length bytes) r ts.rest ≡ Ok rs) where
      pub parse-trailing : length rs.rest ≢ 0 → parse bytes ≡ Err (Trailing (length bytes - length rs.rest))
      unfolding parse
      parse-trailing h = rw (header.0, ← header.1, ← header.3, types, ← header.2, rows, trailing_some (length bytes) rs.rest h) refl

      pub parse-done : length rs.rest ≡ 0 → parse bytes ≡ Ok (record { types = ts.items; records = rs.items })
      unfolding parse
      parse-done h = rw (header.0, ← header.1, ← header.3, types, ← header.2, rows, trailing_none (length bytes) rs.rest h) refl
