-- Laws of the records of a gate list, and of the checks of a gate, that stand beside the contracts of its calls.
use Rattle.std.specs.Prelude.{◌≡◌, ℕ, ◌<◌, ◌≤◌, Bool, cond, not, List, [], ◌∷◌, length, take, Some, None, nat_le, slice_index_or, refl}
use Rattle.std.proofs.Common.{sym, ◌∙◌, ap₂, arith}
use Rattle.std.specs.List.{slice_get}
use Rattle.std.proofs.lemmas.List.{get_or-take, length-take-le}
use Rattle.std.proofs.lemmas.Option.{slice_get_read, slice_get_past}
use Rattle.basics.specs.declared.gate.Gate.{Gate}
use Rattle.basics.specs.declared.numbers.Wire.{Wire}
use Rattle.basics.specs.declared.refusal.Refusal.TheVariants.{WireMisuse, AtCapacity, NotTaken}
use Rattle.target.specs.Interface.{numbers_of, seated, apply_fault, all_codes}
use Rattle.gate_list.specs.declared.Applied.{Applied}
use Rattle.gate_list.specs.GateList.{seats_of, room, list_view}

-- record i of the first n
pub nth-within : (items : List Applied) (n i : ℕ) (x : Applied) → i < n → n ≤ length items → x ≡ slice_index_or items i x → Some x ≡ slice_get (take n items) i
nth-within items n i x l le e =
    sym (slice_get_read (take n items) n i x (sym (length-take-le n items le)) l (e ∙ sym (get_or-take n items i x l)))

pub nth_beyond : (items : List Applied) (n i : ℕ) → n ≤ length items → n ≤ i → None ≡ slice_get (take n items) i
nth_beyond items n i le l = sym (slice_get_past (take n items) i (simp (length-take-le n items le) l))

-- the checks of a gate find no fault, given what they know of the list
pub no_apply_fault : (items : List Applied) (n used given ones : ℕ) (g : Gate) (ws : List Wire) (taken : Bool) (most : ℕ) → taken ≡ all_codes g → most ≡ room items → None ≡ cond (not taken) (Some (NotTaken g)) (cond (not (seated used g (numbers_of ws))) (Some (WireMisuse g)) (cond (nat_le most n) (Some (AtCapacity g)) None)) → apply_fault all_codes (list_view items n used given ones) g (numbers_of ws) ≡ None
no_apply_fault items n used given ones g ws taken most t m h =
    ap₂ (λ (b : Bool) (k : ℕ). cond (not b) (Some (NotTaken g)) (cond (not (seated used g (numbers_of ws))) (Some (WireMisuse g)) (cond (nat_le k n) (Some (AtCapacity g)) None))) (sym t) (sym m)
    ∙ sym h

-- the wires of a record, by their number
pub seats_none : (ws : List Wire) → length ws ≡ 0 → record { 0 = 0 } ∷ record { 0 = 0 } ∷ record { 0 = 0 } ∷ [] ≡ seats_of ws
seats_none [] e = refl
seats_none (v ∷ vs) e = absurd (omega arith)

pub seats-one : (ws : List Wire) (d : Wire) → length ws ≡ 1 → slice_index_or ws 0 d ∷ record { 0 = 0 } ∷ record { 0 = 0 } ∷ [] ≡ seats_of ws
seats-one [] d e = absurd (omega arith)
seats-one (a ∷ []) d e = refl
seats-one (a ∷ b ∷ vs) d e = absurd (omega arith)

pub seats_two : (ws : List Wire) (d : Wire) → length ws ≡ 2 → slice_index_or ws 0 d ∷ slice_index_or ws 1 d ∷ record { 0 = 0 } ∷ [] ≡ seats_of ws
seats_two [] d e = absurd (omega arith)
seats_two (a ∷ []) d e = absurd (omega arith)
seats_two (a ∷ b ∷ []) d e = refl
seats_two (a ∷ b ∷ x ∷ vs) d e = absurd (omega arith)

pub seats_three : (ws : List Wire) (d : Wire) → 3 ≤ length ws → slice_index_or ws 0 d ∷ slice_index_or ws 1 d ∷ slice_index_or ws 2 d ∷ [] ≡ seats_of ws
seats_three [] d e = absurd (omega arith)
seats_three (a ∷ []) d e = absurd (omega arith)
seats_three (a ∷ b ∷ []) d e = absurd (omega arith)
seats_three (a ∷ b ∷ x ∷ vs) d e = refl
