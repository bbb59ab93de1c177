-- Worked derivations: their bytes, and what reading makes of them.
use Rattle.std.specs.Prelude.{◌≡◌, ℕ, List, [], ◌∷◌, length, Ok, Err, Result}
use Rattle.basics.specs.declared.refusal.Refusal.{Refusal}
use Rattle.derivation.specs.Accepted.{Derivation}
use Rattle.derivation.specs.Format.{derivation_of}
use Rattle.derivation.specs.Places.{given, wires, gate_rows, moves}
use Rattle.basics.specs.Refusals.{number_of, layer_of, place_of}
use Rattle.derivation.specs.Rows.{zero_row}

-- number, layer and place of a refusal, in this order
abbrev pub refusal_of : Result Derivation Refusal → List ℕ
refusal_of (Ok d) = []
refusal_of (Err e) = number_of e ∷ layer_of e ∷ place_of e ∷ []

-- given wires, wires, gate rows and moves of an accepted derivation, in this order
abbrev pub counts_of : Result Derivation Refusal → List ℕ
counts_of (Ok d) = length (given d.types d.rows) ∷ wires d.types d.rows ∷ gate_rows d.rows ∷ moves d.types d.rows ∷ []
counts_of (Err e) = []

-- Bell's program: cx on h zero with zero; only the last byte is left open, the argument of its last row
abbrev pub bell : ℕ → List ℕ
bell argument =
    0x01 ∷ 0x00 ∷ 0x2E ∷ 0x03 ∷ 0x07
    ∷ 0x03 ∷ 0x02 ∷ 0x00 ∷ 0x00 ∷ 0x03 ∷ 0x01 ∷ 0x01 ∷ 0x01 ∷ 0x03 ∷ 0x01 ∷ 0x00 ∷ 0x00
    ∷ 0x03 ∷ 0x04 ∷ 0x02 ∷ 0x06 ∷ 0x03 ∷ 0x04 ∷ 0x03 ∷ 0x01 ∷ 0x02 ∷ 0x02 ∷ 0x00 ∷ 0x04 ∷ 0x07 ∷ 0x00 ∷ 0x01 ∷ 0x02
    ∷ 0x02 ∷ 0x02 ∷ 0x00 ∷ 0x04 ∷ 0x08 ∷ 0x01 ∷ 0x03 ∷ 0x04 ∷ 0x04 ∷ 0x07 ∷ 0x01 ∷ 0x00 ∷ argument ∷ []

-- h on a free variable
abbrev pub hx : List ℕ
hx =
    0x01 ∷ 0x00 ∷ 0x15 ∷ 0x01 ∷ 0x03
    ∷ 0x03 ∷ 0x01 ∷ 0x00 ∷ 0x00
    ∷ 0x02 ∷ 0x01 ∷ 0x00 ∷ 0x03 ∷ 0x04 ∷ 0x01 ∷ 0x01 ∷ 0x04 ∷ 0x07 ∷ 0x00 ∷ 0x01 ∷ 0x00 ∷ []

-- the pair lambda that swaps two qubits
abbrev pub swap : List ℕ
swap =
    0x01 ∷ 0x00 ∷ 0x1E ∷ 0x02 ∷ 0x04
    ∷ 0x03 ∷ 0x02 ∷ 0x00 ∷ 0x00 ∷ 0x03 ∷ 0x01 ∷ 0x01 ∷ 0x01
    ∷ 0x02 ∷ 0x01 ∷ 0x00 ∷ 0x02 ∷ 0x01 ∷ 0x00 ∷ 0x04 ∷ 0x08 ∷ 0x01 ∷ 0x01 ∷ 0x00 ∷ 0x05 ∷ 0x06 ∷ 0x02 ∷ 0x02 ∷ 0x00 ∷ 0x01 ∷ []

-- cx on one with zero
abbrev pub cx : List ℕ
cx =
    0x01 ∷ 0x00 ∷ 0x21 ∷ 0x02 ∷ 0x05
    ∷ 0x03 ∷ 0x02 ∷ 0x00 ∷ 0x00 ∷ 0x03 ∷ 0x01 ∷ 0x01 ∷ 0x01
    ∷ 0x02 ∷ 0x03 ∷ 0x00 ∷ 0x02 ∷ 0x02 ∷ 0x00 ∷ 0x04 ∷ 0x08 ∷ 0x01 ∷ 0x00 ∷ 0x01 ∷ 0x03 ∷ 0x04 ∷ 0x02 ∷ 0x06 ∷ 0x04 ∷ 0x07 ∷ 0x01 ∷ 0x03 ∷ 0x02 ∷ []

-- what the worked derivations come to
pub record Examples : Type 0 where
  pub empty_input : refusal_of (derivation_of []) ≡ 1 ∷ 1 ∷ 0 ∷ []
  pub bell_counts : counts_of (derivation_of (bell 5)) ≡ 0 ∷ 2 ∷ 2 ∷ 10 ∷ []
  pub bell_twice : refusal_of (derivation_of (bell 4)) ≡ 12 ∷ 3 ∷ 6 ∷ []
  pub new_wires : wires [] (zero_row ∷ []) ≡ 1
  pub new_moves : moves [] (zero_row ∷ []) ≡ 0
  pub hx_counts : counts_of (derivation_of hx) ≡ 1 ∷ 1 ∷ 1 ∷ 5 ∷ []
  pub swap_counts : counts_of (derivation_of swap) ≡ 2 ∷ 2 ∷ 0 ∷ 10 ∷ []
  pub cx_counts : counts_of (derivation_of cx) ≡ 0 ∷ 2 ∷ 1 ∷ 7 ∷ []
