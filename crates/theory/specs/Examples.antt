-- Worked derivations on the machine.
use Rattle.std.specs.Prelude.{◌≡◌, ℕ, zero, suc, Bool, true, false, List, [], ◌∷◌, ◌++◌, map, length, Some, None, Ok, Err, Option, Result}
use Rattle.std.specs.Option.{option_to_list}
use Rattle.basics.specs.declared.gate.Gate.TheVariants.{H, Cx}
use Rattle.derivation.specs.declared.types.TypeEntry.{TypeEntry}
use Rattle.derivation.specs.declared.rows.Row.{Row}
use Rattle.derivation.specs.declared.rows.Place.{Place}
use Rattle.basics.specs.declared.refusal.Refusal.{Refusal}
use Rattle.derivation.specs.Accepted.{Derivation}
use Rattle.derivation.specs.Examples.{bell, hx, swap, cx}
use Rattle.derivation.specs.Format.{derivation_of}
use Rattle.derivation.specs.Places.{wires, moves}
use Rattle.theory.specs.Ports.{starts, ends}
use Rattle.theory.specs.Tokens.{Fired, Moved, move, wire_at}

-- what some moves come to: the tokens, the number of moves and the gates fired
pub record Walk : Type 0 where
  pub tokens : List Place
  pub made : ℕ
  pub fired : List Fired

module _ (es : List TypeEntry) (rows : List Row) where
  -- the first wire from w on, of n, that can move
  abbrev pub lowest_from : ℕ → ℕ → List Place → Option Moved
  lowest_from w zero tokens = None
  lowest_from w (suc n) tokens = elim (move es rows tokens w) [ Some m ↦ Some m | None ↦ lowest_from (suc w) n tokens ]

  abbrev pub onward : Walk → Moved → Walk
  onward k m = record { tokens = m.tokens; made = suc k.made; fired = k.fired ++ option_to_list m.fired }

  -- the lowest wire that can move, again and again, at most so many times
  abbrev pub swept : ℕ → Walk → Walk
  swept zero k = k
  swept (suc fuel) k = elim (lowest_from 0 (length k.tokens) k.tokens) [ Some m ↦ swept fuel (onward k m) | None ↦ k ]

  abbrev pub begin : Walk
  begin = record { tokens = starts es rows; made = 0; fired = [] }

  -- the wire that stands at each end
  abbrev pub at_ends : Walk → List ℕ
  at_ends k = map (wire_at k.tokens) (ends es rows)

-- moves made, wires at ends, and gates fired by a sweep of some bytes
pub record Summary : Type 0 where
  pub made : ℕ
  pub wires_at_ends : List ℕ
  pub fired : List Fired

abbrev pub summed : Result Derivation Refusal → Summary
summed (Ok d) =
    let k = swept d.types d.rows 100 (begin d.types d.rows) in
    record { made = k.made; wires_at_ends = at_ends d.types d.rows k; fired = k.fired }
summed (Err e) = record { made = 0; wires_at_ends = []; fired = [] }

abbrev pub sweep : List ℕ → Summary
sweep bytes = summed (derivation_of bytes)

-- whether the moves of some wires, one after the other, are all possible
abbrev pub all_possible : List TypeEntry → List Row → List Place → List ℕ → Bool
all_possible es rows tokens [] = true
all_possible es rows tokens (w ∷ ws) = elim (move es rows tokens w) [ Some m ↦ all_possible es rows m.tokens ws | None ↦ false ]

abbrev pub possible_from : Result Derivation Refusal → List ℕ → Bool
possible_from (Ok d) ws = all_possible d.types d.rows (starts d.types d.rows) ws
possible_from (Err e) ws = false

abbrev pub counts_of : Result Derivation Refusal → List ℕ
counts_of (Ok d) = wires d.types d.rows ∷ moves d.types d.rows ∷ []
counts_of (Err e) = []

-- what the worked derivations come to, the lowest wire moving first
pub record Examples : Type 0 where
  pub bell_counts : counts_of (derivation_of (bell 5)) ≡ 2 ∷ 10 ∷ []
  pub bell_swept : sweep (bell 5) ≡ record { made = 10; wires_at_ends = 0 ∷ 1 ∷ []; fired = record { gate = H; wires = 0 ∷ [] } ∷ record { gate = Cx; wires = 0 ∷ 1 ∷ [] } ∷ [] }
  pub bell_twice : possible_from (derivation_of (bell 5)) (1 ∷ 1 ∷ []) ≡ true
  pub bell_waits : possible_from (derivation_of (bell 5)) (1 ∷ 1 ∷ 1 ∷ []) ≡ false
  pub swap_swept : sweep swap ≡ record { made = 10; wires_at_ends = 1 ∷ 0 ∷ []; fired = [] }
  pub hx_swept : sweep hx ≡ record { made = 5; wires_at_ends = 0 ∷ []; fired = record { gate = H; wires = 0 ∷ [] } ∷ [] }
  pub cx_swept : sweep cx ≡ record { made = 7; wires_at_ends = 0 ∷ 1 ∷ []; fired = record { gate = Cx; wires = 0 ∷ 1 ∷ [] } ∷ [] }
