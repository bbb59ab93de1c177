-- Worked derivations, by computation.
use Rattle.std.proofs.Common.{◌≡◌, true, List, [], ◌∷◌, sym, refl, ap, ◌∙◌, ap₂}
use Rattle.derivation.specs.declared.types.TypeEntry.{TypeEntry}
use Rattle.derivation.specs.declared.rows.Row.{Row}
use Rattle.basics.specs.Sets.{has, only, union, without}
use Rattle.derivation.specs.Growth.{grown}
use Rattle.derivation.specs.Faults.{first_fault}
use Rattle.derivation.specs.Trees.{trees}
use Rattle.derivation.specs.Rows.{environments, taken, zero_row}
use Rattle.derivation.specs.Places.{given, places, wires, gate_rows, moves}
use Rattle.derivation.specs.Accepted.{valid}
use Rattle.derivation.specs.Format.{derivation_of, parse, cut}
use Rattle.derivation.specs.Examples.{Examples}

-- a new holder: one zero row
new-valid : valid [] (zero_row ∷ []) ≡ true
unfolding valid first_fault grown trees environments taken given places has only union without
new-valid = refl

new_wires : wires [] (zero_row ∷ []) ≡ 1
unfolding given grown trees environments has only union without
new_wires = refl

new_moves : moves [] (zero_row ∷ []) ≡ 0
unfolding given places grown trees environments has only union without
new_moves = refl

new_envs : environments (zero_row ∷ []) ≡ 0 ∷ []
unfolding environments grown
new_envs = refl

-- the same of lists that are known to be these
pub new-facts : (es : List TypeEntry) (rows : List Row) → es ≡ [] → rows ≡ zero_row ∷ [] → (valid es rows ≡ true) × (1 ≡ wires es rows) × (0 ≡ gate_rows rows) × (0 ≡ moves es rows) × (0 ∷ [] ≡ environments rows)
new-facts es rows te re =
    (ap₂ valid te re ∙ new-valid, sym (ap₂ wires te re ∙ new_wires), sym (ap gate_rows re), sym (ap₂ moves te re ∙ new_moves), sym (ap environments re ∙ new_envs))

-- what the definitions compute to on numerals
pub examples : Examples
unfolding derivation_of parse cut valid first_fault grown trees environments taken given places has only union without
examples = record {
  empty_input = refl;
  bell_counts = refl;
  bell_twice = refl;
  new_wires = refl;
  new_moves = refl;
  hx_counts = refl;
  swap_counts = refl;
  cx_counts = refl;
}
