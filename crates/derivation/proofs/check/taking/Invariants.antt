use Rattle.std.proofs.Common.{◌≡◌, true, drop}
use Rattle.derivation.specs.Rows.{all_below, numbers, taking}
use Rattle.derivation.proofs.check.taking.Given as goal

-- what is left decides, with the premises so far taken
abbrev pub invariant-loop-p : goal.invariant-loop-p
invariant-loop-p l =
    (all_below 128 (numbers (drop l.p-index l.premises)) ≡ true)
    × (taking l.initial.taken (numbers l.premises) ≡ taking l.taken (numbers (drop l.p-index l.premises)))
