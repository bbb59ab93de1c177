use Rattle.std.proofs.Common.{◌≡◌, drop}
use Rattle.derivation.specs.Rows.{numbers, releasing}
use Rattle.derivation.proofs.check.releasing.Given as goal

-- what is left decides, with the variables so far released
abbrev pub invariant-loop-x : goal.invariant-loop-x
invariant-loop-x l = releasing l.initial.env (numbers l.bound) ≡ releasing l.env (numbers (drop l.x-index l.bound))
