-- What is left of the wires is in what is left of the set exactly if all wires are in the set.
use Rattle.std.proofs.Common.{◌≡◌, drop}
use Rattle.derivation.specs.Rows.{all_in}
use Rattle.target.specs.Interface.{numbers_of}
use Rattle.target.proofs.checks.all_in.Given as goal

abbrev pub invariant-loop-w : goal.invariant-loop-w
invariant-loop-w l = all_in l.left (numbers_of (drop l.w-index l.wires)) ≡ all_in l.set (numbers_of l.wires)
