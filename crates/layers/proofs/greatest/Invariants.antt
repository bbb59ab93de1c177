-- The greatest so far, and of the wires that are left, is the greatest of all.
use Rattle.std.proofs.Common.{◌≡◌, max, drop}
use Rattle.target.specs.Interface.{numbers_of}
use Rattle.layers.specs.Layers.{greatest}
use Rattle.layers.proofs.greatest.Given as goal

abbrev pub invariant-loop-w : goal.invariant-loop-w
invariant-loop-w l = max l.most (greatest l.depth (numbers_of (drop l.w-index l.wires))) ≡ greatest l.depth (numbers_of l.wires)
