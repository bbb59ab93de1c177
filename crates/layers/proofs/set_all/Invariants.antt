-- Setting the wires that are left sets all.
use Rattle.std.proofs.Common.{◌≡◌, drop}
use Rattle.target.specs.Interface.{numbers_of}
use Rattle.layers.specs.Layers.{set_all}
use Rattle.layers.proofs.set_all.Given as goal

abbrev pub invariant-loop-w : goal.invariant-loop-w
invariant-loop-w l = set_all l.depth (numbers_of (drop l.w-index l.wires)) l.layer ≡ set_all l.initial.depth (numbers_of l.wires) l.layer
