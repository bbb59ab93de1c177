use Rattle.std.proofs.Common.{◌≡◌, map, take}
use lib.Lanes.{mask_l}
use Rattle.run.specs.Opening.{is_given, is_one}
use Rattle.run.proofs.run.start_sets.Given as goal

-- the sets of the wires so far
abbrev pub invariant-loop-w : goal.invariant-loop-w
invariant-loop-w l = (l.given ≡ mask_l (map is_given (take l.w l.starts))) × (l.ones ≡ mask_l (map is_one (take l.w l.starts)))
