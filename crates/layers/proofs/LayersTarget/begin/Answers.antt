use Rattle.std.proofs.Common.{arith}
use Rattle.target.proofs.FaultLaws.{begun_clear}
use Rattle.layers.specs.LayersLaws.{zeros_shallow}
use Rattle.layers.proofs.LayersTarget.begin.Goals as goal

pub invariant_of-self : goal.invariant_of-self
invariant_of-self c =
    let new = (begun_clear 32 c.args.used c.args.given c.args.ones c.in_ok-self.field-0 c.in_ok-self.ensures).1 in
    record { few = rw new (omega arith); shallow = zeros_shallow 32 c.in_ok-self.field-0.count }
