use Rattle.std.proofs.Common.{vec_items}
use Rattle.machine.proofs.MoveTables.{atom_small}
use Rattle.machine.proofs.machine.Machine.spot.Goals as goal

pub invariant_of-result : goal.invariant_of-result
invariant_of-result c =
    let m = c.args.self.now in
    record { few = atom_small (vec_items m.types) (vec_items m.rows) c.args.p m.accepted c.in_ok-polarity.polarity c.in_ok-polarity.ensures }
