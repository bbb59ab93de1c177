-- There are at most 32 wires.
use Rattle.std.proofs.Common.{length, vec_items, ap, arith}
use Rattle.machine.proofs.StartTables.{starts-few}
use Rattle.machine.proofs.machine.Machine.wires.Goals as goal

pub overflow_cast-result : goal.overflow_cast-result
overflow_cast-result c =
    let m = c.args.self.now in
    omega (arith, c.len.ensures, m.starts.ok.0, ap length m.begun, starts-few (vec_items m.types) (vec_items m.rows) m.accepted)
