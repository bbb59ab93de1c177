-- Where the gate is accepted there is a record to write.
use Rattle.std.proofs.Common.{true, vec_items, rules, arith}
use Rattle.target.specs.Interface.{numbers_of}
use Rattle.target.proofs.FaultLaws.{clear, clear-count, fault_of, no_fault}
use Rattle.gate_list.specs.GateList.{room}
use Rattle.gate_list.specs.GateListLaws.{view_push}
use Rattle.gate_list.proofs.GateListTarget.apply.Goals as goal

pub returns-clause-obeys : goal.returns-clause-obeys
returns-clause-obeys c =
    let t = c.args.self.now in
    let items = vec_items t.records in
    let ws = c.args.wires.now in
    let ok = clear true (room items) t.usage c.in_ok-usage.usage c.args.gate (numbers_of ws) (rw (c.takes.ensures, c.room.ensures) at c.in_ok-usage.ensures.answer) in
    (no_fault ok, rw (ok.counted, c.seats.ensures) (view_push items t.usage.count t.usage.used t.given t.ones c.args.gate ws (omega (arith, ok.room)) (clear-count ws ok)))

pub returns-in_err-usage-clause-obeys : goal.returns-in_err-usage-clause-obeys
returns-in_err-usage-clause-obeys c =
    let t = c.args.self.now in
    let h =
    fault_of true (room (vec_items t.records)) t.usage c.args.gate (numbers_of c.args.wires.now) c.in_err-usage.field-0.0
    (rw (c.takes.ensures, c.room.ensures) at c.in_err-usage.ensures.answer) in
    search rules
