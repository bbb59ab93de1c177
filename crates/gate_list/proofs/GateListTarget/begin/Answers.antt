-- Where the sets fit, no record is in use after.
use Rattle.std.proofs.Common.{vec_items, refl, ap}
use Rattle.target.proofs.FaultLaws.{begun_clear}
use Rattle.gate_list.specs.GateList.{State, list_view, room}
use Rattle.gate_list.specs.GateListLaws.{state_none}
use Rattle.gate_list.proofs.GateListTarget.begin.Goals as goal

pub returns-clause-obeys : goal.returns-clause-obeys
returns-clause-obeys c =
    let t = c.args.self.now in
    let items = vec_items t.records in
    let before = list_view items t.usage.count t.usage.used t.given t.ones in
    let ok = begun_clear 32 c.args.used c.args.given c.args.ones c.in_ok-self.field-0 c.in_ok-self.ensures in (
      rw ok.0 refl,
      rw ok.1
          (ap (λ (s : State). record { state = s; used = c.args.used; count = 0; width = 32; capacity = room items })
          (state_none items c.args.used c.args.given c.args.ones before.state)),
    )
