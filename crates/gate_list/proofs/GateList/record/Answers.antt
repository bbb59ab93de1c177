-- What is found among the records is found among the gates.
use Rattle.std.proofs.Common.{take, vec_items, ap, ◌∙◌}
use Rattle.std.specs.Option.{option_map}
use Rattle.gate_list.specs.GateList.{met_of}
use Rattle.gate_list.specs.GateListLaws.{looked_up, nth-recorded}
use Rattle.gate_list.proofs.GateList.record.Goals as goal

pub returns-clause-met : goal.returns-clause-met
returns-clause-met c =
    let n = c.args.self.now.usage.count in
    let items = vec_items c.args.self.now.records in
    let found = rw c.deref.ensures.value at c.get.ensures.lookup in
    ap (option_map met_of) (c.copied.ensures ∙ looked_up (take n items) c.args.i c.get.result found.0 found.1) ∙ nth-recorded items n c.args.i
