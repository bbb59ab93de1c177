use Rattle.std.proofs.Common.{refl}
use Rattle.gate_list.specs.GateListLaws.{meets_each, met_by_records}
use Rattle.gate_list.proofs.laws.laws_stand.Goals as goal

pub returns : goal.returns
returns c = (refl, record { meets_each = meets_each; met_by_records = met_by_records })
