-- What gate lists come to, wire by wire.
use Rattle.gate_list.specs.GateList.{MeetsEach, MetByRecords}

pub record Laws : Type 0 where
  pub meets_each : MeetsEach
  pub met_by_records : MetByRecords
