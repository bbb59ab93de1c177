pub mod GateList
pub mod Laws
pub mod GateListLaws
pub mod RecordLaws
