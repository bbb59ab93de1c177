pub mod SignLaws
pub mod FactLaws
pub mod StartTables
pub mod MoveTables
pub mod PlaceTests
