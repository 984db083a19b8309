pub mod BasicPoint
pub mod ColumnSets
pub mod Rows
pub mod Start
pub mod UnitRows
