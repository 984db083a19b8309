pub mod BestColumn
pub mod Laws
pub mod NoColumn
pub mod RatioWalk
pub mod Ratios
pub mod RowWalk
pub mod Scan
