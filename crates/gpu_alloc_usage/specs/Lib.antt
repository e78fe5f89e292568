pub mod KeyByKey
pub mod Masks
pub mod Ranked
pub mod Ranking
pub mod ThreeTypes
