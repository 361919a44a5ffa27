pub mod ActNumbers
pub mod KeyOrder
