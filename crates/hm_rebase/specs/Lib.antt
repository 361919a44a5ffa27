pub mod Alike
pub mod Rebased
