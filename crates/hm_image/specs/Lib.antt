pub mod Catalog
pub mod Image
pub mod Layouts
pub mod Roots
