pub mod Submissions
pub mod Aborts
pub mod Reports
