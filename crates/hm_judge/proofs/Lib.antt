pub mod Found
pub mod Editions
mod Rules
mod Stepping
mod Failing
mod Reporting
mod Undoing
pub mod Picking
mod Seeing
mod RowsThere
mod Asking
mod Judging
mod Living
mod OwnSteps
mod Fresh
mod Choosing
