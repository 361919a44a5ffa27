pub mod Going
mod Rows
pub mod Calls
mod Entering
mod Picking
mod Aborted
mod Staying
pub mod Others
pub mod Stepping
pub mod Undoing
pub mod Uses
pub mod Paid
pub mod Ables
pub mod Openings
mod Fitting
mod GoingIn
pub mod CallsIn
mod EnteringIn
mod PickingIn
mod AbortedIn
mod StayingIn
pub mod OthersIn
pub mod SteppingIn
pub mod UndoingIn
pub mod UsesIn
pub mod PaidIn
pub mod AblesIn
mod OpeningsIn
pub mod Unbound
pub mod Clock
pub mod Unread
