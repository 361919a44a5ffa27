pub mod Small
pub mod Answered
pub mod Parted
pub mod Rising
pub mod KeyTests
pub mod Prefixes
pub mod Rows
pub mod Sheets
pub mod Forms
pub mod Grown
pub mod Forest
pub mod Apart
pub mod Waiting
pub mod Touched
pub mod Calls
pub mod Siblings
pub mod ValidSheets
pub mod Ranges
pub mod Nonces
pub mod Counting
pub mod ByHand
pub mod AllSheets
pub mod Freed
pub mod Played
pub mod MadeOf
pub mod PlainActs
pub mod ExactRows
pub mod CallSteps
pub mod Said
pub mod LegalSteps
pub mod StepDoes
pub mod FineMoves
pub mod RootSheets
pub mod Trees
pub mod Editions
pub mod UndoMakes
mod Crashed
mod Named
pub mod CameUp
mod Undone
mod Beside
pub mod NameTies
pub mod Listed
pub mod InOrder
pub mod RootTrees
pub mod Tops
pub mod Transits
pub mod Distinct
pub mod Highs
pub mod Kin
pub mod Free
pub mod Taken
pub mod Running
mod GoingBack
pub mod LeadsBack
