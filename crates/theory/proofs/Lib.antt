-- There is one full list (Unique), and plain search gives it (Plain). A release frees what is reached (Release, Closure).
-- Each step keeps the invariant (Waiting, Blocking, Keeping) and works off what remains (Progress), so that the rule hands out
-- what plain search gives (Steps, Work, Runs, Main). The worked rows are computed (WellFormed, Table, Worked).
pub mod Lists
pub mod WellFormed
pub mod Table
pub mod Unique
pub mod Remaining
pub mod Plain
pub mod Release
pub mod Closure
pub mod Progress
pub mod Invariant
pub mod Waiting
pub mod Blocking
pub mod Keeping
pub mod Steps
pub mod Work
pub mod Runs
pub mod Main
pub mod Worked
