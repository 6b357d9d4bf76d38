-- lists by their stamps, and what searches find
pub mod Under
pub mod State
pub mod Prefixes
pub mod Searches
pub mod Fitting
-- the invariant of passes and versions, step by step
pub mod Cross
pub mod Moves
pub mod Opens
pub mod Goes
pub mod Installs
pub mod Ends
pub mod Cuts
-- from the invariant to the plain array
pub mod Newest
pub mod Serial
pub mod Locals
-- the map's model beside the history, call by call
pub mod Marks
pub mod Lines
pub mod Good
pub mod Quiet
pub mod Records
pub mod Found
pub mod Opening
pub mod Turns
pub mod Stepping
pub mod Ending
pub mod Looking
pub mod Keeps
pub mod Tied
-- the law
pub mod First
pub mod Never
pub mod Shown
pub mod Runs
