pub mod Ledger
pub mod Answers
pub mod Laws
pub mod Runs
