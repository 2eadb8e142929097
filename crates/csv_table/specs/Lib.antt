pub mod Cuts
pub mod SplitRecords
pub mod RecordsLeft
pub mod Places
pub mod WideRecords
pub mod Lines
pub mod Expected
