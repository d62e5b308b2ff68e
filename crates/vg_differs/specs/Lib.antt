pub mod Findings
pub mod First
pub mod Judged
pub mod Lines
pub mod Records
pub mod Wanted
pub mod Ways
