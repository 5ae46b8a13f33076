pub mod Closed
pub mod Prologs
pub mod Judgements
pub mod Findings
pub mod Judges
