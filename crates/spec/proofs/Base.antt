-- Tests, places, answers and loops: laws for agreement and for code alike.
pub mod Tests
pub mod Tables
pub mod Places
pub mod Results
pub mod Sequences
pub mod Loops
pub mod Somes
pub mod Outside
