pub mod RangeLaws
pub mod AppendixBLaws
pub mod FifthEditionLaws
pub mod ClassLaws
