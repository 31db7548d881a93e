pub mod EndingLaws
pub mod FlushLaws
