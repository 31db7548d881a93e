pub mod GrammarLaws
pub mod Fields
