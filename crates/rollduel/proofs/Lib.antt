pub mod EndingLemmas
pub mod WordExamples
