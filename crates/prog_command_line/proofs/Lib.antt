pub mod AskedLemmas
pub mod FaultPlaces
pub mod LocalFlags
pub mod NumberLemmas
pub mod Places
pub mod RuleLemmas
pub mod TakenPlaces
pub mod WordExamples
