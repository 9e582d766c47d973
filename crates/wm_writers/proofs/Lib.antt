pub mod AllLemmas
pub mod ListLemmas
pub mod FitLaws
pub mod FittingLemmas
pub mod ForcedLaw
pub mod SourceLemmas
pub mod AnswerLaw
