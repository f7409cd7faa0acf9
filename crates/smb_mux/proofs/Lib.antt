pub mod BodyLaws
pub mod JudgeLaws
pub mod SendLaws
pub mod FlightLaws
pub mod AnswerLaws
pub mod Examples
