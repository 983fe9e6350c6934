-- What the promises cite for their answers.
pub mod Card
