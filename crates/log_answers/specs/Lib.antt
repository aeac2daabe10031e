pub mod LogAnswers
