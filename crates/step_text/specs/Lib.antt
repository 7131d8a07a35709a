-- The definitions that contracts cite.
pub mod StepAnswers
pub mod StepFaults
pub mod StepForms
pub mod StepSpelling
pub mod StepTexts
