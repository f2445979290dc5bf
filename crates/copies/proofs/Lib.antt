-- The laws of copied entries.
pub mod CopyLaws
pub mod FilledSurvey
