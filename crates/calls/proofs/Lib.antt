-- The laws of a call's admission.
pub mod CallLaws
