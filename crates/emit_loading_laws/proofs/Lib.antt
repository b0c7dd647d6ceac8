pub mod FillingLaws
pub mod LoadingCodeLaws
