pub mod LoadLaws
mod StoreLaws
