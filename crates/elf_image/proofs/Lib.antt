pub mod Counting
pub mod Layouts
pub mod FloatLemmas
pub mod Accepted
pub mod TableLemmas
pub mod MarkLemmas
pub mod PieceLemmas
pub mod StoreLemmas
pub mod LoaderLemmas
pub mod RunsLemmas
pub mod MappedLemmas
pub mod ImageLaws
pub mod WholeLemmas
pub mod AreaLemmas
mod Examples
