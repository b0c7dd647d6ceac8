pub mod RefusalLemmas
pub mod CodeLemmas
pub mod CountLemmas
pub mod SpanLemmas
