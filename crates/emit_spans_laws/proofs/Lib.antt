pub mod SpanCodeLaws
mod SpanSteps
mod PieceRegisters
