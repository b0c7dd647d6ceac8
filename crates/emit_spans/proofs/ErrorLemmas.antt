-- An error that is passed on.
use Rattle.std.proofs.Common.{◌≡◌, Result, Err, ap}
use Rattle.emit_spans.specs.declared.span_error.SpanError.{SpanError}

pub passed-on : {T U : Type 0} (r : Result T SpanError) (e y d : SpanError) → r ≡ Err y → y ≡ e → r ≡ Err d
    → ◌≡◌ {A = Result U SpanError} (Err e) (Err d)
passed-on r e y d was same is =
    let error : e ≡ d = cc in
    ap (λ x. Err x) error
