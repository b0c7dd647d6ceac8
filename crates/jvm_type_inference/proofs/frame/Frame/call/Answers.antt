use Rattle.std.proofs.Common.{◌≡◌, ◌++◌, [], Bool, true, false, List, Option, Some, None, refl, sym, ap, ◌∙◌}
use Rattle.std.specs.Prelude.{option_map, slice_get}
use Rattle.std.proofs.lemmas.Result.{IfOk-weaker}
use Rattle.jvm_definition.specs.declared.kind.Kind.{Kind}
use Rattle.jvm_definition.specs.Effect.{last_first}
use Rattle.jvm_definition.specs.Typing.{TypeFrame, applied, call_type, given_by, taken, with_stack}
use Rattle.jvm_type_inference.specs.Working.{working}
use Rattle.jvm_type_inference.proofs.frame.Frame.call.Goals as goal

map-twice : (f : TypeFrame) (given : List Kind) (o : Option (List Kind)) (new : List Kind) → option_map (λ s. given ++ s) o ≡ Some new → option_map (λ s. with_stack f (given ++ s)) o ≡ Some (with_stack f new)
map-twice f given o new e = by-case o ∙ ap (option_map (with_stack f)) e
  where
    by-case : (o : Option (List Kind)) → option_map (λ s. with_stack f (given ++ s)) o ≡ option_map (with_stack f) (option_map (λ s. given ++ s) o)
    by-case None = refl
    by-case (Some s) = refl

pub returns-in-Some-clause-fits : goal.returns-in-Some-clause-fits
returns-in-Some-clause-fits c =
    let a = c.args in
    let m = c.in-Some.method.now in
    let w = working a.self.now.locals a.self.now.stack in
    let new = c.called.new.stack in
    let P : Bool → Type 0 = λ good. good ≡ true → option_map (λ s. given_by m.gives_int ++ s) (taken (last_first m.parameters []) a.self.now.stack) ≡ Some new in
    let Q : Bool → Type 0 = λ good. good ≡ true → applied (call_type (slice_get a.methods.now a.number)) w ≡ Some (working a.self.now.locals new) in
    IfOk-weaker c.called.result P Q
    (λ good fits is. ap (λ o. applied (call_type o) w) (sym c.in-Some.ensures) ∙ map-twice w (given_by m.gives_int) (taken (last_first m.parameters []) a.self.now.stack) new (fits is))
    c.called.ensures.fits

pub returns-in-Some-clause-misses : goal.returns-in-Some-clause-misses
returns-in-Some-clause-misses c =
    let a = c.args in
    let m = c.in-Some.method.now in
    let w = working a.self.now.locals a.self.now.stack in
    let P : Bool → Type 0 = λ good. good ≡ false → taken (last_first m.parameters []) a.self.now.stack ≡ None in
    let Q : Bool → Type 0 = λ good. good ≡ false → applied (call_type (slice_get a.methods.now a.number)) w ≡ None in
    IfOk-weaker c.called.result P Q
    (λ good misses is. ap (λ o. applied (call_type o) w) (sym c.in-Some.ensures) ∙ ap (option_map (λ s. with_stack w (given_by m.gives_int ++ s))) (misses is))
    c.called.ensures.misses

pub returns-in-None-clause-misses : goal.returns-in-None-clause-misses
returns-in-None-clause-misses c _ = ap (λ o. applied (call_type o) (working c.args.self.now.locals c.args.self.now.stack)) (sym c.in-None.ensures)
