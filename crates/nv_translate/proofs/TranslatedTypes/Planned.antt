-- Methods that are made by plans: what they take and give, and when they are typed.
use Rattle.std.proofs.Common.{◌≡◌, ℕ, ◌≤◌, Bool, false, List, [], length, Option, Some, refl, ap, sym, ◌∙◌, subst, arith}
use Rattle.std.proofs.lemmas.Option.{same_Some}
use Rattle.jvm_definition.specs.declared.kind.Kind.{Kind}
use Rattle.jvm_definition.specs.declared.linked_method.LinkedMethod.{LinkedMethod}
use Rattle.jvm_definition.specs.Program.{Program}
use Rattle.jvm_definition.specs.Typing.{TypeFrame, Typed}
use Rattle.class_definition.specs.NameGrammar.{after_field}
use Rattle.class_definition.specs.Linking.{parameters_of, parameters_from, gives_int}
use Rattle.emit_types_laws.specs.Judging.{TakesGives}
use Rattle.emit_types_laws.specs.Methods.{BodiesHaveTypings, IsBody}
use Rattle.translate_classes.specs.Making.{Plan, nothing}
use Rattle.nv_translate.specs.Linked.{IsPlanned}

-- the method of a number is typed
abbrev pub HasType : Program → ℕ → Type 0
HasType program m = (method : LinkedMethod) → program.method m ≡ Some method → Typed program method

pub plan-takes : (program : Program) (number : ℕ) (p : Plan) (parameters : List Kind) (gives : Bool) → IsPlanned program number p
    → parameters_of p.descriptor ≡ parameters → gives_int p.descriptor ≡ gives → TakesGives program number parameters gives
plan-takes program number p parameters gives is taken given = record {
  method = is.method;
  there = is.there;
  parameters_are = is.parameters_are ∙ taken;
  gives_are = is.gives_is ∙ given;
}

pub plan-typed : (bodies : BodiesHaveTypings) (program : Program) (number : ℕ) (p : Plan) (owes : ℕ → Option TypeFrame) (parameters : List Kind)
    → IsPlanned program number p → parameters_of p.descriptor ≡ parameters → length parameters ≤ p.locals
    → IsBody program owes parameters p.locals p.code → HasType program number
plan-typed bodies program number p owes parameters is taken room body method there =
    let one : method ≡ is.method = same_Some method is.method (sym there ∙ is.there) in
    let takes : is.method.parameters ≡ parameters = is.parameters_are ∙ taken in
    let long : length is.method.parameters ≡ length parameters = ap length takes in
    let with_locals : IsBody program owes parameters is.method.locals p.code =
    subst (λ n. IsBody program owes parameters n p.code) (sym is.locals_are) body in
    subst (Typed program) (sym one)
    (bodies program owes is.method p.code is.lines_are (omega (arith, long, room, is.locals_are)) (omega (arith, is.stack_is))
    (subst (λ ks. IsBody program owes ks is.method.locals p.code) (sym takes) with_locals))

-- ---- methods that take and give nothing

pub nothing-taken : parameters_of nothing ≡ []
unfolding parameters_from after_field
nothing-taken = refl

pub nothing-given : gives_int nothing ≡ false
nothing-given = refl

pub plan-quiet : (program : Program) (number : ℕ) (p : Plan) → IsPlanned program number p → p.descriptor ≡ nothing
    → TakesGives program number [] false
plan-quiet program number p is none =
    plan-takes program number p [] false is (ap parameters_of none ∙ nothing-taken) (ap gives_int none ∙ nothing-given)

pub quiet-typed : (bodies : BodiesHaveTypings) (program : Program) (number : ℕ) (p : Plan) (owes : ℕ → Option TypeFrame) → IsPlanned program number p
    → p.descriptor ≡ nothing → IsBody program owes [] p.locals p.code → HasType program number
quiet-typed bodies program number p owes is none body =
    plan-typed bodies program number p owes [] is (ap parameters_of none ∙ nothing-taken) (omega arith) body
