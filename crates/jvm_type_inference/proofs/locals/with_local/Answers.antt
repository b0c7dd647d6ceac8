use Rattle.std.proofs.Common.{◌≡◌, ℕ, List, true, get_or, sym, ap, ◌∙◌}
use Rattle.std.specs.Prelude.{◌==◌, if◌then◌else◌}
use Rattle.std.proofs.lemmas.Result.{IfOk-weaker}
use Rattle.jvm_definition.specs.declared.kind.Kind.{Kind}
use Rattle.jvm_definition.specs.declared.kind.Kind.TheVariants.{Top}
use Rattle.jvm_definition.specs.Typing.{same_kind}
use Rattle.jvm_type_inference.proofs.SameLaws.{same-locals}
use Rattle.jvm_type_inference.proofs.locals.with_local.Goals as goal

pub returns-then-is_same-clause-kinds : goal.returns-then-is_same-clause-kinds
returns-then-is_same-clause-kinds c =
    let a = c.args in
    let is : same_kind (get_or a.locals.now a.index Top) a.kind ≡ true = ap (λ ls. same_kind (get_or ls a.index Top) a.kind) (sym c.as_slice.ensures)
    ∙ (ap (λ k. same_kind k a.kind) (sym c.local_at.ensures) ∙ (sym c.is_same.ensures ∙ c.if-is_same.true)) in
    let P : List Kind → Type 0 = λ s. s ≡ a.locals.now in
    let Q : List Kind → Type 0 = λ s. (i : ℕ) → get_or s i Top ≡ (if i == a.index then a.kind else get_or a.locals.now i Top) in
    IfOk-weaker c.shared.result P Q
    (λ s same i. ap (λ ls. get_or ls i Top) same ∙ same-locals a.locals.now a.index a.kind is i)
    c.shared.ensures
