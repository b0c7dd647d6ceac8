use Rattle.std.proofs.Common.{◌≡◌, ◌++◌, OnOk, List, ap, subst, ◌∙◌}
use Rattle.emit_steps.specs.declared.step.Step.{Step}
use Rattle.mem_helpers.specs.Stores as emitted
use Rattle.mem_helpers.proofs.stores.append_sh.Goals as goal

pub returns : goal.returns
returns c =
    let stored = emitted.half_stored c.args.order in
    let found : c.append_half_stored.new.code.items ≡ emitted.half_cleared ++ stored = c.in_ok-append_half_stored.ensures ∙ ap (λ (l : List Step). l ++ stored) (c.in_ok-append_half_cleared.ensures ∙ ap (λ (l : List Step). l ++ emitted.half_cleared) c.new-found.ensures.items) in
    subst (λ (l : List Step). OnOk c.append_storing.result (c.append_storing.new.code.items ≡ c.args.code.now.items ++ emitted.storing 2 1 l)) found c.append_storing.ensures
