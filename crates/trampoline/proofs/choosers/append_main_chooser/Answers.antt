use Rattle.std.proofs.Common.{◌≡◌, ◌++◌, OnOk, List, ap, subst, append_assoc, ◌∙◌}
use Rattle.emit_steps.specs.declared.step.Step.{Step}
use Rattle.trampoline.specs.Choosers as emitted
use Rattle.trampoline.specs.Trees.{first_of}
use Rattle.trampoline.proofs.choosers.append_main_chooser.Goals as goal

pub returns : goal.returns
returns c =
    let starts = c.args.starts.now in
    let old = c.args.code.now.items in
    let strayed = emitted.strayed_code (first_of starts) c.args.missing in
    let chosen = emitted.chosen_code starts in
    let e1 : c.append_address.new.code.items ≡ old ++ emitted.address_code = c.in_ok-append_address.ensures in
    let e2 : c.append_strayed.new.code.items ≡ c.append_address.new.code.items ++ strayed = c.in_ok-append_strayed.ensures in
    let all : c.append_strayed.new.code.items ++ chosen ≡ old ++ emitted.main_chooser starts c.args.missing =
    ap (λ (l : List Step). l ++ chosen) (e2 ∙ ap (λ (l : List Step). l ++ strayed) e1)
    ∙ append_assoc (old ++ emitted.address_code) strayed chosen
    ∙ append_assoc old emitted.address_code (strayed ++ chosen)
    in
    subst (λ (l : List Step). OnOk c.append_chosen.result (c.append_chosen.new.code.items ≡ l)) all c.append_chosen.ensures
