use Rattle.std.proofs.Common.{true, ap, sym, ◌∙◌}
use Rattle.mips_definition.specs.Effect.{goes_on}
use Rattle.mips_definition.specs.Loads.{store_allowed, store_conditional_to}
use Rattle.mips_definition.specs.State.{State}
use Rattle.mips_definition.specs.declared.names.store_name.StoreName.TheVariants.{Sw}
use Rattle.mips_machine.specs.Processor.{processor_state}
use Rattle.mips_machine.proofs.LinkLemmas.{conditional}
use Rattle.mips_machine.proofs.processor.Processor.store_conditional.Goals as goal

pub returns-then-not-is_store_aligned-clause-effect : goal.returns-then-not-is_store_aligned-clause-effect
unfolding processor_state
returns-then-not-is_store_aligned-clause-effect c =
    let s : State = processor_state c.args.self.now in
    ap (λ b. conditional s c.args.rt c.address-at.result b (store_allowed Sw s.order s.memory c.address-at.result)) (sym c.if-not-is_store_aligned.true ∙ c.is_store_aligned.ensures)
    ∙ ap (store_conditional_to s c.args.rt) c.address-at.ensures

pub returns-then-not-may_store-clause-effect : goal.returns-then-not-may_store-clause-effect
unfolding processor_state
returns-then-not-may_store-clause-effect c =
    let s : State = processor_state c.args.self.now in
    ap (conditional s c.args.rt c.address-at.result true) (sym c.if-not-may_store.true ∙ c.may_store.ensures)
    ∙ ap (λ b. conditional s c.args.rt c.address-at.result b (store_allowed Sw s.order s.memory c.address-at.result)) (sym c.if-not-is_store_aligned.false ∙ c.is_store_aligned.ensures)
    ∙ ap (store_conditional_to s c.args.rt) c.address-at.ensures

pub returns-clause-effect : goal.returns-clause-effect
unfolding processor_state
returns-clause-effect c =
    let s : State = processor_state c.args.self.now in
    ap goes_on c.conclude.ensures
    ∙ ap (conditional s c.args.rt c.address-at.result true) (sym c.if-not-may_store.false ∙ c.may_store.ensures)
    ∙ ap (λ b. conditional s c.args.rt c.address-at.result b (store_allowed Sw s.order s.memory c.address-at.result)) (sym c.if-not-is_store_aligned.false ∙ c.is_store_aligned.ensures)
    ∙ ap (store_conditional_to s c.args.rt) c.address-at.ensures
