use Rattle.std.proofs.Common.{◌≡◌, ◌∙◌, ℕ, ◌-◌, ◌<◌, Some, ap, sym, subst}
use Rattle.run_definition.specs.Words.{lane_of_word}
use Rattle.run_definition.specs.declared.order.Order.{Order}
use Rattle.run_definition.specs.declared.order.Order.TheVariants.{Big}
use Rattle.mips_definition.specs.Memory.{right_part, merged}
use Rattle.mips_definition.specs.Loads.{memory_stored}
use Rattle.mips_definition.specs.declared.names.store_name.StoreName.TheVariants.{Swr}
use Rattle.mips_memory.specs.OneWord.{one_word}
use Rattle.mips_memory.proofs.LaneForms.{right_lanes, right_stored}
use Rattle.mips_memory.proofs.lanes.with_right.Goals as goal

pub returns-in-Big : goal.returns-in-Big
returns-in-Big c =
    subst (λ (o : Order). (j : ℕ) → j < 4 → (memory_stored Swr o (one_word c.args.word) c.args.place c.args.w).byte j ≡ Some (lane_of_word c.from_on.result j)) (sym c.in-Big.is)
    (λ j h. right_lanes c.args.place c.args.word c.args.w c.requires j h ∙ ap (λ x. Some (lane_of_word x j)) (sym c.from_on.ensures))

pub returns-in-Little : goal.returns-in-Little
returns-in-Little c =
    subst (λ (o : Order). (j : ℕ) → j < 4 → (memory_stored Swr o (one_word c.args.word) c.args.place c.args.w).byte j ≡ Some (lane_of_word c.up_to.result j)) (sym c.in-Little.is)
    (λ j h.
    right_stored c.args.word c.args.w c.args.place c.requires j h
    ∙ ap (λ x. Some (lane_of_word (merged (one_word x) (right_part Big (3 - c.args.place)) c.args.word) j)) (sym c.word_of_lanes.ensures)
    ∙ ap (λ x. Some (lane_of_word x j)) (sym c.up_to.ensures))
