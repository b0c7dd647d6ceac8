use Rattle.std.proofs.Common.{◌∙◌, ap, sym, refl, option_map}
use Rattle.class_definition.specs.declared.entry.Entry.TheVariants.{ClassName}
use Rattle.class_sets.proofs.EntryLemmas.{plain_named}
use Rattle.class_sets.proofs.asked.asked_name.Goals as goal

pub returns-then-has_file-clause-plain : goal.returns-then-has_file-clause-plain
returns-then-has_file-clause-plain c =
    plain_named c.args.pool.now (ClassName c.args.slot) c.args.slot c.in_ok-name.name.now c.requires refl
    (sym c.text_of.ensures ∙ ap (option_map (λ x. x.now)) c.in_ok-name.was) (sym c.has_file.ensures ∙ c.if-has_file.true)
