use Rattle.std.proofs.Common.{◌≡◌, [], ◌∷◌, string_bytes, sym, ap, ◌∙◌}
use Rattle.class_definition.specs.declared.entry.Entry.TheVariants.{ClassName}
use Rattle.class_sets.specs.ClassSets.{asked_in}
use Rattle.class_sets.proofs.AskedLemmas.{asked_too, on_both}
use Rattle.class_sets.proofs.names.Names.add_entry.Goals as goal

pub returns-in_ok-plain_text-in-Some-clause-seen : goal.returns-in_ok-plain_text-in-Some-clause-seen
returns-in_ok-plain_text-in-Some-clause-seen c =
    let text = string_bytes c.in_ok-plain_text-in-Some.field-0 in
    let is : asked_in c.args.pool.now (ClassName c.in-ClassName.slot) ≡ text ∷ [] = sym c.in-Some.ensures.name ∙ ap (λ t. t ∷ []) (sym c.in_ok-plain_text-in-Some.ensures) in
    on_both c.insert-in-Some.result
    (λ stays grown. asked_too c.args.pool.now c.args.seen.now.keys c.insert.new.self.keys c.in-ClassName.slot c.args.self.now c.insert-in-Some.new.self (text ∷ []) is stays grown
    c.in_ok-insert.ensures.updates.0 c.requires.seen)
    c.insert-in-Some.ensures.asked c.insert-in-Some.ensures.waiting
