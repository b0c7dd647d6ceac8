use Rattle.std.proofs.Common.{sym, ap, ◌∙◌, [], ◌∷◌, ◌++◌}
use Rattle.std.specs.Prelude.{is_some}
use Rattle.class_definition.specs.declared.entry.Entry.TheVariants.{Utf8}
use Rattle.stackmap_pool.specs.Longer.{first_text_slot}
use Rattle.stackmap_pool.proofs.PoolLaws.{text-put, text-there}
use Rattle.stackmap_pool.proofs.growing.push_text.Goals as goal

pub returns-in-Some : goal.returns-in-Some
returns-in-Some c =
    let pool = c.args.pool.now.items in
    let is = sym (c.text_slot.ensures ∙ ap (first_text_slot c.args.text.now) c.deref.ensures.value) ∙ c.in-Some.is in
    sym (text-there c.args.text.now pool (ap is_some is))

pub returns : goal.returns
returns c =
    let pool = c.args.pool.now.items in
    let is = sym (c.text_slot.ensures ∙ ap (first_text_slot c.args.text.now) c.deref.ensures.value) ∙ c.in_default.is in
    c.in_ok-push.ensures.items ∙ (ap (λ t. pool ++ Utf8 t ∷ []) (c.new.ensures ∙ c.in_ok-text.ensures.items) ∙ sym (text-put c.args.text.now pool (ap is_some is)))
