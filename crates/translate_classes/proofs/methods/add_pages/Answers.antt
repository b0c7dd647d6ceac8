use Rattle.std.proofs.Common.{false, ap, ◌∙◌, arith}
use Rattle.emit_assembly.specs.Assembling.{slots_of}
use Rattle.emit_loading.specs.Pages.{pages_code}
use Rattle.translate_classes.proofs.LawfulNames.MemberLemmas.{pages-own}
use Rattle.translate_classes.proofs.Rooms.CodeLemmas.{code-is, plain-code}
use Rattle.translate_classes.proofs.methods.add_pages.Goals as goal

pub put_method-requires-clause-room : goal.put_method-requires-clause-room
put_method-requires-clause-room c =
    let is = code-is _ _ pages_code (c.as_slice.ensures.value ∙ c.in_ok-append_pages.ensures) c.new-code.ensures.items in
    omega (arith, c.requires.room, ap slots_of is, c.loading_takes_few_slots.ensures.pages)

pub put_method-requires-clause-name : goal.put_method-requires-clause-name
put_method-requires-clause-name c = pages-own

pub put_method-requires-clause-code : goal.put_method-requires-clause-code
put_method-requires-clause-code c =
    let r = c.args.references.now in
    let pool = c.args.class.now.pool in
    let is = code-is _ _ pages_code (c.as_slice.ensures.value ∙ c.in_ok-append_pages.ensures) c.new-code.ensures.items in
    plain-code 38 r pool (λ m. false) false _ pages_code is (c.loading_is_whole.ensures.pages r c.requires.fields) (c.loading_names_well.ensures.pages (λ m. false))

pub returns-clause-few : goal.returns-clause-few
returns-clause-few c =
    let is = code-is _ _ pages_code (c.as_slice.ensures.value ∙ c.in_ok-append_pages.ensures) c.new-code.ensures.items in
    omega (arith, c.in_ok-put_method.ensures.pool.few, ap slots_of is, c.loading_takes_few_slots.ensures.pages)
