use Rattle.std.proofs.Common.{◌≤◌, length, sym, subst, ap, ◌∙◌, arith}
use Rattle.emit_layout.specs.Numbers.{pages_number, choose_number}
use Rattle.emit_loading.specs.Starting.{run_code}
use Rattle.std.specs.Prelude.{is_some}
use Rattle.emit_assembly.specs.Assembling.{slots_of}
use Rattle.emit_methods_laws.specs.Naming.{fields_of}
use Rattle.translate_classes.proofs.LawfulNames.MemberLemmas.{run-own}
use Rattle.translate_classes.proofs.Rooms.CountLemmas.{has-main, has-fills}
use Rattle.translate_classes.proofs.Rooms.CodeLemmas.{code-is, same-code, whole-code, run-texts}
use Rattle.translate_classes.proofs.methods.add_run.Goals as goal

pub put_method-requires-clause-room : goal.put_method-requires-clause-room
put_method-requires-clause-room c =
    let is = code-is _ _ (run_code c.turns_of.result c.args.main.now.beginning c.args.texts.now 0 pages_number c.args.main.now.data.now choose_number) (c.as_slice.ensures.value ∙ c.in_ok-append_run.ensures) c.new-code.ensures.items in
    omega (arith, c.requires.room, ap slots_of is, c.loading_takes_few_slots.ensures.run c.turns_of.result c.args.main.now.beginning c.args.texts.now 0 pages_number c.args.main.now.data.now choose_number)

pub put_method-requires-clause-name : goal.put_method-requires-clause-name
put_method-requires-clause-name c = run-own

pub put_method-requires-clause-code : goal.put_method-requires-clause-code
put_method-requires-clause-code c =
    let r = c.args.references.now in
    let pool = c.args.class.now.pool in
    let is = code-is _ _ (run_code c.turns_of.result c.args.main.now.beginning c.args.texts.now 0 pages_number c.args.main.now.data.now choose_number) (c.as_slice.ensures.value ∙ c.in_ok-append_run.ensures) c.new-code.ensures.items in
    let main = c.args.main.now in
    let texts = c.args.texts.now in
    let fills = has-fills r main c.requires.main c.requires.references.first c.requires.count in
    let fields = subst (λ m. fields_of (is_some m) ≤ length r.fields) (sym c.turns_of.ensures) c.requires.fields in
    let own = has-main r main c.requires.main c.requires.references.first c.requires.count in
    same-code r pool _ (run_code c.turns_of.result c.args.main.now.beginning c.args.texts.now 0 pages_number c.args.main.now.data.now choose_number) is
    (whole-code r pool (run_code c.turns_of.result c.args.main.now.beginning c.args.texts.now 0 pages_number c.args.main.now.data.now choose_number)
    (c.loading_is_whole.ensures.run r c.turns_of.result main.beginning texts 0 pages_number main.data.now choose_number fields
    c.requires.few_texts c.requires.main.few_data (own pages_number (omega arith)) fills (own choose_number (omega arith)))
    (run-texts pool c.turns_of.result main.beginning texts 0 pages_number main.data.now choose_number c.requires.texts))

pub returns-clause-few : goal.returns-clause-few
returns-clause-few c =
    let is = code-is _ _ (run_code c.turns_of.result c.args.main.now.beginning c.args.texts.now 0 pages_number c.args.main.now.data.now choose_number) (c.as_slice.ensures.value ∙ c.in_ok-append_run.ensures) c.new-code.ensures.items in
    omega (arith, c.in_ok-put_method.ensures.pool.few, ap slots_of is, c.loading_takes_few_slots.ensures.run c.turns_of.result c.args.main.now.beginning c.args.texts.now 0 pages_number c.args.main.now.data.now choose_number)
