use Rattle.std.proofs.Common.{◌+◌, ◌<◌, length, drop, refl, ap, sym, ◌∙◌, arith, subst}
use Rattle.std.proofs.lemmas.List.{take_all}
use Rattle.translate_classes.specs.Making.{NamesMore}
use Rattle.translate_classes.proofs.ClassMaking.NamingLemmas.{names-none}
use Rattle.translate_classes.specs.Content.{RiseFrom, behind}
use Rattle.translate_classes.proofs.MainClasses.RiseLemmas.{rise-next, behind-more}
use Rattle.translate_classes.specs.MainMentioned.{other_mentions}
use Rattle.translate_classes.proofs.MainClasses.OtherLemmas.{names-next}
use Rattle.translate_classes.proofs.MainClasses.CalledLemmas.{begins-itself, begins-further, others-more}
use Rattle.translate_classes.proofs.references.add_references.Goals as goal

pub loop-i-init : goal.loop-i-init
loop-i-init c =
    (λ i less. absurd (omega (arith, less)), begins-itself c.args.slots.now.items, refl, c.requires.rise, names-none c.args.class.now, omega arith)

pub add_reference-requires-clause-number : goal.add_reference-requires-clause-number
add_reference-requires-clause-number c =
    (rise-next (length c.loop-i.slots.items) c.args.numbers.now c.loop-i.i 0 (omega arith) c.loop-i.invariant.3).0

pub loop-i-preserved : goal.loop-i-preserved
loop-i-preserved c =
    let numbers = c.args.numbers.now in
    let i = c.loop-i.i in
    let old = c.loop-i.class in
    let new = c.add_reference.new.class in
    let front = c.loop-i.slots.items in
    let all = c.add_reference.new.slots.items in
    let told = c.in_ok-add_reference.ensures in
    let less : i < length numbers = omega arith in (
      others-more old.pool new.pool told.grown.pool c.args.name.now c.args.kind numbers front all i told.kept c.loop-i.invariant.0 told.there,
      begins-further c.args.slots.now.items front all c.loop-i.invariant.1 told.kept,
      told.count ∙ sym (behind-more (length c.args.slots.now.items) numbers i 0 less),
      subst (λ n. RiseFrom n (drop (i + 1) numbers)) (sym told.count) (rise-next (length front) numbers i 0 less c.loop-i.invariant.3).1,
      names-next c.args.class.now old new c.args.name.now c.args.kind i c.loop-i.invariant.4 told.grown,
      omega (arith, c.loop-i.invariant.5, told.few),
    )

pub returns-clause-count : goal.returns-clause-count
returns-clause-count c =
    c.loop-i.invariant.2 ∙ ap (behind (length c.args.slots.now.items)) (take_all c.loop-i.i c.args.numbers.now (omega arith))

pub returns-clause-grown : goal.returns-clause-grown
returns-clause-grown c =
    subst (λ count. NamesMore c.args.class.now c.loop-i.class (other_mentions c.args.name.now c.args.kind count)) (omega arith)
    c.loop-i.invariant.4

pub add_reference-requires-clause-room : goal.add_reference-requires-clause-room
add_reference-requires-clause-room c = omega (arith, c.requires.room, c.loop-i.invariant.5)
