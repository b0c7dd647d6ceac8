use Rattle.std.proofs.Common.{◌≡◌, ◌∷◌, [], ◌++◌, ap, sym, ◌∙◌, subst, codes, arith}
use Rattle.class_definition.specs.declared.entry.Entry.TheVariants.{MethodRef}
use Rattle.emit_layout.specs.Helpers.{helper_name, helper_descriptor}
use Rattle.emit_assembly.proofs.Pools.{extends-further}
use Rattle.emit_classes.specs.Mentioned.{method_mention}
use Rattle.emit_classes.proofs.Made.{class-later, has_class-later}
use Rattle.translate_classes.specs.Making.{nothing}
use Rattle.translate_classes.proofs.ClassMaking.NamingLemmas.{names-slots, names-more}
use Rattle.translate_classes.specs.Mentioned.{helper_mentions}
use Rattle.translate_classes.proofs.ProgramNames.NamedLemmas.{member-later, members-later}
use Rattle.translate_classes.specs.Called.{AreOwnMethods, pages_descriptor}
use Rattle.translate_classes.proofs.MainClasses.CalledLemmas.{four-pushed, own-made}
use Rattle.translate_classes.proofs.LawfulNames.MemberLemmas.{choose-named, pages-named, missing-named}
use Rattle.translate_classes.proofs.references.own_references.Goals as goal

pub returns-clause-there : goal.returns-clause-there
returns-clause-there c =
    let first = c.helper_references.new.class in
    let second = c.method_reference.new.class in
    let third = c.method_reference-2.new.class in
    let fourth = c.method_reference-3.new.class in
    let from_third = c.in_ok-missing.ensures.grown.pool.kept in
    let from_second = extends-further second.pool third.pool fourth.pool c.in_ok-pages.ensures.grown.pool.kept from_third in
    let all = extends-further first.pool second.pool fourth.pool c.in_ok-choose.ensures.grown.pool.kept from_second in
    let own = c.args.own in
    let helpers = c.in_ok-slots.slots.items in
    let choose = c.in_ok-choose.choose in
    let pages = c.in_ok-pages.pages in
    let missing = c.in_ok-missing.missing in
    let pushed : c.push-4.new.self.items ≡ helpers ++ 0 ∷ choose ∷ pages ∷ missing ∷ [] =
    c.in_ok-push-4.ensures.items
    ∙ ap (λ l. l ++ missing ∷ []) (c.in_ok-push-3.ensures.items
    ∙ ap (λ l. l ++ pages ∷ []) (c.in_ok-push-2.ensures.items ∙ ap (λ l. l ++ choose ∷ []) c.in_ok-push.ensures.items))
    ∙ four-pushed helpers 0 choose pages missing in
    subst (AreOwnMethods fourth.pool own) (sym pushed)
    (own-made fourth.pool own helpers 0 choose pages missing
    (members-later first.pool fourth.pool all MethodRef helper_name helper_descriptor own helpers 20 c.in_ok-slots.ensures.there)
    (member-later second.pool fourth.pool from_second MethodRef choose own _ _ c.in_ok-choose.ensures.there)
    (member-later third.pool fourth.pool from_third MethodRef pages own _ _ c.in_ok-pages.ensures.there)
    c.in_ok-missing.ensures.there)

pub returns-clause-grown : goal.returns-clause-grown
returns-clause-grown c =
    λ name of.
    let own = c.args.own in
    let start = c.args.class.now in
    let first = c.helper_references.new.class in
    let second = c.method_reference.new.class in
    let third = c.method_reference-2.new.class in
    let fourth = c.method_reference-3.new.class in
    let choose = method_mention name (codes "choose") nothing ∷ [] in
    let pages = method_mention name (codes "pages") pages_descriptor ∷ [] in
    let missing = method_mention name (codes "missing") nothing ∷ [] in
    let of_first = class-later start.pool first.pool own name c.in_ok-slots.ensures.grown.pool.kept of in
    let of_second = class-later first.pool second.pool own name c.in_ok-choose.ensures.grown.pool.kept of_first in
    let of_third = class-later second.pool third.pool own name c.in_ok-pages.ensures.grown.pool.kept of_second in
    names-more start first fourth (helper_mentions name 20) (choose ++ (pages ++ missing))
    (names-slots start first 80 (helper_mentions name 20) c.in_ok-slots.ensures.grown (c.in_ok-slots.ensures.mentions name of))
    (names-more first second fourth choose (pages ++ missing)
    (names-slots first second 4 choose c.in_ok-choose.ensures.grown (c.in_ok-choose.ensures.mentions name of_first))
    (names-more second third fourth pages missing
    (names-slots second third 4 pages c.in_ok-pages.ensures.grown (c.in_ok-pages.ensures.mentions name of_second))
    (names-slots third fourth 4 missing c.in_ok-missing.ensures.grown (c.in_ok-missing.ensures.mentions name of_third))))

pub method_reference-requires-clause-room : goal.method_reference-requires-clause-room
method_reference-requires-clause-room c = omega (arith, c.requires.room, c.in_ok-slots.ensures.grown.pool.few)

pub method_reference-requires-clause-owner : goal.method_reference-requires-clause-owner
method_reference-requires-clause-owner c =
    has_class-later c.args.class.now.pool c.helper_references.new.class.pool c.args.own c.in_ok-slots.ensures.grown.pool.kept c.requires.owner

pub method_reference-requires-clause-name : goal.method_reference-requires-clause-name
method_reference-requires-clause-name c = choose-named

pub method_reference-requires-2-clause-room : goal.method_reference-requires-2-clause-room
method_reference-requires-2-clause-room c =
    omega (arith, c.requires.room, c.in_ok-slots.ensures.grown.pool.few, c.in_ok-choose.ensures.grown.pool.few)

pub method_reference-requires-2-clause-owner : goal.method_reference-requires-2-clause-owner
method_reference-requires-2-clause-owner c =
    let first = c.helper_references.new.class.pool in
    has_class-later first c.method_reference.new.class.pool c.args.own c.in_ok-choose.ensures.grown.pool.kept
    (has_class-later c.args.class.now.pool first c.args.own c.in_ok-slots.ensures.grown.pool.kept c.requires.owner)

pub method_reference-requires-2-clause-name : goal.method_reference-requires-2-clause-name
method_reference-requires-2-clause-name c = pages-named

pub method_reference-requires-3-clause-room : goal.method_reference-requires-3-clause-room
method_reference-requires-3-clause-room c =
    omega (
      arith,
      c.requires.room,
      c.in_ok-slots.ensures.grown.pool.few,
      c.in_ok-choose.ensures.grown.pool.few,
      c.in_ok-pages.ensures.grown.pool.few,
    )

pub method_reference-requires-3-clause-owner : goal.method_reference-requires-3-clause-owner
method_reference-requires-3-clause-owner c =
    let first = c.helper_references.new.class.pool in
    let second = c.method_reference.new.class.pool in
    has_class-later second c.method_reference-2.new.class.pool c.args.own c.in_ok-pages.ensures.grown.pool.kept
    (has_class-later first second c.args.own c.in_ok-choose.ensures.grown.pool.kept
    (has_class-later c.args.class.now.pool first c.args.own c.in_ok-slots.ensures.grown.pool.kept c.requires.owner))

pub method_reference-requires-3-clause-name : goal.method_reference-requires-3-clause-name
method_reference-requires-3-clause-name c = missing-named

pub returns-clause-few : goal.returns-clause-few
returns-clause-few c =
    omega (
      arith,
      c.in_ok-slots.ensures.grown.pool.few,
      c.in_ok-choose.ensures.grown.pool.few,
      c.in_ok-pages.ensures.grown.pool.few,
      c.in_ok-missing.ensures.grown.pool.few,
    )
