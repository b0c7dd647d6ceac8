use Rattle.std.proofs.Common.{◌≡◌, ◌+◌, [], ◌∷◌, ◌++◌, length, ap, sym, ◌∙◌, arith, subst, true, string_bytes}
use Rattle.std.proofs.lemmas.List.{length_push, get_or_push}
use Rattle.emit_classes.specs.Named.{IsClassAt, IsMethodAt}
use Rattle.emit_classes.specs.Mentioned.{OfClass, method_mention, mentioned, Mentions}
use Rattle.emit_classes.proofs.Made.{class-later}
use Rattle.translate_classes.specs.Making.{nothing}
use Rattle.translate_classes.proofs.ClassMaking.NamingLemmas.{names-slots, names-more}
use Rattle.translate_classes.specs.Called.{BeginsWith, class_name, method_name, slot_of}
use Rattle.translate_classes.proofs.MainClasses.CalledLemmas.{begins-more}
use Rattle.translate_classes.proofs.Rooms.CountLemmas.{class-there}
use Rattle.translate_classes.specs.Room.{can_name_class, can_name_method}
use Rattle.translate_classes.proofs.LawfulNames.CharacterLemmas.{own-named}
use Rattle.translate_classes.proofs.LawfulNames.OtherLemmas.{called-named}
use Rattle.translate_classes.proofs.references.add_reference.Goals as goal

pub returns : goal.returns
returns c =
    let first = c.class_reference.new.class in
    let second = c.method_reference.new.class in
    let filled = c.fill_up.new.slots.items in
    let slot = c.in_ok-slot.slot in
    let pushed = c.in_ok-push.ensures.items in
    let count = c.in_ok-fill_up.ensures.count in
    let name_is = c.as_str.ensures.value ∙ c.in_ok-other.ensures.value in
    let grown = c.in_ok-slot.ensures.grown in
    let start = c.args.class.now in
    let of = class_name c.args.kind c.args.name.now c.args.i in
    let called = method_name c.args.kind in
    let owner_named : Mentions first.pool (mentioned start.pool ++ OfClass of ∷ []) =
    subst (λ name. Mentions first.pool (mentioned start.pool ++ OfClass name ∷ [])) name_is c.in_ok-owner.ensures.mentions in
    let method_named : Mentions second.pool (mentioned first.pool ++ method_mention of called nothing ∷ []) =
    subst (λ name. Mentions second.pool (mentioned first.pool ++ method_mention of name nothing ∷ [])) c.method.ensures
    (c.in_ok-slot.ensures.mentions of (subst (IsClassAt first.pool c.in_ok-owner.owner) name_is c.in_ok-owner.ensures.there)) in
    let at : slot_of c.push.new.self.items c.args.number ≡ slot =
    ap (λ l. slot_of l c.args.number) pushed ∙ get_or_push filled slot 0 c.args.number count in
    let more : length c.push.new.self.items ≡ c.args.number + 1 = omega (arith, ap length pushed, length_push filled slot, count) in
    record {
      there = record {
        within = omega (arith, more);
        owner = c.in_ok-owner.owner;
        owner_is =
            subst (IsClassAt second.pool c.in_ok-owner.owner) name_is
            (class-later first.pool second.pool c.in_ok-owner.owner _ grown.pool.kept c.in_ok-owner.ensures.there);
        method_is =
            subst (λ s. IsMethodAt second.pool s c.in_ok-owner.owner (method_name c.args.kind) nothing) (sym at)
            (subst (λ name. IsMethodAt second.pool slot c.in_ok-owner.owner name nothing) c.method.ensures c.in_ok-slot.ensures.there);
      };
      kept =
          subst (BeginsWith c.args.slots.now.items) (sym pushed) (begins-more c.args.slots.now.items filled slot c.in_ok-fill_up.ensures.kept);
      count = more;
      grown =
          names-more start first second (OfClass of ∷ []) (method_mention of called nothing ∷ [])
          (names-slots start first 2 (OfClass of ∷ []) c.in_ok-owner.ensures.grown owner_named)
          (names-slots first second 4 (method_mention of called nothing ∷ []) grown method_named);
      few = omega (arith, c.in_ok-owner.ensures.grown.pool.few, grown.pool.few);
    }

pub class_reference-requires-clause-name : goal.class_reference-requires-clause-name
class_reference-requires-clause-name c =
    subst (λ name. can_name_class name ≡ true) (sym c.as_str.ensures.value) (own-named (string_bytes c.in_ok-other.other) c.in_ok-other.ensures.own)

pub method_reference-requires-clause-room : goal.method_reference-requires-clause-room
method_reference-requires-clause-room c = omega (arith, c.requires.room, c.in_ok-owner.ensures.grown.pool.few)

pub method_reference-requires-clause-owner : goal.method_reference-requires-clause-owner
method_reference-requires-clause-owner c = class-there c.class_reference.new.class.pool c.in_ok-owner.owner _ c.in_ok-owner.ensures.there

pub method_reference-requires-clause-name : goal.method_reference-requires-clause-name
method_reference-requires-clause-name c =
    subst (λ name. can_name_method name nothing ≡ true) (sym c.method.ensures) (called-named c.args.kind)
