use Rattle.std.proofs.Common.{◌≡◌, true, false, sym, ap, subst, ◌∙◌, get_or, Some, None}
use Rattle.std.specs.Prelude.{option_map, IsTrue, ◌↔◌, slice_get}
use Rattle.std.proofs.lemmas.Option.{get_or_from_slice_get}
use Rattle.jvm_definition.specs.declared.linked_method.LinkedMethod.{LinkedMethod}
use Rattle.jvm_type_inference.specs.Actions.{program_over}
use Rattle.jvm_type_inference.specs.Frames.{frame_at}
use Rattle.stackmap_table.specs.Meaning.{frames_of}
use Rattle.frame_maps.specs.Framed.{Framed}
use Rattle.frame_maps.specs.Checked.{IsResult}
use Rattle.frame_maps.proofs.CheckLaws.{not-framed, result-of}
use Rattle.frame_maps.proofs.checking.fault_of.Goals as goal

pub returns-in_default-2 : goal.returns-in_default-2
returns-in_default-2 c method is =
    let a = c.args in
    let p = program_over a.methods.now in
    let m = c.index-methods-number.result in
    let same : m ≡ method = c.index-methods-number.is ∙ get_or_from_slice_get a.methods.now a.number method m is in
    let listed : frames_of a.pool.now m a.table.now ≡ Some c.in-Some.listed.items = sym c.in_ok-listed.ensures ∙ ap (option_map (λ v. v.items)) c.in-Some.is in
    let none = rw c.in_default-2.is at c.in_ok-frames.ensures in
    subst (λ x. IsResult p a.pool.now x a.table.now (Some 2)) same (not-framed p a.pool.now m a.table.now c.in-Some.listed.items listed (none p))

pub returns-then-branch : goal.returns-then-branch
returns-then-branch c method is =
    let a = c.args in
    let p = program_over a.methods.now in
    let m = c.index-methods-number.result in
    let same : m ≡ method = c.index-methods-number.is ∙ get_or_from_slice_get a.methods.now a.number method m is in
    let listed : frames_of a.pool.now m a.table.now ≡ Some c.in-Some.listed.items = sym c.in_ok-listed.ensures ∙ ap (option_map (λ v. v.items)) c.in-Some.is in
    let placed = rw c.in-Some-2.is at c.in_ok-frames.ensures in
    let frames = c.in-Some-2.frames.items in
    let exactly = subst (λ fs. IsTrue c.in_ok-is_framed.field-0 ↔ Framed p m (frame_at fs)) c.deref.ensures.value c.in_ok-is_framed.ensures in
    let passes = subst (λ b. IsTrue b ↔ Framed p m (frame_at frames)) c.if-branch.true exactly in
    subst (λ x. IsResult p a.pool.now x a.table.now None) same (result-of p a.pool.now m a.table.now c.in-Some.listed.items listed true (frame_at frames) placed passes)

pub returns : goal.returns
returns c method is =
    let a = c.args in
    let p = program_over a.methods.now in
    let m = c.index-methods-number.result in
    let same : m ≡ method = c.index-methods-number.is ∙ get_or_from_slice_get a.methods.now a.number method m is in
    let listed : frames_of a.pool.now m a.table.now ≡ Some c.in-Some.listed.items = sym c.in_ok-listed.ensures ∙ ap (option_map (λ v. v.items)) c.in-Some.is in
    let placed = rw c.in-Some-2.is at c.in_ok-frames.ensures in
    let frames = c.in-Some-2.frames.items in
    let exactly = subst (λ fs. IsTrue c.in_ok-is_framed.field-0 ↔ Framed p m (frame_at fs)) c.deref.ensures.value c.in_ok-is_framed.ensures in
    let fails = subst (λ b. IsTrue b ↔ Framed p m (frame_at frames)) c.if-branch.false exactly in
    subst (λ x. IsResult p a.pool.now x a.table.now (Some 2)) same (result-of p a.pool.now m a.table.now c.in-Some.listed.items listed false (frame_at frames) placed fails)
