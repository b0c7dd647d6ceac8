use Rattle.std.proofs.Common.{◌<◌, ap, subst, ◌∙◌, length, Ok, List}
use Rattle.std.specs.Prelude.{codes}
use Rattle.class_definition.specs.declared.entry.Entry.{Entry}
use Rattle.stackmap_pool.specs.Longer.{with_text, with_class_entry}
use Rattle.stackmap_pool.proofs.PoolLaws.{first-many, second-many, third-is}
use Rattle.stackmap_pool.proofs.growing.framed_pool.Goals as goal

pub returns-then-not-branch : goal.returns-then-not-branch
returns-then-not-branch c =
    let old = c.args.pool.now in
    let one = c.in_ok-push_text.ensures ∙ ap (with_text (codes "StackMapTable")) c.in_ok-longer.ensures in
    first-many old (subst (λ (p : List Entry). 65534 < length (with_class_entry (codes "[I") p)) one (c.in_ok-push_class.ensures.many (ap Ok c.if-not-branch.true)))

pub returns-then-not-branch-2 : goal.returns-then-not-branch-2
returns-then-not-branch-2 c =
    let old = c.args.pool.now in
    let one = c.in_ok-push_text.ensures ∙ ap (with_text (codes "StackMapTable")) c.in_ok-longer.ensures in
    let two = (c.in_ok-push_class.ensures.few (ap Ok c.if-not-branch.false)).0 ∙ ap (with_class_entry (codes "[I")) one in
    second-many old (subst (λ (p : List Entry). 65534 < length (with_class_entry (codes "[[I") p)) two (c.in_ok-push_class-2.ensures.many (ap Ok c.if-not-branch-2.true)))

pub returns-then-not-branch-3 : goal.returns-then-not-branch-3
returns-then-not-branch-3 c =
    let old = c.args.pool.now in
    let one = c.in_ok-push_text.ensures ∙ ap (with_text (codes "StackMapTable")) c.in_ok-longer.ensures in
    let two = (c.in_ok-push_class.ensures.few (ap Ok c.if-not-branch.false)).0 ∙ ap (with_class_entry (codes "[I")) one in
    let three = (c.in_ok-push_class-2.ensures.few (ap Ok c.if-not-branch-2.false)).0 ∙ ap (with_class_entry (codes "[[I")) two in
    subst (λ (p : List Entry). 65534 < length p) (third-is old) (subst (λ (p : List Entry). 65534 < length (with_class_entry (codes "java/lang/String") p)) three (c.in_ok-push_class-3.ensures.many (ap Ok c.if-not-branch-3.true)))

pub returns : goal.returns
returns c =
    let old = c.args.pool.now in
    let one = c.in_ok-push_text.ensures ∙ ap (with_text (codes "StackMapTable")) c.in_ok-longer.ensures in
    let two = (c.in_ok-push_class.ensures.few (ap Ok c.if-not-branch.false)).0 ∙ ap (with_class_entry (codes "[I")) one in
    let three = (c.in_ok-push_class-2.ensures.few (ap Ok c.if-not-branch-2.false)).0 ∙ ap (with_class_entry (codes "[[I")) two in
    let last = c.in_ok-push_class-3.ensures.few (ap Ok c.if-not-branch-3.false) in
    (last.0 ∙ (ap (with_class_entry (codes "java/lang/String")) three ∙ third-is old), last.1)
