use Rattle.std.proofs.Common.{◌≡◌, Vec, Global, sym, ap, subst, ◌∙◌, List, ℕ}
use Rattle.std.proofs.lemmas.Result.{IfOk-weaker}
use Rattle.class_definition.specs.Code.{Lines}
use Rattle.jvm_code.specs.Writing.{AreCode}
use Rattle.stackmap_prune.specs.Code.{pruned_lines}
use Rattle.stackmap_prune.specs.Linked.{is_marked}
use Rattle.stackmap_prune.specs.Pruned.{return_of}
use Rattle.stackmap_prune.proofs.CodeLaws.{pruned-code, none-dead}
use Rattle.stackmap_prune.proofs.pruning.pruned_bytes.Goals as goal

pub encode_ops-requires : goal.encode_ops-requires
encode_ops-requires c =
    let kept = is_marked c.args.marks.now in
    let lines = c.args.lines.items in
    subst AreCode
    (sym (c.deref.ensures.value ∙ (c.in_ok-pruned.ensures ∙ ap (λ n. pruned_lines kept n lines) c.return_of.ensures)))
    (pruned-code kept (return_of c.args.gives_int) lines c.requires.code c.requires.closed)

pub returns-then-not-dead-clause-lines : goal.returns-then-not-dead-clause-lines
returns-then-not-dead-clause-lines c =
    let kept = is_marked c.args.marks.now in
    let lines = c.args.lines.items in
    let name = return_of c.args.gives_int in
    let same : pruned_lines kept name lines ≡ lines = none-dead kept name lines (sym c.requires.dead ∙ c.if-not-dead.true) in
    IfOk-weaker c.from_slice.result (λ (v : Vec ℕ Global). v.items ≡ c.as_slice.result.now) (λ (v : Vec ℕ Global). Lines v.items (pruned_lines kept name lines))
    (λ v is. subst (Lines v.items) (sym same) (subst (λ (code : List ℕ). Lines code lines) (sym (is ∙ c.as_slice.ensures)) c.requires.are))
    c.from_slice.ensures.items
