use Rattle.std.proofs.Common.{◌≡◌, refl, sym, ap, subst, ◌∙◌, List, ℕ}
use Rattle.class_definition.specs.Code.{Lines}
use Rattle.stackmap_prune.specs.Code.{is_listed, pruned_lines, has_dead, raised, KeepsTargets}
use Rattle.stackmap_prune.specs.Linked.{is_marked}
use Rattle.stackmap_prune.specs.Pruned.{return_of}
use Rattle.stackmap_prune.proofs.pruning.pruned_method.Goals as goal

pub pruned_bytes-requires-clause-are : goal.pruned_bytes-requires-clause-are
pruned_bytes-requires-clause-are c = subst (λ (code : List ℕ). Lines code c.in-Ok.lines.items) c.as_slice.ensures c.in-Ok.ensures.lines

pub pruned_bytes-requires-clause-closed : goal.pruned_bytes-requires-clause-closed
pruned_bytes-requires-clause-closed c =
    let lines = c.in-Ok.lines.items in
    let kept : is_marked c.deref-3.result.now ≡ is_listed c.args.reached.now = λ i at. (ap (λ ms. is_marked ms at) c.deref-3.ensures.value ∙ c.in_ok-marks.ensures at) i in
    subst (λ k. KeepsTargets k lines) (sym kept) (c.requires.closed lines (subst (λ (code : List ℕ). Lines code lines) c.as_slice.ensures c.in-Ok.ensures.lines))

pub returns-clause-pruned : goal.returns-clause-pruned
returns-clause-pruned c =
    let lines = c.in-Ok.lines.items in
    let name = return_of c.args.gives_int in
    let kept : is_marked c.in_ok-marks.marks.items ≡ is_listed c.args.reached.now = λ i at. c.in_ok-marks.ensures at i in
    let code : Lines c.in_ok-code.code.items (pruned_lines (is_listed c.args.reached.now) name lines) =
    subst (λ k. Lines c.in_ok-code.code.items (pruned_lines k name lines)) (ap is_marked c.deref-3.ensures.value ∙ kept) c.in_ok-code.ensures.lines in
    record {
      lines = lines;
      are = subst (λ (code : List ℕ). Lines code lines) c.as_slice.ensures c.in-Ok.ensures.lines;
      pruned_are = subst (λ (code : List ℕ). Lines code (pruned_lines (is_listed c.args.reached.now) name lines)) (sym c.new.ensures) code;
      stack = c.raised.ensures ∙ ap (λ d. raised c.args.gives_int d c.args.method.now.stack) (c.has_dead-dead.ensures ∙ (ap (λ ms. has_dead (is_marked ms) c.deref.result.now) c.deref-2.ensures.value ∙ (ap (λ k. has_dead k c.deref.result.now) kept ∙ ap (has_dead (is_listed c.args.reached.now)) c.deref.ensures.value)));
      name = refl;
      desc = refl;
      attr = refl;
      locals = refl;
    }
