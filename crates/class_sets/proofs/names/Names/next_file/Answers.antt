use Rattle.std.proofs.Common.{◌∙◌, ◌+◌, false, refl, sym, subst, arith}
use Rattle.class_sets.specs.Waiting.{texts, queue}
use Rattle.class_sets.proofs.FoundLemmas.{SkipsTo, asked_over, gives_none, gives_some, same_still, skips_more, skips_none}
use Rattle.class_sets.proofs.QueueLemmas.{once_more, text_at}
use Rattle.class_sets.proofs.names.Names.next_file.Goals as goal
use Rattle.nv_outside.proofs.FilesLemmas.{same_then_same}

pub invariant_of-self-then-is_some : goal.invariant_of-self-then-is_some
invariant_of-self-then-is_some g c =
    let keys = c.loop-self.self-inside.names.keys in
    let i = c.loop-self.self-inside.asked in
    (omega arith, (once_more (texts keys) i _ (text_at keys i c.index.result.now c.index.ensures) c.loop-self.invariant.once).1)

pub loop-self-init : goal.loop-self-init
loop-self-init g c =
    let q = queue c.self.inside.asked (texts c.self.inside.names.keys) in
    record {
      within = c.self.invariant.0;
      once = c.self.invariant.1;
      same = same_still (g.H.Shelf.files c.args.shelf.now);
      faults = refl;
      skipped = λ told before same agree. subst (λ o. SkipsTo told before o q) c.self.view_is (skips_none told before q agree);
    }

pub returns-then-is_some-clause-found : goal.returns-then-is_some-clause-found
returns-then-is_some-clause-found g c = λ told before same agree.
    let keys = c.loop-self.self-inside.names.keys in
    let i = c.loop-self.self-inside.asked in
    let now = g.H.Shelf.files c.loop-self.shelf in
    gives_some told before c.args.self.now (queue (i + 1) (texts keys)) c.in_ok-found.found (sym c.is_some.ensures ∙ c.if-is_some.true)
    (asked_over told now before c.args.self.now keys i c.index.result.now c.as_str-name.result.now c.in_ok-found.found
    (same_then_same told (g.H.Shelf.files c.args.shelf.now) now same c.loop-self.invariant.same) c.in_ok-found.ensures.found
    c.as_str-name.ensures.value c.index.ensures c.loop-self.invariant.once (c.loop-self.invariant.skipped told before same agree))

pub returns-then-is_some-clause-once : goal.returns-then-is_some-clause-once
returns-then-is_some-clause-once g c =
    let keys = c.loop-self.self-inside.names.keys in
    let i = c.loop-self.self-inside.asked in
    (once_more (texts keys) i _ (text_at keys i c.index.result.now c.index.ensures) c.loop-self.invariant.once).1

pub loop-self-preserved : goal.loop-self-preserved
loop-self-preserved g c =
    let keys = c.loop-self.self-inside.names.keys in
    let i = c.loop-self.self-inside.asked in
    record {
      within = omega arith;
      once = (once_more (texts keys) i _ (text_at keys i c.index.result.now c.index.ensures) c.loop-self.invariant.once).1;
      same = same_then_same (g.H.Shelf.files c.args.shelf.now) (g.H.Shelf.files c.loop-self.shelf) (g.H.Shelf.files c.load_file.new.shelf) c.loop-self.invariant.same c.load_file.ensures.same;
      faults = c.in_ok-found.ensures.count.stays (refl {a = false}) ∙ c.loop-self.invariant.faults;
      skipped = λ told before same agree.
          let now = g.H.Shelf.files c.loop-self.shelf in
          skips_more told before c.args.self.now (queue (i + 1) (texts keys)) c.in_ok-found.found (sym c.is_some.ensures ∙ c.if-is_some.false)
          (asked_over told now before c.args.self.now keys i c.index.result.now c.as_str-name.result.now c.in_ok-found.found
          (same_then_same told (g.H.Shelf.files c.args.shelf.now) now same c.loop-self.invariant.same) c.in_ok-found.ensures.found
          c.as_str-name.ensures.value c.index.ensures c.loop-self.invariant.once (c.loop-self.invariant.skipped told before same agree));
    }

pub returns-clause-found : goal.returns-clause-found
returns-clause-found g c = λ told before same agree.
    gives_none told before c.args.self.now c.loop-self.self-inside.names.keys c.loop-self.self-inside.asked (omega arith)
    (c.loop-self.invariant.skipped told before same agree)
