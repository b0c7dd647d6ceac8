use Rattle.std.proofs.Common.{◌∙◌, ◌++◌, ap, refl, sym, append-nil}
use Rattle.class_sets.specs.ClassSets.{asked_in}
use Rattle.class_sets.specs.Waiting.{fresh}
use Rattle.class_sets.proofs.AskedLemmas.{none_asked}
use Rattle.class_sets.proofs.EntryLemmas.{kept_entry}
use Rattle.class_sets.proofs.QueueLemmas.{entry_added}
use Rattle.class_sets.proofs.names.Names.add.Goals as goal

pub add_entry-requires-clause-sound : goal.add_entry-requires-clause-sound
add_entry-requires-clause-sound c = kept_entry c.args.class.now c.as_slice-pool.result.now c.loop-entry.entry-index c.entry-item.result c.requires c.as_slice-pool.ensures c.loop-entry-test.true c.entry-item.is

pub loop-entry-init : goal.loop-entry-init
loop-entry-init c = record {
  stays = refl;
  added = sym (append-nil c.args.self.now.waiting);
  seen = none_asked c.as_slice-pool.result.now c.new-seen.result.keys c.args.self.now c.new-seen.ensures.empty;
}

pub loop-entry-preserved : goal.loop-entry-preserved
loop-entry-preserved c =
    let pool = c.as_slice-pool.result.now in
    let old = c.args.self.now in
    let mid = c.loop-entry.self in
    let names = asked_in pool c.entry-item.result in
    let made = c.in_ok-add_entry.ensures in
    record {
      stays = made.asked ∙ c.loop-entry.invariant.stays;
      added =
          entry_added pool c.loop-entry.entry-index c.entry-item.result old.asked old.waiting mid.waiting c.add_entry.new.self.waiting names
          c.loop-entry-test.true c.entry-item.is refl c.loop-entry.invariant.added
          (made.waiting ∙ ap (λ a. mid.waiting ++ fresh (a ++ mid.waiting) names) c.loop-entry.invariant.stays);
      seen = made.seen;
    }
