use Rattle.class_names.proofs.FaultLemmas.{knows_of}
use Rattle.class_names.proofs.names.Names.new.Goals as goal

pub invariant_of-result : goal.invariant_of-result
invariant_of-result c =
    let n = c.args.numbered in
    record {
      knows =
          knows_of n.texts.keys n.texts_are n.classes.items n.numbered c.requires.once c.in_ok-found.found.class_names.keys c.in_ok-found.found.fields c.in_ok-found.found.methods
          c.as_slice.result.now c.as_slice.result.now c.as_slice.result.now c.as_slice.ensures.value c.as_slice.ensures.value c.as_slice.ensures.value
          c.in_ok-found.ensures.names c.in_ok-found.ensures.fields c.in_ok-found.ensures.methods;
    }
