use Rattle.std.proofs.Common.{rules, ◌<◌, ◌^◌, length}
use Rattle.std.proofs.lemmas.Result.{on_ok_weaker}
use Rattle.jvm_code.proofs.WritingLemmas.{few_pairs_of, lookup_spelled}
use Rattle.jvm_code.proofs.switch_writing.append_lookup_switch.Goals as goal

pub overflow_cast-pairs : goal.overflow_cast-pairs
overflow_cast-pairs c =
    let few : length c.as_slice-pairs.result.now < 2 ^ 32 = few_pairs_of c.args.at c.args.switch.now c.as_slice-pairs.result.now c.as_slice-pairs.ensures c.requires.fits in
    search rules

pub returns : goal.returns
returns c =
    on_ok_weaker c.append_pairs.result
    (lookup_spelled c.args.at c.args.switch.now c.as_slice-pairs.result.now c.args.code.now.items c.append_padding.new.code.items c.append_wide.new.code.items c.append_word.new.code.items _
    c.as_slice-pairs.ensures c.in_ok-append_padding.ensures c.in_ok-append_wide.ensures c.in_ok-append_word.ensures)
    c.append_pairs.ensures
