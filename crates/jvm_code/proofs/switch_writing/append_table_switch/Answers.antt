use Rattle.std.proofs.lemmas.Result.{on_ok_weaker}
use Rattle.jvm_code.proofs.WritingLemmas.{last_key_fits, low_again, last_again, table_spelled}
use Rattle.jvm_code.proofs.switch_writing.append_table_switch.Goals as goal

pub last_key-last-requires : goal.last_key-last-requires
last_key-last-requires c = last_key_fits c.args.at c.args.switch.now c.requires.fits

pub returns : goal.returns
returns c =
    on_ok_weaker c.append_targets.result
    (table_spelled c.args.at c.args.switch.now _ _ c.args.code.now.items c.append_padding.new.code.items c.append_wide.new.code.items c.append_signed_word.new.code.items c.append_signed_word-2.new.code.items _
    (low_again c.args.at c.args.switch.now c.requires.fits) (last_again c.args.at c.args.switch.now c.last_key-last.result c.last_key-last.ensures c.requires.fits)
    c.in_ok-append_padding.ensures c.in_ok-append_wide.ensures c.in_ok-append_signed_word.ensures c.in_ok-append_signed_word-2.ensures)
    (rw (← c.as_slice.ensures) c.append_targets.ensures)
