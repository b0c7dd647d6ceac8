use Rattle.std.proofs.Common.{◌≡◌, ◌+◌, ◌*◌, ◌++◌, ◌∷◌, [], drop, length}
use Rattle.unix_definition.specs.Asked.{words_in_order, addresses, texts_with_zeros}
use Rattle.unix_calls.proofs.args.push_addresses.Given as goal

abbrev pub invariant-loop-text : goal.invariant-loop-text
invariant-loop-text l = record {
  so_far : l.block ++ words_in_order l.order (addresses l.at (drop l.text-index l.texts.items) ++ 0 ∷ []) ≡ words_in_order l.order (addresses (l.place + 4 * (length l.texts.items + 1)) l.texts.items ++ 0 ∷ []);
  long : length l.block ≡ 4 * l.text-index;
  at : l.at + length (texts_with_zeros (drop l.text-index l.texts.items)) ≡ l.place + 4 * (length l.texts.items + 1) + length (texts_with_zeros l.texts.items);
}
