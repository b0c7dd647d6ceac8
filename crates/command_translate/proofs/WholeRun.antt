-- The run of the program from its first block on to its exit.
use Rattle.std.proofs.Common.{◌≡◌, ℕ, zero, suc, ◌+◌, ◌*◌, ◌<◌, ◌≤◌, slice_index, pos, Option, Some, None, ap, ◌∙◌, arith}
use Rattle.run_definition.specs.Answer.{Answer}
use Rattle.run_definition.specs.Question.{Question}
use Rattle.run_definition.specs.Run.{run_of}
use Rattle.run_definition.specs.declared.outcome.Outcome.TheVariants.{Exited}
use Rattle.mips_definition.specs.State.{State}
use Rattle.mips_definition.specs.Step.{turn}
use Rattle.command_translate.specs.MadeWords.{made_words, place, successor}
use Rattle.command_translate.proofs.BlockPlaces.{left_all, left_from, made_block, made_end, none_left, number_is_word, number_of, one_less, some_left}
use Rattle.command_translate.proofs.BlockTurns.{at_end, stands, through_block}
use Rattle.command_translate.proofs.PlainWords.{place_is_word, successor_within}

module _ {K : Type 0} (reply : K → Question → Option (Answer × K)) (base : State) (count : ℕ) (few : count ≤ 65536)
    (code : (j at : ℕ) → j < 6 * count + 3 → at ≡ 0x00400000 + 4 * j → base.code at ≡ Some (slice_index (made_words count) j)) where
  -- through all blocks that are left
  to_end : (left number : ℕ) (r : ℕ → ℕ) (n : ℕ) (k : K) → number ≤ count → left_from count number ≡ left
      → (r' : ℕ → ℕ) × (run_of turn reply (5 * left + n) (stands base r (place number) None) k ≡ run_of turn reply n (stands base r' (place count) None) k)
  to_end zero number r n k le is =
      let last : number ≡ count = none_left count number le is in
      let steps : 5 * 0 + n ≡ n = omega arith in
      (r, λ i. run_of turn reply (steps i) (stands base r (place (last i)) None) k)
  to_end (suc left) number r n k le is =
      let lt : number < count = some_left count number left is le in
      let behind = successor count number in
      let steps : 5 * suc left + n ≡ suc (suc (suc (suc (suc (5 * left + n))))) = omega arith in
      let block = through_block reply base (place number) (place behind) (number_of count number) r (5 * left + n) k
      (omega arith) (omega (arith, lt, few)) (place_is_word count number few) (number_is_word count number (omega (arith, few)))
      (λ i at within there. code (6 * number + i) at (omega (arith, within, lt)) (omega (arith, there))
      ∙ ap Some (made_block count number i lt (omega (arith, within)))) in
      let rest = to_end left behind block.0 n k (successor_within count number) (one_less count number left lt is) in
      (rest.0, ap (λ m. run_of turn reply m (stands base r (place number) None) k) steps ∙ block.1 ∙ rest.1)

  pub exits : (r : ℕ → ℕ) (k : K)
      → (status : ℕ) × (status ≤ 127) × ((run_of turn reply (5 * count + 3) (stands base r 0x00400000 None) k).outcome ≡ Exited (pos status))
  exits r k =
      let way = to_end count 0 r 3 k (omega arith) (left_all count) in
      let end = at_end reply base (place count) way.0 k (omega arith) (omega (arith, few))
      (λ i at within there. code (6 * count + i) at (omega (arith, within)) (omega (arith, there)) ∙ ap Some (made_end count i)) in
      (end.0, end.1, ap (λ run. run.outcome) way.1 ∙ end.2)
