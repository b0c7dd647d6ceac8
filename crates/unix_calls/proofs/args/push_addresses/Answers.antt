use Rattle.std.proofs.Common.{◌≡◌, ◌+◌, ◌*◌, ◌++◌, ◌∷◌, [], ◌<◌, List, ℕ, length, drop, get_or, arith, length-append, ap, ◌∙◌}
use Rattle.unix_definition.specs.Asked.{word_in_order, words_in_order, addresses}
use Rattle.unix_calls.proofs.ArgsLemmas.{addresses-put, addresses-end, texts-longer, length-word}
use Rattle.unix_calls.proofs.args.push_addresses.Goals as goal

pub overflow_cast-at : goal.overflow_cast-at
overflow_cast-at c =
    let texts = c.args.texts.now.items in
    let i = c.loop-text.text-index in
    let text : List ℕ = c.text-item.result in
    let items : c.deref-text-items.result.now ≡ texts = c.deref-text-items.ensures.value in
    let item : text ≡ get_or texts i text = c.text-item.is ∙ ap (λ l. get_or l i text) items in
    let h : i < length texts = omega (arith, c.loop-text-test.true, ap length items) in
    omega (arith, c.loop-text.invariant.at, c.requires.small, c.requires.place, texts-longer texts i text h item)

pub loop-text-preserved : goal.loop-text-preserved
loop-text-preserved c =
    let texts = c.args.texts.now.items in
    let i = c.loop-text.text-index in
    let text : List ℕ = c.text-item.result in
    let items : c.deref-text-items.result.now ≡ texts = c.deref-text-items.ensures.value in
    let item : text ≡ get_or texts i text = c.text-item.is ∙ ap (λ l. get_or l i text) items in
    let h : i < length texts = omega (arith, c.loop-text-test.true, ap length items) in
    let order = c.args.order in
    let long : length c.as_bytes.result.now ≡ length text = ap length c.as_bytes.ensures in
    let next : c.loop-text.at + (length c.as_bytes.result.now + 1) ≡ c.loop-text.at + length text + 1 = omega (arith, long) in
    let to_come : List (List ℕ) = drop (i + 1) texts in
    let all : List ℕ = words_in_order order (addresses (c.args.place + 4 * (length texts + 1)) texts ++ 0 ∷ []) in
    record {
      so_far = ap (λ a. c.push_word.new.self ++ words_in_order order (addresses a to_come ++ 0 ∷ [])) next
          ∙ addresses-put order c.loop-text.block c.push_word.new.self all texts c.loop-text.at i text h item c.loop-text.invariant.so_far c.push_word.ensures;
      long = omega (arith, ap length c.push_word.ensures, length-append c.loop-text.block (word_in_order order c.loop-text.at), length-word order c.loop-text.at, c.loop-text.invariant.long);
      at = omega (arith, long, c.loop-text.invariant.at, texts-longer texts i text h item);
    }

pub returns-clause-block : goal.returns-clause-block
returns-clause-block c =
    let texts = c.args.texts.now.items in
    let items : c.deref-text-items.result.now ≡ texts = c.deref-text-items.ensures.value in
    addresses-end c.args.order c.loop-text.block c.push_word-2.new.self (words_in_order c.args.order (addresses (c.args.place + 4 * (length texts + 1)) texts ++ 0 ∷ [])) texts c.loop-text.at c.loop-text.text-index (omega (arith, c.loop-text-test.false, ap length items)) c.loop-text.invariant.so_far c.push_word-2.ensures

pub returns-clause-len : goal.returns-clause-len
returns-clause-len c =
    let texts = c.args.texts.now.items in
    let items : c.deref-text-items.result.now ≡ texts = c.deref-text-items.ensures.value in
    omega (arith, ap length c.push_word-2.ensures, length-append c.loop-text.block (word_in_order c.args.order 0), length-word c.args.order 0, c.loop-text.invariant.long, c.loop-text-test.false, ap length items, c.loop-text.auto.text-index-end)
