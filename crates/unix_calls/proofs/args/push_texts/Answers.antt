use Rattle.std.proofs.Common.{◌≡◌, ◌++◌, ◌<◌, List, ℕ, length, drop, get_or, arith, length-append, ap, ◌∙◌}
use Rattle.unix_definition.specs.Asked.{texts_with_zeros}
use Rattle.unix_calls.proofs.ArgsLemmas.{texts-put, texts-longer, texts-end}
use Rattle.unix_calls.proofs.args.push_texts.Goals as goal

pub extend-requires : goal.extend-requires
extend-requires c =
    let texts = c.args.texts.now.items in
    let i = c.loop-text.text-index in
    let text : List ℕ = c.text-item.result in
    let items : c.deref-text-items.result.now ≡ texts = c.deref-text-items.ensures.value in
    let item : text ≡ get_or texts i text = c.text-item.is ∙ ap (λ l. get_or l i text) items in
    let h : i < length texts = omega (arith, c.loop-text-test.true, ap length items) in
    let so_far = ap length c.loop-text.invariant.so_far in
    omega (arith, so_far, c.requires, ap length c.as_bytes.ensures, texts-longer texts i text h item, length-append c.loop-text.block (texts_with_zeros (drop i texts)), length-append c.args.block.now (texts_with_zeros texts))

pub push-requires : goal.push-requires
push-requires c =
    let texts = c.args.texts.now.items in
    let i = c.loop-text.text-index in
    let text : List ℕ = c.text-item.result in
    let items : c.deref-text-items.result.now ≡ texts = c.deref-text-items.ensures.value in
    let item : text ≡ get_or texts i text = c.text-item.is ∙ ap (λ l. get_or l i text) items in
    let h : i < length texts = omega (arith, c.loop-text-test.true, ap length items) in
    let so_far = ap length c.loop-text.invariant.so_far in
    omega (arith, so_far, c.requires, ap length c.as_bytes.ensures, ap length c.extend.ensures, length-append c.loop-text.block c.as_bytes.result.now, texts-longer texts i text h item, length-append c.loop-text.block (texts_with_zeros (drop i texts)), length-append c.args.block.now (texts_with_zeros texts))

pub loop-text-preserved : goal.loop-text-preserved
loop-text-preserved c =
    let texts = c.args.texts.now.items in
    let i = c.loop-text.text-index in
    let text : List ℕ = c.text-item.result in
    let items : c.deref-text-items.result.now ≡ texts = c.deref-text-items.ensures.value in
    let item : text ≡ get_or texts i text = c.text-item.is ∙ ap (λ l. get_or l i text) items in
    let h : i < length texts = omega (arith, c.loop-text-test.true, ap length items) in
    record {
      so_far = texts-put c.loop-text.block c.extend.new.self c.push.new.self (c.args.block.now ++ texts_with_zeros texts) texts i text h item c.loop-text.invariant.so_far (c.extend.ensures ∙ ap (λ b. c.loop-text.block ++ b) c.as_bytes.ensures) c.push.ensures;
    }

pub returns : goal.returns
returns c =
    let texts = c.args.texts.now.items in
    texts-end c.loop-text.block (c.args.block.now ++ texts_with_zeros texts) texts c.loop-text.text-index (omega (arith, c.loop-text-test.false)) c.loop-text.invariant.so_far
