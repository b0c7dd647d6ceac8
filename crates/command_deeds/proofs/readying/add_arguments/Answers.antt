use Rattle.std.proofs.Common.{◌≡◌, ◌+◌, ◌∷◌, [], Ok, Err, map, length, arith, subst}
use Rattle.std.specs.Prelude.{string_bytes}
use Rattle.std.proofs.lemmas.Result.{err_from_is_err_and}
use Rattle.command_deeds.specs.Readying.{AddsArgs}
use Rattle.command_deeds.proofs.ReadyLemmas.{args_known, args_more, args_stopped, texts_whole}
use Rattle.command_deeds.proofs.readying.add_arguments.Goals as goal

pub returns-in_err-add_argument : goal.returns-in_err-add_argument
returns-in_err-add_argument c =
    let p = err_from_is_err_and c.from_residual.result c.from_residual.ensures.1 in
    rw (p.1, p.2) (record {
      adds = args_known (c.args.name.now ∷ []) (map string_bytes c.args.texts.now) c.args.unix.now c.add_argument.new.unix
          c.in_err-add_argument.field-0.0 c.in_err-add_argument.ensures.adds;
    })

pub loop-text-preserved : goal.loop-text-preserved
loop-text-preserved c =
    args_more c.args.name.now c.args.texts.now c.loop-text.text-index c.text-item.result c.as_str.result.now c.args.unix.now c.loop-text.unix
    c.add_argument-in-loop-text.new.unix tt (Ok tt)
    c.loop-text-test.true c.text-item.is c.as_str.ensures.value c.loop-text.invariant c.in_ok-add_argument-2.ensures.adds

pub returns-in_err-add_argument-2 : goal.returns-in_err-add_argument-2
returns-in_err-add_argument-2 c =
    let p = err_from_is_err_and c.from_residual-in_err-add_argument-2.result c.from_residual-in_err-add_argument-2.ensures.1 in
    let h = c.in_err-add_argument-2.field-0.0 in
    rw (p.1, p.2) (record {
      adds = args_stopped c.args.name.now c.args.texts.now (c.loop-text.text-index + 1) c.args.unix.now c.add_argument-in-loop-text.new.unix h
          (args_more c.args.name.now c.args.texts.now c.loop-text.text-index c.text-item.result c.as_str.result.now c.args.unix.now c.loop-text.unix
          c.add_argument-in-loop-text.new.unix tt (Err h)
          c.loop-text-test.true c.text-item.is c.as_str.ensures.value c.loop-text.invariant c.in_err-add_argument-2.ensures.adds);
    })

pub returns : goal.returns
returns c =
    let n : c.loop-text.text-index ≡ length c.args.texts.now = omega arith in
    record {
      adds = subst (λ ts. AddsArgs (c.args.name.now ∷ ts) c.args.unix.now c.loop-text.unix (Ok tt))
          (texts_whole c.args.texts.now c.loop-text.text-index n) c.loop-text.invariant;
    }
