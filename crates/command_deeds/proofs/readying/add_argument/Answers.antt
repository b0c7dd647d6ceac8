use Rattle.std.proofs.Common.{◌-◌, ◌^◌}
use Rattle.std.proofs.lemmas.Result.{err_from_is_err_and}
use Rattle.command_deeds.proofs.ReadyLemmas.{argument_added, argument_refused}
use Rattle.command_deeds.proofs.readying.add_argument.Goals as goal

pub returns : goal.returns
returns c = record {
  adds =
      λ blocks moment files args b. argument_added c.args.unix.now c.add_arg.new.self c.args.text.now blocks moment files args c.in_ok-add_arg.ensures.fits b
      (c.in_ok-add_arg.ensures.added (2 ^ 32 - 1) blocks moment files args b);
}

pub returns-in_err-add_arg : goal.returns-in_err-add_arg
returns-in_err-add_arg c =
    let p = err_from_is_err_and c.from_residual.result c.from_residual.ensures.1 in
    rw (p.1, p.2) (record {
      adds = λ blocks moment files args b.
          argument_refused c.in_err-add_arg.field-0.0 c.args.unix.now c.add_arg.new.self c.args.text.now blocks moment files args
          c.in_err-add_arg.ensures.too_long c.in_err-add_arg.ensures.no_file_error b;
    })
