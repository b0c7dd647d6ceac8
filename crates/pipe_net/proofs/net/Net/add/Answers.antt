use Rattle.std.proofs.Common.{refl, ◌∙◌}
use Rattle.pipe_net.proofs.net.Net.add.Goals as goal

pub returns : goal.returns
returns c = record {
  stage = c.new.result;
  pipe = c.in_ok-new.field-0;
  stages = c.in_ok-push.ensures.items;
  pipes = c.in_ok-push-2.ensures.items;
  is_new = record {
    jvm_is = c.new.ensures.jvm;
    unix_is = c.new.ensures.unix ∙ c.limit_reads.ensures;
    no_errors = c.new.ensures.no_errors;
    no_faults = c.new.ensures.no_faults;
    going = c.new.ensures.going;
  };
  is_empty = c.in_ok-new.ensures.bytes;
  same_c = refl;
  same_bound = refl;
}
