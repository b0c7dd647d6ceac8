use Rattle.class_writer.proofs.MethodLemmas.{one_more}
use Rattle.class_writer.proofs.member_writing.append_methods.Goals as goal

pub loop-method-preserved : goal.loop-method-preserved
loop-method-preserved c =
    one_more _ c.loop-method.bytes.items c.append_method.new.bytes.items c.loop-method.rest.now c.in-Some.others.now c.in-Some.method.now
    c.in-Some.ensures.cases.0 c.in_ok-append_method.ensures c.loop-method.invariant.0 c.loop-method.invariant.1
