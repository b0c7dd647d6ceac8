use Rattle.emit_methods_laws.proofs.NamedCode.Steps.{fields-more}
use Rattle.emit_methods_laws.proofs.named_code.more_fields_may_be_named.Goals as goal

pub returns : goal.returns
returns c fields more calls class gives code few is = fields-more fields more few calls class gives code is
