use Rattle.emit_methods_laws.proofs.NamedCode.Steps.{code-more}
use Rattle.emit_methods_laws.proofs.named_code.more_may_be_called.Goals as goal

pub returns : goal.returns
returns c calls more class gives code also is = code-more calls more class gives also code is
