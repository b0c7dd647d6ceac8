use Rattle.translate_classes_laws.proofs.NamedCode.Known.{code-known}
use Rattle.translate_classes_laws.proofs.named_code.named_code_is_known.Goals as goal

pub returns : goal.returns
returns c fields r classes number d calls gives code meant called is = code-known fields r classes number d calls gives meant called code is
