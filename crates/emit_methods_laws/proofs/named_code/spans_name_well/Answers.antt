use Rattle.emit_methods_laws.proofs.NamedCode.Spans.{warm, alone, cold, span-well}
use Rattle.emit_methods_laws.proofs.named_code.spans_name_well.Goals as goal

pub returns-clause-pieces : goal.returns-clause-pieces
returns-clause-pieces c class k units leads span all = warm class units leads span all k

pub returns-clause-units : goal.returns-clause-units
returns-clause-units c class k units leads span all = alone class units leads span all k

pub returns-clause-words : goal.returns-clause-words
returns-clause-words c class k units leads span all = cold class units leads span all k

pub returns-clause-method : goal.returns-clause-method
returns-clause-method c class units leads span all = span-well class units leads span all
