use Rattle.std.proofs.Common.{rules}
use Rattle.emit_spans_laws.proofs.SpanCodeLaws.Entering.{other-entered, return-lies, word-entered}
use Rattle.emit_spans_laws.proofs.laws.spans_are_entered.Goals as goal

pub returns-clause-goes : goal.returns-clause-goes
returns-clause-goes c site units leads span lies low =
    let paths = c.code_is_paths.ensures in
    record {
      words = λ k w above below is. word-entered units leads span paths site lies k w low above below is;
      others = λ a w ordered word outside is. (
        other-entered units leads span paths site lies a w ordered low word outside is,
        return-lies units leads span paths site lies,
      );
    }

pub returns-clause-counts : goal.returns-clause-counts
returns-clause-counts c units leads span = record {
  no_reads = search rules;
  no_chars = search rules;
  one_switch = search rules;
  no_entries = λ is_span. search rules;
}
