use Rattle.std.proofs.Common.{ℕ, ◌≤◌, Bool, if◌then◌else◌, refl, ap, arith}
use Rattle.std.proofs.lemmas.Bool.{ne_eqb}
use Rattle.emit_paths_laws.specs.Classes.{reads, chars, switches, entries, puts}
use Rattle.emit_spans_laws.specs.Counting.{SparesMoves}
use Rattle.emit_spans_laws.proofs.SpanCodeLaws.Counting.{piece-weighs, word-weighs}
use Rattle.emit_spans_laws.proofs.laws.parts_weigh_their_units.Goals as goal

pub returns-clause-parts : goal.returns-clause-parts
returns-clause-parts c order weight units leads span k spares = record {
  word = λ inner. word-weighs order weight spares units leads span k inner;
  piece = λ begin. piece-weighs order weight spares units leads span k begin;
}

spared-reads : SparesMoves reads
spared-reads = record {
  push = λ constant. refl;
  load = λ kind i. refl;
  store = λ kind i. refl;
  get = λ f kind. refl;
  put = λ f kind below. refl;
  branch = λ name target. refl;
  give_back = λ name. refl;
}

spared-chars : SparesMoves chars
spared-chars = record {
  push = λ constant. refl;
  load = λ kind i. refl;
  store = λ kind i. refl;
  get = λ f kind. refl;
  put = λ f kind below. refl;
  branch = λ name target. refl;
  give_back = λ name. refl;
}

spared-switches : SparesMoves switches
spared-switches = record {
  push = λ constant. refl;
  load = λ kind i. refl;
  store = λ kind i. refl;
  get = λ f kind. refl;
  put = λ f kind below. refl;
  branch = λ name target. refl;
  give_back = λ name. refl;
}

spared-entries : (is_span : ℕ → Bool) → SparesMoves (entries is_span)
spared-entries is_span = record {
  push = λ constant. refl;
  load = λ kind i. refl;
  store = λ kind i. refl;
  get = λ f kind. refl;
  put = λ f kind below. refl;
  branch = λ name target. refl;
  give_back = λ name. refl;
}

spared-puts : (f : ℕ) → 38 ≤ f → SparesMoves (puts f)
spared-puts f above = record {
  push = λ constant. refl;
  load = λ kind i. refl;
  store = λ kind i. refl;
  get = λ g kind. refl;
  put = λ g kind below. ap (λ b. if b then 1 else 0) (ne_eqb g f (omega (arith, above, below)));
  branch = λ name target. refl;
  give_back = λ name. refl;
}

pub returns-clause-spared : goal.returns-clause-spared
returns-clause-spared c = record {
  of_reads = spared-reads;
  of_chars = spared-chars;
  of_switches = spared-switches;
  of_entries = spared-entries;
  of_puts = spared-puts;
}
