-- Turns that only move, read no word and write no field, one behind the other.
use Rattle.std.proofs.Common.{◌≡◌, ℕ, ◌+◌, ◌≤◌, Bool, Some, ap, ◌∙◌, arith}
use Rattle.std.specs.List.{sum_by}
use Rattle.std.proofs.lemmas.List.Sums.{sum_by-append}
use Rattle.run_simulation_laws.specs.Trail.{advanced, moved}
use Rattle.run_simulation_laws.proofs.Passing.{advanced_add, moved_add}
use Rattle.jvm_definition.specs.declared.instruction.Instruction.{Instruction}
use Rattle.jvm_definition.specs.Program.{Program}
use Rattle.jvm_definition.specs.Step.{JvmState, jvm_turn}
use Rattle.emit_paths_laws.specs.Classes.{executed, reads, chars, switches, entries, puts}
use Rattle.emit_paths_laws.specs.Paths.{LooksAtNoTarget, Path}
use Rattle.emit_program_laws.specs.Going.{Goes, ComesTo}

-- A total counts no read of a word, no character and no write of a field, and at most so many switches and entries.
pub record Spares (is_span : ℕ → Bool) (most_switches most_entries : ℕ) (total : (Instruction → ℕ) → ℕ) : Type 0 where
  pub no_reads : total reads ≡ 0
  pub no_chars : total chars ≡ 0
  pub no_writes : (f : ℕ) → total (puts f) ≡ 0
  pub few_switches : total switches ≤ most_switches
  pub few_entries : total (entries is_span) ≤ most_entries

-- So many turns that only move lead from one state to another.
pub record Moves (program : Program) (words : ℕ) (is_span : ℕ → Bool) (n most_switches most_entries : ℕ) (x y : JvmState) : Type 0 where
  pub total : (Instruction → ℕ) → ℕ
  pub counts : Spares is_span most_switches most_entries total
  pub comes : advanced (jvm_turn program words) n x ≡ Some y
  pub weighs : (weight : Instruction → ℕ) → LooksAtNoTarget weight → sum_by (executed program weight) (moved (jvm_turn program words) n x) ≤ total weight

-- At most so many lead to a state of which something is said.
pub record Leads (program : Program) (words : ℕ) (is_span : ℕ → Bool) (most most_switches most_entries : ℕ) (Arrives : JvmState → Type 0) (x : JvmState) : Type 0 where
  pub turns : ℕ
  pub in_time : turns ≤ most
  pub after : JvmState
  pub way : Moves program words is_span turns most_switches most_entries x after
  pub arrives : Arrives after

module _ (program : Program) (words : ℕ) (is_span : ℕ → Bool) where
  pub moves-path : (m low high n most_switches most_entries : ℕ) (total : (Instruction → ℕ) → ℕ) (x y : JvmState) → Path program words m low high n total x y → Spares is_span most_switches most_entries total → Moves program words is_span n most_switches most_entries x y
  moves-path m low high n most_switches most_entries total x y path counts =
      record { total = total; counts = counts; comes = path.comes; weighs = path.counts }

  pub moves-on : (n k s e t f : ℕ) (x y z : JvmState) → Moves program words is_span n s e x y → Moves program words is_span k t f y z → Moves program words is_span (n + k) (s + t) (e + f) x z
  moves-on n k s e t f x y z first next =
      let step = jvm_turn program words in
      let a = first.counts in
      let b = next.counts in
      record {
        total = λ weight. first.total weight + next.total weight;
        counts = record {
          no_reads = omega (arith, a.no_reads, b.no_reads);
          no_chars = omega (arith, a.no_chars, b.no_chars);
          no_writes = λ f. let c = a.no_writes f in let d = b.no_writes f in omega (arith, c, d);
          few_switches = omega (arith, a.few_switches, b.few_switches);
          few_entries = omega (arith, a.few_entries, b.few_entries);
        };
        comes = advanced_add step n k x y first.comes ∙ next.comes;
        weighs = λ weight still. let g = executed program weight in let c = first.weighs weight still in let d = next.weighs weight still in let both : sum_by g (moved step (n + k) x) ≡ sum_by g (moved step n x) + sum_by g (moved step k y) = ap (sum_by g) (moved_add step n k x y first.comes) ∙ sum_by-append g (moved step n x) (moved step k y) in omega (arith, c, d, both);
      }

  -- ---- the same, counted as one

  pub goes-so : (n e : ℕ) (x y : JvmState) → Moves program words is_span n e e x y → Goes program words is_span n 0 e x y
  goes-so n e x y way = record {
    total = way.total;
    counts = record {
      few_reads = let a = way.counts.no_reads in omega (arith, a);
      no_chars = way.counts.no_chars;
      few_switches = way.counts.few_switches;
      few_entries = way.counts.few_entries;
    };
    writes_none = way.counts.no_writes;
    comes = way.comes;
    weighs = way.weighs;
  }

  pub moves-so : (n e : ℕ) (x y : JvmState) → Goes program words is_span n 0 e x y → Moves program words is_span n e e x y
  moves-so n e x y way = record {
    total = way.total;
    counts = record {
      no_reads = let a = way.counts.few_reads in omega (arith, a);
      no_chars = way.counts.no_chars;
      no_writes = way.writes_none;
      few_switches = way.counts.few_switches;
      few_entries = way.counts.few_entries;
    };
    comes = way.comes;
    weighs = way.weighs;
  }

  -- ---- to where something holds

  pub leads-then : (n k s e t f : ℕ) (Between Arrives : JvmState → Type 0) (x : JvmState) → Leads program words is_span n s e Between x → ((y : JvmState) → Between y → Leads program words is_span k t f Arrives y) → Leads program words is_span (n + k) (s + t) (e + f) Arrives x
  leads-then n k s e t f Between Arrives x first next =
      let then = next first.after first.arrives in
      record {
        turns = first.turns + then.turns;
        in_time = omega (arith, first.in_time, then.in_time);
        after = then.after;
        way = moves-on first.turns then.turns s e t f x first.after then.after first.way then.way;
        arrives = then.arrives;
      }

  pub leads-so : (n s e : ℕ) (Between Arrives : JvmState → Type 0) (x : JvmState) → ((y : JvmState) → Between y → Arrives y) → Leads program words is_span n s e Between x → Leads program words is_span n s e Arrives x
  leads-so n s e Between Arrives x so leads = record {
    turns = leads.turns;
    in_time = leads.in_time;
    after = leads.after;
    way = leads.way;
    arrives = so leads.after leads.arrives;
  }

  pub leads-sooner : (n most s e : ℕ) (Arrives : JvmState → Type 0) (x : JvmState) → n ≤ most → Leads program words is_span n s e Arrives x → Leads program words is_span most s e Arrives x
  leads-sooner n most s e Arrives x less leads = record {
    turns = leads.turns;
    in_time = omega (arith, less, leads.in_time);
    after = leads.after;
    way = leads.way;
    arrives = leads.arrives;
  }

  pub comes-so : (n most e : ℕ) (Arrives : JvmState → Type 0) (x : JvmState) → n ≤ most → Leads program words is_span n e e Arrives x → ComesTo program words is_span most 0 e Arrives x
  comes-so n most e Arrives x less leads = record {
    turns = leads.turns;
    in_time = omega (arith, less, leads.in_time);
    after = leads.after;
    goes = goes-so leads.turns e x leads.after leads.way;
    arrives = leads.arrives;
  }

  -- and on from there
  pub comes-then : (n k : ℕ) (Between Arrives : JvmState → Type 0) (x : JvmState) → ComesTo program words is_span n 0 0 Between x → ((y : JvmState) → Between y → ComesTo program words is_span k 0 0 Arrives y) → ComesTo program words is_span (n + k) 0 0 Arrives x
  comes-then n k Between Arrives x first next =
      let then = next first.after first.arrives in
      record {
        turns = first.turns + then.turns;
        in_time = omega (arith, first.in_time, then.in_time);
        after = then.after;
        goes = goes-so (first.turns + then.turns) 0 x then.after
            (moves-on first.turns then.turns 0 0 0 0 x first.after then.after (moves-so first.turns 0 x first.after first.goes) (moves-so then.turns 0 first.after then.after then.goes));
        arrives = then.arrives;
      }
