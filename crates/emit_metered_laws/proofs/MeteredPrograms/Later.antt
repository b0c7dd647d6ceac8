-- Turns that only move may come first.
use Rattle.std.proofs.Common.{◌≡◌, ℕ, ◌+◌, ◌≤◌, Some, inl, inr, ◌∙◌, arith}
use Rattle.run_simulation_laws.specs.Trail.{advanced}
use Rattle.run_simulation_laws.proofs.Passing.{advanced_add}
use Rattle.mips_definition.specs.State as guest
use Rattle.jvm_definition.specs.Program.{Program}
use Rattle.jvm_definition.specs.Step.{JvmState, jvm_turn}
use Rattle.emit_metered_laws.specs.Spending.{Pays, PaysOrSpends, Spends}

module _ (program : Program) (words : ℕ) (Rests : ℕ → guest.State → JvmState → Type 0) (n most wider left : ℕ) (t : guest.State) (y z : JvmState) (within : n + most ≤ wider) (moving : advanced (jvm_turn program words) n y ≡ Some z) where
  pub pays-later : Pays program words Rests most left t z → Pays program words Rests wider left t y
  pays-later p =
      let few = p.first_few in
      record {
        first = n + p.first;
        first_few = omega (arith, few, within);
        there = p.there;
        comes = advanced_add (jvm_turn program words) n p.first y z moving ∙ p.comes;
        remain = p.remain;
        follows = p.follows;
        taken_off = p.taken_off;
      }

  spends-later : Spends program words most left t z → Spends program words wider left t y
  spends-later s =
      let in_time = s.in_time in
      let sooner = s.no_sooner in
      record {
        turns = n + s.turns;
        in_time = omega (arith, in_time, within);
        before = s.before;
        comes = advanced_add (jvm_turn program words) n s.turns y z moving ∙ s.comes;
        ends_so = s.ends_so;
        holds = s.holds;
        few = s.few;
        guest_at = s.guest_at;
        guest_comes = s.guest_comes;
        same_unit = s.same_unit;
        no_sooner = omega (arith, sooner);
      }

  pub comes-later : PaysOrSpends program words Rests most left t z → PaysOrSpends program words Rests wider left t y
  comes-later (inl p) = inl (pays-later p)
  comes-later (inr s) = inr (spends-later s)
