-- Where no code stands the classes follow the guest with its meter to the end of the run.
use Rattle.std.proofs.Common.{◌≡◌, ℕ, zero, suc, ◌+◌, ◌≤◌, true, List, Option, Some, refl, ap, sym, subst, ◌∙◌, inl, inr, arith}
use Rattle.run_definition.specs.declared.order.Order.{Order}
use Rattle.run_definition.specs.Turn.{End, Turn, ends, «fault»}
use Rattle.run_simulation_laws.specs.Trail.{advanced}
use Rattle.run_simulation_laws.specs.Turns.{Alike, Follows}
use Rattle.mips_definition.specs.State as guest
use Rattle.mips_definition.specs.Step as guest_step
use Rattle.jvm_definition.specs.declared.value.Value.{Value}
use Rattle.jvm_definition.specs.Program.{Program}
use Rattle.jvm_definition.specs.Step.{JvmState, jvm_turn}
use Rattle.meter.specs.Guards.{left_field}
use Rattle.meter_laws.specs.Meters.{HasLeft, spent_fault}
use Rattle.trampoline_laws.specs.Classes.{CodeClass, is_span}
use Rattle.trampoline_laws.specs.Coming.{stray_fault}
use Rattle.trampoline_laws.specs.Programs.{IsTranslated}
use Rattle.emit_program_laws.specs.Choosing.{ComesToMissing}
use Rattle.emit_program_laws.specs.Entered.{IsGuest}
use Rattle.emit_program_laws.specs.Standing.{HoldsAtMissing, IsStray}
use Rattle.emit_metered_laws.specs.Metering.{HasLeftIn, RestsByMeter, spent}
use Rattle.emit_metered_laws.specs.Spending.{Pays, PaysOrSpends, uncounted, unit_limit}
use Rattle.emit_metered_laws.proofs.MeteredPrograms.Given.{BetweenLaws}
use Rattle.emit_metered_laws.proofs.MeteredPrograms.Left.{left-then, left-there}
use Rattle.emit_metered_laws.proofs.MeteredPrograms.Later.{comes-later, pays-later}
use Rattle.emit_metered_laws.proofs.MeteredPrograms.Spending.{at-unit}

-- ---- both end so

module _ (program : Program) (words : ℕ) (Rests : guest.State → JvmState → Type 0) (limit : ℕ → ℕ) (g : guest.State) (j l : JvmState) (n : ℕ) (e : End) (guest_ends : guest_step.turn g ≡ ends e) (comes : advanced (jvm_turn program words) n j ≡ Some l) (ends_so : jvm_turn program words l ≡ ends e) (in_time : n + 1 ≤ limit 1) where
  end-alike : (GoesOn : guest.State → JvmState → Type 0) (Ends : Type 0) (x : Turn guest.State) (y : Turn JvmState) → x ≡ ends e → y ≡ ends e → Ends → Alike GoesOn Ends x y
  end-alike GoesOn Ends x y first second finish =
      let both : Alike GoesOn Ends (ends e) (ends e) = (refl, finish) in
      subst (λ (z : Turn guest.State). Alike GoesOn Ends z y) (sym first) (subst (λ (z : Turn JvmState). Alike GoesOn Ends (ends e) z) (sym second) both)

  pub ends-follow : Follows (uncounted program words) Rests limit g j
  ends-follow = record {
    guest_turns = 0;
    class_turns = n;
    guest_at = g;
    class_at = l;
    guest_comes = refl;
    class_comes = comes;
    no_sooner = omega arith;
    unmarked = λ m u one few at. refl;
    early = λ i. absurd i;
    alike = end-alike _ _ (guest_step.turn g) (jvm_turn program words l) guest_ends ends_so (record { in_time = in_time; counted = λ i. absurd i });
  }

-- ---- a stray

module _ (between : BetweenLaws) (program : Program) (words : ℕ) (order : Order) (choose missing : ℕ) (classes : List CodeClass) (code : ℕ → Option ℕ) (is_in : IsTranslated true program order choose missing classes code) (t : guest.State) (guest_is : IsGuest order code t) (stray : IsStray code t.pc) where
  abbrev Rest : ℕ → guest.State → JvmState → Type 0
  Rest = RestsByMeter program words order choose classes code

  abbrev Comes : ℕ → ℕ → JvmState → Type 0
  Comes most left y = PaysOrSpends program words Rest most left t y

  spent-here : spent t ≡ «fault» (spent_fault t.pc)
  spent-here = at-unit t guest_is.pending

  -- the guest's fault
  stray-pays : (left : ℕ) (y : JvmState) (n : ℕ) (l : JvmState) → advanced (jvm_turn program words) n y ≡ Some l → jvm_turn program words l ≡ ends («fault» (stray_fault t.pc)) → n + 1 ≤ 14 → Pays program words Rest 0 (suc left) t y
  unfolding ends-follow
  stray-pays left y n l comes last in_time =
      let f = ends-follow program words (Rest left) unit_limit t y l n («fault» (stray_fault t.pc)) (between.program.stray order code t guest_is stray) comes last (omega (arith, in_time)) in
      let all_turns : 0 + 1 + left ≡ suc left = omega arith in
      record { first = 0; first_few = omega arith; there = y; comes = refl; remain = left; follows = f; taken_off = all_turns }

  -- from the method for addresses outside all code
  missing-comes : (left : ℕ) (y : JvmState) (s : HoldsAtMissing missing t y) → HasLeft left s.there.workspace → Comes 7 left y
  missing-comes zero y s has =
      let c = between.stray_unpaid program words order choose missing classes code t.pc y is_in s.there has in
      let in_time = c.in_time in
      let w = s.there.workspace in
      let fields : c.after.fields ≡ w.fields = c.arrives.1.0 in
      let heap : c.after.heap ≡ w.heap = c.arrives.1.1 in
      inr (record {
        turns = c.turns;
        in_time = omega (arith, in_time);
        before = c.after;
        comes = c.goes.comes;
        ends_so = c.arrives.0 ∙ ap (λ z. ends z) (sym spent-here);
        holds = record {
          held = λ v is. between.held w v t (sym is.0 ∙ fields) (sym is.1 ∙ heap) s.held;
          left_is = record { field = ap (λ (f : ℕ → Value). f left_field) fields ∙ has.0; small = has.1 };
        };
        few = omega arith;
        guest_at = t;
        guest_comes = refl;
        same_unit = refl;
        no_sooner = omega arith;
      })
  missing-comes (suc left) y s has =
      let c = between.stray_paid program words order choose missing classes code (suc left) t.pc y is_in s.there has (omega arith) in
      let in_time = c.in_time in
      let p = stray-pays left y c.turns c.after c.goes.comes c.arrives (omega (arith, in_time)) in
      inl (pays-later program words Rest 0 0 7 (suc left) t y y (omega arith) refl p)

  pub stray-turn : (left : ℕ) (y : JvmState) → HasLeftIn left y → ComesToMissing program words classes missing t y → Comes 80 left y
  stray-turn left y has c =
      let in_time = c.in_time in
      let s = c.arrives in
      let there = left-then program words (is_span classes) c.turns 0 0 left y c.after (between.fields program words left_field) c.goes has in
      comes-later program words Rest c.turns 7 80 left t y c.after (omega (arith, in_time)) c.goes.comes
      (missing-comes left c.after s (left-there left missing 0 s.there.workspace s.there.others c.after s.there.is_there there))
