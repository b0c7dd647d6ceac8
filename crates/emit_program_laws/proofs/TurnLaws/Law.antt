-- The law of a turn.
use Rattle.std.proofs.Common.{◌≡◌, ℕ, ◌+◌, ◌*◌, ◌≤◌, inl, inr, Bool, false, List, [], ◌∷◌, ◌++◌, Option, Some, None, refl, ap, sym, subst, arith}
use Rattle.std.specs.List.{sum_by}
use Rattle.run_definition.specs.declared.order.Order.{Order}
use Rattle.run_definition.specs.Turn.{Turn, moves, ends, leaves, asks, «fault»}
use Rattle.run_simulation_laws.specs.Trail.{went, stood, moved}
use Rattle.run_simulation_laws.specs.Turns.{Pair, ComesToRest, Stands, Alike, Follows, LawOfTurn, Passes}
use Rattle.run_simulation_laws.proofs.Passing.{passes_before}
use Rattle.mips_definition.specs.State as guest
use Rattle.jvm_definition.specs.Program.{Program}
use Rattle.jvm_definition.specs.Step.{JvmState, jvm_turn}
use Rattle.trampoline_laws.specs.Coming.{stray_fault}
use Rattle.trampoline_laws.specs.Classes.{CodeClass, is_span, run_of}
use Rattle.trampoline_laws.specs.Programs.{IsTranslated, TellsSpans}
use Rattle.emit_program_laws.specs.Going.{ComesTo}
use Rattle.emit_program_laws.specs.Choosing.{ChoosesWords, ComesToMissing}
use Rattle.emit_program_laws.specs.Entered.{IsGuest}
use Rattle.emit_program_laws.specs.Standing.{IsStray, AtChoose, AtRun, AtWord, EndsStray, HoldsAtMissing}
use Rattle.emit_program_laws.specs.Counted.{Counted, paid, credit, pair}
use Rattle.emit_program_laws.specs.Rests.{AtUnit, Rests, StandsSomewhere}
use Rattle.emit_program_laws.specs.Marks.{MarksPieces}
use Rattle.emit_program_laws.proofs.ChoicePasses.Going.{comes-then}
use Rattle.emit_program_laws.proofs.TurnLaws.Given.{UnitLaws, SpanLaws, ProgramLaws}
use Rattle.emit_program_laws.proofs.TurnLaws.Inner.{is_outer_turn}
use Rattle.emit_program_laws.proofs.TurnLaws.Turning.{HasTurns, IsLike, Walks, classes-pass, outer-follows, trail_to}
use Rattle.emit_program_laws.proofs.TurnLaws.Credits.{credit-choosing, credit-in-span, entry, goes-none, goes-one}
use Rattle.emit_program_laws.proofs.TurnLaws.Spans.{told}
use Rattle.emit_program_laws.proofs.TurnLaws.Units.{piece-follows, word-follows, word_limit}

-- ---- a wider limit

module _ {G J I : Type 0} (p : Pair G J I) (Rest : G → J → Type 0) (limit wider : ℕ → ℕ) (wide : (n : ℕ) → limit (n + 1) ≤ wider (n + 1)) (g : G) (j : J) (f : Follows p Rest limit g j) where
  comes-wider : (h : G) (l : J) → ComesToRest p Rest (f.class_turns + 1) (limit (f.guest_turns + 1)) (λ i. (p.tally i).credit j) (moved p.guest f.guest_turns g ++ went f.guest_at h ∷ []) (moved p.classes f.class_turns j ++ went f.class_at l ∷ []) h l → ComesToRest p Rest (f.class_turns + 1) (wider (f.guest_turns + 1)) (λ i. (p.tally i).credit j) (moved p.guest f.guest_turns g ++ went f.guest_at h ∷ []) (moved p.classes f.class_turns j ++ went f.class_at l ∷ []) h l
  comes-wider h l c = record {
    more = c.more;
    rest = c.rest;
    comes = c.comes;
    rests = c.rests;
    in_time = let a = c.in_time in let b = wide f.guest_turns in omega (arith, a, b);
    counted = c.counted;
  }

  stands-wider : Stands p (f.class_turns + 1) (limit (f.guest_turns + 1)) (λ i. (p.tally i).credit j) (moved p.guest f.guest_turns g ++ stood f.guest_at ∷ []) (moved p.classes f.class_turns j ++ stood f.class_at ∷ []) → Stands p (f.class_turns + 1) (wider (f.guest_turns + 1)) (λ i. (p.tally i).credit j) (moved p.guest f.guest_turns g ++ stood f.guest_at ∷ []) (moved p.classes f.class_turns j ++ stood f.class_at ∷ [])
  stands-wider c = record {
    in_time = let a = c.in_time in let b = wide f.guest_turns in omega (arith, a, b);
    counted = c.counted;
  }

  alike-wider : (Goes Went : G → J → Type 0) (Ends Ended : Type 0) (x : Turn G) (y : Turn J) → ((h : G) (l : J) → Goes h l → Went h l) → (Ends → Ended) → Alike Goes Ends x y → Alike Went Ended x y
  alike-wider Goes Went Ends Ended (moves a) (moves b) on over alike = on a b alike
  alike-wider Goes Went Ends Ended (ends a) (ends b) on over alike = (alike.0, over alike.1)
  alike-wider Goes Went Ends Ended (leaves q a) (leaves r b) on over alike = (alike.0, alike.1, over alike.2)
  alike-wider Goes Went Ends Ended (asks q a) (asks r b) on over alike = (alike.0, over alike.1, λ answer fit. on (a answer) (b answer) (alike.2 answer fit))
  alike-wider Goes Went Ends Ended _ _ on over alike = absurd alike

  pub follows-wider : Follows p Rest wider g j
  follows-wider = record {
    guest_turns = f.guest_turns;
    class_turns = f.class_turns;
    guest_at = f.guest_at;
    class_at = f.class_at;
    guest_comes = f.guest_comes;
    class_comes = f.class_comes;
    no_sooner = f.no_sooner;
    unmarked = f.unmarked;
    early = f.early;
    alike = alike-wider _ _ _ _ (p.guest f.guest_at) (p.classes f.class_at) comes-wider stands-wider f.alike;
  }

-- ---- the law

-- the limit of the law
abbrev pub turn_limit : ℕ → ℕ
turn_limit n = 512 * n

module _ (unit_laws : UnitLaws) (laws : SpanLaws) (program_laws : ProgramLaws) (program : Program) (words : ℕ) (order : Order) (choose missing : ℕ) (classes : List CodeClass) (code : ℕ → Option ℕ) (is_in : IsTranslated false program order choose missing classes code) (marked : guest.State → Bool) (marks : MarksPieces classes marked) where
  abbrev Rest : guest.State → JvmState → Type 0
  Rest t y = Rests program words order choose classes code t y

  abbrev machines : Pair guest.State JvmState Counted
  machines = pair program words classes marked

  abbrev Words : guest.State → JvmState → Type 0
  Words t z = AtWord program words order classes choose z t

  spans-told : TellsSpans is_in.low classes
  spans-told = told program_laws program order choose missing classes code is_in

  leads : ChoosesWords program words order choose missing classes code
  leads = program_laws.lead false program words order choose missing classes code is_in

  -- outside all code to the end of the run
  to-end : (t : guest.State) (y : JvmState) → ComesToMissing program words classes missing t y → ComesTo program words (is_span classes) 80 0 0 (λ z. EndsStray program words t.pc z) y
  to-end t y c =
      comes-then program words (is_span classes) 70 10 (HoldsAtMissing missing t) (EndsStray program words t.pc) y c
      (λ z s. program_laws.stray_end program words order choose missing classes code t.pc z is_in s.there)

  -- ---- at the code of a word, or of a unit

  word-turn : (t : guest.State) (y : JvmState) → IsGuest order code t → AtWord program words order classes choose y t → Follows machines Rest word_limit t y
  word-turn t y guest_is s =
      subst (Follows machines Rest word_limit t) (sym s.is_there)
      (word-follows unit_laws laws program_laws program words order choose missing classes code is_in marked marks s.number s.class s.there s.span s.span_below s.others s.below t guest_is s.word s.workspace s.stands)

  unit-turn : (t : guest.State) (y : JvmState) → IsGuest order code t → AtUnit program words order classes choose y t → Follows machines Rest (λ n. 132 * n + 83) t y
  unit-turn t y guest_is s =
      subst (Follows machines Rest (λ n. 132 * n + 83) t) (sym s.is_there)
      (piece-follows unit_laws laws program_laws program words order choose missing classes code is_in marked marks s.number s.class s.there s.span s.span_below s.others s.below t guest_is s.word s.front s.unit s.rest s.workspace s.held)

  word-credit : (i : Counted) (t : guest.State) (z : JvmState) → Words t z → credit classes i z ≡ 0
  word-credit i t z s =
      let c = s.class in
      credit-in-span classes i z (c.first_method + s.span) _ s.workspace s.others s.is_there (spans-told.spans s.number c s.span s.there s.span_below)

  -- ---- where a span is chosen first

  chosen-turn : (t : guest.State) (y : JvmState) → IsGuest order code t → ((i : Counted) → credit classes i y ≡ entry i) → ComesTo program words (is_span classes) 150 0 1 (Words t) y → Follows machines Rest (λ n. 132 * n + 295) t y
  chosen-turn t y guest_is one c =
      let walks : Walks program words classes entry c.turns y c.after = goes-one classes program words c.turns y c.after c.goes in
      let in_time = c.in_time in
      let part : Passes machines 0 c.turns t y t c.after = classes-pass program words classes marked Rest entry c.turns t y c.after walks
      (λ i. let none = word-credit i t c.after c.arrives in let there = one i in omega (arith, none, there)) in
      passes_before machines 0 c.turns t y t c.after part Rest word_limit (λ n. 132 * n + 295) (word-turn t c.after guest_is c.arrives)
      (λ some. absurd (omega (arith, some))) (λ n. omega (arith, in_time))

  -- ---- where no code stands

  stray-turn : (t : guest.State) (y : JvmState) → IsGuest order code t → IsStray code t.pc → ComesTo program words (is_span classes) 80 0 0 (λ z. EndsStray program words t.pc z) y → Follows machines Rest turn_limit t y
  stray-turn t y guest_is stray c =
      let end = «fault» (stray_fault t.pc) in
      let last : Turn guest.State = ends end in
      let made : HasTurns marked t last = record { earlier = 0; few = omega arith; before = t; comes = refl; last_is = program_laws.stray order code t guest_is stray; hidden = λ some. absurd (omega (arith, some)) } in
      let walks : Walks program words classes (λ i. 0) c.turns y c.after = goes-none classes program words c.turns y c.after c.goes in
      let in_time = c.in_time in
      let is : jvm_turn program words c.after ≡ ends end = c.arrives in
      outer-follows program words classes marked Rest t y last made (λ i. 0) c.turns c.after walks (λ some. absurd (omega (arith, some))) turn_limit
      (ap (λ (z : Turn JvmState). is_outer_turn z) is) (omega arith) (λ i. omega arith) 0 (omega (arith, in_time))
      (subst (λ (z : Turn JvmState). IsLike program words classes marked Rest (λ i. 0) (λ h i. credit classes i y + sum_by (paid classes i) (trail_to 0 t t (Some h))) 0 last z) (sym is) refl)

  -- ---- from each state of rest

  abbrev Turns : guest.State → JvmState → Type 0
  Turns t y = Follows machines Rest turn_limit t y

  chooses-by : (t : guest.State) (y : JvmState) (guest_is : IsGuest order code t) (word : Option ℕ) → code t.pc ≡ word → ((i : Counted) → credit classes i y ≡ entry i) → ((w : ℕ) → code t.pc ≡ Some w → ComesTo program words (is_span classes) 150 0 1 (Words t) y) → (IsStray code t.pc → ComesTo program words (is_span classes) 80 0 0 (λ z. EndsStray program words t.pc z) y) → Turns t y
  chooses-by t y guest_is None is one enters strays = let stray : IsStray code t.pc = inr is in stray-turn t y guest_is stray (strays stray)
  chooses-by t y guest_is (Some w) is one enters strays =
      follows-wider machines Rest (λ n. 132 * n + 295) turn_limit (λ n. omega arith) t y (chosen-turn t y guest_is one (enters w is))

  run-credit : (i : Counted) (t : guest.State) (y : JvmState) → AtRun program words classes choose y t → credit classes i y ≡ entry i
  run-credit i t y s = credit-choosing classes i y (run_of s.class) 0 s.stands.workspace (s.in_main ∷ s.at_start ∷ []) s.stands.is_there (spans-told.runs s.number s.class s.there)

  choose-credit : (i : Counted) (t : guest.State) (y : JvmState) → AtChoose choose y t → credit classes i y ≡ entry i
  choose-credit i t y s = credit-choosing classes i y choose 0 s.stands.workspace (s.at_start ∷ []) s.stands.is_there (spans-told.lower choose is_in.choose_low)

  rest-turn : (t : guest.State) (y : JvmState) (r : Rest t y) → StandsSomewhere program words order classes choose y t → Turns t y
  rest-turn t y r (inl s) = follows-wider machines Rest word_limit turn_limit (λ n. omega arith) t y (word-turn t y r.guest_is s)
  rest-turn t y r (inr (inl s)) = follows-wider machines Rest (λ n. 132 * n + 83) turn_limit (λ n. omega arith) t y (unit-turn t y r.guest_is s)
  rest-turn t y r (inr (inr (inl s))) =
      chooses-by t y r.guest_is (code t.pc) refl (λ i. run-credit i t y s) (λ w is. leads.from_run t w y r.guest_is is r.pc_word s)
      (λ stray. to-end t y (leads.stray_run t y stray r.pc_word s))
  rest-turn t y r (inr (inr (inr s))) =
      chooses-by t y r.guest_is (code t.pc) refl (λ i. choose-credit i t y s) (λ w is. leads.from_choose t w y r.guest_is is s)
      (λ stray. to-end t y (leads.stray_choose t y stray r.pc_word s))

  pub turns-followed : LawOfTurn machines Rest 512
  turns-followed t y r = rest-turn t y r r.stands
