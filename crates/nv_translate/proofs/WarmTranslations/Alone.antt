-- While the classes follow the guest by code that calls helpers alone, nothing else runs.
use Rattle.std.proofs.Common.{◌≡◌, ℕ, zero, suc, ◌+◌, ◌<◌, ◌≤◌, ◌⊎◌, inl, inr, Bool, true, false, if◌then◌else◌, nat_lt, ◌==◌, List, [], ◌∷◌, ◌++◌, length, slice_get, Option, Some, None, refl, ap, sym, subst, ◌∙◌, arith}
use Rattle.std.specs.Prelude.{⊤}
use Rattle.std.specs.List.{sum_by}
use Rattle.std.proofs.lemmas.Bool.{true≢false, cases_lt}
use Rattle.run_definition.specs.Question.{Question}
use Rattle.run_definition.specs.Answer.{Answer}
use Rattle.run_definition.specs.Turn.{Turn, moves, ends, leaves, asks, End, exit, «fault», trap}
use Rattle.run_simulation_laws.specs.Trail.{advanced, moved, if_moves}
use Rattle.mips_definition.specs.State as guest
use Rattle.jvm_definition.specs.declared.instruction.Instruction.{Instruction}
use Rattle.jvm_definition.specs.declared.linked_line.LinkedLine.{LinkedLine}
use Rattle.jvm_definition.specs.declared.value.Value.{Value}
use Rattle.jvm_definition.specs.Program.{Program, linked_line_at, instruction_targets}
use Rattle.jvm_definition.specs.Effect.{Workspace, InstructionEffect, goes_on, jumps, enters, gives, asks_host, faults, traps, wrong, instruction_effect}
use Rattle.jvm_definition.specs.Step as machine
use Rattle.jvm_definition.specs.Step.{JvmState, Frame, frame_placed, jvm_turn, jvm_turn_by, turn_of, jumped, returned_to, workspace_of}
use Rattle.emit_paths_laws.specs.Classes.{entries, executed}
use Rattle.emit_program_laws.specs.SpanCodeLaws.Helpers.{helper_count}
use Rattle.emit_program_laws.specs.SpanCodeLaws.Sites.{Site, PathIn, stands, turn_in}
use Rattle.emit_program_laws.specs.SpanCodeLaws.Following.{ComesToTurn}
use Rattle.emit_program_laws.specs.SpanCodeLaws.Resuming.{FollowsInSpan, LastInSpan}
use Rattle.nv_translate.specs.Staying.{RunsInside, StaysInside, StaysAnswered, Stays}
use Rattle.nv_translate.proofs.WarmTranslations.Staying.{is_other, methods, next-is, left-ends, above-all, either-all, above-inside, lone-inside, IsAbove, IsLeft, none-left}
use Rattle.nv_translate.proofs.WarmTranslations.Lifting.{is_outer, turns-lift, turn-outer}

-- ---- the guest's last turn ends in no other way than by a fault

abbrev pub EndsPlainly : Turn guest.State → Type 0
EndsPlainly (ends («fault» f)) = ⊤
EndsPlainly (ends e) = ⊥
EndsPlainly _ = ⊤

-- ---- turns that ask leave the frames there

asked-same : (b : Bool) (q r : Question) (e : End) (next again : Answer → JvmState) (s : JvmState)
    → ((a : Answer) → methods (next a).frames ≡ methods s.frames)
    → (if b then leaves q e else asks q next) ≡ asks r again → (a : Answer) → methods (again a).frames ≡ methods s.frames
asked-same true q r e next again s same is a = absurd cc
asked-same false q r e next again s same is a =
    let answered : next ≡ again = cc in ap (λ (f : Answer → JvmState). methods (f a).frames) (sym answered) ∙ same a

jumped-asks-not : (m : ℕ) (target : Option ℕ) (w : Workspace) (own : List Frame) (r : Question) (again : Answer → JvmState)
    → jumped m target w own ≡ asks r again → ⊥
jumped-asks-not m None w own r again is = cc
jumped-asks-not m (Some at) w own r again is = cc

called-asks-not : (b : Bool) (s : JvmState) (k : ℕ) (r : Question) (again : Answer → JvmState) → (if b then moves s else ends (trap k)) ≡ asks r again → ⊥
called-asks-not true s k r again is = cc
called-asks-not false s k r again is = cc

returned-asks-not : (own : List Frame) (v : Option Value) (w : Workspace) (r : Question) (again : Answer → JvmState) → returned_to own v w ≡ asks r again
    → ⊥
returned-asks-not [] v w r again is = cc
returned-asks-not (f ∷ own) v w r again is = cc

effect-asks : (s : JvmState) (f : Frame) (own : List Frame) (line : LinkedLine) (e : InstructionEffect) (r : Question) (again : Answer → JvmState) → s.frames ≡ f ∷ own
    → jvm_turn_by e f.method line own ≡ asks r again → (a : Answer) → methods (again a).frames ≡ methods s.frames
effect-asks s f own line (goes_on w) r again frames is a = absurd cc
effect-asks s f own line (jumps k w) r again frames is a =
    absurd (jumped-asks-not f.method (slice_get (instruction_targets line.instruction) k) w own r again is)
effect-asks s f own line (enters callee given w) r again frames is a =
    absurd (called-asks-not (nat_lt (length (frame_placed f.method line.next w own).frames) 64) _ _ r again is)
effect-asks s f own line (gives v w) r again frames is a = absurd (returned-asks-not own v w r again is)
effect-asks s f own line (asks_host call readable writable w) r again frames is a =
    asked-same (call.number == 1) _ r _ _ again s (λ answer. ap methods (sym frames)) is a
effect-asks s f own line (faults g) r again frames is a = absurd cc
effect-asks s f own line (traps k) r again frames is a = absurd cc
effect-asks s f own line wrong r again frames is a = absurd cc

line-asks : (program : Program) (words : ℕ) (s : JvmState) (f : Frame) (own : List Frame) (line : Option LinkedLine) (r : Question)
    (again : Answer → JvmState)
    → s.frames ≡ f ∷ own → machine.executed_line program words s f own line ≡ asks r again → (a : Answer) → methods (again a).frames ≡ methods s.frames
line-asks program words s f own None r again frames is a = absurd cc
line-asks program words s f own (Some line) r again frames is a =
    effect-asks s f own line (instruction_effect program words line.instruction (workspace_of s f)) r again frames is a

frames-ask : (program : Program) (words : ℕ) (s : JvmState) (frames : List Frame) (r : Question) (again : Answer → JvmState) → s.frames ≡ frames
    → turn_of program words s frames ≡ asks r again → (a : Answer) → methods (again a).frames ≡ methods s.frames
frames-ask program words s [] r again frames is a = absurd cc
frames-ask program words s (f ∷ own) r again frames is a = line-asks program words s f own (linked_line_at program f.method f.at) r again frames is a

-- ---- the states on the way

module _ (program : Program) (words : ℕ) where
  abbrev step : JvmState → Turn JvmState
  step = jvm_turn program words

  after-one : (k : ℕ) (x t u : JvmState) → step x ≡ moves t → advanced step k t ≡ Some u → advanced step (suc k) x ≡ Some u
  after-one k x t u is at = ap (λ v. if_moves v None (advanced step k)) is ∙ at

  -- a state before the last one, and its turn
  on-the-way : (n k : ℕ) (x y : JvmState) → advanced step n x ≡ Some y → k < n
      → (u : JvmState) × (t : JvmState) × (advanced step k x ≡ Some u) × (step u ≡ moves t)
  on-the-way zero k x y comes less = absurd (omega (arith, less))
  on-the-way (suc n) zero x y comes less = let next = next-is program words n x y comes in (x, next.0, refl, next.1)
  on-the-way (suc n) (suc k) x y comes less =
      let next = next-is program words n x y comes in
      let later = on-the-way n k next.0 y next.2 (omega (arith, less)) in
      (later.0, later.1, after-one k x next.0 later.0 next.1 later.2, later.3)

  -- a state that makes a turn has a frame
  stuck-not : (s : JvmState) (frames : List Frame) → s.frames ≡ frames → ((t : JvmState) × (step s ≡ moves t)) ⊎ (is_outer (step s) ≡ true)
      → (f : Frame) × (rest : List Frame) × (s.frames ≡ f ∷ rest)
  stuck-not s (f ∷ rest) frames made = (f, rest, frames)
  stuck-not s [] frames (inl moved) = let none : ends (trap 0) ≡ moves moved.0 = sym (ap (turn_of program words s) frames) ∙ moved.1 in absurd cc
  stuck-not s [] frames (inr outer) = absurd (true≢false (sym outer ∙ ap is_outer (ap (turn_of program words s) frames)))

-- ---- a site

module _ (site : Site) (total : (Instruction → ℕ) → ℕ) (quiet : total (entries is_other) ≡ 0) (high_method : helper_count ≤ site.method) where
  abbrev below : List ℕ
  below = methods site.others

  path-quiet : (s : Site) (low high n : ℕ) (x y : JvmState) → PathIn s low high n total x y
      → sum_by (executed s.program (entries is_other)) (moved (turn_in s) n x) ≡ 0
  path-quiet s low high n x y path = let few = path.counts (entries is_other) (λ name t u. refl) in omega (arith, few, quiet)

  abbrev Stands : JvmState → Type 0
  Stands y = (at : ℕ) × (v : Workspace) × (y ≡ stands site at v)

  abbrev Above : JvmState → Type 0
  Above y = IsAbove site.method below (methods y.frames)

  stands-above : (y : JvmState) → Stands y → methods y.frames ≡ site.method ∷ below
  stands-above y s = ap (λ (z : JvmState). methods z.frames) s.2

  path-inside : (low high n : ℕ) (x y : JvmState) → PathIn site low high n total x y → Above x → Stands y → StaysInside site n x
  path-inside low high n x y path above s i z less at =
      above-inside site below z.frames
      (above-all site.program site.words site.method below high_method n x y path.comes (path-quiet site low high n x y path) above (stands-above y s)
      i z less at)

  -- behind a question they are there by each answer, since they come back
  answered-above : (low high low₂ high₂ n m : ℕ) (x before y : JvmState) (r : Question) (again : Answer → JvmState) (a : Answer)
      → PathIn site low high n total x before → Above x → turn_in site before ≡ asks r again → PathIn site low₂ high₂ m total (again a) y → Stands y
      → Above (again a)
  answered-above low high low₂ high₂ n m x before y r again a path above asking later s =
      let same = frames-ask site.program site.words before before.frames r again refl asking a in
      elim (either-all site.program site.words site.method below n x before path.comes (path-quiet site low high n x before path) (inl above) n before
      (omega arith) path.comes) [
        | inl up ↦ subst (IsAbove site.method below) (sym same) up
        | inr left ↦
            let ends_left =
            left-ends site.program site.words site.method below m (again a) y later.comes (path-quiet site low₂ high₂ m (again a) y later)
            (subst (IsLeft below) (sym same) left) in
            absurd (none-left site.method below high_method (subst (IsLeft below) (stands-above y s) ends_left))
      ]

  -- ---- up to a turn that ends the run or calls the system

  abbrev alone : Site
  alone = record { program = site.program; words = site.words; method = site.method; others = [] }

  module _ (low : ℕ) (w : Workspace) where
    abbrev x : JvmState
    x = stands site low w

    abbrev x0 : JvmState
    x0 = stands alone low w

    -- A path with no other frames, whose last state ends the run or calls the system: each state on the way runs there.
    lone-inside-all : (low₂ high n : ℕ) (y : JvmState) → PathIn alone low₂ high n total x0 y → is_outer (turn_in alone y) ≡ true → (i : ℕ) (z : JvmState)
        → i ≤ n
        → advanced (turn_in alone) i x0 ≡ Some z → RunsInside alone z.frames
    lone-inside-all low₂ high n y path outer i z less at =
        let is = either-all alone.program alone.words alone.method [] n x0 y path.comes (path-quiet alone low₂ high n x0 y path)
        (inl (inl (refl, refl))) i z less at in
        let made : ((t : JvmState) × (turn_in alone z ≡ moves t)) ⊎ (is_outer (turn_in alone z) ≡ true) = elim (cases_lt i n) [
          | inl before ↦
              let way = on-the-way alone.program alone.words n i x0 y path.comes before in
              let same : way.0 ≡ z = (let both : Some way.0 ≡ Some z = sym way.2 ∙ at in cc) in
              inl (way.1, subst (λ (s : JvmState). turn_in alone s ≡ moves way.1) same way.3)
          | inr there ↦
              let all : i ≡ n = omega (arith, less, there) in
              let same : y ≡ z = (let both : Some y ≡ Some z = sym path.comes ∙ sym (ap (λ k. advanced (turn_in alone) k x0) all) ∙ at in cc) in
              inr (subst (λ (s : JvmState). is_outer (turn_in alone s) ≡ true) same outer)
        ] in
        let frame = stuck-not alone.program alone.words z z.frames refl made in
        lone-inside alone z.frames frame.0 frame.1 frame.2 is

    inside-lifts : (frames : List Frame) → RunsInside alone frames → RunsInside site (frames ++ site.others)
    inside-lifts [] inside = absurd inside
    inside-lifts (f ∷ frames) inside = inside

    -- the path above other frames is no longer
    no-longer : (low₂ high n low₃ higher k : ℕ) (y y0 : JvmState) → PathIn site low₂ high n total x y → PathIn alone low₃ higher k total x0 y0
        → is_outer (turn_in alone y0) ≡ true → n ≤ k
    no-longer low₂ high n low₃ higher k y y0 path own outer = elim (cases_lt k n) [
      | inl less ↦
          let way = on-the-way site.program site.words n k x y path.comes less in
          let same = turns-lift site.program site.words site.others k x0 y0 way.0 own.comes way.2 in
          let there : is_outer (turn_in site way.0) ≡ true =
          ap (λ (s : JvmState). is_outer (turn_in site s)) same ∙ turn-outer site.program site.words site.others y0 outer in
          absurd (true≢false (sym there ∙ ap is_outer way.3))
      | inr more ↦ more
    ]

    -- a state on the way, with no other frames
    lone-state : (low₃ higher k : ℕ) (y0 : JvmState) → PathIn alone low₃ higher k total x0 y0 → (i : ℕ) → i ≤ k
        → (z0 : JvmState) × (advanced (turn_in alone) i x0 ≡ Some z0)
    lone-state low₃ higher k y0 own i less = elim (cases_lt i k) [
      | inl before ↦ let way = on-the-way alone.program alone.words k i x0 y0 own.comes before in (way.0, way.2)
      | inr there ↦ let all : k ≡ i = omega (arith, less, there) in (y0, subst (λ j. advanced (turn_in alone) j x0 ≡ Some y0) all own.comes)
    ]

    turn-inside : (low₂ high n low₃ higher k : ℕ) (y y0 : JvmState) → PathIn site low₂ high n total x y → PathIn alone low₃ higher k total x0 y0
        → is_outer (turn_in alone y0) ≡ true → StaysInside site n x
    turn-inside low₂ high n low₃ higher k y y0 path own outer i z less at =
        let few = no-longer low₂ high n low₃ higher k y y0 path own outer in
        let within : i ≤ k = omega (arith, less, few) in
        let lone = lone-state low₃ higher k y0 own i within in
        let same = turns-lift site.program site.words site.others i x0 lone.0 z lone.1 at in
        subst (λ (s : JvmState). RunsInside site s.frames) (sym same)
        (inside-lifts lone.0.frames (lone-inside-all low₃ higher k y0 own outer i lone.0 within lone.1))

    -- ---- while they follow the guest

    module _ (high least most : ℕ) (Arrives LoneArrives : JvmState → guest.State → Type 0)
        (arrives : (y : JvmState) (t : guest.State) → Arrives y t → Stands y) where
      like-outer : (s : Site) (At : JvmState → guest.State → Type 0) (last : Turn guest.State) (used place : ℕ) (own : Turn JvmState) → EndsPlainly last
          → LastInSpan s high most total At last used place own → is_outer own ≡ true
      like-outer s At (moves t) used place own plain like = absurd like
      like-outer s At (ends e) used place (moves t) plain like = absurd like
      like-outer s At (ends («fault» f)) used place (ends g) plain like = ap (λ (e : End). is_outer (ends e)) like
      like-outer s At (ends (exit n)) used place (ends g) plain like = absurd plain
      like-outer s At (ends (trap k)) used place (ends g) plain like = absurd plain
      like-outer s At (ends e) used place (leaves q f) plain like = absurd like
      like-outer s At (ends e) used place (asks q next) plain like = absurd like
      like-outer s At (leaves q e) used place (moves t) plain like = absurd like
      like-outer s At (leaves q e) used place (ends f) plain like = absurd like
      like-outer s At (leaves q e) used place (leaves r f) plain like = refl
      like-outer s At (leaves q e) used place (asks r next) plain like = absurd like
      like-outer s At (asks q next) used place (moves t) plain like = absurd like
      like-outer s At (asks q next) used place (ends f) plain like = absurd like
      like-outer s At (asks q next) used place (leaves r f) plain like = absurd like
      like-outer s At (asks q next) used place (asks r again) plain like = refl

      abbrev Turns : Site → (JvmState → guest.State → Type 0) → Turn guest.State → JvmState → Type 0
      Turns s At last z = ComesToTurn s low high least most total (LastInSpan s high most total At last) z

      turns-inside : (last : Turn guest.State) → EndsPlainly last → (f : Turns site Arrives last x) → Turns alone LoneArrives last x0
          → StaysInside site f.turns x
      turns-inside last plain f own =
          turn-inside low f.place f.turns low own.place own.turns f.before own.before f.path own.path
          (like-outer alone LoneArrives last (own.turns + 1) own.place (turn_in alone own.before) plain own.last)

      answered-inside : (q : Question) (next : Answer → guest.State) (used place low₂ n : ℕ) (before : JvmState) (r : Turn JvmState)
          → turn_in site before ≡ r
          → PathIn site low₂ place n total x before → (like : LastInSpan site high most total Arrives (asks q next) used place r)
          → StaysAnswered site high most total Arrives q next used place r like
      answered-inside q next used place low₂ n before (moves t) is path like = tt
      answered-inside q next used place low₂ n before (ends e) is path like = tt
      answered-inside q next used place low₂ n before (leaves r e) is path like = tt
      answered-inside q next used place low₂ n before (asks r again) is path like = λ a fit.
          let c = like.1.comes a fit in
          let there = arrives c.after (next a) c.arrives in
          path-inside (place + 1) high c.turns (again a) c.after c.path
          (answered-above low₂ place (place + 1) high n c.turns x before c.after r again a path (inl (refl, refl)) is c.path there) there

      pub alone-stays : (last : Turn guest.State) → EndsPlainly last → (f : FollowsInSpan site low high least most total Arrives x last)
          → FollowsInSpan alone low high least most total LoneArrives x0 last → Stays site low high least most total Arrives x last f
      alone-stays (moves t) plain f own = path-inside low high f.turns x f.after f.path (inl (refl, refl)) (arrives f.after t f.arrives)
      alone-stays (ends e) plain f own = turns-inside (ends e) plain f own
      alone-stays (leaves q e) plain f own = turns-inside (leaves q e) plain f own
      alone-stays (asks q next) plain f own = (
        turns-inside (asks q next) plain f own,
        answered-inside q next (f.turns + 1) f.place low f.turns f.before (turn_in site f.before) refl f.path f.last,
      )
