-- Code that passes the test has frames.
use Rattle.std.proofs.Common.{◌≡◌, ℕ, zero, suc, ◌+◌, Bool, true, false, if◌then◌else◌, List, [], ◌∷◌, ◌++◌, length, refl, arith}
use Rattle.std.specs.Prelude.{◌==◌, nat_le, Option, Some, None, slice_get, All, ⊤}
use Rattle.std.proofs.lemmas.Bool.{and_parts, eqb-true, leb-true, le-leb, false≢true}
use Rattle.std.proofs.lemmas.List.Elements.{All-cons, All-nil}
use Rattle.jvm_definition.specs.declared.instruction.Instruction.TheVariants.{TableSwitch}
use Rattle.jvm_definition.specs.Program.{instruction_targets, falls_through, is_goto}
use Rattle.jvm_definition.specs.Typing.{TypeFrame, Below, applied, type_effect, branch_type, no_top, slots_of}
use Rattle.emit_steps.specs.declared.step.Step.{Step}
use Rattle.emit_steps.specs.declared.step.Step.TheVariants.{Does, Skips, Leaves, Selects}
use Rattle.emit_types_laws.specs.Judging.{Rules, Meets, Fits, Types, TypesFrom, few_operands, is_plain_frame}
use Rattle.emit_types_laws.specs.Flowing.{Ahead, When, Behind, Entering, Arriving, FlowsOver, Reaches, AllMeet, Flows, FlowsFrom}
use Rattle.emit_types_laws.proofs.TypedSteps.KindOrder.{same, through}

pub when-parts : (b : Bool) (T : Type 0) → When b T → (b ≡ true) × T
when-parts true T h = (refl, h)
when-parts false T h = absurd h

-- ---- what each part of the test tells

-- there is room for those below, too
pub with-more : (rules : Rules) (f : TypeFrame) → nat_le (slots_of f.stack) few_operands ≡ true
    → nat_le (slots_of f.stack) (few_operands + rules.more) ≡ true
with-more rules f room =
    let few = leb-true (slots_of f.stack) few_operands room in
    le-leb (slots_of f.stack) (few_operands + rules.more) (omega (arith, few))

behind-found : (found : Option TypeFrame) (Rest : TypeFrame → Type 0) → Behind found Rest
    → (g : TypeFrame) × (found ≡ Some g) × (nat_le (slots_of g.stack) few_operands ≡ true) × Rest g
behind-found None Rest h = absurd h
behind-found (Some g) Rest h = let p = when-parts (nat_le (slots_of g.stack) few_operands) (Rest g) h in (g, refl, p.0, p.1)

-- the frame with which a step is entered, for any frames behind it
record Entered (current : Option TypeFrame) (ahead : Ahead) (Rest : TypeFrame → Ahead → Type 0) : Type 0 where
  pub frame : TypeFrame
  pub others : Ahead
  pub rest : Rest frame others
  pub reaches : (behind : List TypeFrame) → Reaches current (frame ∷ behind)
  pub meet : (behind : List TypeFrame) → AllMeet others behind → AllMeet ahead (frame ∷ behind)

entered : (current : Option TypeFrame) (ahead : Ahead) (Rest : TypeFrame → Ahead → Type 0) → Entering current ahead Rest
    → Entered current ahead Rest
entered None [] Rest h = absurd h
entered None (None ∷ ahead) Rest h = absurd h
entered None (Some f ∷ ahead) Rest h = record { frame = f; others = ahead; rest = h; reaches = λ behind. tt; meet = λ behind m. (same f, m) }
entered (Some f) [] Rest h = record { frame = f; others = []; rest = h; reaches = λ behind. same f; meet = λ behind m. m }
entered (Some f) (None ∷ ahead) Rest h = record { frame = f; others = ahead; rest = h; reaches = λ behind. same f; meet = λ behind m. m }
entered (Some f) (Some g ∷ ahead) Rest h = record { frame = g; others = ahead; rest = h.1; reaches = λ behind. h.0; meet = λ behind m. (same g, m) }

record Arrived (k : ℕ) (f : TypeFrame) (ahead : Ahead) (Rest : Ahead → Type 0) : Type 0 where
  pub others : Ahead
  pub rest : Rest others
  pub meet : (behind : List TypeFrame) → AllMeet others behind → AllMeet ahead behind × Meets f (slice_get behind k)

one-arrived : (f g : TypeFrame) (ahead given : Ahead) → Below f g
    → ((behind : List TypeFrame) → AllMeet ahead behind → (h : TypeFrame) → Below g h → AllMeet given (h ∷ behind)) → (behind : List TypeFrame)
    → AllMeet (Some g ∷ ahead) behind → AllMeet given behind × Meets f (slice_get behind 0)
one-arrived f g ahead given b keeps [] m = absurd m
one-arrived f g ahead given b keeps (h ∷ behind) m = (keeps behind m.1 h m.0, through f g h b m.0)

arrived : (k : ℕ) (f : TypeFrame) (ahead : Ahead) (Rest : Ahead → Type 0) → Arriving k f ahead Rest → Arrived k f ahead Rest
arrived zero f [] Rest h = record { others = Some f ∷ []; rest = h; meet = one-arrived f f [] [] (same f) (λ behind m g b. tt) }
arrived zero f (None ∷ ahead) Rest h = record {
  others = Some f ∷ ahead;
  rest = h;
  meet = one-arrived f f ahead (None ∷ ahead) (same f)
      (λ behind m g b. m);
}
arrived zero f (Some g ∷ ahead) Rest h = record {
  others = Some g ∷ ahead;
  rest = h.1;
  meet = one-arrived f g ahead (Some g ∷ ahead) h.0
      (λ behind m a b. (b, m));
}
arrived (suc k) f [] Rest h =
    let a = arrived k f [] (λ others. Rest (None ∷ others)) h in
    record { others = None ∷ a.others; rest = a.rest; meet = nothing a.others a.meet }
  where
    nothing : (others : Ahead) → ((behind : List TypeFrame) → AllMeet others behind → ⊤ × Meets f (slice_get behind k))
        → (behind : List TypeFrame) → AllMeet (None ∷ others) behind → ⊤ × Meets f (slice_get behind (suc k))
    nothing others meet [] m = absurd (meet [] m).1
    nothing others meet (b ∷ behind) m = meet behind m
arrived (suc k) f (None ∷ ahead) Rest h =
    let a = arrived k f ahead (λ others. Rest (None ∷ others)) h in
    record { others = None ∷ a.others; rest = a.rest; meet = none a.others a.meet }
  where
    none : (others : Ahead) → ((behind : List TypeFrame) → AllMeet others behind → AllMeet ahead behind × Meets f (slice_get behind k))
        → (behind : List TypeFrame) → AllMeet (None ∷ others) behind → AllMeet (None ∷ ahead) behind × Meets f (slice_get behind (suc k))
    none others meet [] m = absurd (meet [] m).1
    none others meet (b ∷ behind) m = meet behind m
arrived (suc k) f (Some g ∷ ahead) Rest h =
    let a = arrived k f ahead (λ others. Rest (Some g ∷ others)) h in
    record { others = Some g ∷ a.others; rest = a.rest; meet = some a.others a.meet }
  where
    some : (others : Ahead) → ((behind : List TypeFrame) → AllMeet others behind → AllMeet ahead behind × Meets f (slice_get behind k))
        → (behind : List TypeFrame) → AllMeet (Some g ∷ others) behind → AllMeet (Some g ∷ ahead) behind × Meets f (slice_get behind (suc k))
    some others meet [] m = absurd m
    some others meet (b ∷ behind) m = let n = meet behind m.1 in ((m.0, n.0), n.1)

-- ---- frames of code

pub record Found (rules : Rules) (code : List Step) (behind : List TypeFrame) (current : Option TypeFrame) (ahead : Ahead) : Type 0 where
  pub frames : List TypeFrame
  pub types : Types rules code frames behind
  pub reaches : Reaches current (frames ++ behind)
  pub meet : AllMeet ahead (frames ++ behind)

-- the frames behind a step with its rule
record FoundBehind (rules : Rules) (s : Step) (code : List Step) (behind : List TypeFrame) (f : TypeFrame) (ahead : Ahead) : Type 0 where
  pub frames : List TypeFrame
  pub types : Types rules code frames behind
  pub rule : Fits rules s f (frames ++ behind)
  pub meet : AllMeet ahead (frames ++ behind)

goes-on : (b : Bool) (g : TypeFrame) (frames : List TypeFrame) → Reaches (if b then Some g else None) frames → b ≡ true
    → Meets g (slice_get frames 0)
goes-on true g frames r is = r
goes-on false g frames r is = absurd (false≢true is)

stays-or-goes : (b : Bool) (g : TypeFrame) (frames : List TypeFrame) → Reaches (if b then None else Some g) frames
    → (if b then false else true) ≡ true → Meets g (slice_get frames 0)
stays-or-goes true g frames r is = absurd (false≢true is)
stays-or-goes false g frames r is = r

none-owed : {X : Type 0} (P : X → Type 0) (xs : List X) → length xs ≡ 0 → All P xs
none-owed P xs none = λ k d less. absurd (omega (arith, none, less))

over-step : (rules : Rules) (s : Step) (code : List Step) (behind : List TypeFrame) (f : TypeFrame) (ahead : Ahead)
    → nat_le (slots_of f.stack) few_operands ≡ true
    → ((current : Option TypeFrame) (others : Ahead) → Flows rules code behind current others → Found rules code behind current others)
    → FlowsOver rules s f ahead (Flows rules code behind) → FoundBehind rules s code behind f ahead
over-step rules (Does i) code behind f ahead room find h =
    let Next = Flows rules code behind in
    let p = behind-found (applied (type_effect rules.program i) f)
    (λ g. When (length (instruction_targets i) == 0) (Next (if falls_through i then Some g else None) ahead)) h in
    let q = when-parts (length (instruction_targets i) == 0) (Next (if falls_through i then Some p.0 else None) ahead) p.3 in
    let rest = find (if falls_through i then Some p.0 else None) ahead q.1 in
    record {
      frames = rest.frames;
      types = rest.types;
      rule = record {
        straight = q.0;
        after = p.0;
        fits = p.1;
        within = with-more rules p.0 p.2;
        next = goes-on (falls_through i) p.0 (rest.frames ++ behind) rest.reaches;
        skipped = tt;
        owed = none-owed (λ at. Meets p.0 (rules.owes at)) (instruction_targets i) (eqb-true (length (instruction_targets i)) 0 q.0);
      };
      meet = rest.meet;
    }
over-step rules (Skips name k) code behind f ahead room find h =
    let Next = Flows rules code behind in
    let p = behind-found (applied (branch_type name) f) (λ g. Arriving k g ahead (Next (if is_goto name then None else Some g))) h in
    let current = if is_goto name then None else Some p.0 in
    let a = arrived k p.0 ahead (Next current) p.3 in
    let rest = find current a.others a.rest in
    let m = a.meet (rest.frames ++ behind) rest.meet in
    record {
      frames = rest.frames;
      types = rest.types;
      rule = record {
        straight = refl;
        after = p.0;
        fits = p.1;
        within = with-more rules p.0 p.2;
        next = stays-or-goes (is_goto name) p.0 (rest.frames ++ behind) rest.reaches;
        skipped = m.1;
        owed = none-owed (λ at. Meets p.0 (rules.owes at)) [] refl;
      };
      meet = m.0;
    }
over-step rules (Leaves target) code behind f ahead room find h =
    let rest = find None ahead h.1 in
    record {
      frames = rest.frames;
      types = rest.types;
      rule = record {
        straight = refl;
        after = f;
        fits = refl;
        within = with-more rules f room;
        next = λ falls. absurd (false≢true falls);
        skipped = tt;
        owed = All-cons (λ at. Meets f (rules.owes at)) target [] h.0 (All-nil (λ at. Meets f (rules.owes at)));
      };
      meet = rest.meet;
    }
over-step rules (Selects s) code behind f ahead room find h =
    let Next = Flows rules code behind in
    let p = behind-found (applied (type_effect rules.program (TableSwitch s)) f)
    (λ g. All (λ at. Meets g (rules.owes at)) (instruction_targets (TableSwitch s)) × Next None ahead) h in
    let rest = find None ahead p.3.1 in
    record {
      frames = rest.frames;
      types = rest.types;
      rule = record {
        straight = refl;
        after = p.0;
        fits = p.1;
        within = with-more rules p.0 p.2;
        next = λ falls. absurd (false≢true falls);
        skipped = tt;
        owed = p.3.0;
      };
      meet = rest.meet;
    }

pub flows-found : (rules : Rules) (code : List Step) (behind : List TypeFrame) (current : Option TypeFrame) (ahead : Ahead)
    → Flows rules code behind current ahead → Found rules code behind current ahead
flows-found rules [] behind current ahead h = record { frames = []; types = tt; reaches = h.0; meet = h.1 }
flows-found rules (s ∷ code) behind current ahead h =
    let e = entered current ahead (λ f others. When (is_plain_frame f) (FlowsOver rules s f others (Flows rules code behind))) h in
    let p = when-parts (is_plain_frame e.frame) (FlowsOver rules s e.frame e.others (Flows rules code behind)) e.rest in
    let tests = and_parts (no_top e.frame.stack) (nat_le (slots_of e.frame.stack) few_operands) p.0 in
    let rest = over-step rules s code behind e.frame e.others tests.1 (λ current others. flows-found rules code behind current others) p.1 in
    record {
      frames = e.frame ∷ rest.frames;
      types = (tests.0, rest.rule, rest.types);
      reaches = e.reaches (rest.frames ++ behind);
      meet = e.meet (rest.frames ++ behind) rest.meet;
    }

pub flows-from : (rules : Rules) (code : List Step) (from : TypeFrame) (behind : List TypeFrame) → FlowsFrom rules code from behind
    → TypesFrom rules code from behind
flows-from rules code from behind h =
    let f = flows-found rules code behind (Some from) [] h in
    record { frames = f.frames; begins = f.reaches; types = f.types }
