-- Code behind code, and frames that are moved.
use Rattle.std.proofs.Common.{◌≡◌, ℕ, zero, suc, true, List, [], ◌∷◌, ◌++◌, refl, sym, subst, append_assoc, length, length-append, arith, ap, ◌+◌, ◌≤◌}
use Rattle.std.specs.Prelude.{All, Option, map, slice_get, nat_le, take}
use Rattle.std.specs.List.{flat_map}
use Rattle.std.proofs.lemmas.Bool.{and_parts, eqb-true, false≢true}
use Rattle.std.proofs.lemmas.List.Elements.{All-nil, All-cons, All-head, All-tail}
use Rattle.jvm_definition.specs.declared.branch_name.BranchName.{BranchName}
use Rattle.jvm_definition.specs.declared.branch_name.BranchName.TheVariants.{Goto}
use Rattle.jvm_definition.specs.Program.{Program, instruction_targets}
use Rattle.jvm_definition.specs.Typing.{TypeFrame, Below, no_top, slots_of}
use Rattle.emit_steps.specs.declared.step.Step.{Step}
use Rattle.emit_steps.specs.declared.step.Step.TheVariants.{Does, Skips, Leaves, Selects}
use Rattle.emit_types_laws.proofs.TypedSteps.Flow.{with-more}
use Rattle.emit_types_laws.specs.Judging.{Rules, Meets, MeetsSkipped, Fits, Types, TypesFrom, Leads, IsTest, Carries, PartsTyped, redirected, is_no_switch, is_plain_frame, few_operands}
use Rattle.emit_types_laws.proofs.TypedSteps.KindOrder.{same, through, meets-below}

-- ---- other frames behind the code, each above the one that stood there

-- the i-th frame of one list is below that of another
abbrev pub Rise : List TypeFrame → List TypeFrame → Type 0
Rise old new = (f : TypeFrame) (i : ℕ) → Meets f (slice_get old i) → Meets f (slice_get new i)

pub rise-behind : (frames old new : List TypeFrame) → Rise old new → Rise (frames ++ old) (frames ++ new)
rise-behind [] old new rise f i m = rise f i m
rise-behind (g ∷ frames) old new rise f zero m = m
rise-behind (g ∷ frames) old new rise f (suc i) m = rise-behind frames old new rise f i m

skipped-rises : (s : Step) (f : TypeFrame) (old new : List TypeFrame) → Rise old new → MeetsSkipped s f old → MeetsSkipped s f new
skipped-rises (Does instruction) f old new rise m = m
skipped-rises (Skips name k) f old new rise m = rise f k m
skipped-rises (Leaves target) f old new rise m = m
skipped-rises (Selects s) f old new rise m = m

fits-rises : (rules : Rules) (s : Step) (f : TypeFrame) (old new : List TypeFrame) → Rise old new → Fits rules s f old → Fits rules s f new
fits-rises rules s f old new rise fit = record {
  straight = fit.straight;
  after = fit.after;
  fits = fit.fits;
  within = fit.within;
  next = λ falls. rise fit.after 0 (fit.next falls);
  skipped = skipped-rises s fit.after old new rise fit.skipped;
  owed = fit.owed;
}

pub types-rise : (rules : Rules) (code : List Step) (frames old new : List TypeFrame) → Rise old new → Types rules code frames old
    → Types rules code frames new
types-rise rules [] [] old new rise t = tt
types-rise rules [] (f ∷ frames) old new rise t = t
types-rise rules (s ∷ code) [] old new rise t = t
types-rise rules (s ∷ code) (f ∷ frames) old new rise t =
    (t.0, fits-rises rules s f (frames ++ old) (frames ++ new) (rise-behind frames old new rise) t.1, types-rise rules code frames old new rise t.2)

pub left-above : (rules : Rules) (code : List Step) (from to above : TypeFrame) → Below to above → Leads rules code from to
    → Leads rules code from above
left-above rules code from to above b t = record {
  frames = t.frames;
  begins = rise-behind t.frames (to ∷ []) (above ∷ []) rise from 0 t.begins;
  types = types-rise rules code t.frames (to ∷ []) (above ∷ []) rise t.types;
}
  where
    rise : Rise (to ∷ []) (above ∷ [])
    rise f zero m = through f to above m b
    rise f (suc i) m = m

pub entered-below : (rules : Rules) (code : List Step) (below from : TypeFrame) (behind : List TypeFrame) → Below below from
    → TypesFrom rules code from behind → TypesFrom rules code below behind
entered-below rules code below from behind b t = record {
  frames = t.frames;
  begins = meets-below below from (slice_get (t.frames ++ behind) 0) b t.begins;
  types = t.types;
}

-- ---- code behind code

pub types-append : (rules : Rules) (first second : List Step) (frames others behind : List TypeFrame)
    → Types rules first frames (others ++ behind) → Types rules second others behind → Types rules (first ++ second) (frames ++ others) behind
types-append rules [] second [] others behind t u = u
types-append rules [] second (f ∷ frames) others behind t u = absurd t
types-append rules (s ∷ first) second [] others behind t u = absurd t
types-append rules (s ∷ first) second (f ∷ frames) others behind t u = (
  t.0,
  subst (Fits rules s f) (sym (append_assoc frames others behind)) t.1,
  types-append rules first second frames others behind t.2 u,
)

-- the frames of code whose first one is above a frame stand where that frame stood
pub begun-rises : (between : TypeFrame) (frames : List TypeFrame) → Meets between (slice_get frames 0) → Rise (between ∷ []) frames
begun-rises between [] m f i n = absurd m
begun-rises between (g ∷ frames) m f zero n = through f between g n m
begun-rises between (g ∷ frames) m f (suc i) n = absurd n

pub codes-lead : (rules : Rules) (first second : List Step) (from between : TypeFrame) (behind : List TypeFrame) → Leads rules first from between
    → TypesFrom rules second between behind → TypesFrom rules (first ++ second) from behind
codes-lead rules first second from between behind t u =
    let rise = begun-rises between (u.frames ++ behind) u.begins in
    record {
      frames = t.frames ++ u.frames;
      begins = subst (λ all. Meets from (slice_get all 0)) (sym (append_assoc t.frames u.frames behind))
          (rise-behind t.frames (between ∷ []) (u.frames ++ behind) rise from 0 t.begins);
      types = types-append rules first second t.frames u.frames behind
          (types-rise rules first t.frames (between ∷ []) (u.frames ++ behind) rise t.types) u.types;
    }

pub nothing-leads : (rules : Rules) (f : TypeFrame) → Leads rules [] f f
nothing-leads rules f = record { frames = []; begins = same f; types = tt }

-- ---- a test, and code for each of its ways

-- the frames behind the code, by their places
pub place-behind : (rules : Rules) (code : List Step) (frames behind all : List TypeFrame) (i j : ℕ) → Types rules code frames behind
    → j ≡ length code + i → slice_get (frames ++ all) j ≡ slice_get all i
place-behind rules [] [] behind all i j t is = ap (slice_get all) (omega (arith, is))
place-behind rules [] (f ∷ frames) behind all i j t is = absurd t
place-behind rules (s ∷ code) [] behind all i j t is = absurd t
place-behind rules (s ∷ code) (f ∷ frames) behind all i zero t is = absurd (omega (arith, is))
place-behind rules (s ∷ code) (f ∷ frames) behind all i (suc j) t is = place-behind rules code frames behind all i j t.2 (omega (arith, is))

first-rises : (to : TypeFrame) (others : List TypeFrame) → Rise (to ∷ []) (to ∷ others)
first-rises to others f zero m = m
first-rises to others f (suc i) m = absurd m

pub either-leads : (rules : Rules) (name : BranchName) (first second : List Step) (from between to : TypeFrame) (k j : ℕ)
    → IsTest name from between → is_plain_frame to ≡ true → k ≡ length first + 1 → j ≡ length second → Leads rules first between to
    → Leads rules second between to → Leads rules (Skips name k ∷ (first ++ Skips Goto j ∷ second)) from to
either-leads rules name first second from between to k j test room k_is j_is t u =
    let tests = and_parts (no_top to.stack) (nat_le (slots_of to.stack) few_operands) room in
    let others = u.frames ++ to ∷ [] in
    let rise = first-rises to others in
    let assoc = sym (append_assoc t.frames (to ∷ u.frames) (to ∷ [])) in
    let types_first : Types rules first t.frames (to ∷ others) = types-rise rules first t.frames (to ∷ []) (to ∷ others) rise t.types in
    let skipped : Meets between (slice_get (t.frames ++ to ∷ others) k) = subst (Meets between)
    (sym (place-behind rules first t.frames (to ∷ []) (to ∷ others) 1 k t.types k_is)) u.begins in
    let passed : Meets to (slice_get others j) = subst (Meets to)
    (sym (place-behind rules second u.frames (to ∷ []) (to ∷ []) 0 j u.types (omega (arith, j_is)))) (same to) in
    record {
      frames = from ∷ (t.frames ++ to ∷ u.frames);
      begins = same from;
      types = (
        test.plain,
        record {
          straight = refl;
          after = between;
          fits = test.fits;
          within = with-more rules between test.within;
          next = λ falls. subst (λ all. Meets between (slice_get all 0)) assoc
              (rise-behind t.frames (to ∷ []) (to ∷ others) rise between 0 t.begins);
          skipped = subst (λ all. Meets between (slice_get all k)) assoc skipped;
          owed = All-nil (λ at. Meets between (rules.owes at));
        },
        types-append rules first (Skips Goto j ∷ second) t.frames (to ∷ u.frames) (to ∷ []) types_first (
          tests.0,
          record {
            straight = refl;
            after = to;
            fits = refl;
            within = with-more rules to tests.1;
            next = λ falls. absurd (false≢true falls);
            skipped = passed;
            owed = All-nil (λ at. Meets to (rules.owes at));
          },
          u.types,
        ),
      );
    }

-- a test over code that never goes on behind it
pub skips-lead : (rules : Rules) (name : BranchName) (first second : List Step) (from between to : TypeFrame) (k : ℕ)
    → IsTest name from between → k ≡ length first → Leads rules first between between → Leads rules second between to
    → Leads rules (Skips name k ∷ (first ++ second)) from to
skips-lead rules name first second from between to k test k_is t u =
    let others = u.frames ++ to ∷ [] in
    let rise = begun-rises between others u.begins in
    let assoc = sym (append_assoc t.frames u.frames (to ∷ [])) in
    let types_first : Types rules first t.frames others = types-rise rules first t.frames (between ∷ []) others rise t.types in
    let skipped : Meets between (slice_get (t.frames ++ others) k) = subst (Meets between)
    (sym (place-behind rules first t.frames (between ∷ []) others 0 k t.types (omega (arith, k_is)))) u.begins in
    record {
      frames = from ∷ (t.frames ++ u.frames);
      begins = same from;
      types = (
        test.plain,
        record {
          straight = refl;
          after = between;
          fits = test.fits;
          within = with-more rules between test.within;
          next = λ falls. subst (λ all. Meets between (slice_get all 0)) assoc
              (rise-behind t.frames (between ∷ []) others rise between 0 t.begins);
          skipped = subst (λ all. Meets between (slice_get all k)) assoc skipped;
          owed = All-nil (λ at. Meets between (rules.owes at));
        },
        types-append rules first second t.frames u.frames (to ∷ []) types_first u.types,
      );
    }

-- ---- code that leaves to other offsets

none-owed : {X : Type 0} (P : X → Type 0) (xs : List X) → length xs ≡ 0 → All P xs
none-owed P xs none = λ k d less. absurd (omega (arith, none, less))

redirected-fits : (program : Program) (old new : ℕ → Option TypeFrame) (to : ℕ → ℕ) (s : Step) (f : TypeFrame) (behind : List TypeFrame)
    → Carries to (record { program = program; owes = old; more = 2 }) (record { program = program; owes = new; more = 2 }) → is_no_switch s ≡ true
    → Fits (record { program = program; owes = old; more = 2 }) s f behind → Fits (record { program = program; owes = new; more = 2 }) (redirected to s) f behind
redirected-fits program old new to (Does i) f behind carries plain fit = record {
  straight = fit.straight;
  after = fit.after;
  fits = fit.fits;
  within = fit.within;
  next = fit.next;
  skipped = fit.skipped;
  owed = none-owed (λ at. Meets fit.after (new at)) (instruction_targets i) (eqb-true (length (instruction_targets i)) 0 fit.straight);
}
redirected-fits program old new to (Skips name k) f behind carries plain fit = record {
  straight = refl;
  after = fit.after;
  fits = fit.fits;
  within = fit.within;
  next = fit.next;
  skipped = fit.skipped;
  owed = All-nil (λ at. Meets fit.after (new at));
}
redirected-fits program old new to (Leaves target) f behind carries plain fit = record {
  straight = refl;
  after = fit.after;
  fits = fit.fits;
  within = fit.within;
  next = fit.next;
  skipped = fit.skipped;
  owed = All-cons (λ at. Meets fit.after (new at)) (to target) []
      (carries target fit.after (All-head (λ at. Meets fit.after (old at)) target [] fit.owed)) (All-nil (λ at. Meets fit.after (new at)));
}
redirected-fits program old new to (Selects s) f behind carries plain fit = absurd (false≢true plain)

redirected-types : (program : Program) (old new : ℕ → Option TypeFrame) (to : ℕ → ℕ) (code : List Step) (frames behind : List TypeFrame)
    → Carries to (record { program = program; owes = old; more = 2 }) (record { program = program; owes = new; more = 2 }) → All (λ s. is_no_switch s ≡ true) code
    → Types (record { program = program; owes = old; more = 2 }) code frames behind
    → Types (record { program = program; owes = new; more = 2 }) (map (redirected to) code) frames behind
redirected-types program old new to [] [] behind carries plain t = tt
redirected-types program old new to [] (f ∷ frames) behind carries plain t = t
redirected-types program old new to (s ∷ code) [] behind carries plain t = t
redirected-types program old new to (s ∷ code) (f ∷ frames) behind carries plain t = (
  t.0,
  redirected-fits program old new to s f (frames ++ behind) carries (All-head (λ s. is_no_switch s ≡ true) s code plain) t.1,
  redirected-types program old new to code frames behind carries (All-tail (λ s. is_no_switch s ≡ true) s code plain) t.2,
)

pub code-redirected : (program : Program) (old new : ℕ → Option TypeFrame) (to : ℕ → ℕ) (code : List Step) (from : TypeFrame)
    (behind : List TypeFrame) → Carries to (record { program = program; owes = old; more = 2 }) (record { program = program; owes = new; more = 2 })
    → All (λ s. is_no_switch s ≡ true) code → TypesFrom (record { program = program; owes = old; more = 2 }) code from behind
    → TypesFrom (record { program = program; owes = new; more = 2 }) (map (redirected to) code) from behind
code-redirected program old new to code from behind carries plain t = record {
  frames = t.frames;
  begins = t.begins;
  types = redirected-types program old new to code t.frames behind carries plain t.types;
}

-- ---- parts

pub parts-typed : (rules : Rules) (part : ℕ → List Step) (parts : List ℕ) (f : TypeFrame) (behind : List TypeFrame)
    → Meets f (slice_get behind 0) → All (λ k. Leads rules (part k) f f) parts → PartsTyped rules part parts f behind
parts-typed rules part [] f behind m all = record { frames = []; types = tt; begins = λ n few. nothing n }
  where
    nothing : (n : ℕ) → Meets f (slice_get behind (length (flat_map part (take n []))))
    nothing zero = m
    nothing (suc n) = m
parts-typed rules part (k ∷ parts) f behind m all =
    let t = All-head (λ k. Leads rules (part k) f f) k parts all in
    let rest = parts-typed rules part parts f behind m (All-tail (λ k. Leads rules (part k) f f) k parts all) in
    let first : Meets f (slice_get (rest.frames ++ behind) 0) = rest.begins 0 (omega arith) in
    let rise = begun-rises f (rest.frames ++ behind) first in
    let assoc = sym (append_assoc t.frames rest.frames behind) in
    record {
      frames = t.frames ++ rest.frames;
      types = types-append rules (part k) (flat_map part parts) t.frames rest.frames behind
          (types-rise rules (part k) t.frames (f ∷ []) (rest.frames ++ behind) rise t.types) rest.types;
      begins = λ n few. subst (λ all. Meets f (slice_get all (length (flat_map part (take n (k ∷ parts)))))) assoc (begins t rest rise n few);
    }
  where
    begins : (t : Leads rules (part k) f f) (rest : PartsTyped rules part parts f behind) → Rise (f ∷ []) (rest.frames ++ behind) → (n : ℕ)
        → n ≤ length (k ∷ parts) → Meets f (slice_get (t.frames ++ (rest.frames ++ behind)) (length (flat_map part (take n (k ∷ parts)))))
    begins t rest rise zero few = rise-behind t.frames (f ∷ []) (rest.frames ++ behind) rise f 0 t.begins
    begins t rest rise (suc n) few =
        let i = length (flat_map part (take n parts)) in
        subst (Meets f)
        (sym (place-behind rules (part k) t.frames (f ∷ []) (rest.frames ++ behind) i (length (part k ++ flat_map part (take n parts))) t.types
        (length-append (part k) (flat_map part (take n parts)))))
        (rest.begins n (omega arith))
