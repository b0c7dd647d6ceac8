-- Turns that call no methods but helpers stay in a method and the helpers, where they come back to a frame of that method above the same others.
use Rattle.std.proofs.Common.{◌≡◌, ℕ, zero, suc, ◌<◌, ◌≤◌, ◌⊎◌, inl, inr, Bool, true, false, if◌then◌else◌, nat_lt, nat_le, ◌==◌, List, [], ◌∷◌, ◌++◌, map, length, slice_get, Option, Some, None, refl, ap, sym, subst, ◌∙◌, arith}
use Rattle.std.specs.List.{sum_by}
use Rattle.std.proofs.lemmas.Bool.{ltb-true}
use Rattle.std.proofs.lemmas.Bool.Decides.{nat_tests}
use Rattle.std.proofs.lemmas.List.{length-append, append_assoc}
use Rattle.std.proofs.lemmas.List.Sums.{sum_by-cons}
use Rattle.run_definition.specs.Turn.{Turn, moves, ends, leaves, asks, trap}
use Rattle.run_simulation_laws.specs.Trail.{advanced, moved, if_moves, went}
use Rattle.jvm_definition.specs.declared.linked_line.LinkedLine.{LinkedLine}
use Rattle.jvm_definition.specs.declared.value.Value.{Value}
use Rattle.jvm_definition.specs.declared.instruction.Instruction.{Instruction}
use Rattle.jvm_definition.specs.declared.instruction.Instruction.TheVariants.{Call}
use Rattle.jvm_definition.specs.Program.{Program, linked_line_at, instruction_targets}
use Rattle.jvm_definition.specs.Effect.{Workspace, InstructionEffect, goes_on, jumps, enters, gives, asks_host, faults, traps, wrong, instruction_effect, frames_trap}
use Rattle.jvm_definition.specs.Step as machine
use Rattle.jvm_definition.specs.Step.{JvmState, Frame, frame_placed, jvm_turn, jvm_turn_by, turn_of, jumped, method_called, returned_to, with_result, asked_host, workspace_of}
use Rattle.emit_paths_laws.specs.Classes.{entries, executed, weighed, line_of}
use Rattle.emit_program_laws.specs.SpanCodeLaws.Helpers.{helper_count}
use Rattle.emit_program_laws.specs.SpanCodeLaws.Sites.{Site}
use Rattle.nv_translate.specs.Staying.{RunsInside}
use Rattle.nv_translate.proofs.WarmTranslations.Entering.{calls_such, enters_such, enters-called}

-- the methods that are no helpers
abbrev pub is_other : ℕ → Bool
is_other m = nat_le helper_count m

-- ---- the methods of frames

abbrev pub methods : List Frame → List ℕ
methods frames = map (λ (f : Frame). f.method) frames

-- helpers above a method's frame, which stands above others
abbrev pub IsAbove : ℕ → List ℕ → List ℕ → Type 0
IsAbove m others [] = ⊥
IsAbove m others (k ∷ ms) = ((k ≡ m) × (ms ≡ others)) ⊎ ((k < helper_count) × IsAbove m others ms)

-- helpers above what is left of these others
abbrev pub IsLeft : List ℕ → List ℕ → Type 0
IsLeft others [] = Unit {0}
IsLeft others (k ∷ ms) = ((front : List ℕ) × (others ≡ front ++ k ∷ ms)) ⊎ ((k < helper_count) × IsLeft others ms)

-- what a turn does to them: they stay, a helper is called, or the first one returns
data Changes : List ℕ → List ℕ → Type 0 where
  none : {ms : List ℕ} → Changes ms ms
  calls : {ms : List ℕ} {h : ℕ} → h < helper_count → Changes ms (h ∷ ms)
  returns : {ms : List ℕ} {k : ℕ} → Changes (k ∷ ms) ms

end-left : (others front : List ℕ) (k : ℕ) (ms : List ℕ) → others ≡ front ++ k ∷ ms → IsLeft others ms
end-left others front k [] is = tt
end-left others front k (l ∷ ms) is = inl (front ++ k ∷ [], is ∙ sym (append_assoc front (k ∷ []) (l ∷ ms)))

left-stays : (others : List ℕ) {ms ns : List ℕ} → Changes ms ns → IsLeft others ms → IsLeft others ns
left-stays others none left = left
left-stays others (calls low) left = inr (low, left)
left-stays others (returns {ms} {k}) (inl end) = end-left others end.0 k ms end.1
left-stays others (returns) (inr rest) = rest.1

all-left : (others : List ℕ) → IsLeft others others
all-left [] = tt
all-left (k ∷ others) = inl ([], refl)

above-stays : (m : ℕ) (others : List ℕ) {ms ns : List ℕ} → Changes ms ns → IsAbove m others ms → IsAbove m others ns ⊎ IsLeft others ns
above-stays m others none above = inl above
above-stays m others (calls low) above = inl (inr (low, above))
above-stays m others (returns) (inl own) = inr (subst (IsLeft others) (sym own.1) (all-left others))
above-stays m others (returns) (inr rest) = inl rest.1

-- no frame of the method stands above the others once it has returned
pub none-left : (m : ℕ) (others : List ℕ) → helper_count ≤ m → IsLeft others (m ∷ others) → ⊥
none-left m others high (inl end) =
    let long = ap length end.1 in let both = length-append end.0 (m ∷ others) in omega (arith, long, both)
none-left m others high (inr rest) = let low = rest.0 in omega (arith, high, low)

-- ---- turns

-- a turn that moves and calls no method but a helper
result-same : (v : Option Value) (f : Frame) → (with_result v f).method ≡ f.method
result-same None f = refl
result-same (Some v) f = refl

pub moves-to : (s t : JvmState) → moves s ≡ moves t → s ≡ t
moves-to s t is = cc

abbrev Made : JvmState → JvmState → Type 0
Made s t = Changes (methods s.frames) (methods t.frames)

placed-made : (s : JvmState) (f : Frame) (others : List Frame) (at : ℕ) (w : Workspace) (t : JvmState) → s.frames ≡ f ∷ others
    → moves (frame_placed f.method at w others) ≡ moves t → Made s t
placed-made s f others at w t frames is =
    subst (λ (u : JvmState). Changes (methods s.frames) (methods u.frames)) (moves-to (frame_placed f.method at w others) t is)
    (subst (λ (fs : List Frame). Changes (methods fs) (f.method ∷ methods others)) (sym frames) none)

jumped-made : (s : JvmState) (f : Frame) (others : List Frame) (target : Option ℕ) (w : Workspace) (t : JvmState) → s.frames ≡ f ∷ others
    → jumped f.method target w others ≡ moves t → Made s t
jumped-made s f others None w t frames is = absurd cc
jumped-made s f others (Some at) w t frames is = placed-made s f others at w t frames is

called-made : (s : JvmState) (f : Frame) (others : List Frame) (callee : ℕ) (given : List Value) (u t : JvmState) (few : Bool) → s.frames ≡ f ∷ others
    → callee < helper_count → methods u.frames ≡ f.method ∷ methods others
    → (if few then moves (record { fields = u.fields; heap = u.heap; frames = machine.entered_frame callee given ∷ u.frames }) else ends
    (trap frames_trap)) ≡ moves t
    → Made s t
called-made s f others callee given u t false frames low same is = absurd cc
called-made s f others callee given u t true frames low same is =
    let after : JvmState = record { fields = u.fields; heap = u.heap; frames = machine.entered_frame callee given ∷ u.frames } in
    subst (λ (z : JvmState). Changes (methods s.frames) (methods z.frames)) (moves-to after t is)
    (subst (λ (ms : List ℕ). Changes (methods s.frames) (callee ∷ ms)) (ap methods frames ∙ sym same) (calls low))

returned-made : (s : JvmState) (f : Frame) (others : List Frame) (v : Option Value) (w : Workspace) (t : JvmState) → s.frames ≡ f ∷ others
    → returned_to others v w ≡ moves t → Made s t
returned-made s f [] v w t frames is = absurd cc
returned-made s f (g ∷ others) v w t frames is =
    let after : JvmState = record { fields = w.fields; heap = w.heap; frames = with_result v g ∷ others } in
    subst (λ (z : JvmState). Changes (methods s.frames) (methods z.frames)) (moves-to after t is)
    (subst (λ (fs : List Frame). Changes (methods fs) ((with_result v g).method ∷ methods others)) (sym frames)
    (subst (λ m. Changes (f.method ∷ g.method ∷ methods others) (m ∷ methods others)) (sym (result-same v g)) returns))

asked-not : {A : Type 0} (b : Bool) (x y : Turn JvmState) (t : JvmState) → ((u : JvmState) → x ≡ moves u → A) → ((u : JvmState) → y ≡ moves u → A)
    → (if b then x else y) ≡ moves t → A
asked-not true x y t first second is = first t is
asked-not false x y t first second is = second t is

effect-made : (s : JvmState) (f : Frame) (others : List Frame) (line : LinkedLine) (e : InstructionEffect) (t : JvmState) → s.frames ≡ f ∷ others
    → enters_such (λ m. nat_lt m helper_count) e ≡ true → jvm_turn_by e f.method line others ≡ moves t → Made s t
effect-made s f others line (goes_on w) t frames such is = placed-made s f others line.next w t frames is
effect-made s f others line (jumps k w) t frames such is = jumped-made s f others (slice_get (instruction_targets line.instruction) k) w t frames is
effect-made s f others line (enters callee given w) t frames such is =
    called-made s f others callee given (frame_placed f.method line.next w others) t (nat_lt (length (frame_placed f.method line.next w others).frames) 64) frames
    (ltb-true callee helper_count such) refl is
effect-made s f others line (gives v w) t frames such is = returned-made s f others v w t frames is
effect-made s f others line (asks_host call readable writable w) t frames such is =
    absurd (asked-not (call.number == 1) (leaves _ _) (asks _ _) t (λ u e. cc) (λ u e. cc) is)
effect-made s f others line (faults g) t frames such is = absurd cc
effect-made s f others line (traps k) t frames such is = absurd cc
effect-made s f others line wrong t frames such is = absurd cc

-- an instruction that counts no call of another method calls helpers alone
counted-such : (b : Bool) → ◌≡◌ {A = ℕ} (if b then 1 else 0) 0 → b ≡ false
counted-such true is = absurd (omega (arith, is))
counted-such false is = refl

other-low : (m : ℕ) → is_other m ≡ false → nat_lt m helper_count ≡ true
other-low m is = grind (arith, nat_tests)

call-such : (i : Instruction) → entries is_other i ≡ 0 → calls_such (λ m. nat_lt m helper_count) i ≡ true
call-such (Call m) is = other-low m (counted-such (is_other m) is)
call-such _ is = refl

line-made : (program : Program) (words : ℕ) (s : JvmState) (f : Frame) (others : List Frame) (line : Option LinkedLine) (t : JvmState)
    → s.frames ≡ f ∷ others
    → weighed (entries is_other) line ≡ 0 → machine.executed_line program words s f others line ≡ moves t → Made s t
line-made program words s f others None t frames quiet is = absurd cc
line-made program words s f others (Some line) t frames quiet is =
    effect-made s f others line (instruction_effect program words line.instruction (workspace_of s f)) t frames
    (enters-called (λ m. nat_lt m helper_count) program words line.instruction (workspace_of s f) (call-such line.instruction quiet)) is

turn-made : (program : Program) (words : ℕ) (s t : JvmState) (frames : List Frame) → s.frames ≡ frames
    → weighed (entries is_other) (line_of program frames) ≡ 0
    → turn_of program words s frames ≡ moves t → Made s t
turn-made program words s t [] frames quiet is = absurd cc
turn-made program words s t (f ∷ others) frames quiet is = line-made program words s f others (linked_line_at program f.method f.at) t frames quiet is

-- ---- turns one after the other

module _ (program : Program) (words : ℕ) where
  abbrev step : JvmState → Turn JvmState
  step = jvm_turn program words

  -- the state after one turn more
  pub next-is : (n : ℕ) (x y : JvmState) → advanced step (suc n) x ≡ Some y → (t : JvmState) × (step x ≡ moves t) × (advanced step n t ≡ Some y)
  next-is n x y comes = by-turn (step x) refl comes
    where
      by-turn : (u : Turn JvmState) → step x ≡ u → if_moves u None (advanced step n) ≡ Some y
          → (t : JvmState) × (step x ≡ moves t) × (advanced step n t ≡ Some y)
      by-turn (moves t) is later = (t, is, later)
      by-turn (ends e) is later = absurd cc
      by-turn (leaves q e) is later = absurd cc
      by-turn (asks q next) is later = absurd cc

module _ (program : Program) (words m : ℕ) (others : List ℕ) where
  -- they call no method but a helper
  abbrev IsQuiet : ℕ → JvmState → Type 0
  IsQuiet n x = sum_by (executed program (entries is_other)) (moved (jvm_turn program words) n x) ≡ 0

  abbrev IsAboveIn : JvmState → Type 0
  IsAboveIn s = IsAbove m others (methods s.frames)

  abbrev IsLeftIn : JvmState → Type 0
  IsLeftIn s = IsLeft others (methods s.frames)

  -- the first of them, and the rest
  first-quiet : (n : ℕ) (x t : JvmState) → (jvm_turn program words) x ≡ moves t → IsQuiet (suc n) x
      → (weighed (entries is_other) (line_of program x.frames) ≡ 0) × IsQuiet n t
  first-quiet n x t is quiet =
      let trail : moved (jvm_turn program words) (suc n) x ≡ went x t ∷ moved (jvm_turn program words) n t =
      ap (λ u. if_moves u [] (λ v. went x v ∷ moved (jvm_turn program words) n v)) is in
      let both = sum_by-cons (executed program (entries is_other)) (went x t) (moved (jvm_turn program words) n t) in
      let all : sum_by (executed program (entries is_other)) (moved (jvm_turn program words) (suc n) x) ≡ sum_by (executed program (entries is_other))
      (went x t ∷ moved (jvm_turn program words) n t) =
      ap (sum_by (executed program (entries is_other))) trail in
      (omega (arith, both, all, quiet), omega (arith, both, all, quiet))

  moved-made : (x t : JvmState) → (jvm_turn program words) x ≡ moves t → weighed (entries is_other) (line_of program x.frames) ≡ 0 → Made x t
  moved-made x t is quiet = turn-made program words x t x.frames refl quiet is

  pub left-ends : (n : ℕ) (x y : JvmState) → advanced (jvm_turn program words) n x ≡ Some y → IsQuiet n x → IsLeftIn x → IsLeftIn y
  left-ends zero x y comes quiet left = let same : x ≡ y = cc in subst IsLeftIn same left
  left-ends (suc n) x y comes quiet left =
      let next = next-is program words n x y comes in
      let parts = first-quiet n x next.0 next.1 quiet in
      left-ends n next.0 y next.2 parts.1 (left-stays others (moved-made x next.0 next.1 parts.0) left)

  -- where they come back to a frame of the method above the same others, it was there all the time
  pub above-all : helper_count ≤ m → (n : ℕ) (x y : JvmState) → advanced (jvm_turn program words) n x ≡ Some y → IsQuiet n x → IsAboveIn x
      → methods y.frames ≡ m ∷ others
      → (i : ℕ) (z : JvmState) → i ≤ n → advanced (jvm_turn program words) i x ≡ Some z → IsAboveIn z
  above-all high n x y comes quiet above end zero z less at = let same : x ≡ z = cc in subst IsAboveIn same above
  above-all high zero x y comes quiet above end (suc i) z less at = absurd (omega (arith, less))
  above-all high (suc n) x y comes quiet above end (suc i) z less at =
      let next = next-is program words n x y comes in
      let again = next-is program words i x z at in
      let same : again.0 ≡ next.0 = moves-to again.0 next.0 (sym again.1 ∙ next.1) in
      let parts = first-quiet n x next.0 next.1 quiet in
      elim (above-stays m others (moved-made x next.0 next.1 parts.0) above) [
        | inl up ↦
            above-all high n next.0 y next.2 parts.1 up end i z (omega (arith, less))
            (subst (λ (t : JvmState). advanced (jvm_turn program words) i t ≡ Some z) same again.2)
        | inr left ↦ absurd (none-left m others high (subst (IsLeft others) end (left-ends n next.0 y next.2 parts.1 left)))
      ]

  -- in any case it is there, or only what is left of the others
  abbrev IsEither : JvmState → Type 0
  IsEither s = IsAboveIn s ⊎ IsLeftIn s

  either-stays : (x t : JvmState) → Made x t → IsEither x → IsEither t
  either-stays x t made (inl above) = above-stays m others made above
  either-stays x t made (inr left) = inr (left-stays others made left)

  pub either-all : (n : ℕ) (x y : JvmState) → advanced (jvm_turn program words) n x ≡ Some y → IsQuiet n x → IsEither x → (i : ℕ) (z : JvmState) → i ≤ n
      → advanced (jvm_turn program words) i x ≡ Some z
      → IsEither z
  either-all n x y comes quiet is zero z less at = let same : x ≡ z = cc in subst IsEither same is
  either-all zero x y comes quiet is (suc i) z less at = absurd (omega (arith, less))
  either-all (suc n) x y comes quiet is (suc i) z less at =
      let next = next-is program words n x y comes in
      let again = next-is program words i x z at in
      let same : again.0 ≡ next.0 = moves-to again.0 next.0 (sym again.1 ∙ next.1) in
      let parts = first-quiet n x next.0 next.1 quiet in
      either-all n next.0 y next.2 parts.1 (either-stays x next.0 (moved-made x next.0 next.1 parts.0) is) i z (omega (arith, less))
      (subst (λ (t : JvmState). advanced (jvm_turn program words) i t ≡ Some z) same again.2)

-- ---- what runs there

pub above-inside : (site : Site) (others : List ℕ) (frames : List Frame) → IsAbove site.method others (methods frames) → RunsInside site frames
above-inside site others [] above = absurd above
above-inside site others (f ∷ frames) (inl own) = inl own.0
above-inside site others (f ∷ frames) (inr rest) = inr rest.0

none-before : (front : List ℕ) (k : ℕ) (ms : List ℕ) → [] ≡ front ++ k ∷ ms → ⊥
none-before front k ms is = let long = ap length is in let both = length-append front (k ∷ ms) in omega (arith, long, both)

pub lone-inside : (site : Site) (frames : List Frame) (f : Frame) (rest : List Frame) → frames ≡ f ∷ rest
    → IsAbove site.method [] (methods frames) ⊎ IsLeft [] (methods frames) → RunsInside site frames
lone-inside site [] f rest some is = absurd cc
lone-inside site (g ∷ frames) f rest some (inl above) = above-inside site [] (g ∷ frames) above
lone-inside site (g ∷ frames) f rest some (inr (inl end)) = absurd (none-before end.0 g.method (methods frames) end.1)
lone-inside site (g ∷ frames) f rest some (inr (inr low)) = inr low.0
