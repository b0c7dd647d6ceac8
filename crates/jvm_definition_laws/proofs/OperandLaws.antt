-- What the instruction of a safe state finds.
use Rattle.std.proofs.Common.{◌≡◌, ◌≢◌, ℕ, ◌+◌, ◌≤◌, Bool, true, false, if◌then◌else◌, List, [], ◌∷◌, ◌++◌, All, Some, is_some, refl, sym, ap, subst, ◌∙◌, true≢false, arith}
use Rattle.jvm_definition.specs.declared.kind.Kind.{Kind}
use Rattle.jvm_definition.specs.declared.kind.Kind.TheVariants.{Top, Int}
use Rattle.jvm_definition.specs.declared.local_kind.LocalKind.{LocalKind}
use Rattle.jvm_definition.specs.declared.linked_line.LinkedLine.{LinkedLine}
use Rattle.jvm_definition.specs.declared.linked_method.LinkedMethod.{LinkedMethod}
use Rattle.jvm_definition.specs.declared.instruction.Instruction.{Instruction}
use Rattle.jvm_definition.specs.Values.{Heap, conforms}
use Rattle.jvm_definition.specs.declared.value.Value.{Value}
use Rattle.jvm_definition.specs.Shuffles.{shuffled}
use Rattle.jvm_definition.specs.Program.{Program, instruction_targets, falls_through, successors}
use Rattle.jvm_definition.specs.Effect.{InstructionEffect, goes_on, jumps, enters, gives, asks_host, faults, traps, wrong, instruction_effect, moves_value}
use Rattle.jvm_definition.specs.Step.{Frame, JvmState, with_result, workspace_of}
use Rattle.jvm_definition.specs.Typing as types
use Rattle.jvm_definition.specs.Typing.{TypeFrame, TypeEffect, exchanges, takes_reference, takes_array, shuffles, never, is_reference_kind, is_array_kind, same_kind, moves_kind, is_long_kind, with_stack, with_local_kind, taken, taken_one, stored_type, applied, type_effect, below, stack_below, no_top, slots_of, given_by, Frames, Receives, IsTyping, IsLinked}
use Rattle.jvm_definition_laws.specs.Safety.{Conform, FrameIsSafe, given, CallerIsSafe, FramesAreSafe, IsSafe, Begin, OnTop, OperandsFit, slots_in, LeavesWithin, InstructionFits}
use Rattle.jvm_definition_laws.proofs.KindLaws.{and_parts, tested, some_same, Conform-taken, no_top-parts, slots_agree}
use Rattle.jvm_definition_laws.proofs.ShuffleLaws.{shuffled_conform}
use Rattle.jvm_definition_laws.proofs.TakingLaws.{Stands, Leaves, on, to, into, out, mapped}
use Rattle.jvm_definition_laws.proofs.EffectLaws.{is_reference_of, Conform-one, int_of, moves_of, array_of, effect_leaves}
use Rattle.jvm_definition_laws.proofs.StepLaws.{if_all}

-- ---- operands

begins : (heap : Heap) (kinds rest : List Kind) (operands : List Value) → Conform heap (kinds ++ rest) operands → Begin heap kinds operands
begins heap [] rest operands c = tt
begins heap (k ∷ kinds) rest [] c = c
begins heap (k ∷ kinds) rest (v ∷ operands) c = (c.0, begins heap kinds rest operands c.1)

on_top_is : (heap : Heap) (test : Value → Bool) (k : Kind) (rest : List Kind) (operands : List Value) → ((v : Value) → conforms heap k v ≡ true → test v ≡ true) → Conform heap (k ∷ rest) operands → OnTop test operands
on_top_is heap test k rest [] h c = c
on_top_is heap test k rest (v ∷ operands) h c = h v c.0

stored_on_top : (heap : Heap) (moved : LocalKind) (i : ℕ) (f g : TypeFrame) (stack : List Kind) (operands : List Value) → stored_type moved i f stack ≡ Some g → Conform heap stack operands → OnTop (moves_value moved) operands
stored_on_top heap moved i f g [] operands e c = cc
stored_on_top heap moved i f g (k ∷ stack) operands e c =
    let parts = tested (moves_kind moved k) (Some (with_local_kind f i k stack)) g e in
    on_top_is heap (moves_value moved) k stack operands (λ v h. moves_of heap moved k v parts.0 h) c

operands_fit : (heap : Heap) (t : TypeEffect) (f g : TypeFrame) (locals : ℕ → Value) (operands : List Value) → applied t f ≡ Some g → no_top f.stack ≡ true → ((i : ℕ) → conforms heap (f.locals i) (locals i) ≡ true) → Conform heap f.stack operands → OperandsFit heap t locals operands
operands_fit heap (exchanges kinds behind) f g locals operands e tops l c =
    let parts = mapped (λ stack. with_stack f (behind ++ stack)) (taken kinds f.stack) g e in
    begins heap kinds parts.0 operands (Conform-taken heap kinds f.stack parts.0 operands parts.1 c)
operands_fit heap takes_reference f g locals operands e tops l c =
    let parts = mapped (with_stack f) (taken_one is_reference_kind f.stack) g e in
    let top = Conform-one heap is_reference_kind f.stack parts.0 operands parts.1 c in
    on_top_is heap _ top.0 parts.0 operands (λ v h. is_reference_of heap top.0 v top.1 h) top.2
operands_fit heap takes_array f g locals operands e tops l c =
    let parts = mapped (λ stack. with_stack f (Int ∷ stack)) (taken_one is_array_kind f.stack) g e in
    let top = Conform-one heap is_array_kind f.stack parts.0 operands parts.1 c in
    on_top_is heap _ top.0 parts.0 operands (λ v h. array_of heap top.0 v top.1 h) top.2
operands_fit heap (types.loads moved i) f g locals operands e tops l c =
    moves_of heap moved (f.locals i) (locals i) (tested (moves_kind moved (f.locals i)) (Some (with_stack f (f.locals i ∷ f.stack))) g e).0 (l i)
operands_fit heap (types.stores moved i) f g locals operands e tops l c =
    stored_on_top heap moved i f g f.stack operands e c
operands_fit heap (types.increments i) f g locals operands e tops l c =
    int_of heap (f.locals i) (locals i) (tested (same_kind (f.locals i) Int) (Some f) g e).0 (l i)
operands_fit heap (shuffles forms) f g locals operands e tops l c =
    let parts = mapped (with_stack f) (shuffled is_long_kind forms f.stack) g e in
    let found = shuffled_conform heap forms f.stack operands tops c parts.0 parts.1 in
    ap is_some found.1
operands_fit heap never f g locals operands e tops l c = cc

-- ---- slots

no_top_below : (kinds others : List Kind) → stack_below kinds others ≡ true → no_top others ≡ true → no_top kinds ≡ true
no_top_below [] others h k = refl
no_top_below (k ∷ kinds) [] h n = absurd (true≢false (sym h))
no_top_below (k ∷ kinds) (o ∷ others) h n =
    let parts = and_parts (below k o) (stack_below kinds others) h in
    let tops = no_top-parts o others n in
    not_top k o kinds parts.0 tops.0 (no_top_below kinds others parts.1 tops.1)
  where
    not_top : (k o : Kind) (kinds : List Kind) → below k o ≡ true → o ≢ Top → no_top kinds ≡ true → no_top (k ∷ kinds) ≡ true
    not_top Top Top kinds b h n = absurd (h refl)
    not_top Top _ kinds b h n = absurd (true≢false (sym b))
    not_top _ o kinds b h n = n

no_top_behind : (b : Bool) (kinds : List Kind) → no_top (given_by b ++ kinds) ≡ true → no_top kinds ≡ true
no_top_behind true kinds h = h
no_top_behind false kinds h = h

slots_behind : (b : Bool) (kinds : List Kind) → slots_of kinds ≤ slots_of (given_by b ++ kinds)
slots_behind true kinds = omega arith
slots_behind false kinds = omega arith

module _ (program : Program) (before : Heap) (method : LinkedMethod) (frames : Frames) (line : LinkedLine) (behind : TypeFrame) (typing : IsTyping program method frames) (within : slots_of behind.stack ≤ method.stack) (received : All (Receives method frames behind) (successors line)) where
  no_top_received : (at : ℕ) → Receives method frames behind at → no_top behind.stack ≡ true
  no_top_received at r =
      no_top_below behind.stack r.1.stack r.4.stack ((typing at).operands at r.1 r.3)

  no_top_next : falls_through line.instruction ≡ true → no_top behind.stack ≡ true
  no_top_next e =
      no_top_received line.next ((if_all (Receives method frames behind) (falls_through line.instruction) line.next (instruction_targets line.instruction) received).0 e)

  leaves_within : (e : InstructionEffect) → Leaves program before line.instruction behind e → LeavesWithin method.stack e
  leaves_within (goes_on w) (on falls h) =
      omega (arith, slots_agree w.heap behind.stack w.operands (no_top_next falls) h.operands)
  leaves_within (jumps k w) (to l h) =
      let targets = instruction_targets line.instruction in
      let r = (if_all (Receives method frames behind) (falls_through line.instruction) line.next targets received).1 k 0 l in
      omega (arith, slots_agree w.heap behind.stack w.operands (no_top_received _ r) h.operands)
  leaves_within (enters callee passed w) (into target kinds there falls e c h) =
      let tops : no_top (given_by target.gives_int ++ kinds) ≡ true = ap no_top (sym e) ∙ no_top_next falls in
      let same : slots_of behind.stack ≡ slots_of (given_by target.gives_int ++ kinds) = ap slots_of e in
      omega (arith, same, slots_behind target.gives_int kinds, slots_agree w.heap kinds w.operands (no_top_behind target.gives_int kinds tops) h.operands)
  leaves_within (gives v w) h = tt
  leaves_within (asks_host call readable writable w) (out kinds falls e h) =
      let tops : no_top (Int ∷ kinds) ≡ true = ap no_top (sym e) ∙ no_top_next falls in
      let same : slots_of behind.stack ≡ slots_of (Int ∷ kinds) = ap slots_of e in
      omega (arith, same, slots_agree w.heap kinds w.operands tops h.operands)
  leaves_within (faults f) h = tt
  leaves_within (traps k) h = tt
  leaves_within wrong h = tt

never_wrong : (program : Program) (before : Heap) (by : Instruction) (g : TypeFrame) (e : InstructionEffect) → Leaves program before by g e → e ≢ wrong
never_wrong program before by g e h is = none (subst (λ e. Leaves program before by g e) is h)
  where
    none : Leaves program before by g wrong → ⊥
    none h = elim h [ ]

-- ---- instructions

frames_fit : (program : Program) (words : ℕ) (s : JvmState) (f : Frame) (others : List Frame) → IsLinked program → IsSafe program s → FramesAreSafe program s.heap (f ∷ others) → InstructionFits program words s f
frames_fit program words s f others linked safe h =
    let r = h.0 in
    let rule = (r.typing f.at).rules f.at r.line r.types (omega arith) r.line_is r.types_are in
    let tops = (r.typing f.at).operands f.at r.types r.types_are in
    let stands : Stands program r.types (workspace_of s f) = record { heap = safe.heap; fields = safe.fields; locals = r.locals } in
    let left = effect_leaves program words r.line.instruction rule.behind r.types (workspace_of s f) stands tops (linked.fields f.method r.method f.at r.line r.method_is r.line_is) rule.fits r.operands in
    record {
      method = r.method;
      method_is = r.method_is;
      line = r.line;
      line_is = r.line_is;
      local = rule.local;
      operands = operands_fit s.heap (type_effect program r.line.instruction) r.types rule.behind f.locals f.operands rule.fits tops r.locals r.operands;
      not_wrong = never_wrong program s.heap r.line.instruction rule.behind (instruction_effect program words r.line.instruction (workspace_of s f)) left;
      within = omega (arith, r.within, slots_agree s.heap r.types.stack f.operands tops r.operands);
      leaves = leaves_within program s.heap r.method r.frames r.line rule.behind r.typing rule.within rule.goes_on (instruction_effect program words r.line.instruction (workspace_of s f)) left;
    }

pub instruction_fits : (program : Program) (words : ℕ) (s : JvmState) (f : Frame) (others : List Frame) → IsLinked program → IsSafe program s → s.frames ≡ f ∷ others → InstructionFits program words s f
instruction_fits program words s f others linked safe is =
    frames_fit program words s f others linked safe (subst (λ frames. FramesAreSafe program s.heap frames) is safe.frames)

-- ---- frames

pub frame_holds : (program : Program) (heap : Heap) (f : Frame) (method : LinkedMethod) → FrameIsSafe program heap f → program.method f.method ≡ Some method → slots_in f.operands ≤ method.stack
frame_holds program heap f method r is =
    let same : r.method ≡ method = some_same r.method method (sym r.method_is ∙ is) in
    let tops = (r.typing f.at).operands f.at r.types r.types_are in
    let held : slots_in f.operands ≤ r.method.stack = omega (arith, r.within, slots_agree heap r.types.stack f.operands tops r.operands) in
    subst (λ (m : LinkedMethod). slots_in f.operands ≤ m.stack) same held

pub caller_holds : (program : Program) (heap : Heap) (gives_int : Bool) (f : Frame) (method : LinkedMethod) → CallerIsSafe program heap gives_int f → program.method f.method ≡ Some method → slots_in f.operands + (if gives_int then 1 else 0) ≤ method.stack
caller_holds program heap true f method h is =
    omega (arith, frame_holds program heap (with_result (given true 0) f) method (h 0) is)
caller_holds program heap false f method h is =
    omega (arith, frame_holds program heap f method (h 0) is)
