-- Starts over what runs have left: nothing stands behind it, so each is the first start further on.
use Rattle.std.proofs.Common.{◌≡◌, ℕ, ◌+◌, nat_lt, Bool, true, false, if◌then◌else◌, [], ◌∷◌, Option, Some, None, refl, sym, ap, subst, ◌∙◌, true≢false, arith}
use Rattle.std.proofs.lemmas.Bool.{ltb-false}
use Rattle.run_definition.specs.Question.{Question}
use Rattle.run_definition.specs.Answer.{Answer, next_answer}
use Rattle.run_definition.specs.Run.{run_of}
use Rattle.nv_events.specs.Laws.{GivesFitting}
use Rattle.nv_events.proofs.RunLaws.{run_of-list}
use Rattle.jvm_definition.specs.declared.kind.Kind.{Kind}
use Rattle.jvm_definition.specs.declared.kind.Kind.TheVariants.{Top, Int, Long, Null, Ints, Pages, Text}
use Rattle.jvm_definition.specs.Values.{Array, Heap, no_arrays, is_ints, is_pages}
use Rattle.jvm_definition.specs.Program.{Program}
use Rattle.jvm_definition.specs.Step.{Frame, JvmState, field_zero, entered_frame, jvm_start, jvm_turn}
use Rattle.jvm_definition.specs.Typing.{AllTyped, IsLinked}
use Rattle.jvm_definition_laws.specs.Safety.{HeapIsSafe, FrameIsSafe, IsSafe}
use Rattle.jvm_definition_laws.proofs.HeapLaws.{Keeps, conforms_kept, Conform-kept, no_arrays_safe, continues_int}
use Rattle.jvm_definition_laws.proofs.StepLaws.{start_safe}
use Rattle.jvm_definition_laws.proofs.RunSafety.{safe_run}
use Rattle.jvm_run_laws.specs.Relocation.{relocated_value, relocated_heap, relocated}
use Rattle.jvm_definition.specs.Again.{again, IsFree, IsLeft, no_run, after_run, after_write}
use Rattle.jvm_run_laws.specs.Laws.{RunsAs, RunsBeginAfresh, LeftHeapsAreFree, RunsLeaveHeaps}
use Rattle.jvm_run_laws.proofs.Turns.{entered-far}
use Rattle.jvm_run_laws.proofs.Runs.{runs-far}

-- ---- the start, further on

far_zero : (by : ℕ) (kind : Option Kind) → field_zero kind ≡ relocated_value by (field_zero kind)
far_zero by None = refl
far_zero by (Some Top) = refl
far_zero by (Some Int) = refl
far_zero by (Some Long) = refl
far_zero by (Some Null) = refl
far_zero by (Some Ints) = refl
far_zero by (Some Pages) = refl
far_zero by (Some Text) = refl

free_from : (b : Bool) (a : Option Array) → (b ≡ false → a ≡ None) → a ≡ (if b then a else None)
free_from true a h = refl
free_from false a h = h refl

far_heap : (heap : Heap) → IsFree heap → heap ≡ relocated_heap heap no_arrays
far_heap heap free =
    let used : heap.used ≡ heap.used + 0 = omega arith in
    λ x. record {
      used = used x;
      array_at = λ p. free_from (nat_lt p heap.used) (heap.array_at p) (λ t. free p (ltb-false p heap.used t)) x;
    }

again-far : (program : Program) (heap : Heap) → IsFree heap → again program heap ≡ relocated heap (jvm_start program)
again-far program heap free = λ x. record {
  fields = λ f. far_zero heap.used (program.field f) x;
  heap = far_heap heap free x;
  frames = entered-far heap program.first [] x ∷ [];
}

-- ---- what runs leave

none-kept : (test : Option Array → Bool) (a : Option Array) → test None ≡ false → test None ≡ true → test a ≡ true
none-kept test a e h = absurd (true≢false (sym h ∙ e))

keeps_none : (heap : Heap) → Keeps no_arrays heap
keeps_none heap = record {
  of_ints = λ p h. none-kept is_ints (heap.array_at p) refl h;
  of_pages = λ p h. none-kept is_pages (heap.array_at p) refl h;
}

frame_over : (program : Program) (heap : Heap) (f : Frame) → FrameIsSafe program no_arrays f → FrameIsSafe program heap f
frame_over program heap f r = record {
  method = r.method;
  method_is = r.method_is;
  frames = r.frames;
  typing = r.typing;
  line = r.line;
  line_is = r.line_is;
  types = r.types;
  types_are = r.types_are;
  locals = λ i. conforms_kept no_arrays heap (keeps_none heap) (r.types.locals i) (f.locals i) (r.locals i);
  operands = Conform-kept no_arrays heap (keeps_none heap) r.types.stack f.operands r.operands;
  within = r.within;
}

again_safe : (program : Program) (heap : Heap) → AllTyped program → IsLinked program → HeapIsSafe heap → IsSafe program (again program heap)
again_safe program heap typed linked safe =
    let first = start_safe program typed linked in
    record {
      heap = safe;
      fields = λ f kind e. conforms_kept no_arrays heap (keeps_none heap) kind (field_zero (program.field f)) (first.fields f kind e);
      frames = (frame_over program heap (entered_frame program.first []) first.frames.0, first.frames.1);
      few = first.few;
    }

left_safe : (program : Program) → AllTyped program → IsLinked program → (heap : Heap) → IsLeft program heap → HeapIsSafe heap
left_safe program typed linked heap no_run = no_arrays_safe
left_safe program typed linked heap (after_run words n before answers left) =
    (safe_run program words next_answer typed linked n (again program before) answers (again_safe program before typed linked (left_safe program typed linked before left))).last.heap
left_safe program typed linked heap (after_write before p i word left) =
    (continues_int before p i word (left_safe program typed linked before left)).safe

pub heaps-free : LeftHeapsAreFree
heaps-free program heap typed linked left = (left_safe program typed linked heap left).free

-- ---- runs

pub runs-afresh : {K : Type 0} (reply : K → Question → Option (Answer × K)) → RunsBeginAfresh reply
runs-afresh {K} reply program words n heap k free =
    subst (λ (s : JvmState). RunsAs (relocated heap) (run_of (jvm_turn program words) reply n (jvm_start program) k) (run_of (jvm_turn program (heap.used + words)) reply n s k)) (sym (again-far program heap free))
    (runs-far reply program words n heap (jvm_start program) k)

pub heaps-left : {K : Type 0} (reply : K → Question → Option (Answer × K)) → GivesFitting reply → RunsLeaveHeaps reply
heaps-left reply fitting program words n heap k left =
    let over = run_of-list (jvm_turn program words) reply fitting n (again program heap) k in
    subst (IsLeft program) (ap (λ (s : JvmState). s.heap) over.1.last) (after_run words n heap over.0 left)
