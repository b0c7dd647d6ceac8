-- The frames of the least typing are those of pruned code.
use Rattle.std.proofs.Common.{◌≡◌, ℕ, zero, suc, ◌<◌, ◌≤◌, ◌⊎◌, inl, inr, Bool, true, false, ◌&&◌, List, [], ◌∷◌, length, refl, sym, ap, subst, ◌∙◌, Option, Some, None, arith, get_or, ⊎_elim}
use Rattle.std.specs.Prelude.{All, Contains, if◌then◌else◌, IsTrue, ◌↔◌, IsSome, is_some, option_map, ◌++◌}
use Rattle.std.proofs.lemmas.Bool.{false≢true, and_parts, and_from, cases_eq, cases_lt}
use Rattle.std.proofs.lemmas.Option.{same_Some, none-some}
use Rattle.std.proofs.lemmas.List.{get_or_default}
use Rattle.jvm_definition.specs.declared.kind.Kind.{Kind}
use Rattle.jvm_definition.specs.declared.kind.Kind.TheVariants.{Top, Int, Long, Null, Ints, Pages, Text}
use Rattle.jvm_definition.specs.declared.instruction.Instruction.{Instruction}
use Rattle.jvm_definition.specs.declared.instruction.Instruction.TheVariants.{Return}
use Rattle.jvm_definition.specs.declared.linked_line.LinkedLine.{LinkedLine}
use Rattle.jvm_definition.specs.declared.linked_method.LinkedMethod.{LinkedMethod}
use Rattle.jvm_definition.specs.Program.{Program, line_in, LaidFrom, instruction_targets, falls_through, successors}
use Rattle.jvm_definition.specs.Typing.{TypeFrame, Below, Frames, no_top, slots_of, given_by, with_stack, taken, below, stack_below, type_effect, return_type, applied, local_within, Receives, Follows, IsTyping, entry_frame}
use Rattle.jvm_type_inference.specs.Verdict.{AreLeast}
use Rattle.jvm_type_inference.proofs.JoinLaws.{Below-refl}
use Rattle.frame_maps.specs.Framed.{HasLine, Framed}
use Rattle.jvm_type_inference.specs.Reached.{IsClosed, Reached}
use Rattle.stackmap_prune.specs.Pruned.{return_of, IsPruned, MustList, IsListing}
use Rattle.frame_maps.proofs.FramedLaws.{here, there, stands}
use Rattle.jvm_type_inference.proofs.CallLaws.{some-there}
use Rattle.jvm_type_inference.proofs.LeastLaws.{FlowsUnder, typed-exactly, least-is, is-some}

-- ---- lines one after the other

laid-apart : (start : ℕ) (lines : List LinkedLine) (a b : ℕ) (l m : LinkedLine) → LaidFrom start lines → line_in lines a ≡ Some l → line_in lines b ≡ Some m → a < b → l.next ≤ b
laid-apart start [] a b l m laid e f less = absurd (none-some l e)
laid-apart start (k ∷ lines) a b l m laid e f less =
    ⊎_elim
    (λ same.
    let is : k ≡ l = same_Some k l (sym (here k lines a same) ∙ e) in
    let s = stands k.next lines b m laid.2 (sym (there k lines b (λ x. omega (arith, same, less, x))) ∙ f) in
    subst (λ x. x.next ≤ b) is s.behind)
    (λ other.
    ⊎_elim
    (λ same.
    let s = stands k.next lines a l laid.2 (sym (there k lines a other) ∙ e) in
    absurd (omega (arith, laid.1, s.behind, same, less)))
    (λ apart. laid-apart k.next lines a b l m laid.2 (sym (there k lines a other) ∙ e) (sym (there k lines b apart) ∙ f) less)
    (cases_eq k.at b))
    (cases_eq k.at a)

-- one line ends where the next begins
laid-before : (lines : List LinkedLine) (a b : ℕ) (l m : LinkedLine) → LaidFrom 0 lines → line_in lines a ≡ Some l → line_in lines b ≡ Some m → l.next ≡ m.next → a ≡ b
laid-before lines a b l m laid e f same =
    let s = stands 0 lines a l laid e in
    let t = stands 0 lines b m laid f in
    ⊎_elim
    (λ h. h)
    (λ h.
    ⊎_elim
    (λ less. absurd (omega (arith, laid-apart 0 lines a b l m laid e f less, t.goes, same)))
    (λ more. absurd (omega (arith, laid-apart 0 lines b a m l laid f e (omega (arith, more, h)), s.goes, same)))
    (cases_lt a b))
    (cases_eq a b)

-- ---- the frames

abbrev either : Option TypeFrame → Option TypeFrame → Option TypeFrame
either None o = o
either (Some f) o = Some f

either-some : (o p : Option TypeFrame) (f : TypeFrame) → o ≡ Some f → either o p ≡ Some f
either-some o p f e = ap (λ x. either x p) e

either-cases : (o p : Option TypeFrame) (f : TypeFrame) → either o p ≡ Some f → (o ≡ Some f) ⊎ ((o ≡ None) × (p ≡ Some f))
either-cases None p f e = inr (refl, e)
either-cases (Some g) p f e = inl e

kept : (b : Bool) (f g : TypeFrame) → (if b then Some f else None) ≡ Some g → (b ≡ true) × (f ≡ g)
kept true f g e = (refl, same_Some f g e)
kept false f g e = absurd (none-some g e)

held : (b : Bool) (o : Option TypeFrame) (f : TypeFrame) → (if b then o else None) ≡ Some f → (b ≡ true) × (o ≡ Some f)
held true o f e = (refl, e)
held false o f e = absurd (none-some f e)

not-held : (b : Bool) (o : Option TypeFrame) → IsSome o → (if b then o else None) ≡ None → b ≡ false
not-held true o has e = absurd (false≢true (sym (ap is_some e) ∙ has))
not-held false o has e = refl

-- a return that was put in is entered with what it takes
record IsPutIn (gives_int : Bool) (f : TypeFrame) : Type 0 where
  takes : f.stack ≡ given_by gives_int

put-in-typed : (gives_int : Bool) (stack : List Kind) → stack ≡ given_by gives_int → no_top stack ≡ true
put-in-typed true stack e = ap no_top e
put-in-typed false stack e = ap no_top e

record Leaves (gives_int : Bool) (f : TypeFrame) : Type 0 where
  behind : TypeFrame
  fits : applied (return_type (return_of gives_int)) f ≡ Some behind
  empty : slots_of behind.stack ≡ 0

put-in-leaves : (gives_int : Bool) (f : TypeFrame) → f.stack ≡ given_by gives_int → Leaves gives_int f
put-in-leaves true f e = record {
  behind = with_stack f [];
  fits = ap (λ s. option_map (λ (stack : List Kind). with_stack f ([] ++ stack)) (taken (Int ∷ []) s)) e;
  empty = refl;
}
put-in-leaves false f e = record { behind = with_stack f f.stack; fits = refl; empty = ap slots_of e }

put-in-local : (gives_int : Bool) (count : ℕ) → local_within (return_type (return_of gives_int)) count
put-in-local true count = tt
put-in-local false count = tt

stops : (gives_int : Bool) → falls_through (Return (return_of gives_int)) ≡ false
stops gives_int = refl

-- ---- frames below each other are the same

kinds-same : (a b : Kind) → below a b ≡ true → below b a ≡ true → a ≡ b
kinds-same Top Top h k = refl
kinds-same Int Int h k = refl
kinds-same Long Long h k = refl
kinds-same Null Null h k = refl
kinds-same Ints Ints h k = refl
kinds-same Pages Pages h k = refl
kinds-same Text Text h k = refl
kinds-same Top _ h k = absurd (false≢true h)
kinds-same _ Top h k = absurd (false≢true k)
kinds-same Null _ h k = absurd (false≢true k)
kinds-same _ _ h k = absurd (false≢true h)

stacks-same : (ks os : List Kind) → stack_below ks os ≡ true → stack_below os ks ≡ true → ks ≡ os
stacks-same [] [] h k = refl
stacks-same [] (o ∷ os) h k = absurd (false≢true h)
stacks-same (k ∷ ks) [] h e = absurd (false≢true h)
stacks-same (k ∷ ks) (o ∷ os) h e =
    let p = and_parts (below k o) (stack_below ks os) h in
    let q = and_parts (below o k) (stack_below os ks) e in
    let head : k ≡ o = kinds-same k o p.0 q.0 in
    let tail : ks ≡ os = stacks-same ks os p.1 q.1 in
    λ i. head i ∷ tail i

frames-same : (f g : TypeFrame) → Below f g → Below g f → f ≡ g
frames-same f g h k =
    let stack : f.stack ≡ g.stack = stacks-same f.stack g.stack h.stack k.stack in
    λ i. record { locals = λ j. kinds-same (f.locals j) (g.locals j) (h.locals j) (k.locals j) i; stack = stack i }

module _ (program after : Program) (method pruned : LinkedMethod) (settled : Frames) (least : AreLeast program method settled) (laid : LaidFrom 0 method.lines) (is : IsPruned method pruned) (effects : (i : Instruction) → type_effect after i ≡ type_effect program i) where
  -- a frame stands at an instruction that is reached
  abbrev typed-set : ℕ → Bool
  typed-set at = is_some (settled at) && is_some (line_in method.lines at)

  received-set : (f : TypeFrame) (to : ℕ) → Receives method settled f to → typed-set to ≡ true
  received-set f to r = and_from (is_some (settled to)) (is_some (line_in method.lines to)) (is-some (settled to) r.1 r.3) (is-some (line_in method.lines to) r.0 r.2)

  set-closed : IsClosed method typed-set
  set-closed at line l h k d inside =
      let p = and_parts (is_some (settled at)) (is_some (line_in method.lines at)) h in
      let f = some-there (settled at) p.0 in
      let rule = (least.typing at).rules at line f.0 (omega arith) l f.1 in
      received-set rule.behind (get_or (successors line) k d) (rule.goes_on k d inside)

  pub typed-line : (at : ℕ) (f : TypeFrame) → settled at ≡ Some f → (line : LinkedLine) × (line_in method.lines at ≡ Some line) × (line_in pruned.lines at ≡ Some line)
  typed-line at f e =
      let reached : Reached method at = (typed-exactly program method settled least at).0 (is-some (settled at) f e) in
      let h = reached typed-set (received-set (entry_frame method) 0 (least.typing 0).entry) set-closed in
      let l = line-of at h in
      (l.0, l.1, is.reached at l.0 reached l.1)
    where
      line-of : (x : ℕ) → typed-set x ≡ true → (line : LinkedLine) × (line_in method.lines x ≡ Some line)
      line-of x h = some-there (line_in method.lines x) (and_parts (is_some (settled x)) (is_some (line_in method.lines x)) h).1

  -- an instruction with no frame in the least typing is a return
  put-in : (at : ℕ) (line : LinkedLine) → line_in pruned.lines at ≡ Some line → settled at ≡ None → line.instruction ≡ Return (return_of method.gives_int)
  put-in at line l none = is.others at line l (λ reached. false≢true (sym (ap is_some none) ∙ (typed-exactly program method settled least at).1 reached))

  -- at a return that was put in, any frame with what it takes
  module _ (dead : ℕ → TypeFrame) (takes : (at : ℕ) → (dead at).stack ≡ given_by method.gives_int) (must : ℕ → Bool) (must-is : (at : ℕ) → IsTrue (must at) ↔ MustList pruned at) where
    abbrev pub all : Frames
    all at = either (settled at) (if is_some (line_in pruned.lines at) then Some (dead at) else None)

    abbrev pub listed : Frames
    listed at = if must at then all at else None

    all-typed : (at : ℕ) (f : TypeFrame) → settled at ≡ Some f → all at ≡ Some f
    all-typed at f e = either-some (settled at) (if is_some (line_in pruned.lines at) then Some (dead at) else None) f e

    has-frame : (at : ℕ) → HasLine pruned at → IsSome (all at)
    has-frame at has = by-case (settled at)
      where
        by-case : (o : Option TypeFrame) → IsSome (either o (if is_some (line_in pruned.lines at) then Some (dead at) else None))
        by-case None = ap (λ b. is_some (if b then Some (dead at) else None)) has
        by-case (Some f) = refl

    all-receives : (f : TypeFrame) (to : ℕ) → Receives method settled f to → Receives pruned all f to
    all-receives f to r =
        let l = typed-line to r.1 r.3 in
        (l.0, r.1, l.2, all-typed to r.1 r.3, r.4)

    same-entry : entry_frame pruned ≡ entry_frame method
    same-entry = λ i. record { locals = λ k. get_or (is.parameters i) k Top; stack = [] }

    all-rule : (at : ℕ) (line : LinkedLine) (f : TypeFrame) → line_in pruned.lines at ≡ Some line → all at ≡ Some f → Follows after pruned all line f
    all-rule at line f l e =
        ⊎_elim
        (λ typed.
        let k = typed-line at f typed in
        let same : k.0 ≡ line = same_Some k.0 line (sym k.2 ∙ l) in
        let rule = (least.typing at).rules at line f (omega arith) (k.1 ∙ ap (λ x. Some x) same) typed in
        let effect = effects line.instruction in
        record {
          local = subst (λ n. local_within (type_effect after line.instruction) n) (sym is.locals) (subst (λ e. local_within e method.locals) (sym effect) rule.local);
          behind = rule.behind;
          fits = ap (λ e. applied e f) effect ∙ rule.fits;
          within = omega (arith, rule.within, is.stack);
          goes_on = λ k d inside. all-receives rule.behind (get_or (successors line) k d) (rule.goes_on k d inside);
        })
        (λ none.
        let instruction = put-in at line l none.0 in
        let k = kept (is_some (line_in pruned.lines at)) (dead at) f none.1 in
        let leaves = put-in-leaves method.gives_int f (ap (λ x. x.stack) (sym k.1) ∙ takes at) in
        record {
          local = subst (λ i. local_within (type_effect after i) pruned.locals) (sym instruction) (put-in-local method.gives_int pruned.locals);
          behind = leaves.behind;
          fits = ap (λ i. applied (type_effect after i) f) instruction ∙ leaves.fits;
          within = omega (arith, leaves.empty);
          goes_on = subst (λ i. All (Receives pruned all leaves.behind) (if falls_through i then line.next ∷ instruction_targets i else instruction_targets i)) (sym instruction) (λ k d h. absurd (omega (arith, h)));
        })
        (either-cases (settled at) (if is_some (line_in pruned.lines at) then Some (dead at) else None) f e)

    all-operands : (at : ℕ) (f : TypeFrame) → all at ≡ Some f → no_top f.stack ≡ true
    all-operands at f e =
        ⊎_elim
        (λ typed. (least.typing at).operands at f typed)
        (λ none.
        let k = kept (is_some (line_in pruned.lines at)) (dead at) f none.1 in
        put-in-typed method.gives_int f.stack (ap (λ x. x.stack) (sym k.1) ∙ takes at))
        (either-cases (settled at) (if is_some (line_in pruned.lines at) then Some (dead at) else None) f e)

    all-typing : IsTyping after pruned all
    all-typing last = record {
      operands = all-operands;
      parameters = subst (λ (n : ℕ). length pruned.parameters ≤ n) (sym is.locals) (subst (λ (ks : List Kind). length ks ≤ method.locals) (sym is.parameters) (least.typing 0).parameters);
      entry = subst (λ f. Receives pruned all f 0) (sym same-entry) (all-receives (entry_frame method) 0 (least.typing 0).entry);
      rules = λ at line f below l e. all-rule at line f l e;
    }

    must-listed : (at : ℕ) → MustList pruned at → IsSome (listed at)
    must-listed at m = ap (λ b. is_some (if b then all at else None)) ((must-is at).1 m) ∙ has-frame at m.0

    not-listed : (at : ℕ) → HasLine pruned at → listed at ≡ None → MustList pruned at → ⊥
    not-listed at has none m = false≢true (sym (not-held (must at) (all at) (has-frame at has) none) ∙ (must-is at).1 m)

    -- where nothing has to be listed the frame is the least one that flows there
    exact : (x : ℕ) (g b : TypeFrame) → settled x ≡ Some g → Below b g → (MustList pruned x → ⊥) → (0 ≡ x → Below (entry_frame method) b) → ((from : ℕ) (line : LinkedLine) (f c : TypeFrame) → line_in method.lines from ≡ Some line → settled from ≡ Some f → applied (type_effect program line.instruction) f ≡ Some c → line.next ≡ x → falls_through line.instruction ≡ true → Below c b) → g ≡ b
    exact x g b there under free entry flows =
        let l = typed-line x g there in
        let has : HasLine pruned x = is-some (line_in pruned.lines x) l.0 l.2 in
        let under-all : FlowsUnder program method settled least.typing x g b there under = record {
          entry = entry;
          flows = λ from line f c k e fits contains.
              ⊎_elim
              (λ next. flows from line f c k e fits next.0 next.1)
              (λ target.
              let p = typed-line from f e in
              let same : p.0 ≡ line = same_Some p.0 line (sym p.1 ∙ k) in
              absurd (free (has, inl (from, line, p.2 ∙ ap (λ y. Some y) same, target))))
              (next-or-target line x contains);
        } in
        frames-same g b (least-is program method settled least.typing x g b there under under-all least.least) under
      where
        next-or-target : (line : LinkedLine) (y : ℕ) → Contains (successors line) y → ((line.next ≡ y) × (falls_through line.instruction ≡ true)) ⊎ Contains (instruction_targets line.instruction) y
        next-or-target line y contains = by-test (falls_through line.instruction) refl contains
          where
            by-test : (t : Bool) → falls_through line.instruction ≡ t → Contains (if t then line.next ∷ instruction_targets line.instruction else instruction_targets line.instruction) y → ((line.next ≡ y) × (falls_through line.instruction ≡ true)) ⊎ Contains (instruction_targets line.instruction) y
            by-test true e (zero, inside, is) = inl (is, e)
            by-test true e (suc k, inside, is) = inr (k, omega (arith, inside), is)
            by-test false e c = inr c

    cases-of : (o : Option TypeFrame) → (o ≡ None) ⊎ ((f : TypeFrame) × (o ≡ Some f))
    cases-of None = inl refl
    cases-of (Some f) = inr (f, refl)

    contained : (xs : List ℕ) (k d : ℕ) → k < length xs → Contains xs (get_or xs k d)
    contained xs k d inside = (k, inside, get_or_default xs k (get_or xs k d) d inside)

    targets-receive : (line : LinkedLine) (b : TypeFrame) → All (Receives method settled b) (successors line) → All (Receives method settled b) (instruction_targets line.instruction)
    targets-receive line b received = by-test (falls_through line.instruction) received
      where
        by-test : (t : Bool) → All (Receives method settled b) (if t then line.next ∷ instruction_targets line.instruction else instruction_targets line.instruction) → All (Receives method settled b) (instruction_targets line.instruction)
        by-test true a = λ k d h. a (suc k) d (omega (arith, h))
        by-test false a = a

    next-receives : (line : LinkedLine) (b : TypeFrame) → falls_through line.instruction ≡ true → All (Receives method settled b) (successors line) → Receives method settled b line.next
    next-receives line b goes received =
        let P : Bool → Type 0 = λ t. All (Receives method settled b) (if t then line.next ∷ instruction_targets line.instruction else instruction_targets line.instruction) in
        (subst P goes received) 0 0 (omega arith)

    target-listed : (at : ℕ) (line : LinkedLine) → line_in pruned.lines at ≡ Some line → (k d : ℕ) → k < length (instruction_targets line.instruction) → IsSome (listed (get_or (instruction_targets line.instruction) k d))
    target-listed at line l k d inside =
        ⊎_elim
        (λ none. let instruction = put-in at line l none in absurd (omega (arith, inside, ap (λ i. length (instruction_targets i)) instruction)))
        (λ typed.
        let m = typed-line at typed.0 typed.1 in
        let same : m.0 ≡ line = same_Some m.0 line (sym m.2 ∙ l) in
        let rule = (least.typing at).rules at line typed.0 (omega arith) (m.1 ∙ ap (λ x. Some x) same) typed.1 in
        let r = targets-receive line rule.behind rule.goes_on k d inside in
        let n = typed-line (get_or (instruction_targets line.instruction) k d) r.1 r.3 in
        must-listed (get_or (instruction_targets line.instruction) k d) (is-some _ n.0 n.2, inl (at, line, l, contained (instruction_targets line.instruction) k d inside)))
        (cases-of (settled at))

    goes-on : (at : ℕ) (line : LinkedLine) → line_in pruned.lines at ≡ Some line → HasLine pruned line.next → (MustList pruned line.next → ⊥) → falls_through line.instruction ≡ true
    goes-on at line l has free = by-test (falls_through line.instruction) refl
      where
        by-test : (t : Bool) → falls_through line.instruction ≡ t → t ≡ true
        by-test true e = refl
        by-test false e = absurd (free (has, inr (at, line, l, e, refl)))

    all-follows : (at : ℕ) (line : LinkedLine) (f b : TypeFrame) → line_in pruned.lines at ≡ Some line → all at ≡ Some f → applied (type_effect after line.instruction) f ≡ Some b → HasLine pruned line.next → listed line.next ≡ None → all line.next ≡ Some b
    all-follows at line f b l e fits has none =
        let free = not-listed line.next has none in
        let goes = goes-on at line l has free in
        ⊎_elim
        (λ typed.
        let m = typed-line at f typed in
        let same : m.0 ≡ line = same_Some m.0 line (sym m.2 ∙ l) in
        let old : line_in method.lines at ≡ Some line = m.1 ∙ ap (λ x. Some x) same in
        let rule = (least.typing at).rules at line f (omega arith) old typed in
        let left : rule.behind ≡ b = same_Some rule.behind b (sym rule.fits ∙ ap (λ e. applied e f) (sym (effects line.instruction)) ∙ fits) in
        let r = subst (λ x. Receives method settled x line.next) left (next-receives line rule.behind goes rule.goes_on) in
        let s = stands 0 method.lines at line laid old in
        let same-frame = exact line.next r.1 b r.3 r.4 free
        (λ zero. absurd (omega (arith, zero, s.goes)))
        (λ from other g c k h effect next falls.
        let there : from ≡ at = laid-before method.lines from at other line laid k old next in
        let same-line : other ≡ line = same_Some other line (sym k ∙ ap (line_in method.lines) there ∙ old) in
        let same-in : g ≡ f = same_Some g f (sym h ∙ ap settled there ∙ typed) in
        let same-out : c ≡ b = same_Some c b (sym effect ∙ ap (λ x. applied (type_effect program x.instruction) g) same-line ∙ ap (applied (type_effect program line.instruction)) same-in ∙ rule.fits ∙ ap (λ x. Some x) left) in
        subst (λ x. Below c x) same-out (Below-refl c)) in
        all-typed line.next r.1 r.3 ∙ ap (λ x. Some x) same-frame)
        (λ none'.
        let instruction = put-in at line l none'.0 in
        absurd (false≢true (ap falls_through (sym instruction) ∙ goes)))
        (either-cases (settled at) (if is_some (line_in pruned.lines at) then Some (dead at) else None) f e)

    all-start : listed 0 ≡ None → all 0 ≡ Some (entry_frame pruned)
    all-start none =
        let r = (least.typing 0).entry in
        let m = typed-line 0 r.1 r.3 in
        let free = not-listed 0 (is-some _ m.0 m.2) none in
        let same = exact 0 r.1 (entry_frame method) r.3 r.4 free
        (λ zero. Below-refl (entry_frame method))
        (λ from line f c k h effect next falls. let s = stands 0 method.lines from line laid k in absurd (omega (arith, next, s.goes))) in
        all-typed 0 r.1 r.3 ∙ ap (λ x. Some x) (same ∙ sym same-entry)

    pub pruned-framed : Framed after pruned listed
    pruned-framed = (
      all,
      record {
        typing = all-typing;
        each = λ at line l. has-frame at (is-some (line_in pruned.lines at) line l);
        lists = λ at f e. let h = held (must at) (all at) f e in (((must-is at).0 h.0).0, h.1);
        targets = λ at line l k d inside. target-listed at line l k d inside;
        behind = λ at line l stops' has. must-listed line.next (has, inr (at, line, l, stops', refl));
        follows = all-follows;
        start = all-start;
      },
    )

-- ---- frames that are listed

module _ (program after : Program) (method pruned : LinkedMethod) (settled : Frames) (least : AreLeast program method settled) (laid : LaidFrom 0 method.lines) (is : IsPruned method pruned) (effects : (i : Instruction) → type_effect after i ≡ type_effect program i) (given : Frames) (listing : IsListing method pruned settled given) where
  default : TypeFrame
  default = record { locals = λ _. Top; stack = given_by method.gives_int }

  abbrev dead-by : Option TypeFrame → Option TypeFrame → TypeFrame
  dead-by (Some g) o = default
  dead-by None None = default
  dead-by None (Some f) = f

  abbrev dead : ℕ → TypeFrame
  dead at = dead-by (settled at) (given at)

  not-reached : (at : ℕ) → settled at ≡ None → Reached method at → ⊥
  not-reached at none reached = false≢true (sym (ap is_some none) ∙ (typed-exactly program method settled least at).1 reached)

  dead-takes : (at : ℕ) → (dead at).stack ≡ given_by method.gives_int
  unfolding default
  dead-takes at = by-case (settled at) (given at) refl refl
    where
      by-case : (o p : Option TypeFrame) → settled at ≡ o → given at ≡ p → (dead-by o p).stack ≡ given_by method.gives_int
      by-case (Some g) p e h = refl
      by-case None None e h = refl
      by-case None (Some f) e h = listing.put_in at f h (not-reached at e)

  abbrev must : ℕ → Bool
  must at = is_some (given at)

  abbrev made : Frames
  made at = listed program after method pruned settled least laid is effects dead dead-takes must (λ x. listing.must x) at

  listed-same : (at : ℕ) → made at ≡ given at
  listed-same at = by-given (given at) refl
    where
      by-least : (o : Option TypeFrame) (f : TypeFrame) → settled at ≡ o → given at ≡ Some f → HasLine pruned at → either o (if is_some (line_in pruned.lines at) then Some (dead-by o (Some f)) else None) ≡ Some f
      by-least None f e h has = ap (λ b. if b then Some f else None) has
      by-least (Some g) f e h has =
          let reached = (typed-exactly program method settled least at).0 (is-some (settled at) g e) in
          sym e ∙ listing.reached at f h reached

      by-given : (p : Option TypeFrame) → given at ≡ p → (if is_some p then either (settled at) (if is_some (line_in pruned.lines at) then Some (dead-by (settled at) p) else None) else None) ≡ p
      by-given None h = refl
      by-given (Some f) h = by-least (settled at) f refl h ((listing.must at).0 (is-some (given at) f h)).0

  pub listing-framed : Framed after pruned given
  listing-framed =
      subst (λ x. Framed after pruned x) (λ i at. listed-same at i)
      (pruned-framed program after method pruned settled least laid is effects dead dead-takes must (λ x. listing.must x))
