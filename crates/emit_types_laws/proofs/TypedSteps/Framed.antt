-- An instruction that is typed is typed with more operands below those that it knows.
use Rattle.std.proofs.Common.{◌≡◌, ℕ, zero, suc, ◌+◌, ◌≤◌, nat_le, Bool, true, false, if◌then◌else◌, not, ◌&&◌, List, [], ◌∷◌, ◌++◌, All, length, map, slice_get, Option, Some, None, option_map, append_assoc, refl, ap, subst, sym, ◌∙◌, arith}
use Rattle.std.specs.List.{list_all}
use Rattle.std.proofs.lemmas.Bool.{and_from, and_parts, eqb-true, leb-true, le-leb}
use Rattle.std.proofs.lemmas.List.{map-append}
use Rattle.jvm_definition.specs.declared.stack_name.StackName.TheVariants as stack_names
use Rattle.jvm_definition.specs.declared.kind.Kind.{Kind}
use Rattle.jvm_definition.specs.declared.kind.Kind.TheVariants as kinds_of
use Rattle.jvm_definition.specs.declared.local_kind.LocalKind.{LocalKind}
use Rattle.jvm_definition.specs.declared.array_name.ArrayName.{ArrayName}
use Rattle.jvm_definition.specs.declared.array_name.ArrayName.TheVariants.{Iaload, Aaload, Iastore, Aastore}
use Rattle.jvm_definition.specs.declared.conversion.Conversion.{Conversion}
use Rattle.jvm_definition.specs.declared.conversion.Conversion.TheVariants.{I2l, L2i, I2b, I2c, I2s}
use Rattle.jvm_definition.specs.declared.branch_name.BranchName.{BranchName}
use Rattle.jvm_definition.specs.declared.branch_name.BranchName.TheVariants.{Ifeq, Ifne, Iflt, Ifge, Ifgt, Ifle, IfIcmpeq, IfIcmpne, IfIcmplt, IfIcmpge, IfIcmpgt, IfIcmple, Goto, Ifnull, Ifnonnull}
use Rattle.jvm_definition.specs.declared.return_name.ReturnName.{ReturnName}
use Rattle.jvm_definition.specs.declared.return_name.ReturnName.TheVariants as returns
use Rattle.jvm_definition.specs.declared.linked_method.LinkedMethod.{LinkedMethod}
use Rattle.jvm_definition.specs.declared.instruction.Instruction.{Instruction}
use Rattle.jvm_definition.specs.declared.instruction.Instruction.TheVariants.{Stack, TableSwitch, LookupSwitch, Array, Convert, Branch, Call, Return}
use Rattle.jvm_definition.specs.Program.{Program, instruction_targets}
use Rattle.jvm_definition.specs.Shuffles.{forms_of}
use Rattle.jvm_definition.specs.Typing.{TypeFrame, TypeEffect, exchanges, takes_reference, takes_array, loads, stores, increments, shuffles, never, below, is_long_kind, is_reference_kind, is_array_kind, moves_kind, same_kind, taken, taken_one, stored_type, applied, with_stack, with_local_kind, Below, stack_below, no_top, slots_of, access_type, conversion_type, branch_type, call_type, return_type, type_effect}
use Rattle.emit_steps.specs.declared.step.Step.{Step}
use Rattle.emit_steps.specs.declared.step.Step.TheVariants.{Does, Skips, Leaves, Selects}
use Rattle.emit_types_laws.specs.Judging.{Rules, Meets, Fits, Types, Leads, few_operands}
use Rattle.emit_types_laws.proofs.TypedSteps.KindOrder.{below-refl}

-- a frame with these operands below its own
abbrev pub above_more : List Kind → TypeFrame → TypeFrame
above_more more f = with_stack f (f.stack ++ more)

none-some : {A : Type 0} (x : A) → None ≡ Some x → ⊥
none-some x e = cc

-- ---- what is taken of the operands

taken-more : (kinds stack more rest : List Kind) → taken kinds stack ≡ Some rest → taken kinds (stack ++ more) ≡ Some (rest ++ more)
taken-more [] stack more rest e = ap (option_map (λ (s : List Kind). s ++ more)) e
taken-more (k ∷ kinds) [] more rest e = absurd (none-some rest e)
taken-more (k ∷ kinds) (s ∷ stack) more rest e = by_test (λ is. taken-more kinds stack more rest is) (below s k) e
  where
    by_test : (taken kinds stack ≡ Some rest → taken kinds (stack ++ more) ≡ Some (rest ++ more)) → (b : Bool) → (if b then taken kinds stack else None) ≡ Some rest → (if b then taken kinds (stack ++ more) else None) ≡ Some (rest ++ more)
    by_test again true is = again is
    by_test again false is = absurd (none-some rest is)

one-more : (test : Kind → Bool) (stack more rest : List Kind) → taken_one test stack ≡ Some rest → taken_one test (stack ++ more) ≡ Some (rest ++ more)
one-more test [] more rest e = absurd (none-some rest e)
one-more test (s ∷ stack) more rest e = by_test (test s) e
  where
    by_test : (b : Bool) → (if b then Some stack else None) ≡ Some rest → (if b then Some (stack ++ more) else None) ≡ Some (rest ++ more)
    by_test true is = ap (option_map (λ (s : List Kind). s ++ more)) is
    by_test false is = absurd (none-some rest is)

-- ---- the frame behind an instruction

-- an effect that shuffles no operands
abbrev pub takes_and_gives : TypeEffect → Bool
takes_and_gives (shuffles forms) = false
takes_and_gives effect = true

module _ (more : List Kind) where
  -- where some operands are left, others come above them
  given-more : (found : Option (List Kind)) (given : List Kind) (f g : TypeFrame) (stack : List Kind) (kinds : List Kind → Option (List Kind))
      → ((rest : List Kind) → found ≡ Some rest → kinds (stack ++ more) ≡ Some (rest ++ more))
      → option_map (λ s. with_stack f (given ++ s)) found ≡ Some g
      → option_map (λ s. with_stack f (given ++ s)) (kinds (stack ++ more)) ≡ Some (above_more more g)
  given-more None given f g stack kinds left e = absurd (none-some g e)
  given-more (Some rest) given f g stack kinds left e =
      ap (option_map (λ s. with_stack f (given ++ s))) (left rest refl)
      ∙ ap (λ s. Some (with_stack f s)) (sym (append_assoc given rest more))
      ∙ ap (option_map (above_more more)) e

  stored-more : (moved : LocalKind) (i : _) (f g : TypeFrame) (stack : List Kind) → stored_type moved i f stack ≡ Some g
      → stored_type moved i (above_more more f) (stack ++ more) ≡ Some (above_more more g)
  stored-more moved i f g [] e = absurd (none-some g e)
  stored-more moved i f g (s ∷ stack) e = by_test (moves_kind moved s) e
    where
      by_test : (b : Bool) → (if b then Some (with_local_kind f i s stack) else None) ≡ Some g
          → (if b then Some (with_local_kind (above_more more f) i s (stack ++ more)) else None) ≡ Some (above_more more g)
      by_test true is = ap (option_map (above_more more)) is
      by_test false is = absurd (none-some g is)

  loaded-more : (moved : LocalKind) (i : _) (f g : TypeFrame) → applied (loads moved i) f ≡ Some g
      → applied (loads moved i) (above_more more f) ≡ Some (above_more more g)
  loaded-more moved i f g e = by_test (moves_kind moved (f.locals i)) e
    where
      by_test : (b : Bool) → (if b then Some (with_stack f (f.locals i ∷ f.stack)) else None) ≡ Some g
          → (if b then Some (with_stack f (f.locals i ∷ (f.stack ++ more))) else None) ≡ Some (above_more more g)
      by_test true is = ap (option_map (above_more more)) is
      by_test false is = absurd (none-some g is)

  increased-more : (i : _) (f g : TypeFrame) → applied (increments i) f ≡ Some g → applied (increments i) (above_more more f) ≡ Some (above_more more g)
  increased-more i f g e = by_test (same_kind (f.locals i) kinds_of.Int) e
    where
      by_test : (b : Bool) → (if b then Some f else None) ≡ Some g → (if b then Some (above_more more f) else None) ≡ Some (above_more more g)
      by_test true is = ap (option_map (above_more more)) is
      by_test false is = absurd (none-some g is)

  -- one operand, or two, of which none is a long
  of-one : (out : Kind → List Kind) (f g : TypeFrame) (long : Bool) (s : Kind) (stack : List Kind)
      → option_map (with_stack f) (if not long && true then Some (out s ++ stack) else None) ≡ Some g
      → option_map (with_stack f) (if not long && true then Some (out s ++ (stack ++ more)) else None) ≡ Some (above_more more g)
  of-one out f g true s stack is = absurd (none-some g is)
  of-one out f g false s stack is =
      ap (λ s. Some (with_stack f s)) (sym (append_assoc (out s) stack more)) ∙ ap (option_map (above_more more)) is

  of-two : (out : Kind → Kind → List Kind) (f g : TypeFrame) (long other : Bool) (s t : Kind) (stack : List Kind)
      → option_map (with_stack f) (if not long && (not other && true) then Some (out s t ++ stack) else None) ≡ Some g
      → option_map (with_stack f) (if not long && (not other && true) then Some (out s t ++ (stack ++ more)) else None)
      ≡ Some (above_more more g)
  of-two out f g true other s t stack is = absurd (none-some g is)
  of-two out f g false true s t stack is = absurd (none-some g is)
  of-two out f g false false s t stack is =
      ap (λ s. Some (with_stack f s)) (sym (append_assoc (out s t) stack more)) ∙ ap (option_map (above_more more)) is

  too-few : (f g : TypeFrame) (long : Bool) (some : List Kind) → option_map (with_stack f) (if not long && false then Some some else None) ≡ Some g → ⊥
  too-few f g true some is = none-some g is
  too-few f g false some is = none-some g is

  popped-more : (f g : TypeFrame) → applied (shuffles (forms_of stack_names.Pop)) f ≡ Some g
      → applied (shuffles (forms_of stack_names.Pop)) (above_more more f) ≡ Some (above_more more g)
  popped-more f g e = by_stack f.stack e
    where
      by_stack : (stack : List Kind) → applied (shuffles (forms_of stack_names.Pop)) (with_stack f stack) ≡ Some g
          → applied (shuffles (forms_of stack_names.Pop)) (with_stack f (stack ++ more)) ≡ Some (above_more more g)
      by_stack [] is = absurd (none-some g is)
      by_stack (s ∷ stack) is = of-one (λ a. []) f g (is_long_kind s) s stack is

  doubled-more : (f g : TypeFrame) → applied (shuffles (forms_of stack_names.Dup)) f ≡ Some g
      → applied (shuffles (forms_of stack_names.Dup)) (above_more more f) ≡ Some (above_more more g)
  doubled-more f g e = by_stack f.stack e
    where
      by_stack : (stack : List Kind) → applied (shuffles (forms_of stack_names.Dup)) (with_stack f stack) ≡ Some g
          → applied (shuffles (forms_of stack_names.Dup)) (with_stack f (stack ++ more)) ≡ Some (above_more more g)
      by_stack [] is = absurd (none-some g is)
      by_stack (s ∷ stack) is = of-one (λ a. a ∷ a ∷ []) f g (is_long_kind s) s stack is

  doubled-below-more : (f g : TypeFrame) → applied (shuffles (forms_of stack_names.DupX1)) f ≡ Some g
      → applied (shuffles (forms_of stack_names.DupX1)) (above_more more f) ≡ Some (above_more more g)
  doubled-below-more f g e = by_stack f.stack e
    where
      by_stack : (stack : List Kind) → applied (shuffles (forms_of stack_names.DupX1)) (with_stack f stack) ≡ Some g
          → applied (shuffles (forms_of stack_names.DupX1)) (with_stack f (stack ++ more)) ≡ Some (above_more more g)
      by_stack [] is = absurd (none-some g is)
      by_stack (s ∷ []) is = absurd (too-few f g (is_long_kind s) _ is)
      by_stack (s ∷ t ∷ stack) is = of-two (λ a b. a ∷ b ∷ a ∷ []) f g (is_long_kind s) (is_long_kind t) s t stack is

  swapped-more : (f g : TypeFrame) → applied (shuffles (forms_of stack_names.Swap)) f ≡ Some g
      → applied (shuffles (forms_of stack_names.Swap)) (above_more more f) ≡ Some (above_more more g)
  swapped-more f g e = by_stack f.stack e
    where
      by_stack : (stack : List Kind) → applied (shuffles (forms_of stack_names.Swap)) (with_stack f stack) ≡ Some g
          → applied (shuffles (forms_of stack_names.Swap)) (with_stack f (stack ++ more)) ≡ Some (above_more more g)
      by_stack [] is = absurd (none-some g is)
      by_stack (s ∷ []) is = absurd (too-few f g (is_long_kind s) _ is)
      by_stack (s ∷ t ∷ stack) is = of-two (λ a b. b ∷ a ∷ []) f g (is_long_kind s) (is_long_kind t) s t stack is

  pub applied-more : (e : TypeEffect) (f g : TypeFrame) → takes_and_gives e ≡ true → applied e f ≡ Some g → applied e (above_more more f) ≡ Some (above_more more g)
  applied-more (exchanges kinds given) f g moves e =
      given-more (taken kinds f.stack) given f g f.stack (taken kinds) (λ rest is. taken-more kinds f.stack more rest is) e
  applied-more takes_reference f g moves e =
      given-more (taken_one is_reference_kind f.stack) [] f g f.stack (taken_one is_reference_kind)
      (λ rest is. one-more is_reference_kind f.stack more rest is) e
  applied-more takes_array f g moves e =
      given-more (taken_one is_array_kind f.stack) (kinds_of.Int ∷ []) f g f.stack (taken_one is_array_kind)
      (λ rest is. one-more is_array_kind f.stack more rest is) e
  applied-more (loads moved i) f g moves e = loaded-more moved i f g e
  applied-more (stores moved i) f g moves e = stored-more moved i f g f.stack e
  applied-more (increments i) f g moves e = increased-more i f g e
  applied-more (shuffles forms) f g moves e = cc
  applied-more never f g moves e = absurd (none-some g e)

-- ---- instructions of code that knows the operands above

-- operands are moved by instructions of one form alone, and no switch goes to offsets
abbrev pub is_moving : Instruction → Bool
is_moving (Stack stack_names.Pop) = true
is_moving (Stack stack_names.Dup) = true
is_moving (Stack stack_names.DupX1) = true
is_moving (Stack stack_names.Swap) = true
is_moving (Stack other) = false
is_moving (TableSwitch s) = false
is_moving (LookupSwitch s) = false
is_moving other = true

access-moves : (name : ArrayName) → takes_and_gives (access_type name) ≡ true
access-moves Iaload = refl
access-moves Aaload = refl
access-moves Iastore = refl
access-moves Aastore = refl

conversion-moves : (name : Conversion) → takes_and_gives (conversion_type name) ≡ true
conversion-moves I2l = refl
conversion-moves L2i = refl
conversion-moves I2b = refl
conversion-moves I2c = refl
conversion-moves I2s = refl

pub branch-moves : (name : BranchName) → takes_and_gives (branch_type name) ≡ true
branch-moves Ifeq = refl
branch-moves Ifne = refl
branch-moves Iflt = refl
branch-moves Ifge = refl
branch-moves Ifgt = refl
branch-moves Ifle = refl
branch-moves IfIcmpeq = refl
branch-moves IfIcmpne = refl
branch-moves IfIcmplt = refl
branch-moves IfIcmpge = refl
branch-moves IfIcmpgt = refl
branch-moves IfIcmple = refl
branch-moves Goto = refl
branch-moves Ifnull = refl
branch-moves Ifnonnull = refl

call-moves : (found : Option LinkedMethod) → takes_and_gives (call_type found) ≡ true
call-moves None = refl
call-moves (Some method) = refl

return-moves : (name : ReturnName) → takes_and_gives (return_type name) ≡ true
return-moves returns.Ireturn = refl
return-moves returns.Return = refl

module _ (program : Program) (more : List Kind) where
  pub effect-more : (i : Instruction) (f g : TypeFrame) → is_moving i ≡ true → applied (type_effect program i) f ≡ Some g
      → applied (type_effect program i) (above_more more f) ≡ Some (above_more more g)
  effect-more (Stack stack_names.Pop) f g moves e = popped-more more f g e
  effect-more (Stack stack_names.Dup) f g moves e = doubled-more more f g e
  effect-more (Stack stack_names.DupX1) f g moves e = doubled-below-more more f g e
  effect-more (Stack stack_names.Swap) f g moves e = swapped-more more f g e
  effect-more (Stack _) f g moves e = cc
  effect-more (TableSwitch s) f g moves e = cc
  effect-more (LookupSwitch s) f g moves e = cc
  effect-more (Array name) f g moves e = applied-more more (access_type name) f g (access-moves name) e
  effect-more (Convert name) f g moves e = applied-more more (conversion_type name) f g (conversion-moves name) e
  effect-more (Branch name target) f g moves e = applied-more more (branch_type name) f g (branch-moves name) e
  effect-more (Call m) f g moves e = applied-more more (call_type (program.method m)) f g (call-moves (program.method m)) e
  effect-more (Return name) f g moves e = applied-more more (return_type name) f g (return-moves name) e
  effect-more other f g moves e = applied-more more (type_effect program other) f g refl e

-- ---- frames

stack-more : (stack other more : List Kind) → stack_below stack other ≡ true → stack_below (stack ++ more) (other ++ more) ≡ true
stack-more [] [] [] b = refl
stack-more [] [] (k ∷ more) b = and_from (below k k) (stack_below more more) (below-refl k) (stack-more [] [] more refl)
stack-more [] (o ∷ other) more b = cc
stack-more (k ∷ stack) [] more b = cc
stack-more (k ∷ stack) (o ∷ other) more b =
    let parts = and_parts (below k o) (stack_below stack other) b in
    and_from (below k o) (stack_below (stack ++ more) (other ++ more)) parts.0 (stack-more stack other more parts.1)

no-top-more : (stack more : List Kind) → no_top stack ≡ true → no_top more ≡ true → no_top (stack ++ more) ≡ true
no-top-more [] more a b = b
no-top-more (k ∷ stack) more a b = by_kind (λ is. no-top-more stack more is b) k a
  where
    by_kind : (no_top stack ≡ true → no_top (stack ++ more) ≡ true) → (k : Kind) → no_top (k ∷ stack) ≡ true → no_top (k ∷ (stack ++ more)) ≡ true
    by_kind again kinds_of.Top is = cc
    by_kind again kinds_of.Int is = again is
    by_kind again kinds_of.Long is = again is
    by_kind again kinds_of.Null is = again is
    by_kind again kinds_of.Ints is = again is
    by_kind again kinds_of.Pages is = again is
    by_kind again kinds_of.Text is = again is

slots-more : (stack more : List Kind) → slots_of (stack ++ more) ≡ slots_of stack + slots_of more
slots-more [] more = omega arith
slots-more (k ∷ stack) more = let rest = slots-more stack more in omega (arith, rest)

module _ (more : List Kind) where
  pub frame-more : (f g : TypeFrame) → Below f g → Below (above_more more f) (above_more more g)
  frame-more f g b = record { locals = b.locals; stack = stack-more f.stack g.stack more b.stack }

  pub meets-more : (f : TypeFrame) (frames : List TypeFrame) (i : ℕ) → Meets f (slice_get frames i)
      → Meets (above_more more f) (slice_get (map (above_more more) frames) i)
  meets-more f [] i m = absurd m
  meets-more f (g ∷ frames) zero m = frame-more f g m
  meets-more f (g ∷ frames) (suc i) m = meets-more f frames i m

-- ---- code

abbrev pub is_moving_step : Step → Bool
is_moving_step (Does i) = is_moving i
is_moving_step (Skips name k) = true
is_moving_step (Leaves target) = false
is_moving_step (Selects s) = false

-- code that knows all of its operands, and leaves nowhere
abbrev pub plain_rules : Program → Rules
plain_rules program = record { program = program; owes = λ at. None; more = 0 }

module _ (rules : Rules) (more : List Kind) (plain : no_top more ≡ true) (room : slots_of more ≤ rules.more) where
  within-more : (f : TypeFrame) → nat_le (slots_of f.stack) (few_operands + 0) ≡ true
      → nat_le (slots_of (f.stack ++ more)) (few_operands + rules.more) ≡ true
  within-more f few =
      let a = leb-true (slots_of f.stack) (few_operands + 0) few in
      let b = slots-more f.stack more in
      le-leb (slots_of (f.stack ++ more)) (few_operands + rules.more) (omega (arith, a, b, room))

  nowhere : {X : Type 0} (P : X → Type 0) (xs : List X) → length xs ≡ 0 → All P xs
  nowhere P xs none = λ k d less. absurd (omega (arith, none, less))

  fits-more : (s : Step) (f : TypeFrame) (behind : List TypeFrame) → is_moving_step s ≡ true → Fits (plain_rules rules.program) s f behind
      → Fits rules s (above_more more f) (map (above_more more) behind)
  fits-more (Does i) f behind moves fit = record {
    straight = fit.straight;
    after = above_more more fit.after;
    fits = effect-more rules.program more i f fit.after moves fit.fits;
    within = within-more fit.after fit.within;
    next = λ falls. meets-more more fit.after behind 0 (fit.next falls);
    skipped = tt;
    owed = nowhere (λ at. Meets (above_more more fit.after) (rules.owes at)) (instruction_targets i) (eqb-true (length (instruction_targets i)) 0 fit.straight);
  }
  fits-more (Skips name k) f behind moves fit = record {
    straight = refl;
    after = above_more more fit.after;
    fits = applied-more more (branch_type name) f fit.after (branch-moves name) fit.fits;
    within = within-more fit.after fit.within;
    next = λ falls. meets-more more fit.after behind 0 (fit.next falls);
    skipped = meets-more more fit.after behind k fit.skipped;
    owed = nowhere (λ at. Meets (above_more more fit.after) (rules.owes at)) [] refl;
  }
  fits-more (Leaves target) f behind moves fit = cc
  fits-more (Selects s) f behind moves fit = cc

  types-more : (code : List Step) (frames behind : List TypeFrame) → list_all is_moving_step code ≡ true
      → Types (plain_rules rules.program) code frames behind
      → Types rules code (map (above_more more) frames) (map (above_more more) behind)
  types-more [] [] behind moves t = tt
  types-more [] (f ∷ frames) behind moves t = t
  types-more (s ∷ code) [] behind moves t = t
  types-more (s ∷ code) (f ∷ frames) behind moves t =
      let parts = and_parts (is_moving_step s) (list_all is_moving_step code) moves in (
        no-top-more f.stack more t.0 plain,
        subst (Fits rules s (above_more more f)) (map-append (above_more more) frames behind) (fits-more s f (frames ++ behind) parts.0 t.1),
        types-more code frames behind parts.1 t.2,
      )

  -- code is typed with more operands below
  pub framed-leads : (code : List Step) (from to : TypeFrame) → list_all is_moving_step code ≡ true
      → Leads (plain_rules rules.program) code from to → Leads rules code (above_more more from) (above_more more to)
  framed-leads code from to moves t = record {
    frames = map (above_more more) t.frames;
    begins = subst (λ all. Meets (above_more more from) (slice_get all 0)) (map-append (above_more more) t.frames (to ∷ []))
        (meets-more more from (t.frames ++ to ∷ []) 0 t.begins);
    types = types-more code t.frames (to ∷ []) moves t.types;
  }
