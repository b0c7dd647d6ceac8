-- A method whose body is typed code has a typing.
use Rattle.std.proofs.Common.{◌≡◌, ℕ, zero, suc, ◌+◌, ◌<◌, ◌≤◌, Bool, true, false, if◌then◌else◌, List, [], ◌∷◌, ◌++◌, refl, sym, ap, subst, ◌∙◌, arith, append-nil}
use Rattle.std.specs.Prelude.{ℤ, pos, negsuc, ◌==◌, nat_lt, Option, Some, None, slice_get, All}
use Rattle.std.proofs.Math.Nat.{add_assoc}
use Rattle.std.proofs.lemmas.Bool.{and_parts, eq-eqb, ne_eqb, ltb-true, leb-true}
use Rattle.std.proofs.lemmas.Option.{none-some, same_Some}
use Rattle.std.proofs.lemmas.List.Elements.{All-cons, All-nil, All-weaker}
use Rattle.run_definition.specs.Words.{signed_of}
use Rattle.jvm_definition.specs.declared.branch_name.BranchName.{BranchName}
use Rattle.jvm_definition.specs.declared.branch_name.BranchName.TheVariants as branches
use Rattle.jvm_definition.specs.declared.array_name.ArrayName.{ArrayName}
use Rattle.jvm_definition.specs.declared.array_name.ArrayName.TheVariants as arrays
use Rattle.jvm_definition.specs.declared.conversion.Conversion.{Conversion}
use Rattle.jvm_definition.specs.declared.conversion.Conversion.TheVariants as conversions
use Rattle.jvm_definition.specs.declared.return_name.ReturnName.{ReturnName}
use Rattle.jvm_definition.specs.declared.return_name.ReturnName.TheVariants as return_names
use Rattle.jvm_definition.specs.declared.instruction.Instruction.{Instruction}
use Rattle.jvm_definition.specs.declared.instruction.Instruction.TheVariants as instructions
use Rattle.jvm_definition.specs.declared.linked_line.LinkedLine.{LinkedLine}
use Rattle.jvm_definition.specs.declared.linked_method.LinkedMethod.{LinkedMethod}
use Rattle.jvm_definition.specs.Program.{Program, line_in, successors, instruction_targets, falls_through, is_goto}
use Rattle.jvm_definition.specs.Typing.{TypeFrame, Frames, Follows, Receives, Typed, applied, call_type, type_effect, local_within, no_top, slots_of, entry_frame, access_type, conversion_type, branch_type, return_type}
use Rattle.jvm_definition.specs.declared.array_kind.ArrayKind.{ArrayKind}
use Rattle.jvm_definition.specs.declared.array_kind.ArrayKind.TheVariants as array_kinds
use Rattle.jvm_definition.specs.declared.constant.Constant.{Constant}
use Rattle.jvm_definition.specs.declared.constant.Constant.TheVariants as constants
use Rattle.emit_steps.specs.declared.step.Step.{Step}
use Rattle.emit_steps.specs.declared.step.Step.TheVariants.{Does, Skips, Leaves, Selects}
use Rattle.emit_steps.specs.Widths.{width, instruction_width, bytes_before, int_width, lies_from, constant_width, local_width, array_width}
use Rattle.emit_steps.specs.Placing.{laid, placed_line, placed_instruction}
use Rattle.emit_types_laws.specs.Judging.{Rules, Meets, Fits, Types, few_operands, typed_as}
use Rattle.emit_types_laws.specs.Bodies.{names_below, all_names_below, frame_in, HasBody}
use Rattle.emit_types_laws.proofs.TypedSteps.KindOrder.{meets-below}

-- ---- widths

wide-either : (b : Bool) (n m : ℕ) → 0 < n → 0 < m → 0 < (if b then n else m)
wide-either true n m one other = one
wide-either false n m one other = other

wide-int : (z : ℤ) → 0 < int_width z
wide-int z =
    wide-either (lies_from (negsuc 0) (pos 5) z) 1 (if lies_from (negsuc 127) (pos 127) z then 2 else 3) (omega arith)
    (wide-either (lies_from (negsuc 127) (pos 127) z) 2 3 (omega arith) (omega arith))

wide-constant : (c : Constant) → 0 < constant_width c
wide-constant constants.Null = omega arith
wide-constant (constants.Int n) = wide-int (signed_of n)
wide-constant (constants.Long n) = omega arith
wide-constant (constants.Text class slot) = omega arith

wide-local : (i : ℕ) → 0 < local_width i
wide-local i = wide-either (nat_lt i 4) 1 2 (omega arith) (omega arith)

wide-array : (kind : ArrayKind) → 0 < array_width kind
wide-array array_kinds.Ints = omega arith
wide-array array_kinds.Pages = omega arith

wide-instruction : (i : Instruction) → 0 < instruction_width i
wide-instruction (instructions.Push constant) = wide-constant constant
wide-instruction (instructions.Load kind i) = wide-local i
wide-instruction (instructions.Store kind i) = wide-local i
wide-instruction (instructions.NewArray kind) = wide-array kind
wide-instruction _ = omega arith

wide : (s : Step) → 0 < width s
wide (Does i) = wide-instruction i
wide (Skips name k) = omega arith
wide (Leaves target) = omega arith
wide (Selects s) = omega arith

-- ---- where frames stand

-- a frame that is found by its place among the steps is found by its offset, and so is the step's line
pub record Stands (at x : ℕ) (code : List Step) (frames : List TypeFrame) (g : TypeFrame) : Type 0 where
  pub line : LinkedLine
  pub line_is : line_in (laid at code) x ≡ Some line
  pub frame_is : frame_in at code frames x ≡ Some g

here : (at x : ℕ) (s : Step) (code : List Step) (f : TypeFrame) (frames : List TypeFrame) → at ≡ x → Stands at x (s ∷ code) (f ∷ frames) f
here at x s code f frames is = record {
  line = placed_line at s code;
  line_is = ap (λ b. if b then Some (placed_line at s code) else line_in (laid (at + width s) code) x) (eq-eqb at x is);
  frame_is = ap (λ b. if b then Some f else frame_in (at + width s) code frames x) (eq-eqb at x is);
}

further : (at x : ℕ) (s : Step) (code : List Step) (f g : TypeFrame) (frames : List TypeFrame) → (at ≡ x → ⊥)
    → Stands (at + width s) x code frames g → Stands at x (s ∷ code) (f ∷ frames) g
further at x s code f g frames differ t = record {
  line = t.line;
  line_is = ap (λ b. if b then Some (placed_line at s code) else line_in (laid (at + width s) code) x) (ne_eqb at x differ) ∙ t.line_is;
  frame_is = ap (λ b. if b then Some f else frame_in (at + width s) code frames x) (ne_eqb at x differ) ∙ t.frame_is;
}

pub stands : (rules : Rules) (code : List Step) (frames behind : List TypeFrame) (at x i : ℕ) (g : TypeFrame) → Types rules code frames behind
    → slice_get frames i ≡ Some g → x ≡ at + bytes_before code i → Stands at x code frames g
stands rules [] [] behind at x i g t found is = absurd (none-some g found)
stands rules [] (f ∷ frames) behind at x i g t found is = absurd t
stands rules (s ∷ code) [] behind at x i g t found is = absurd t
stands rules (s ∷ code) (f ∷ frames) behind at x zero g t found is =
    subst (Stands at x (s ∷ code) (f ∷ frames)) (same_Some f g found) (here at x s code f frames (omega (arith, is)))
stands rules (s ∷ code) (f ∷ frames) behind at x (suc i) g t found is =
    let positive = wide s in
    let sum : x ≡ at + (width s + bytes_before code i) = is in
    further at x s code f g frames (λ equal. omega (arith, equal, sum, positive))
    (stands rules code frames behind (at + width s) x i g t.2 found (omega (arith, sum)))

framed-line : (code : List Step) (frames : List TypeFrame) (at x : ℕ) (g : TypeFrame) → frame_in at code frames x ≡ Some g
    → (line : LinkedLine) × (line_in (laid at code) x ≡ Some line)
framed-line [] frames at x g found = absurd (none-some g found)
framed-line (s ∷ code) [] at x g found = absurd (none-some g found)
framed-line (s ∷ code) (f ∷ frames) at x g found = by_test (at == x) (λ e. framed-line code frames (at + width s) x g e) found
  where
    by_test : (b : Bool) → (frame_in (at + width s) code frames x ≡ Some g → (line : LinkedLine) ×
        (line_in (laid (at + width s) code) x ≡ Some line)) → (if b then Some f else frame_in (at + width s) code frames x) ≡ Some g
        → (line : LinkedLine) × ((if b then Some (placed_line at s code) else line_in (laid (at + width s) code) x) ≡ Some line)
    by_test true rest e = (placed_line at s code, refl)
    by_test false rest e = rest e

frames-have-no-top : (rules : Rules) (code : List Step) (frames behind : List TypeFrame) (at x : ℕ) (g : TypeFrame)
    → Types rules code frames behind → frame_in at code frames x ≡ Some g → no_top g.stack ≡ true
frames-have-no-top rules [] frames behind at x g t found = absurd (none-some g found)
frames-have-no-top rules (s ∷ code) [] behind at x g t found = absurd t
frames-have-no-top rules (s ∷ code) (f ∷ frames) behind at x g t found =
    by_test (at == x) (λ e. frames-have-no-top rules code frames behind (at + width s) x g t.2 e) found
  where
    by_test : (b : Bool) → (frame_in (at + width s) code frames x ≡ Some g → no_top g.stack ≡ true)
        → (if b then Some f else frame_in (at + width s) code frames x) ≡ Some g → no_top g.stack ≡ true
    by_test true rest e = subst (λ h. no_top h.stack ≡ true) (same_Some f g e) t.0
    by_test false rest e = rest e

-- ---- local variables

pub local-named : (program : Program) (count : ℕ) (i : Instruction) → names_below count i ≡ true → local_within (type_effect program i) count
local-named program count (instructions.Load kind i) h = ltb-true i count h
local-named program count (instructions.Store kind i) h = ltb-true i count h
local-named program count (instructions.Increment i by) h = ltb-true i count h
local-named program count (instructions.Array name) h = by_name name
  where
    by_name : (name : ArrayName) → local_within (access_type name) count
    by_name arrays.Iaload = tt
    by_name arrays.Aaload = tt
    by_name arrays.Iastore = tt
    by_name arrays.Aastore = tt
local-named program count (instructions.Convert name) h = by_name name
  where
    by_name : (name : Conversion) → local_within (conversion_type name) count
    by_name conversions.I2l = tt
    by_name conversions.L2i = tt
    by_name conversions.I2b = tt
    by_name conversions.I2c = tt
    by_name conversions.I2s = tt
local-named program count (instructions.Branch name target) h = by_name name
  where
    by_name : (name : BranchName) → local_within (branch_type name) count
    by_name branches.Ifeq = tt
    by_name branches.Ifne = tt
    by_name branches.Iflt = tt
    by_name branches.Ifge = tt
    by_name branches.Ifgt = tt
    by_name branches.Ifle = tt
    by_name branches.IfIcmpeq = tt
    by_name branches.IfIcmpne = tt
    by_name branches.IfIcmplt = tt
    by_name branches.IfIcmpge = tt
    by_name branches.IfIcmpgt = tt
    by_name branches.IfIcmple = tt
    by_name branches.Goto = tt
    by_name branches.Ifnull = tt
    by_name branches.Ifnonnull = tt
local-named program count (instructions.Call m) h = by_method (program.method m)
  where
    by_method : (found : Option LinkedMethod) → local_within (call_type found) count
    by_method None = tt
    by_method (Some method) = tt
local-named program count (instructions.Return name) h = by_name name
  where
    by_name : (name : ReturnName) → local_within (return_type name) count
    by_name return_names.Ireturn = tt
    by_name return_names.Return = tt
local-named program count _ h = tt

-- ---- the rule of each step

-- frames at places among the steps are met at the steps' offsets
abbrev Placed : LinkedMethod → Frames → ℕ → List Step → List TypeFrame → Type 0
Placed method frames at code given = (f : TypeFrame) (i : ℕ) → Meets f (slice_get given i) → Receives method frames f (at + bytes_before code i)

-- frames that are owed at offsets are met there
abbrev Owed : Rules → LinkedMethod → Frames → Type 0
Owed rules method frames = (f : TypeFrame) (at : ℕ) → Meets f (rules.owes at) → Receives method frames f at

placed-behind : (method : LinkedMethod) (frames : Frames) (at : ℕ) (s : Step) (code : List Step) (f : TypeFrame) (given : List TypeFrame)
    → Placed method frames at (s ∷ code) (f ∷ given) → Placed method frames (at + width s) code given
placed-behind method frames at s code f given placed g i m =
    subst (Receives method frames g) (sym (add_assoc at (width s) (bytes_before code i))) (placed g (suc i) m)

all-or-one : (P : ℕ → Type 0) (b : Bool) (x : ℕ) (xs : List ℕ) → (b ≡ true → P x) → All P xs → All P (if b then x ∷ xs else xs)
all-or-one P true x xs one all = All-cons P x xs (one refl) all
all-or-one P false x xs one all = all

step-goes-on : (rules : Rules) (method : LinkedMethod) (frames : Frames) (at : ℕ) (s : Step) (code : List Step) (f : TypeFrame)
    (given : List TypeFrame) (fit : Fits rules s f given) → Placed method frames (at + width s) code given → Owed rules method frames
    → All (Receives method frames fit.after) (successors (placed_line at s code))
step-goes-on rules method frames at (Does i) code f given fit placed owed =
    all-or-one (Receives method frames fit.after) (falls_through i) (at + instruction_width i) (instruction_targets i)
    (λ falls. subst (Receives method frames fit.after) (omega arith) (placed fit.after 0 (fit.next falls)))
    (All-weaker (λ x. Meets fit.after (rules.owes x)) (Receives method frames fit.after) (λ x m. owed fit.after x m) (instruction_targets i) fit.owed)
step-goes-on rules method frames at (Skips name k) code f given fit placed owed =
    all-or-one (Receives method frames fit.after) (if is_goto name then false else true) (at + 3) ((at + 3 + bytes_before code k) ∷ [])
    (λ falls. subst (Receives method frames fit.after) (omega arith) (placed fit.after 0 (fit.next falls)))
    (All-cons (Receives method frames fit.after) (at + 3 + bytes_before code k) [] (placed fit.after k fit.skipped)
    (All-nil (Receives method frames fit.after)))
step-goes-on rules method frames at (Leaves target) code f given fit placed owed =
    All-weaker (λ x. Meets fit.after (rules.owes x)) (Receives method frames fit.after) (λ x m. owed fit.after x m) (target ∷ []) fit.owed
step-goes-on rules method frames at (Selects s) code f given fit placed owed =
    All-weaker (λ x. Meets fit.after (rules.owes x)) (Receives method frames fit.after) (λ x m. owed fit.after x m) (s.default ∷ s.targets) fit.owed

same-type : (program : Program) (at : ℕ) (s : Step) (code : List Step)
    → type_effect program (placed_instruction at s code) ≡ type_effect program (typed_as s)
same-type program at (Does i) code = refl
same-type program at (Skips name k) code = refl
same-type program at (Leaves target) code = refl
same-type program at (Selects s) code = refl

step-follows : (rules : Rules) (method : LinkedMethod) (frames : Frames) (at : ℕ) (s : Step) (code : List Step) (f : TypeFrame)
    (given : List TypeFrame) → few_operands + rules.more ≤ method.stack → names_below method.locals (typed_as s) ≡ true → Fits rules s f given
    → Placed method frames (at + width s) code given → Owed rules method frames → Follows rules.program method frames (placed_line at s code) f
step-follows rules method frames at s code f given room named fit placed owed =
    let e = same-type rules.program at s code in
    let few = leb-true (slots_of fit.after.stack) (few_operands + rules.more) fit.within in
    record {
      local = subst (λ effect. local_within effect method.locals) (sym e) (local-named rules.program method.locals (typed_as s) named);
      behind = fit.after;
      fits = ap (λ effect. applied effect f) e ∙ fit.fits;
      within = omega (arith, few, room);
      goes_on = step-goes-on rules method frames at s code f given fit placed owed;
    }

-- each step of code, by its offset
steps-follow : (rules : Rules) (method : LinkedMethod) (frames : Frames) (code : List Step) (own behind : List TypeFrame) (at x : ℕ)
    (line : LinkedLine) (f : TypeFrame) → few_operands + rules.more ≤ method.stack → all_names_below method.locals code ≡ true → Types rules code own behind
    → Placed method frames at code (own ++ behind) → Owed rules method frames → line_in (laid at code) x ≡ Some line
    → frame_in at code own x ≡ Some f → Follows rules.program method frames line f
steps-follow rules method frames [] own behind at x line f room named t placed owed there framed = absurd (none-some line there)
steps-follow rules method frames (s ∷ code) [] behind at x line f room named t placed owed there framed = absurd t
steps-follow rules method frames (s ∷ code) (g ∷ own) behind at x line f room named t placed owed there framed =
    let names = and_parts (names_below method.locals (typed_as s)) (all_names_below method.locals code) named in
    let rest = placed-behind method frames at s code g (own ++ behind) placed in
    by_test (at == x) (step-follows rules method frames at s code g (own ++ behind) room names.0 t.1 rest owed)
    (λ there framed. steps-follow rules method frames code own behind (at + width s) x line f room names.1 t.2 rest owed there framed) there framed
  where
    by_test : (b : Bool) → Follows rules.program method frames (placed_line at s code) g
        → (line_in (laid (at + width s) code) x ≡ Some line → frame_in
        (at + width s) code own x ≡ Some f → Follows rules.program method frames line f)
        → (if b then Some (placed_line at s code) else line_in (laid (at + width s) code) x) ≡ Some line
        → (if b then Some g else frame_in (at + width s) code own x) ≡ Some f → Follows rules.program method frames line f
    by_test true first rest there framed =
        subst (λ h. Follows rules.program method frames line h) (same_Some g f framed)
        (subst (λ l. Follows rules.program method frames l g) (same_Some (placed_line at s code) line there) first)
    by_test false first rest there framed = rest there framed

-- ---- the method

receives : (method : LinkedMethod) (code : List Step) (own : List TypeFrame) (f : TypeFrame) (x : ℕ) (found : Option TypeFrame)
    → method.lines ≡ laid 0 code → frame_in 0 code own x ≡ found → Meets f found → Receives method (frame_in 0 code own) f x
receives method code own f x None lines is m = absurd m
receives method code own f x (Some g) lines is m =
    let line = framed-line code own 0 x g is in
    (line.0, g, ap (λ all. line_in all x) lines ∙ line.1, is, m)

all-placed : (rules : Rules) (method : LinkedMethod) (code : List Step) (own : List TypeFrame) → method.lines ≡ laid 0 code
    → Types rules code own [] → Placed method (frame_in 0 code own) 0 code (own ++ [])
all-placed rules method code own lines t f i m = found (slice_get own i) refl (subst (λ all. Meets f (slice_get all i)) (append-nil own) m)
  where
    found : (place : Option TypeFrame) → slice_get own i ≡ place → Meets f place → Receives method (frame_in 0 code own) f (0 + bytes_before code i)
    found None is m = absurd m
    found (Some g) is m =
        let s = stands rules code own [] 0 (0 + bytes_before code i) i g t is refl in
        receives method code own f (0 + bytes_before code i) (Some g) lines s.frame_is m

owed-there : (rules : Rules) (method : LinkedMethod) (code : List Step) (own : List TypeFrame) → method.lines ≡ laid 0 code
    → ((at : ℕ) (g : TypeFrame) → rules.owes at ≡ Some g → Meets g (frame_in 0 code own at)) → Owed rules method (frame_in 0 code own)
owed-there rules method code own lines owed f at m = found (rules.owes at) refl m
  where
    found : (owes : Option TypeFrame) → rules.owes at ≡ owes → Meets f owes → Receives method (frame_in 0 code own) f at
    found None is m = absurd m
    found (Some g) is m = receives method code own f at (frame_in 0 code own at) lines refl
        (meets-below f g (frame_in 0 code own at) m (owed at g is))

pub body-typed : (rules : Rules) (method : LinkedMethod) (code : List Step) → HasBody rules method code → Typed rules.program method
body-typed rules method code h =
    let own = h.types.body.frames in
    let types = h.types.body.types in
    let placed = all-placed rules method code own h.lines_are types in
    let owed = owed-there rules method code own h.lines_are h.types.owed in (
      frame_in 0 code own,
      λ last. record {
        operands = λ at f framed. frames-have-no-top rules code own [] 0 at f types framed;
        parameters = h.parameters;
        entry = placed (entry_frame method) 0 h.types.body.begins;
        rules = λ at line f less there framed.
            steps-follow rules method (frame_in 0 code own) code own [] 0 at line f h.operands h.locals types placed owed
            (sym (ap (λ all. line_in all at) h.lines_are) ∙ there) framed;
      },
    )
