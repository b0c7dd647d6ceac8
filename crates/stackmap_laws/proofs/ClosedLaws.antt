-- Where an instruction is reached, those to which it may go are reached.
use Rattle.std.proofs.Common.{◌≡◌, ℕ, suc, ◌+◌, Bool, true, false, List, [], ◌∷◌, map, Some, None, refl, ap, ◌∙◌, arith}
use Rattle.std.specs.Prelude.{All, if◌then◌else◌, is_some}
use Rattle.std.specs.List.{list_all}
use Rattle.std.proofs.lemmas.Bool.{and_from}
use Rattle.class_definition.specs.declared.class.Class.{Class}
use Rattle.class_definition.specs.declared.line.Line.{Line}
use Rattle.class_definition.specs.declared.method.Method.{Method}
use Rattle.class_definition.specs.declared.op.Op.{Op}
use Rattle.class_definition.specs.declared.op.Op.TheVariants.{Branch, GotoW, TableSwitch, LookupSwitch}
use Rattle.class_definition.specs.Code.{Lines, code_fault, targets_of}
use Rattle.class_definition.specs.Sizes.{size_at}
use Rattle.jvm_code.specs.Writing.{AreLaid}
use Rattle.class_definition.specs.MemberNames.{slot_text}
use Rattle.jvm_definition.specs.declared.linked_line.LinkedLine.{LinkedLine}
use Rattle.jvm_definition.specs.Program.{line_in, falls_through, successors}
use Rattle.jvm_definition.specs.Program as program
use Rattle.class_definition.specs.Linking.{gives_int, linked_instruction, linked_line, lines_of_code, linked_method, program_of}
use Rattle.jvm_type_inference.specs.declared.frame.Frame.{Frame}
use Rattle.jvm_type_inference.proofs.CallLaws.{some-there}
use Rattle.type_verifier.specs.Typings.{listed_frames, IsListed}
use Rattle.frame_maps.proofs.FramedLaws.{here, there}
use Rattle.stackmap_prune.specs.Code.{is_listed, KeepsTargets}
use Rattle.stackmap_laws.proofs.MethodLaws.{lines-are, lines-laid, behind-line}

targets-of-line : (P : ℕ → Type 0) (l : LinkedLine) → All P (successors l) → All P (program.instruction_targets l.instruction)
targets-of-line P l h = by-test (falls_through l.instruction) h
  where
    by-test : (b : Bool) → All P (if b then l.next ∷ program.instruction_targets l.instruction else program.instruction_targets l.instruction) → All P (program.instruction_targets l.instruction)
    by-test true a = λ k d less. a (suc k) d (omega (arith, less))
    by-test false a = a

all-list : (kept : ℕ → Bool) (ts : List ℕ) → All (λ t. kept t ≡ true) ts → list_all kept ts ≡ true
all-list kept [] h = refl
all-list kept (t ∷ ts) h = and_from (kept t) (list_all kept ts) (h 0 t (omega arith)) (all-list kept ts (λ k d less. h (suc k) d (omega (arith, less))))

op-targets : (cs : List Class) (number : ℕ) (c : Class) (gives : Bool) (kept : ℕ → Bool) (op : Op) → All (λ t. kept t ≡ true) (program.instruction_targets (linked_instruction cs number c gives op)) → list_all kept (targets_of op) ≡ true
op-targets cs number c gives kept (Branch name target) h = all-list kept (target ∷ []) h
op-targets cs number c gives kept (GotoW target) h = all-list kept (target ∷ []) h
op-targets cs number c gives kept (TableSwitch s) h = all-list kept (s.default ∷ s.targets) h
op-targets cs number c gives kept (LookupSwitch s) h = all-list kept (s.default ∷ map (λ p. p.target) s.pairs) h
op-targets cs number c gives kept _ h = refl

module _ (cs : List Class) (number : ℕ) (c : Class) (gives : Bool) (kept : ℕ → Bool) where
  keeps-by : (start : ℕ) (lines : List Line) → AreLaid start lines → ((at : ℕ) (line : LinkedLine) → line_in (map (linked_line cs number c gives) lines) at ≡ Some line → kept at ≡ true → All (λ t. kept t ≡ true) (program.instruction_targets line.instruction)) → KeepsTargets kept lines
  keeps-by start [] laid h = tt
  keeps-by start (l ∷ lines) laid h = (
    λ k. op-targets cs number c gives kept l.op (h l.at (linked_line cs number c gives l) (here (linked_line cs number c gives l) (map (linked_line cs number c gives) lines) l.at refl) k),
    keeps-by (start + size_at start l.op) lines laid.2
        (λ at line e k. h at line (there (linked_line cs number c gives l) (map (linked_line cs number c gives) lines) at (behind-line cs number c gives start l lines laid at line e) ∙ e) k),
  )

pub keeps-targets : (cs : List Class) (number : ℕ) (c : Class) (m : Method) (reached : List (ℕ × Frame)) (lines : List Line) → code_fault m.code ≡ None → Lines m.code lines → IsListed (program_of cs) (linked_method cs number c m) reached → KeepsTargets (is_listed reached) lines
unfolding linked_method
keeps-targets cs number c m reached lines sound are listed =
    let gives = gives_int (slot_text c m.desc) in
    keeps-by cs number c gives (is_listed reached) 0 lines (lines-laid m.code lines sound are)
    (λ at line e k.
    let f = some-there (listed_frames reached at) k in
    let there-is : line_in (map (linked_line cs number c gives) (lines_of_code m.code)) at ≡ Some line = ap (λ ls. line_in (map (linked_line cs number c gives) ls) at) (lines-are m.code lines sound are) ∙ e in
    let rule = (listed.least.typing at).rules at line f.0 (omega arith) there-is f.1 in
    targets-of-line (λ t. is_listed reached t ≡ true) line (λ i d inside. let r = rule.goes_on i d inside in ap is_some r.3))
