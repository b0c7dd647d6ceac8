-- A pruned method of a class, linked.
use Rattle.std.proofs.Common.{◌≡◌, ℕ, zero, suc, ◌+◌, ◌-◌, ◌<◌, ◌≤◌, ◌⊎◌, inl, inr, Bool, true, false, ◌&&◌, ◌||◌, eqb, ltb, List, [], ◌∷◌, ◌++◌, length, map, Option, Some, None, refl, sym, ap, subst, ◌∙◌, arith, ⊎_elim, lit<}
use Rattle.std.specs.Prelude.{if◌then◌else◌, not, IsSome, is_some}
use Rattle.std.proofs.lemmas.Bool.{and_parts, eqb-true, eq-eqb, false≢true, or_parts, ltb-false, ltb-true, cases_eq}
use Rattle.std.proofs.lemmas.List.{map-append}
use Rattle.std.proofs.lemmas.Option.{same_Some, none-some}
use Rattle.class_definition.specs.Format.{is_sound, fault_unless}
use Rattle.class_definition.specs.declared.entry.Entry.{Entry}
use Rattle.class_definition.specs.NameGrammar.{after_field, is_member_name}
use Rattle.jvm_definition.specs.declared.return_name.ReturnName.{ReturnName}
use Rattle.class_definition.specs.declared.class.Class.{Class}
use Rattle.class_definition.specs.declared.code_fault.CodeFault.{CodeFault}
use Rattle.class_definition.specs.declared.line.Line.{Line}
use Rattle.class_definition.specs.declared.method.Method.{Method}
use Rattle.class_definition.specs.declared.op.Op.{Op}
use Rattle.class_definition.specs.declared.op.Op.TheVariants.{Give, TableSwitch, LookupSwitch}
use Rattle.class_definition.specs.Code.{Lines, code_fault, is_bad_length}
use Rattle.class_definition.specs.Sizes.{size_at}
use Rattle.jvm_code.specs.Writing.{AreLaid}
use Rattle.jvm_code.proofs.ReadBack.{read_of_code, laid_of}
use Rattle.class_definition.specs.Named.{text_slot, is_own_descriptor, code_name_slot}
use Rattle.class_definition.specs.Members.{method, method_parts, code_attribute, code_head}
use Rattle.class_definition.specs.MemberNames.{slot_text}
use Rattle.jvm_definition.specs.declared.kind.Kind.{Kind}
use Rattle.jvm_definition.specs.declared.kind.Kind.TheVariants as kinds
use Rattle.jvm_definition.specs.declared.instruction.Instruction.{Instruction}
use Rattle.jvm_definition.specs.declared.instruction.Instruction.TheVariants.{Return, Wrong}
use Rattle.jvm_definition.specs.declared.linked_line.LinkedLine.{LinkedLine}
use Rattle.jvm_definition.specs.declared.linked_method.LinkedMethod.{LinkedMethod}
use Rattle.jvm_definition.specs.Program.{LaidFrom, line_in}
use Rattle.stackmap_laws.specs.Alike.{HasReached}
use Rattle.stackmap_prune.proofs.TabledLaws.{IsReady}
use Rattle.jvm_definition.specs.Typing.{given_by, slots_of, type_effect, applied}
use Rattle.class_definition.specs.Linking.{lines_read, lines_of_code, front_kind, then_kinds, parameters_from, parameters_of, gives_int, return_instruction, linked_instruction, linked_line, linked_method, program_of}
use Rattle.jvm_link.proofs.MethodLemmas.{laid_first}
use Rattle.jvm_link.proofs.LaidLemmas.{lines_in_order}
use Rattle.jvm_type_inference.specs.declared.frame.Frame.{Frame}
use Rattle.jvm_type_inference.specs.Reached.{Reached}
use Rattle.jvm_type_inference.proofs.CallLaws.{some-there}
use Rattle.type_verifier.specs.Typings.{listed_frames, IsListed}
use Rattle.frame_maps.proofs.FramedLaws.{here, there}
use Rattle.stackmap_table.specs.Shortest.{has_no_long}
use Rattle.stackmap_prune.specs.Code.{returns_at, pruned_line, pruned_lines, has_dead, raised, is_listed, IsPrunedMethod}
use Rattle.stackmap_prune.specs.Linked.{linked_returns, pruned_linked_line, pruned_linked, lines_behind, listing_behind}
use Rattle.stackmap_prune.specs.Listing.{must_list, listing, listing_of}
use Rattle.stackmap_prune.specs.Pruned.{return_of, IsPruned}
use Rattle.stackmap_prune.proofs.CodeLaws.{pruned-laid}
use Rattle.emit_classes.proofs.Classes.{named_code}

-- ---- the lines of a code

pub good-code : (code : List ℕ) → code_fault code ≡ None → length code ≤ 65535
good-code code h = by-test (is_bad_length (length code)) refl _ h
  where
    by-test : (b : Bool) → is_bad_length (length code) ≡ b → (o : Option CodeFault) → (if b then Some (record { at = 0; kind = 5 }) else o) ≡ None → length code ≤ 65535
    by-test true e o k = absurd cc
    by-test false e o k = ltb-false 65535 (length code) (or_parts (eqb (length code) 0) (ltb 65535 (length code)) e).1

pub lines-are : (code : List ℕ) (lines : List Line) → code_fault code ≡ None → Lines code lines → lines_of_code code ≡ lines
lines-are code lines sound are = ap lines_read (read_of_code code lines (good-code code sound) are)

pub lines-laid : (code : List ℕ) (lines : List Line) → code_fault code ≡ None → Lines code lines → AreLaid 0 lines
lines-laid code lines sound are = laid_of 0 code lines are (omega (arith, good-code code sound))

size-some : (at : ℕ) (op : Op) → 0 < size_at at op
size-some at (TableSwitch s) = omega arith
size-some at (LookupSwitch s) = omega arith
size-some at _ = lit< tt

-- ---- parameters

front-short : (cs : List ℕ) (ks : List Kind) → has_no_long ks ≡ true → has_no_long (front_kind cs ∷ ks) ≡ true
front-short cs ks h = by-tests _ _ _
  where
    by-tests : (a b c : Bool) → has_no_long ((if a then kinds.Int else if b then kinds.Ints else if c then kinds.Pages else kinds.Text) ∷ ks) ≡ true
    by-tests true b c = h
    by-tests false true c = h
    by-tests false false true = h
    by-tests false false false = h

then-short : (cs : List ℕ) (others : List ℕ → List Kind) → ((rest : List ℕ) → has_no_long (others rest) ≡ true) → (o : Option (List ℕ)) → has_no_long (then_kinds others (front_kind cs) o) ≡ true
then-short cs others h None = refl
then-short cs others h (Some rest) = front-short cs (others rest) (h rest)

from-short : (n : ℕ) (cs : List ℕ) → has_no_long (parameters_from n cs) ≡ true
unfolding parameters_from
from-short zero cs = refl
from-short (suc n) cs = then-short cs (parameters_from n) (λ rest. from-short n rest) (after_field cs)

pub parameters-short : (descriptor : List ℕ) → has_no_long (parameters_of descriptor) ≡ true
parameters-short [] = refl
parameters-short (c ∷ cs) = from-short 255 cs

-- ---- the numbers of a method

pub numbers-few : (entries : List Entry) (m : Method) → (method entries).fits m ≡ true → (m.stack < 65536) × (m.locals < 65536)
unfolding method code_attribute
numbers-few entries m fits =
    let b = method_parts m in
    let p = and_parts ((text_slot entries is_member_name).fits m.name && (text_slot entries is_own_descriptor).fits m.desc) ((named_code entries).fits b.1) fits in
    let q = and_parts ((code_name_slot entries).fits m.attr) (code_attribute.fits b.1.1) p.1 in
    let r = and_parts (code_head.fits b.1.1.0) _ q.1 in
    let s = and_parts _ (is_sound (fault_unless 8 (eqb (length m.code + 12) (length m.code + 12)))) r.0 in
    let t = and_parts (ltb (length m.code + 12) 4294967296) _ s.0 in
    let u = and_parts (ltb m.stack 65536) _ t.1 in
    let v = and_parts (ltb m.locals 65536) _ u.1 in
    (ltb-true m.stack 65536 u.0, ltb-true m.locals 65536 v.0)

-- ---- pruned lines, linked

module _ (cs ds : List Class) (number : ℕ) (c d : Class) (gives : Bool) (kept : ℕ → Bool) (name : ReturnName) where
  abbrev pub old-line : Line → LinkedLine
  old-line l = linked_line cs number c gives l

  abbrev pub new-line : Line → LinkedLine
  new-line l = linked_line ds number d gives l

  abbrev pub pruned : List Line → List Line
  pruned lines = pruned_lines kept name lines

  -- an instruction that stays means the same
  abbrev pub AllSame : List Line → Type 0
  AllSame [] = Unit {0}
  AllSame (l ∷ lines) = (kept l.at ≡ true → linked_instruction ds number d gives l.op ≡ linked_instruction cs number c gives l.op) × AllSame lines

  behind-start : (start : ℕ) (lines : List Line) (make : Line → LinkedLine) → ((l : Line) → (make l).at ≡ l.at) → AreLaid start lines → (at : ℕ) (line : LinkedLine) → line_in (map make lines) at ≡ Some line → start ≤ at
  behind-start start [] make is laid at line e = absurd (none-some line e)
  behind-start start (l ∷ lines) make is laid at line e =
      ⊎_elim
      (λ same. omega (arith, laid.0, is l, same))
      (λ other. let k = behind-start (start + size_at start l.op) lines make is laid.2 at line (sym (there (make l) (map make lines) at other) ∙ e) in omega (arith, k))
      (cases_eq (make l).at at)

  pub all-same : (start : ℕ) (lines : List Line) → AreLaid start lines → ((at : ℕ) (line : LinkedLine) → line_in (map old-line lines) at ≡ Some line → kept at ≡ true → line.instruction ≡ Wrong → ⊥) → ((op : Op) → (linked_instruction cs number c gives op ≡ Wrong → ⊥) → linked_instruction ds number d gives op ≡ linked_instruction cs number c gives op) → AllSame lines
  all-same start [] laid right same = tt
  all-same start (l ∷ lines) laid right same = (
    λ k. same l.op (right l.at (old-line l) (here (old-line l) (map old-line lines) l.at refl) k),
    all-same (start + size_at start l.op) lines laid.2
        (λ at line e k. right at line (there (old-line l) (map old-line lines) at (λ h. let s = behind-start (start + size_at start l.op) lines old-line (λ x. refl) laid.2 at line e in omega (arith, s, h, laid.0, size-some start l.op)) ∙ e) k)
        same,
  )

  skip-returns : (a n : ℕ) (rest : List Line) (at : ℕ) → a + n ≤ at → line_in (map new-line (returns_at name a n ++ rest)) at ≡ line_in (map new-line rest) at
  skip-returns a zero rest at h = refl
  skip-returns a (suc n) rest at h =
      there (new-line (record { at = a; op = Give name })) (map new-line (returns_at name (suc a) n ++ rest)) at (λ e. omega (arith, e, h))
      ∙ skip-returns (suc a) n rest at (omega (arith, h))

  line-same : (l : Line) → linked_instruction ds number d gives l.op ≡ linked_instruction cs number c gives l.op → new-line l ≡ old-line l
  line-same l e = λ i. record { at = l.at; next = l.at + size_at l.at l.op; instruction = e i }

  pub line-stays : (start : ℕ) (lines : List Line) → AreLaid start lines → AllSame lines → (at : ℕ) (line : LinkedLine) → kept at ≡ true → line_in (map old-line lines) at ≡ Some line → line_in (map new-line (pruned lines)) at ≡ Some line
  line-stays start [] laid same at line k e = absurd (none-some line e)
  line-stays start (l ∷ lines) laid same at line k e =
      ⊎_elim
      (λ h.
      let stays : kept l.at ≡ true = ap kept h ∙ k in
      let is : old-line l ≡ line = same_Some (old-line l) line (sym (here (old-line l) (map old-line lines) at h) ∙ e) in
      ap (λ b. line_in (map new-line ((if b then l ∷ [] else returns_at name l.at (size_at l.at l.op)) ++ pruned lines)) at) stays
      ∙ (here (new-line l) (map new-line (pruned lines)) at h ∙ ap (λ x. Some x) (line-same l (same.0 stays) ∙ is)))
      (λ other.
      let f : line_in (map old-line lines) at ≡ Some line = sym (there (old-line l) (map old-line lines) at other) ∙ e in
      let s = behind-start (start + size_at start l.op) lines old-line (λ x. refl) laid.2 at line f in
      let far : l.at + size_at l.at l.op ≤ at = subst (λ a. a + size_at a l.op ≤ at) (sym laid.0) s in
      by-kept (kept l.at) other far ∙ line-stays (start + size_at start l.op) lines laid.2 same.1 at line k f)
      (cases_eq l.at at)
    where
      by-kept : (b : Bool) → (l.at ≡ at → ⊥) → l.at + size_at l.at l.op ≤ at → line_in (map new-line ((if b then l ∷ [] else returns_at name l.at (size_at l.at l.op)) ++ pruned lines)) at ≡ line_in (map new-line (pruned lines)) at
      by-kept true other far = there (new-line l) (map new-line (pruned lines)) at other
      by-kept false other far = skip-returns l.at (size_at l.at l.op) (pruned lines) at far

  returns-linked : return_instruction gives name ≡ Return name → (a n : ℕ) → map new-line (returns_at name a n) ≡ linked_returns name a n
  returns-linked give a zero = refl
  returns-linked give a (suc n) = λ i. record { at = a; next = a + 1; instruction = give i } ∷ returns-linked give (suc a) n i

  line-linked : return_instruction gives name ≡ Return name → (l : Line) → (kept l.at ≡ true → linked_instruction ds number d gives l.op ≡ linked_instruction cs number c gives l.op) → map new-line (pruned_line kept name l) ≡ pruned_linked_line kept name (old-line l)
  line-linked give l same = by-kept (kept l.at) refl
    where
      size : size_at l.at l.op ≡ (l.at + size_at l.at l.op) - l.at
      size = omega arith

      by-kept : (b : Bool) → kept l.at ≡ b → map new-line (if b then l ∷ [] else returns_at name l.at (size_at l.at l.op)) ≡ (if b then old-line l ∷ [] else linked_returns name l.at ((l.at + size_at l.at l.op) - l.at))
      by-kept true e = ap (λ (x : LinkedLine). x ∷ []) (line-same l (same e))
      by-kept false e = returns-linked give l.at (size_at l.at l.op) ∙ ap (linked_returns name l.at) size

  -- pruned lines, linked, are linked lines, pruned
  pub pruned-linked : return_instruction gives name ≡ Return name → (lines : List Line) → AllSame lines → map new-line (pruned lines) ≡ pruned_linked kept name (map old-line lines)
  pruned-linked give [] same = refl
  pruned-linked give (l ∷ lines) same =
      map-append new-line (pruned_line kept name l) (pruned lines)
      ∙ (λ i. line-linked give l same.0 i ++ pruned-linked give lines same.1 i)

  in-returns : (a n : ℕ) (rest : List Line) (at : ℕ) (line : LinkedLine) → line_in (map new-line (returns_at name a n ++ rest)) at ≡ Some line → (line.instruction ≡ return_instruction gives name) ⊎ (line_in (map new-line rest) at ≡ Some line)
  in-returns a zero rest at line e = inr e
  in-returns a (suc n) rest at line e =
      ⊎_elim
      (λ h. inl (ap (λ x. x.instruction) (sym (same_Some (new-line (record { at = a; op = Give name })) line (sym (here (new-line (record { at = a; op = Give name })) (map new-line (returns_at name (suc a) n ++ rest)) at h) ∙ e)))))
      (λ other. in-returns (suc a) n rest at line (sym (there (new-line (record { at = a; op = Give name })) (map new-line (returns_at name (suc a) n ++ rest)) at other) ∙ e))
      (cases_eq a at)

  pub other-line : (lines : List Line) (at : ℕ) (line : LinkedLine) → line_in (map new-line (pruned lines)) at ≡ Some line → kept at ≡ false → line.instruction ≡ return_instruction gives name
  other-line [] at line e k = absurd (none-some line e)
  other-line (l ∷ lines) at line e k = by-kept (kept l.at) refl (λ g. other-line lines at line g k) e
    where
      by-kept : (b : Bool) → kept l.at ≡ b → (line_in (map new-line (pruned lines)) at ≡ Some line → line.instruction ≡ return_instruction gives name) → line_in (map new-line ((if b then l ∷ [] else returns_at name l.at (size_at l.at l.op)) ++ pruned lines)) at ≡ Some line → line.instruction ≡ return_instruction gives name
      by-kept true h rest g =
          ⊎_elim
          (λ same. absurd (false≢true (sym k ∙ (ap kept (sym same) ∙ h))))
          (λ other. rest (sym (there (new-line l) (map new-line (pruned lines)) at other) ∙ g))
          (cases_eq l.at at)
      by-kept false h rest g =
          ⊎_elim
          (λ is. is)
          rest
          (in-returns l.at (size_at l.at l.op) (pruned lines) at line g)

  pub dead-found : (lines : List Line) (at : ℕ) → IsSome (line_in (map new-line (pruned lines)) at) → kept at ≡ false → has_dead kept lines ≡ true
  dead-found [] at h k = absurd (false≢true h)
  dead-found (l ∷ lines) at h k = by-kept (kept l.at) refl (λ g. dead-found lines at g k) h
    where
      by-kept : (b : Bool) → kept l.at ≡ b → (IsSome (line_in (map new-line (pruned lines)) at) → has_dead kept lines ≡ true) → IsSome (line_in (map new-line ((if b then l ∷ [] else returns_at name l.at (size_at l.at l.op)) ++ pruned lines)) at) → (not (kept l.at) || has_dead kept lines) ≡ true
      by-kept true e rest g =
          let other : l.at ≡ at → ⊥ = λ same. false≢true (sym k ∙ (ap kept (sym same) ∙ e)) in
          ap (λ b. not b || has_dead kept lines) e
          ∙ rest (ap is_some (sym (there (new-line l) (map new-line (pruned lines)) at other)) ∙ g)
      by-kept false e rest g = ap (λ b. not b || has_dead kept lines) e

behind-from : (cs : List Class) (number : ℕ) (c : Class) (gives : Bool) (start : ℕ) (lines : List Line) → AreLaid start lines → (at : ℕ) (line : LinkedLine) → line_in (map (linked_line cs number c gives) lines) at ≡ Some line → start ≤ at
behind-from cs number c gives start [] laid at line e = absurd (none-some line e)
behind-from cs number c gives start (l ∷ lines) laid at line e =
    let make = linked_line cs number c gives in
    ⊎_elim
    (λ same. omega (arith, laid.0, same))
    (λ other. let k = behind-from cs number c gives (start + size_at start l.op) lines laid.2 at line (sym (there (make l) (map make lines) at other) ∙ e) in omega (arith, k))
    (cases_eq l.at at)

-- a line of the others stands elsewhere than the first one
pub behind-line : (cs : List Class) (number : ℕ) (c : Class) (gives : Bool) (start : ℕ) (l : Line) (lines : List Line) → AreLaid start (l ∷ lines) → (at : ℕ) (line : LinkedLine) → line_in (map (linked_line cs number c gives) lines) at ≡ Some line → l.at ≡ at → ⊥
behind-line cs number c gives start l lines laid at line e same =
    let s = behind-from cs number c gives (start + size_at start l.op) lines laid.2 at line e in
    omega (arith, s, same, laid.0, size-some start l.op)

near-line : (ds : List Class) (number : ℕ) (d : Class) (gives : Bool) (start : ℕ) (lines : List Line) → AreLaid start lines → (at : ℕ) (line : LinkedLine) → line_in (map (linked_line ds number d gives) lines) at ≡ Some line → at < 65535
near-line ds number d gives start [] laid at line e = absurd (none-some line e)
near-line ds number d gives start (l ∷ lines) laid at line e =
    let make = linked_line ds number d gives in
    ⊎_elim
    (λ same. omega (arith, laid_first start l lines laid, size-some l.at l.op, same))
    (λ other. near-line ds number d gives (start + size_at start l.op) lines laid.2 at line (sym (there (make l) (map make lines) at other) ∙ e))
    (cases_eq l.at at)

give-is : (gives : Bool) → return_instruction gives (return_of gives) ≡ Return (return_of gives)
give-is true = refl
give-is false = refl

raised-room : (gives : Bool) (stack : ℕ) → slots_of (given_by gives) ≤ raised gives true stack
raised-room false stack = omega arith
raised-room true stack = by-test (eqb stack 0) refl
  where
    by-test : (b : Bool) → eqb stack 0 ≡ b → 1 ≤ (if b then 1 else stack)
    by-test true e = omega arith
    by-test false e = omega (arith, λ (h : stack ≡ 0). false≢true (sym e ∙ eq-eqb stack 0 h))

raised-above : (gives dead : Bool) (stack : ℕ) → stack ≤ raised gives dead stack
raised-above gives dead stack = by-test (gives && dead && eqb stack 0) refl
  where
    by-test : (b : Bool) → (gives && dead && eqb stack 0) ≡ b → stack ≤ (if b then 1 else stack)
    by-test true e = omega (arith, eqb-true stack 0 (and_parts (gives && dead) (eqb stack 0) e).1)
    by-test false e = omega arith

pub raised-few : (gives dead : Bool) (stack : ℕ) → stack ≤ 65535 → raised gives dead stack ≤ 65535
raised-few gives dead stack h = by-test (gives && dead && eqb stack 0)
  where
    by-test : (b : Bool) → (if b then 1 else stack) ≤ 65535
    by-test true = omega arith
    by-test false = h

-- ---- one method

-- what is known of a method and of what became of it
pub record IsPair (cs ds : List Class) (number : ℕ) (c d : Class) (m n : Method) (reached : List (ℕ × Frame)) : Type 0 where
  pub sound : code_fault m.code ≡ None
  pub sound_too : code_fault n.code ≡ None
  pub descriptor : slot_text d n.desc ≡ slot_text c m.desc
  pub same : (op : Op) → (linked_instruction cs number c (gives_int (slot_text c m.desc)) op ≡ Wrong → ⊥) → linked_instruction ds number d (gives_int (slot_text c m.desc)) op ≡ linked_instruction cs number c (gives_int (slot_text c m.desc)) op
  pub listed : IsListed (program_of cs) (linked_method cs number c m) reached
  pub pruned : IsPrunedMethod (is_listed reached) (gives_int (slot_text c m.desc)) m n
  pub few_stack : m.stack ≤ 65535
  pub few_locals : m.locals ≤ 65535

module _ (cs ds : List Class) (number : ℕ) (c d : Class) (m n : Method) (reached : List (ℕ × Frame)) (p : IsPair cs ds number c d m n reached) where
  abbrev gives : Bool
  gives = gives_int (slot_text c m.desc)

  abbrev kept : ℕ → Bool
  kept = is_listed reached

  abbrev before : LinkedMethod
  before = linked_method cs number c m

  abbrev after : LinkedMethod
  after = linked_method ds number d n

  old-lines : lines_of_code m.code ≡ p.pruned.lines
  old-lines = lines-are m.code p.pruned.lines p.sound p.pruned.are

  new-lines : lines_of_code n.code ≡ pruned_lines kept (return_of gives) p.pruned.lines
  new-lines = lines-are n.code (pruned_lines kept (return_of gives) p.pruned.lines) p.sound_too p.pruned.pruned_are

  laid : AreLaid 0 p.pruned.lines
  laid = lines-laid m.code p.pruned.lines p.sound p.pruned.are

  new-laid : AreLaid 0 (pruned_lines kept (return_of gives) p.pruned.lines)
  new-laid = pruned-laid kept (return_of gives) 0 p.pruned.lines laid

  before-lines : (linked_method cs number c m).lines ≡ map (linked_line cs number c (gives_int (slot_text c m.desc))) p.pruned.lines
  unfolding linked_method
  before-lines = ap (map (linked_line cs number c gives)) old-lines

  after-lines : (linked_method ds number d n).lines ≡ map (linked_line ds number d (gives_int (slot_text c m.desc))) (pruned_lines (is_listed reached) (return_of (gives_int (slot_text c m.desc))) p.pruned.lines)
  unfolding linked_method
  after-lines = ap (λ t. map (linked_line ds number d (gives_int t)) (lines_of_code n.code)) p.descriptor ∙ ap (map (linked_line ds number d gives)) new-lines

  right : (at : ℕ) (line : LinkedLine) → line_in (linked_method cs number c m).lines at ≡ Some line → is_listed reached at ≡ true → line.instruction ≡ Wrong → ⊥
  right at line l k wrong =
      let f = some-there (listed_frames reached at) k in
      let rule = (p.listed.least.typing at).rules at line f.0 (omega arith) l f.1 in
      none-some rule.behind (sym (ap (λ i. applied (type_effect (program_of cs) i) f.0) wrong) ∙ rule.fits)

  same-lines : AllSame cs ds number c d gives kept (return_of gives) p.pruned.lines
  same-lines = all-same cs ds number c d gives kept (return_of gives) 0 p.pruned.lines laid
      (λ at line e k. right at line (ap (λ ls. line_in ls at) before-lines ∙ e) k)
      p.same

  by-kept : (at : ℕ) → (Reached (linked_method cs number c m) at → ⊥) → is_listed reached at ≡ false
  by-kept at h = by-test (is_listed reached at) refl
    where
      by-test : (b : Bool) → is_listed reached at ≡ b → b ≡ false
      by-test true e = absurd (h ((p.listed.reached at).0 e))
      by-test false e = refl

  pub parameters-same : (linked_method ds number d n).parameters ≡ (linked_method cs number c m).parameters
  unfolding linked_method
  parameters-same = ap parameters_of p.descriptor

  gives-same : (linked_method ds number d n).gives_int ≡ (linked_method cs number c m).gives_int
  unfolding linked_method
  gives-same = ap gives_int p.descriptor

  locals-same : (linked_method ds number d n).locals ≡ (linked_method cs number c m).locals
  unfolding linked_method
  locals-same = p.pruned.locals

  gives-is : (linked_method cs number c m).gives_int ≡ gives_int (slot_text c m.desc)
  unfolding linked_method
  gives-is = refl

  stack-above : (linked_method cs number c m).stack ≤ (linked_method ds number d n).stack
  unfolding linked_method
  stack-above = omega (arith, p.pruned.stack, raised-above gives (has_dead kept p.pruned.lines) m.stack)

  stack-room : has_dead (is_listed reached) p.pruned.lines ≡ true → slots_of (given_by (gives_int (slot_text c m.desc))) ≤ (linked_method ds number d n).stack
  unfolding linked_method
  stack-room h = omega (arith, raised-room gives m.stack, p.pruned.stack ∙ ap (λ b. raised gives b m.stack) h)

  pub is-pruned : IsPruned (linked_method cs number c m) (linked_method ds number d n)
  is-pruned = record {
    laid = subst (λ ls. LaidFrom 0 ls) (sym after-lines) (lines_in_order ds number d gives (pruned_lines kept (return_of gives) p.pruned.lines) new-laid).0;
    reached = λ at line r e.
        ap (λ ls. line_in ls at) after-lines
        ∙ line-stays cs ds number c d gives kept (return_of gives) 0 p.pruned.lines laid same-lines at line ((p.listed.reached at).1 r) (sym (ap (λ ls. line_in ls at) before-lines) ∙ e);
    others = λ at line e h.
        other-line cs ds number c d gives kept (return_of gives) p.pruned.lines at line (sym (ap (λ ls. line_in ls at) after-lines) ∙ e) (by-kept at h)
        ∙ (give-is gives ∙ ap (λ b. Return (return_of b)) (sym gives-is));
    parameters = parameters-same;
    gives_int = gives-same;
    locals = locals-same;
    stack = stack-above;
    room = λ at has h.
        subst (λ b. slots_of (given_by b) ≤ (linked_method ds number d n).stack) (sym gives-is)
        (stack-room (dead-found cs ds number c d gives kept (return_of gives) p.pruned.lines at (ap is_some (sym (ap (λ ls. line_in ls at) after-lines)) ∙ has) (by-kept at h)));
  }

  new-few : ((linked_method ds number d n).locals ≤ 65535) × ((linked_method ds number d n).stack ≤ 65535)
  unfolding linked_method
  new-few = (omega (arith, p.pruned.locals, p.few_locals), omega (arith, p.pruned.stack, raised-few gives (has_dead kept p.pruned.lines) m.stack p.few_stack))

  short : has_no_long (linked_method cs number c m).parameters ≡ true
  unfolding linked_method
  short = parameters-short (slot_text c m.desc)

  old-laid : LaidFrom 0 (linked_method cs number c m).lines
  old-laid = subst (λ ls. LaidFrom 0 ls) (sym before-lines) (lines_in_order cs number c gives p.pruned.lines laid).0

  pub is-ready : ((i : Instruction) → type_effect (program_of ds) i ≡ type_effect (program_of cs) i) → IsReady (program_of cs) (program_of ds) (linked_method cs number c m) (linked_method ds number d n) reached
  is-ready effects = record {
    listed = p.listed;
    laid = old-laid;
    is = is-pruned;
    effects = effects;
    parameters = short;
    near = λ at l e. near-line ds number d gives 0 (pruned_lines kept (return_of gives) p.pruned.lines) new-laid at l (sym (ap (λ ls. line_in ls at) after-lines) ∙ e);
    few_locals = new-few.0;
    few_stack = new-few.1;
  }

  -- the instructions that are reached are the same, and an offset that is reached has one
  pub has-reached : HasReached (linked_method cs number c m) (linked_method ds number d n)
  has-reached = record { parameters = parameters-same; lines = λ at line r e. is-pruned.reached at line r e }

  lines-behind : (linked_method ds number d n).lines ≡ lines_behind (linked_method cs number c m) reached
  lines-behind =
      after-lines
      ∙ (pruned-linked cs ds number c d gives kept (return_of gives) (give-is gives) p.pruned.lines same-lines
      ∙ (ap (pruned_linked kept (return_of gives)) (sym before-lines) ∙ ap (λ b. pruned_linked kept (return_of b) (linked_method cs number c m).lines) (sym gives-is)))

  -- the frames that are listed for what became of the method
  pub listing-behind : listing_of (linked_method ds number d n) reached ≡ listing_behind (linked_method cs number c m) reached
  listing-behind = λ i. listing (must_list (lines-behind i)) reached (gives-same i) (parameters-same i) (lines-behind i)
