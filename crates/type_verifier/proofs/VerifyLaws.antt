-- From methods by themselves to those of linked classes.
use Rattle.std.proofs.Common.{◌≡◌, ℕ, zero, suc, ◌+◌, ◌-◌, ◌<◌, ◌≤◌, List, [], ◌∷◌, ◌++◌, length, refl, sym, ap, subst, ◌∙◌, Some, None, arith}
use Rattle.std.specs.Prelude.{slice_get, map}
use Rattle.std.proofs.lemmas.List.{append_assoc, length-append, length-map}
use Rattle.std.proofs.lemmas.Option.{slice_get_within}
use Rattle.class_definition.specs.declared.class.Class.{Class}
use Rattle.jvm_definition.specs.declared.linked_line.LinkedLine.{LinkedLine}
use Rattle.jvm_definition.specs.declared.linked_method.LinkedMethod.{LinkedMethod}
use Rattle.jvm_definition.specs.declared.instruction.Instruction.{Instruction}
use Rattle.jvm_definition.specs.declared.instruction.Instruction.TheVariants.{Call}
use Rattle.jvm_definition.specs.Program.{Program}
use Rattle.jvm_definition.specs.Typing.{TypeFrame, Frames, TypeEffect, type_effect, call_type, applied, local_within, Follows, IsTypingTo, Typed}
use Rattle.class_definition.specs.Linking.{program_of, linked_methods, methods_from, linked_method}
use Rattle.type_verifier.specs.declared.verify_error.VerifyError.{VerifyError}
use Rattle.type_verifier.specs.declared.verify_error.VerifyError.TheVariants.{Refused, NoMemory}
use Rattle.jvm_type_inference.specs.Actions.{program_over}
use Rattle.jvm_type_inference.specs.Verdict.{FailsAt, LeastTyping, AllLeastTyped}
use Rattle.type_verifier.specs.Refusal.{methods_before, IsRefusal, IsFirstFault, IsFault, IsPlace}

-- ---- programs with the same methods

module _ (p q : Program) (same : (m : ℕ) → p.method m ≡ q.method m) where
  effect-same : (i : Instruction) → type_effect p i ≡ type_effect q i
  effect-same (Call m) = ap call_type (same m)
  effect-same _ = refl

  follows-same : (method : LinkedMethod) (frames : Frames) (line : LinkedLine) (f : TypeFrame) → Follows p method frames line f → Follows q method frames line f
  follows-same method frames line f r = record {
    local = subst (λ (e : TypeEffect). local_within e method.locals) (effect-same line.instruction) r.local;
    behind = r.behind;
    fits = subst (λ (e : TypeEffect). applied e f ≡ Some r.behind) (effect-same line.instruction) r.fits;
    within = r.within;
    goes_on = r.goes_on;
  }

  pub typing-same : (method : LinkedMethod) (frames : Frames) (last : ℕ) → IsTypingTo p method frames last → IsTypingTo q method frames last
  typing-same method frames last t = record {
    operands = t.operands;
    parameters = t.parameters;
    entry = t.entry;
    rules = λ at line f to l e. follows-same method frames line f (t.rules at line f to l e);
  }

pub typed-same : (p q : Program) (same : (m : ℕ) → p.method m ≡ q.method m) (method : LinkedMethod) → LeastTyping p method → Typed q method
typed-same p q same method l = (l.frames, λ last. typing-same p q same method l.frames last (l.typing last))

pub least-same : (p q : Program) (same : (m : ℕ) → p.method m ≡ q.method m) (method : LinkedMethod) → LeastTyping p method → LeastTyping q method
least-same p q same method l = record {
  frames = l.frames;
  typing = λ last. typing-same p q same method l.frames last (l.typing last);
  least = λ others t. l.least others (λ last. typing-same q p (λ m. sym (same m)) method others last (t last));
}

pub fails-same : (p q : Program) (same : (m : ℕ) → p.method m ≡ q.method m) (method : LinkedMethod) (at : ℕ) → FailsAt p method at → FailsAt q method at
fails-same p q same method at f = record {
  fails = λ frames t. f.fails frames (typing-same q p (λ m. sym (same m)) method frames at t);
  before = λ earlier less. let r = f.before earlier less in (r.0, typing-same p q same method r.0 earlier r.1);
}

pub same-methods : (classes : List Class) (methods : List LinkedMethod) → methods ≡ linked_methods classes → (m : ℕ) → (program_over methods).method m ≡ (program_of classes).method m
same-methods classes methods e m = ap (λ x. slice_get x m) e

-- ---- all methods

pub all-least : (classes : List Class) (methods : List LinkedMethod) → methods ≡ linked_methods classes → IsFirstFault (program_over methods) (length methods) None → AllLeastTyped (program_of classes)
all-least classes methods e all m method is =
    let same = same-methods classes methods e in
    let there : slice_get methods m ≡ Some method = same m ∙ is in
    least-same (program_over methods) (program_of classes) same method (all m method (slice_get_within methods m method there) there)

-- ---- the method at fault

abbrev pub methods_count : List Class → ℕ
methods_count [] = 0
methods_count (c ∷ classes) = length c.methods + methods_count classes

pub count-is : (all : List Class) (n : ℕ) (classes : List Class) → length (methods_from all n classes) ≡ methods_count classes
count-is all n [] = refl
count-is all n (c ∷ classes) =
    omega (arith, length-append (map (linked_method all n c) c.methods) (methods_from all (suc n) classes), length-map c.methods (linked_method all n c), count-is all (suc n) classes)

before-is : (done rest : List Class) → methods_before (done ++ rest) (length done) ≡ methods_count done
before-is [] [] = refl
before-is [] (c ∷ rest) = refl
before-is (c ∷ done) rest = ap (λ n. length c.methods + n) (before-is done rest)

class-at : (done : List Class) (c : Class) (rest : List Class) → slice_get (done ++ c ∷ rest) (length done) ≡ Some c
class-at [] c rest = refl
class-at (d ∷ done) c rest = class-at done c rest

-- classes were passed by, and the number among the methods of those that are left
pub record IsLooking (classes rest : List Class) (number method : ℕ) : Type 0 where
  pub done : List Class
  pub whole : classes ≡ done ++ rest
  pub number_is : methods_count done + method ≡ number
  pub within : method < methods_count rest

pub first-look : (classes : List Class) (number : ℕ) → number < length (linked_methods classes) → IsLooking classes classes number number
first-look classes number h = record {
  done = [];
  whole = refl;
  number_is = omega arith;
  within = omega (arith, h, count-is classes 0 classes);
}

count-push : (done : List Class) (c : Class) → methods_count (done ++ c ∷ []) ≡ methods_count done + length c.methods
count-push [] c = omega arith
count-push (d ∷ done) c = omega (arith, count-push done c)

pub next-look : (classes rest others : List Class) (c : Class) (number method : ℕ) → rest ≡ c ∷ others → length c.methods ≤ method → IsLooking classes rest number method → IsLooking classes others number (method - length c.methods)
next-look classes rest others c number method e more l = record {
  done = l.done ++ c ∷ [];
  whole = l.whole ∙ (ap (λ x. l.done ++ x) e ∙ sym (append_assoc l.done (c ∷ []) others));
  number_is = omega (arith, count-push l.done c, l.number_is, more);
  within = omega (arith, l.within, ap methods_count e, more);
}

pub place-from : (classes rest others : List Class) (c : Class) (number method at : ℕ) (r : VerifyError) → rest ≡ c ∷ others → method < length c.methods → IsLooking classes rest number method → IsFault (length classes - length rest) method at r → IsPlace classes number at r
place-from classes rest others c number method at NoMemory e less l f = tt
place-from classes rest others c number method at (Refused fault) e less l f =
    let whole : classes ≡ l.done ++ c ∷ others = l.whole ∙ ap (λ x. l.done ++ x) e in
    let index : fault.class ≡ length l.done = omega (arith, f.0, ap length whole, ap length e, length-append l.done (c ∷ others)) in (
      (c, ap (slice_get classes) index ∙ (ap (λ x. slice_get x (length l.done)) whole ∙ class-at l.done c others), omega (arith, f.1, less)),
      omega (arith, ap (methods_before classes) index, ap (λ x. methods_before x (length l.done)) whole, before-is l.done (c ∷ others), l.number_is, f.1),
      f.2,
    )

pub method-there : (methods : List LinkedMethod) (number : ℕ) → number < length methods → (method : LinkedMethod) × (slice_get methods number ≡ Some method)
method-there [] number h = absurd (omega arith)
method-there (m ∷ methods) zero h = (m, refl)
method-there (m ∷ methods) (suc number) h = method-there methods number (omega arith)

pub refusal-from : (classes : List Class) (methods : List LinkedMethod) (number at : ℕ) (r : VerifyError) → methods ≡ linked_methods classes → IsFirstFault (program_over methods) (length methods) (Some (number, at)) → IsPlace classes number at r → IsRefusal classes r
refusal-from classes methods number at NoMemory e first place = tt
refusal-from classes methods number at (Refused fault) e first place =
    let p = program_over methods in
    let q = program_of classes in
    let same = same-methods classes methods e in
    let there = method-there methods number first.0 in
    record {
      class = place.0.0;
      class_is = place.0.1;
      within = place.0.2;
      method = there.0;
      method_is = ap q.method place.1 ∙ (sym (same number) ∙ there.1);
      fails = subst (λ n. FailsAt q there.0 n) (sym place.2) (fails-same p q same there.0 at (first.2 there.0 there.1));
      earlier = λ m other less is. typed-same p q same other (first.1 m other (omega (arith, less, place.1)) (same m ∙ is));
    }
