-- The program that framed classes are: its methods are pruned, and it runs as the one before.
use Rattle.std.proofs.Common.{◌≡◌, ℕ, zero, suc, Bool, true, false, List, [], ◌∷◌, map, eqb, Option, Some, None, refl, sym, ap, subst, ◌∙◌}
use Rattle.std.specs.Prelude.{slice_get, IsSome, is_some, if◌then◌else◌}
use Rattle.std.specs.List.{AllZip}
use Rattle.std.proofs.lemmas.Bool.{false≢true}
use Rattle.std.proofs.lemmas.Option.{same_Some, none-some}
use Rattle.class_definition.specs.PoolChecks.{text_at}
use Rattle.class_definition.specs.declared.class.Class.{Class}
use Rattle.class_definition.specs.declared.line.Line.{Line}
use Rattle.class_definition.specs.declared.method.Method.{Method}
use Rattle.class_definition.specs.MemberNames.{slot_text}
use Rattle.jvm_definition.specs.declared.instruction.Instruction.{Instruction}
use Rattle.jvm_definition.specs.declared.instruction.Instruction.TheVariants.{Call}
use Rattle.jvm_definition.specs.declared.linked_line.LinkedLine.{LinkedLine}
use Rattle.jvm_definition.specs.declared.linked_method.LinkedMethod.{LinkedMethod}
use Rattle.jvm_definition.specs.Effect.{last_first}
use Rattle.jvm_definition.specs.Program.{line_in}
use Rattle.jvm_definition.specs.Typing.{exchanges, given_by, call_type, type_effect, Typed, AllTyped}
use Rattle.class_definition.specs.Linking.{gives_int, linked_line, lines_of_code, linked_method, linked_methods, class_characters, program_of}
use Rattle.jvm_type_inference.specs.declared.frame.Frame.{Frame}
use Rattle.jvm_type_inference.specs.Reached.{Reached}
use Rattle.stackmap_laws.specs.Alike.{PushesGood, HasReached, IsAlike}
use Rattle.stackmap_prune.proofs.TabledLaws.{IsReady, ready-framed, ready-lined}
use Rattle.stackmap_laws.specs.Like.{IsLike}
use Rattle.stackmap_laws.proofs.NameLaws.{AreLike, same-text}
use Rattle.stackmap_laws.proofs.LinkLaws.{fields-same, first-same}
use Rattle.stackmap_laws.proofs.InstructionLaws.{op-good}
use Rattle.stackmap_laws.proofs.MethodLaws.{IsPair, is-pruned, is-ready, has-reached}

-- ---- lists of which the elements belong to each other

zip-get : {A B : Type 0} (R : A → B → Type 0) (xs : List A) (ys : List B) → AllZip R xs ys → (k : ℕ) (x : A) → slice_get xs k ≡ Some x → (y : B) × (slice_get ys k ≡ Some y) × R x y
zip-get R [] ys z k x e = absurd (none-some x e)
zip-get R (a ∷ xs) [] z k x e = absurd z
zip-get R (a ∷ xs) (b ∷ ys) z zero x e = (b, refl, subst (λ y. R y b) (same_Some a x e) z.0)
zip-get R (a ∷ xs) (b ∷ ys) z (suc k) x e = zip-get R xs ys z.1 k x e

zip-none : {A B : Type 0} (R : A → B → Type 0) (xs : List A) (ys : List B) → AllZip R xs ys → (k : ℕ) → slice_get xs k ≡ None → slice_get ys k ≡ None
zip-none R [] [] z k e = refl
zip-none R [] (b ∷ ys) z k e = absurd z
zip-none R (a ∷ xs) [] z k e = absurd z
zip-none R (a ∷ xs) (b ∷ ys) z zero e = absurd (none-some a (sym e))
zip-none R (a ∷ xs) (b ∷ ys) z (suc k) e = zip-none R xs ys z.1 k e

zip-back : {A B : Type 0} (R : A → B → Type 0) (xs : List A) (ys : List B) → AllZip R xs ys → (k : ℕ) (y : B) → slice_get ys k ≡ Some y → (x : A) × (slice_get xs k ≡ Some x) × R x y
zip-back R [] [] z k y e = absurd (none-some y e)
zip-back R [] (b ∷ ys) z k y e = absurd z
zip-back R (a ∷ xs) [] z k y e = absurd z
zip-back R (a ∷ xs) (b ∷ ys) z zero y e = (a, refl, subst (R a) (same_Some b y e) z.0)
zip-back R (a ∷ xs) (b ∷ ys) z (suc k) y e = zip-back R xs ys z.1 k y e

-- ---- methods

module _ (cs ds : List Class) (all : AreLike cs ds) where
  -- a method and what became of it, linked
  pub record AreLinked (before after : LinkedMethod) : Type 0 where
    pub number : ℕ
    pub class : Class
    pub framed : Class
    pub method : Method
    pub pruned : Method
    pub reached : List (ℕ × Frame)
    pub class_is : slice_get cs number ≡ Some class
    pub like : IsLike class framed
    pub pair : IsPair cs ds number class framed method pruned reached
    pub before_is : before ≡ linked_method cs number class method
    pub after_is : after ≡ linked_method ds number framed pruned

  module _ (zipped : AllZip AreLinked (linked_methods cs) (linked_methods ds)) where
    parameters-linked : (before after : LinkedMethod) → AreLinked before after → (after.parameters ≡ before.parameters) × (after.gives_int ≡ before.gives_int)
    parameters-linked before after l =
        let p = is-pruned cs ds l.number l.class l.framed l.method l.pruned l.reached l.pair in (
          ap (λ x. x.parameters) l.after_is ∙ (p.parameters ∙ sym (ap (λ x. x.parameters) l.before_is)),
          ap (λ x. x.gives_int) l.after_is ∙ (p.gives_int ∙ sym (ap (λ x. x.gives_int) l.before_is)),
        )

    call-same : (m : ℕ) → call_type (slice_get (linked_methods ds) m) ≡ call_type (slice_get (linked_methods cs) m)
    call-same m = by-case (slice_get (linked_methods cs) m) refl
      where
        by-case : (o : Option LinkedMethod) → slice_get (linked_methods cs) m ≡ o → call_type (slice_get (linked_methods ds) m) ≡ call_type o
        by-case None e = ap call_type (zip-none AreLinked (linked_methods cs) (linked_methods ds) zipped m e)
        by-case (Some before) e =
            let z = zip-get AreLinked (linked_methods cs) (linked_methods ds) zipped m before e in
            let p = parameters-linked before z.0 z.2 in
            ap call_type z.1 ∙ (λ i. exchanges (last_first (p.0 i) []) (given_by (p.1 i)))

    pub effects-same : (i : Instruction) → type_effect (program_of ds) i ≡ type_effect (program_of cs) i
    effects-same (Call m) = call-same m
    effects-same _ = refl

    pub linked-ready : (before after : LinkedMethod) (l : AreLinked before after) → IsReady (program_of cs) (program_of ds) (linked_method cs l.number l.class l.method) (linked_method ds l.number l.framed l.pruned) l.reached
    linked-ready before after l = is-ready cs ds l.number l.class l.framed l.method l.pruned l.reached l.pair effects-same

    pub all-typed : AllTyped (program_of ds)
    all-typed m after e =
        let z = zip-back AreLinked (linked_methods cs) (linked_methods ds) zipped m after e in
        let l = z.2 in
        let framed = ready-framed (program_of cs) (program_of ds) (linked_method cs l.number l.class l.method) (linked_method ds l.number l.framed l.pruned) l.reached (linked-ready z.0 after l) in
        subst (Typed (program_of ds)) (sym l.after_is) (framed.0, framed.1.typing)

    -- ---- the same runs

    -- a slot of a class's pool has a text
    abbrev pub has_text : Option Class → ℕ → Bool
    has_text None slot = false
    has_text (Some c) slot = is_some (text_at c.pool slot)

    abbrev pub good : ℕ → ℕ → Bool
    good number slot = has_text (slice_get cs number) slot

    like-at : (xs ys : List Class) → AreLike xs ys → (number : ℕ) (c : Class) → slice_get xs number ≡ Some c → (d : Class) × (slice_get ys number ≡ Some d) × IsLike c d
    like-at [] ys l number c e = absurd (none-some c e)
    like-at (x ∷ xs) [] l number c e = absurd l
    like-at (x ∷ xs) (y ∷ ys) l zero c e = (y, refl, subst (λ z. IsLike z y) (same_Some x c e) l.0)
    like-at (x ∷ xs) (y ∷ ys) l (suc number) c e = like-at xs ys l.1 number c e

    characters-same : (number slot : ℕ) → good number slot ≡ true → class_characters (slice_get ds number) slot ≡ class_characters (slice_get cs number) slot
    characters-same number slot h = by-case (slice_get cs number) refl h
      where
        by-case : (o : Option Class) → slice_get cs number ≡ o → has_text o slot ≡ true → class_characters (slice_get ds number) slot ≡ class_characters o slot
        by-case None e k = absurd (false≢true k)
        by-case (Some c) e k =
            let d = like-at cs ds all number c e in
            ap (λ o. class_characters o slot) d.1 ∙ same-text c d.0 d.2 slot k

    in-mapped : (make : Line → LinkedLine) (ls : List Line) (at : ℕ) (line : LinkedLine) → line_in (map make ls) at ≡ Some line → (l : Line) × (make l ≡ line)
    in-mapped make [] at line e = absurd (none-some line e)
    in-mapped make (l ∷ ls) at line e = by-test (eqb (make l).at at) (λ h. in-mapped make ls at line h) e
      where
        by-test : (b : Bool) → (line_in (map make ls) at ≡ Some line → (k : Line) × (make k ≡ line)) → (if b then Some (make l) else line_in (map make ls) at) ≡ Some line → (k : Line) × (make k ≡ line)
        by-test true others h = (l, same_Some (make l) line h)
        by-test false others h = others h

    line-good : (number : ℕ) (c d : Class) (m : Method) → slice_get cs number ≡ Some c → IsLike c d → (at : ℕ) (line : LinkedLine) → line_in (linked_method cs number c m).lines at ≡ Some line → PushesGood good line.instruction
    unfolding linked_method
    line-good number c d m is like at line e =
        let l = in-mapped (linked_line cs number c (gives_int (slot_text c m.desc))) (lines_of_code m.code) at line e in
        subst (λ x. PushesGood good x.instruction) l.1
        (op-good cs ds all c d like good number (λ slot h. ap (λ o. has_text o slot) is ∙ h) (gives_int (slot_text c m.desc)) l.0.op)

    pub alike : IsAlike good (program_of cs) (program_of ds)
    alike = record {
      field = λ f. ap (λ ks. slice_get ks f) (fields-same cs ds all);
      first = first-same cs ds all;
      characters = characters-same;
      methods = λ m before e.
          let z = zip-get AreLinked (linked_methods cs) (linked_methods ds) zipped m before e in
          let l = z.2 in
          let r = has-reached cs ds l.number l.class l.framed l.method l.pruned l.reached l.pair in
          (z.0, z.1, subst (λ x. HasReached x z.0) (sym l.before_is) (subst (HasReached (linked_method cs l.number l.class l.method)) (sym l.after_is) r));
      others = λ m e. zip-none AreLinked (linked_methods cs) (linked_methods ds) zipped m e;
      pushes = λ m before at line e r k.
          let z = zip-get AreLinked (linked_methods cs) (linked_methods ds) zipped m before e in
          let l = z.2 in
          line-good l.number l.class l.framed l.method l.class_is l.like at line (ap (λ x. line_in x.lines at) (sym l.before_is) ∙ k);
      lined = λ m before at e r.
          let z = zip-get AreLinked (linked_methods cs) (linked_methods ds) zipped m before e in
          let l = z.2 in
          subst (λ x. IsSome (line_in x.lines at)) (sym l.before_is)
          (ready-lined (program_of cs) (program_of ds) (linked_method cs l.number l.class l.method) (linked_method ds l.number l.framed l.pruned) l.reached (linked-ready before z.0 l) at (subst (λ x. Reached x at) l.before_is r));
    }
