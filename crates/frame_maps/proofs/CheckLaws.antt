-- From one method to all methods of all classes.
use Rattle.std.proofs.Common.{◌≡◌, ℕ, zero, suc, ◌+◌, ◌<◌, ◌≤◌, ◌⊎◌, inl, inr, List, [], ◌∷◌, length, get_or, refl, sym, ap, subst, ◌∙◌, Bool, true, false, Option, Some, None, arith, ⊎_elim}
use Rattle.std.specs.Prelude.{slice_get, All, IsTrue, ◌↔◌, if◌then◌else◌}
use Rattle.std.proofs.lemmas.Option.{same_Some, none-some, slice_get_within, get_or_from_slice_get}
use Rattle.std.proofs.lemmas.Bool.{cases_eq, false≢true}
use Rattle.std.proofs.lemmas.List.{get_or_default}
use Rattle.class_definition.specs.declared.entry.Entry.{Entry}
use Rattle.class_definition.specs.declared.class.Class.{Class}
use Rattle.jvm_definition.specs.declared.instruction.Instruction.{Instruction}
use Rattle.jvm_definition.specs.declared.instruction.Instruction.TheVariants.{Call}
use Rattle.jvm_definition.specs.declared.linked_method.LinkedMethod.{LinkedMethod}
use Rattle.jvm_definition.specs.Program.{Program}
use Rattle.jvm_definition.specs.Typing.{Frames, TypeEffect, type_effect, call_type, applied}
use Rattle.class_definition.specs.Linking.{program_of, linked_methods}
use Rattle.jvm_type_inference.specs.Actions.{program_over}
use Rattle.type_verifier.specs.Refusal.{methods_before}
use Rattle.type_verifier.proofs.VerifyLaws.{typing-same, methods_count, count-is}
use Rattle.frame_maps.specs.declared.frame_error.FrameError.{FrameError}
use Rattle.frame_maps.specs.declared.frame_error.FrameError.TheVariants.{Refused, TooLarge, NoMemory}
use Rattle.stackmap_table.specs.Meaning.{frames_of}
use Rattle.jvm_type_inference.specs.declared.frame.Frame.{Frame}
use Rattle.type_verifier.specs.Typings.{listed_frames}
use Rattle.frame_maps.specs.Framed.{Framed}
use Rattle.frame_maps.specs.Placed.{ArePlaced}
use Rattle.frame_maps.specs.Checked.{IsResult, IsTyped, IsNotTyped, Fails, IsTypedAt, FailsFramesAt, IsFirstOf, HaveTables, ClassIsTyped, IsAtFrameFault, IsCheckRefusal, IsFault}

-- ---- programs with the same methods

module _ (p q : Program) (same : (m : ℕ) → p.method m ≡ q.method m) where
  effect-is : (i : Instruction) → type_effect p i ≡ type_effect q i
  effect-is (Call m) = ap call_type (same m)
  effect-is _ = refl

  pub framed-same : (method : LinkedMethod) (listed : Frames) → Framed p method listed → Framed q method listed
  framed-same method listed f = (
    f.0,
    record {
      typing = λ last. typing-same p q same method f.0 last (f.1.typing last);
      each = f.1.each;
      lists = f.1.lists;
      targets = f.1.targets;
      behind = f.1.behind;
      follows = λ at line g b l e fits. f.1.follows at line g b l e (subst (λ (x : TypeEffect). applied x g ≡ Some b) (sym (effect-is line.instruction)) fits);
      start = f.1.start;
    },
  )

typed-same : (p q : Program) → ((m : ℕ) → p.method m ≡ q.method m) → (pool : List Entry) (method : LinkedMethod) (table : List ℕ) → IsTyped p pool method table → IsTyped q pool method table
typed-same p q same pool method table t = record { listed = t.listed; is = t.is; framed = framed-same p q same method _ t.framed }

fails-same : (p q : Program) → ((m : ℕ) → p.method m ≡ q.method m) → (pool : List Entry) (method : LinkedMethod) (table : List ℕ) (kind : ℕ) → Fails p pool method table kind → Fails q pool method table kind
fails-same p q same pool method table kind f =
    ⊎_elim
    (λ one. inl one)
    (λ two. inr (two.0, record { listed = two.1.listed; is = two.1.is; fails = λ framed. two.1.fails (framed-same q p (λ m. sym (same m)) method _ framed) }))
    f

pub first-same : (p q : Program) → ((m : ℕ) → p.method m ≡ q.method m) → (first : ℕ) (pool : List Entry) (tables : List (List ℕ)) (r : Option (ℕ × ℕ)) → IsFirstOf p first pool tables r → IsFirstOf q first pool tables r
first-same p q same first pool tables None f = λ m inside method is. typed-same p q same pool method _ (f m inside method (same (first + m) ∙ is))
first-same p q same first pool tables (Some x) f = (
  f.0,
  λ m less method is. typed-same p q same pool method _ (f.1 m less method (same (first + m) ∙ is)),
  λ method is. fails-same p q same pool method _ x.1 (f.2 method (same (first + x.0) ∙ is)),
)

-- ---- the methods of a class among those of all

before-within : (classes : List Class) (c : ℕ) (class : Class) → slice_get classes c ≡ Some class → methods_before classes c + length class.methods ≤ methods_count classes
before-within [] c class e = absurd (none-some class e)
before-within (d ∷ classes) zero class e = omega (arith, ap (λ x. length x.methods) (same_Some d class e))
before-within (d ∷ classes) (suc c) class e = omega (arith, before-within classes c class e)

pub methods-within : (classes : List Class) (methods : List LinkedMethod) (c : ℕ) (class : Class) → methods ≡ linked_methods classes → slice_get classes c ≡ Some class → methods_before classes c + length class.methods ≤ length methods
methods-within classes methods c class e is = omega (arith, before-within classes c class is, ap length e, count-is classes 0 classes)

pub next-before : (classes : List Class) (c : ℕ) (class : Class) → slice_get classes c ≡ Some class → methods_before classes c + length class.methods ≡ methods_before classes (c + 1)
next-before [] c class e = absurd (none-some class e)
next-before (d ∷ classes) zero class e = let one : 0 + 1 ≡ suc 0 = omega arith in by-case classes (ap (λ x. length x.methods) (same_Some d class e)) ∙ ap (methods_before (d ∷ classes)) (sym one)
  where
    by-case : (cs : List Class) → length d.methods ≡ length class.methods → 0 + length class.methods ≡ length d.methods + methods_before cs 0
    by-case [] h = omega (arith, h)
    by-case (x ∷ cs) h = omega (arith, h)
next-before (d ∷ classes) (suc c) class e =
    let next : suc c + 1 ≡ suc (c + 1) = omega arith in
    let others = next-before classes c class e in
    omega (arith, others) ∙ ap (methods_before (d ∷ classes)) (sym next)

-- ---- all methods

module _ (classes : List Class) (methods : List LinkedMethod) (tables : List (List (List ℕ))) (are : methods ≡ linked_methods classes) (have : HaveTables classes tables) (c : ℕ) (class : Class) (is : slice_get classes c ≡ Some class) where
  same-methods : (m : ℕ) → (program_over methods).method m ≡ (program_of classes).method m
  same-methods m = ap (λ x. slice_get x m) are

  pub class-typed : IsFirstOf (program_over methods) (methods_before classes c) class.pool (get_or tables c []) None → ClassIsTyped classes tables c
  class-typed f other other-is m inside =
      let same : class ≡ other = same_Some class other (sym is ∙ other-is) in
      let count = have.each c class is in
      let less : m < length (get_or tables c []) = omega (arith, inside, count, ap (λ x. length x.methods) same) in
      subst (λ x. IsTypedAt (program_of classes) (methods_before classes c) x.pool (get_or tables c []) m) same
      (first-same (program_over methods) (program_of classes) same-methods (methods_before classes c) class.pool (get_or tables c []) None f m less)

  pub class-fails : (method kind : ℕ) (r : FrameError) → IsFirstOf (program_over methods) (methods_before classes c) class.pool (get_or tables c []) (Some (method, kind)) → ((d : ℕ) → d < c → ClassIsTyped classes tables d) → IsFault c method kind r → IsCheckRefusal classes tables r
  class-fails method kind NoMemory f earlier fault = tt
  class-fails method kind (TooLarge number bytes) f earlier fault = fault
  class-fails method kind (Refused x) f earlier fault =
      let g = first-same (program_over methods) (program_of classes) same-methods (methods_before classes c) class.pool (get_or tables c []) (Some (method, kind)) f in
      let count = have.each c class is in
      let one = fault.0 in
      record {
        class = class;
        class_is = ap (slice_get classes) fault.0 ∙ is;
        within = omega (arith, g.0, fault.1, count);
        fails = subst (λ k. FailsFramesAt (program_of classes) (methods_before classes k) class.pool (get_or tables k []) x.method x.kind) (sym fault.0)
            (subst (λ m. FailsFramesAt (program_of classes) (methods_before classes c) class.pool (get_or tables c []) m x.kind) (sym fault.1)
            (subst (λ k. FailsFramesAt (program_of classes) (methods_before classes c) class.pool (get_or tables c []) method k) (sym fault.2) g.2));
        earlier_classes = λ d less. earlier d (omega (arith, less, one));
        earlier_methods = λ m less. subst (λ k. IsTypedAt (program_of classes) (methods_before classes k) class.pool (get_or tables k []) m) (sym fault.0) (g.1 m (omega (arith, less, fault.1)));
      }

pub more-typed : (classes : List Class) (tables : List (List (List ℕ))) (c : ℕ) → ((d : ℕ) → d < c → ClassIsTyped classes tables d) → ClassIsTyped classes tables c → (d : ℕ) → d < c + 1 → ClassIsTyped classes tables d
more-typed classes tables c earlier this d less =
    ⊎_elim
    (λ same. subst (ClassIsTyped classes tables) (sym same) this)
    (λ other. earlier d (omega (arith, less, other)))
    (cases_eq d c)

-- ---- one method

module _ (p : Program) (pool : List Entry) (method : LinkedMethod) (table : List ℕ) where
  pub no-table : frames_of pool method table ≡ None → IsResult p pool method table (Some 1)
  no-table e = inl (refl, e)

  module _ (listed : List (ℕ × Frame)) (is : frames_of pool method table ≡ Some listed) where
    pub not-framed : (Framed p method (listed_frames listed) → ⊥) → IsResult p pool method table (Some 2)
    not-framed fails = inr (refl, record { listed = listed; is = is; fails = fails })

    pub result-of : (good : Bool) (frames : Frames) → ArePlaced method (listed_frames listed) frames → IsTrue good ↔ Framed p method frames → IsResult p pool method table (if good then None else Some 2)
    result-of true frames placed x = record { listed = listed; is = is; framed = subst (Framed p method) placed.are (x.0 refl) }
    result-of false frames placed x = not-framed (λ framed. false≢true (x.1 (subst (Framed p method) (sym placed.are) framed)))

-- ---- what stands at a place

pub stands-at : {A : Type 0} (xs : List A) (k : ℕ) (x : A) → k < length xs → x ≡ get_or xs k x → slice_get xs k ≡ Some x
stands-at [] k x less e = absurd (omega (arith, less))
stands-at (y ∷ xs) zero x less e = ap (λ z. Some z) (sym e)
stands-at (y ∷ xs) (suc k) x less e = stands-at xs k x (omega (arith, less)) e

pub table-is : (tables : List (List (List ℕ))) (k : ℕ) (t : List (List ℕ)) → k < length tables → t ≡ get_or tables k t → t ≡ get_or tables k []
table-is tables k t less e = e ∙ get_or_default tables k t [] less

pub first-moved : (p : Program) (first before : ℕ) (pool entries : List Entry) (ts tables : List (List ℕ)) (r o : Option (ℕ × ℕ)) → first ≡ before → pool ≡ entries → ts ≡ tables → r ≡ o → IsFirstOf p first pool ts r → IsFirstOf p before entries tables o
first-moved p first before pool entries ts tables r o a b c d f =
    subst (λ x. IsFirstOf p before entries tables x) d
    (subst (λ x. IsFirstOf p before entries x r) c
    (subst (λ x. IsFirstOf p before x ts r) b
    (subst (λ x. IsFirstOf p x pool ts r) a f)))
