-- One class, and one method, after the other.
use Rattle.std.proofs.Common.{◌≡◌, ℕ, zero, suc, ◌+◌, ◌<◌, ◌≤◌, true, List, [], ◌∷◌, ◌++◌, length, take, codes, Some, None, refl, sym, ap, subst, ◌∙◌, arith, ⊎_elim}
use Rattle.std.specs.Prelude.{slice_get, unwrap_or, All}
use Rattle.std.proofs.lemmas.Bool.{and_parts, cases_eq}
use Rattle.std.proofs.lemmas.Option.{same_Some, none-some, get_or_from_slice_get}
use Rattle.class_definition.specs.declared.entry.Entry.{Entry}
use Rattle.class_definition.specs.declared.class.Class.{Class}
use Rattle.class_definition.specs.declared.method.Method.{Method}
use Rattle.class_definition.specs.Code.{code_fault}
use Rattle.class_definition.specs.Members.{method}
use Rattle.class_definition.specs.ClassFile.{class}
use Rattle.class_definition.specs.declared.framed_class.FramedClass.{FramedClass}
use Rattle.emit_classes.proofs.Classes.{class-parts, fit_all}
use Rattle.class_definition.specs.MemberNames.{slot_text}
use Rattle.class_names.specs.Kept.{IsClass}
use Rattle.jvm_definition.specs.declared.linked_method.LinkedMethod.{LinkedMethod}
use Rattle.jvm_definition.specs.Program.{LaidFrom}
use Rattle.jvm_code.specs.Order.{IsInOrder}
use Rattle.class_definition.specs.Linking.{gives_int, linked_method, linked_methods, program_of}
use Rattle.jvm_type_inference.specs.declared.frame.Frame.{Frame}
use Rattle.type_verifier.specs.Refusal.{methods_before}
use Rattle.type_verifier.specs.Typings.{IsListed, FailsOf}
use Rattle.type_verifier.proofs.TypingLaws.{least-not-failing}
use Rattle.stackmap_table.specs.declared.reference_slots.ReferenceSlots.{ReferenceSlots}
use Rattle.stackmap_table.specs.Shortest.{AreReferences, AreTabled}
use Rattle.stackmap_pool.specs.Longer.{framed_pool, class_slot}
use Rattle.stackmap_pool.proofs.PoolLaws.{framed-references}
use Rattle.stackmap_prune.specs.Code.{is_listed, IsPrunedMethod}
use Rattle.stackmap_prune.specs.Linked.{listing_behind}
use Rattle.stackmap_prune.proofs.TabledLaws.{ready-tabled}
use Rattle.stackmap_laws.proofs.ClassLaws.{parts-of, AllFit}
use Rattle.stackmap_laws.proofs.FramedLaws.{place-from, fit-of-all}
use Rattle.stackmap_laws.proofs.MethodLaws.{IsPair, numbers-few, is-ready, listing-behind}
use Rattle.stackmap_maker.specs.declared.unmade.Unmade.{Unmade}
use Rattle.stackmap_maker.specs.declared.unmade.Unmade.TheVariants.{Untyped, Full, NoMemory}
use Rattle.stackmap_maker.specs.Full.{AreNotTyped, IsFull, IsUnmadeAt, IsUnmade}
use Rattle.stackmap_maker.specs.Made.{IsMade, AreMade, IsClassMade, AreClassesMadeFrom}

made-push : (cs : List Class) (number : ℕ) (c : Class) (pool : List Entry) (ms ns : List Method) (ts : List (List ℕ)) (m n : Method) (t : List ℕ) → AreMade cs number c pool ms ns ts → IsMade cs number c pool m n t → AreMade cs number c pool (ms ++ m ∷ []) (ns ++ n ∷ []) (ts ++ t ∷ [])
made-push cs number c pool [] [] [] m n t h k = (k, tt)
made-push cs number c pool (x ∷ ms) (y ∷ ns) (z ∷ ts) m n t h k = (h.0, made-push cs number c pool ms ns ts m n t h.1 k)
made-push cs number c pool [] [] (z ∷ ts) m n t h k = absurd h
made-push cs number c pool [] (y ∷ ns) ts m n t h k = absurd h
made-push cs number c pool (x ∷ ms) [] ts m n t h k = absurd h
made-push cs number c pool (x ∷ ms) (y ∷ ns) [] m n t h k = absurd h

classes-push : (cs : List Class) (number : ℕ) (xs : List Class) (ys : List FramedClass) (c : Class) (d : FramedClass) → AreClassesMadeFrom cs number xs ys → IsClassMade cs (number + length xs) c d → AreClassesMadeFrom cs number (xs ++ c ∷ []) (ys ++ d ∷ [])
classes-push cs number [] [] c d f i = let e : number + 0 ≡ number = omega arith in (subst (λ k. IsClassMade cs k c d) e i, tt)
classes-push cs number [] (y ∷ ys) c d f i = absurd f
classes-push cs number (x ∷ xs) [] c d f i = absurd f
classes-push cs number (x ∷ xs) (y ∷ ys) c d f i =
    let e : number + length (x ∷ xs) ≡ suc number + length xs = omega arith in
    (f.0, classes-push cs (suc number) xs ys c d f.1 (subst (λ k. IsClassMade cs k c d) e i))

-- the first ones, and one more
pub take-more : {A : Type 0} (xs : List A) (i : ℕ) (x : A) → slice_get xs i ≡ Some x → take (i + 1) xs ≡ take i xs ++ x ∷ []
take-more [] i x e = absurd (none-some x e)
take-more (y ∷ xs) zero x e =
    let one : 0 + 1 ≡ suc 0 = omega arith in
    ap (λ k. take k (y ∷ xs)) one ∙ ap (λ z. z ∷ []) (same_Some y x e)
take-more (y ∷ xs) (suc i) x e =
    let next : suc i + 1 ≡ suc (i + 1) = omega arith in
    ap (λ k. take k (y ∷ xs)) next ∙ ap (λ zs. y ∷ zs) (take-more xs i x e)

pub taken-length : {A : Type 0} (xs : List A) (i : ℕ) (x : A) → slice_get xs i ≡ Some x → length (take i xs) ≡ i
taken-length [] i x e = absurd (none-some x e)
taken-length (y ∷ xs) zero x e = refl
taken-length (y ∷ xs) (suc i) x e = ap suc (taken-length xs i x e)

pub take-all : {A : Type 0} (xs : List A) (n : ℕ) → n ≡ length xs → take n xs ≡ xs
take-all [] zero e = refl
take-all [] (suc n) e = refl
take-all (x ∷ xs) zero e = absurd (omega (arith, e))
take-all (x ∷ xs) (suc n) e = ap (λ ys. x ∷ ys) (take-all xs n (omega (arith, e)))

pub before-none : (cs : List Class) → methods_before cs 0 ≡ 0
before-none [] = refl
before-none (c ∷ cs) = refl

-- ---- classes

abbrev pub AllRoom : List Class → ℕ → Type 0
AllRoom cs n = (c : ℕ) (other : Class) → c < n → slice_get cs c ≡ Some other → length (framed_pool other.pool) ≤ 65534

pub classes-none : (cs : List Class) (ds : List FramedClass) → ds ≡ [] → AreClassesMadeFrom cs 0 (take 0 cs) ds
classes-none cs ds e = subst (AreClassesMadeFrom cs 0 []) (sym e) tt

pub classes-next : (cs : List Class) (n : ℕ) (c : Class) (d : FramedClass) (ds es : List FramedClass) → slice_get cs n ≡ Some c → es ≡ ds ++ d ∷ [] → AreClassesMadeFrom cs 0 (take n cs) ds → IsClassMade cs n c d → AreClassesMadeFrom cs 0 (take (n + 1) cs) es
classes-next cs n c d ds es is more f i =
    let e : n ≡ 0 + length (take n cs) = omega (arith, taken-length cs n c is) in
    subst (AreClassesMadeFrom cs 0 (take (n + 1) cs)) (sym more)
    (subst (λ z. AreClassesMadeFrom cs 0 z (ds ++ d ∷ [])) (sym (take-more cs n c is)) (classes-push cs 0 (take n cs) ds c d f (subst (λ k. IsClassMade cs k c d) e i)))

pub room-next : (cs : List Class) (n : ℕ) (c : Class) (d : FramedClass) → slice_get cs n ≡ Some c → IsClassMade cs n c d → AllRoom cs n → AllRoom cs (n + 1)
room-next cs n c d is i room k other less there =
    ⊎_elim
    (λ (same : k ≡ n).
    let one : c ≡ other = same_Some c other (sym is ∙ (ap (slice_get cs) (sym same) ∙ there)) in
    subst (λ x. length (framed_pool x.pool) ≤ 65534) one (omega (arith, i.few, ap length i.pool)))
    (λ (apart : k ≡ n → ⊥). room k other (omega (arith, less, apart)) there)
    (cases_eq k n)

pub unmade-at : (cs : List Class) (n : ℕ) (c : Class) (u : Unmade) → slice_get cs n ≡ Some c → AllRoom cs n → IsUnmadeAt cs n c u → IsUnmade cs u
unmade-at cs n c Untyped is room h = h
unmade-at cs n c (Full k) is room h = subst (IsFull cs) (sym h.0) (record { of = c; of_is = is; full = h.1; earlier = room })
unmade-at cs n c NoMemory is room h = tt

-- ---- methods

pub made-none : (cs : List Class) (number : ℕ) (c : Class) (pool : List Entry) (ms ns : List Method) (ts : List (List ℕ)) → ns ≡ [] → ts ≡ [] → AreMade cs number c pool (take 0 ms) ns ts
made-none cs number c pool ms ns ts e f = subst (λ z. AreMade cs number c pool [] z ts) (sym e) (subst (AreMade cs number c pool [] []) (sym f) tt)

pub made-next : (cs : List Class) (number : ℕ) (c : Class) (pool : List Entry) (ms : List Method) (i : ℕ) (m n : Method) (t : List ℕ) (ns os : List Method) (ts us : List (List ℕ)) → slice_get ms i ≡ Some m → os ≡ ns ++ n ∷ [] → us ≡ ts ++ t ∷ [] → AreMade cs number c pool (take i ms) ns ts → IsMade cs number c pool m n t → AreMade cs number c pool (take (i + 1) ms) os us
made-next cs number c pool ms i m n t ns os ts us is more others p q =
    subst (λ z. AreMade cs number c pool (take (i + 1) ms) z us) (sym more)
    (subst (AreMade cs number c pool (take (i + 1) ms) (ns ++ n ∷ [])) (sym others)
    (subst (λ z. AreMade cs number c pool z (ns ++ n ∷ []) (ts ++ t ∷ [])) (sym (take-more ms i m is)) (made-push cs number c pool (take i ms) ns ts m n t p q)))

-- the method of a class at a place, linked
pub place-of : (cs : List Class) (number : ℕ) (c : Class) (i : ℕ) (m : Method) → slice_get cs number ≡ Some c → slice_get c.methods i ≡ Some m → slice_get (linked_methods cs) (methods_before cs number + i) ≡ Some (linked_method cs number c m)
place-of cs number c i m is there =
    let e : 0 + number ≡ number = omega arith in
    place-from cs 0 cs number c i m is there ∙ ap (λ k. Some (linked_method cs k c m)) e

-- a method of a class has no typing
pub not-typed : (cs : List Class) (number : ℕ) (c : Class) (i : ℕ) (m : Method) (method at : ℕ) → slice_get cs number ≡ Some c → slice_get c.methods i ≡ Some m → method ≡ i → FailsOf cs number method at → AreNotTyped cs
not-typed cs number c i m method at is there same fails typed =
    let k = methods_before cs number in
    let place = ap (λ j. slice_get (linked_methods cs) (k + j)) same ∙ place-of cs number c i m is there in
    let own = linked_method cs number c m in
    least-not-failing (program_of cs) own at (typed (k + method) own place) (fails own place)

-- the method at a place of the program
pub own-of : (cs : List Class) (methods : List LinkedMethod) (number : ℕ) (c : Class) (i : ℕ) (m : Method) (first : ℕ) (own : LinkedMethod) → methods ≡ linked_methods cs → slice_get cs number ≡ Some c → slice_get c.methods i ≡ Some m → first ≡ methods_before cs number → slice_get methods (first + i) ≡ Some own → own ≡ linked_method cs number c m
own-of cs methods number c i m first own are is there begins at =
    same_Some own (linked_method cs number c m)
    (sym at ∙ (ap (λ k. slice_get methods (k + i)) begins ∙ (ap (λ ms. slice_get ms (methods_before cs number + i)) are ∙ place-of cs number c i m is there)))

get-within : {A : Type 0} (xs : List A) (k : ℕ) (x : A) → slice_get xs k ≡ Some x → k < length xs
get-within [] k x e = absurd (none-some x e)
get-within (y ∷ xs) zero x e = omega arith
get-within (y ∷ xs) (suc k) x e = let l = get-within xs k x e in omega (arith, l)

-- one of methods of which all are in order
pub laid-at : (methods : List LinkedMethod) (k : ℕ) (own : LinkedMethod) → All IsInOrder methods → slice_get methods k ≡ Some own → LaidFrom 0 own.lines
laid-at methods k own all is = subst (λ (m : LinkedMethod). LaidFrom 0 m.lines) (get_or_from_slice_get methods k own own is) (all k own (get-within methods k own is)).0

pub gives-of : (cs : List Class) (number : ℕ) (c : Class) (m : Method) → (linked_method cs number c m).gives_int ≡ gives_int (slot_text c m.desc)
unfolding linked_method
gives-of cs number c m = refl

pub all-fit-at : (cs : List Class) (k : ℕ) (c : Class) → AllFit cs → slice_get cs k ≡ Some c → class.fits c ≡ true
all-fit-at [] k c h e = absurd (none-some c e)
all-fit-at (x ∷ cs) zero c h e = subst (λ y. class.fits y ≡ true) (same_Some x c e) h.0
all-fit-at (x ∷ cs) (suc k) c h e = all-fit-at cs k c h.1 e

fit-at : (entries : List Entry) (ms : List Method) (i : ℕ) (m : Method) → fit_all (method entries) ms ≡ true → slice_get ms i ≡ Some m → (method entries).fits m ≡ true
fit-at entries [] i m h e = absurd (none-some m e)
fit-at entries (x ∷ ms) zero m h e = subst (λ y. (method entries).fits y ≡ true) (same_Some x m e) (and_parts ((method entries).fits x) (fit_all (method entries) ms) h).0
fit-at entries (x ∷ ms) (suc i) m h e = fit-at entries ms i m (and_parts ((method entries).fits x) (fit_all (method entries) ms) h).1 e

pub sound-at : (cs : List Class) (number : ℕ) (c : Class) (i : ℕ) (m : Method) → All IsClass cs → slice_get cs number ≡ Some c → slice_get c.methods i ≡ Some m → code_fault m.code ≡ None
sound-at cs number c i m kept is there =
    (parts-of c.pool m (fit-at c.pool c.methods i m (class-parts c (all-fit-at cs number c (fit-of-all cs kept) is)).methods_fit there)).sound

pub method-fits : (cs : List Class) (number : ℕ) (c : Class) (i : ℕ) (m : Method) → All IsClass cs → slice_get cs number ≡ Some c → slice_get c.methods i ≡ Some m → (method c.pool).fits m ≡ true
method-fits cs number c i m kept is there = fit-at c.pool c.methods i m (class-parts c (all-fit-at cs number c (fit-of-all cs kept) is)).methods_fit there

-- the frames that are listed for what became of a method have a table, whatever else becomes of its class
pub own-tabled : (cs : List Class) (number : ℕ) (c : Class) (m n : Method) (reached : List (ℕ × Frame)) → (method c.pool).fits m ≡ true → code_fault n.code ≡ None → IsListed (program_of cs) (linked_method cs number c m) reached → IsPrunedMethod (is_listed reached) (gives_int (slot_text c m.desc)) m n → AreTabled 0 (listing_behind (linked_method cs number c m) reached)
own-tabled cs number c m n reached fits sound listed pruned =
    let few = numbers-few c.pool m fits in
    let pair : IsPair cs cs number c c m n reached = record {
      sound = (parts-of c.pool m fits).sound;
      sound_too = sound;
      descriptor = ap (slot_text c) pruned.desc;
      same = λ op right. refl;
      listed = listed;
      pruned = pruned;
      few_stack = omega (arith, few.0);
      few_locals = omega (arith, few.1);
    } in
    subst (AreTabled 0) (listing-behind cs cs number c c m n reached pair)
    (ready-tabled (program_of cs) (program_of cs) (linked_method cs number c m) (linked_method cs number c n) reached (is-ready cs cs number c c m n reached pair (λ i. refl)))

-- ---- slots

-- the slots of a longer pool name the types of references
pub references-of : (longer pool : List Entry) (slots : ReferenceSlots) → longer ≡ framed_pool pool → length longer ≤ 65534 → slots.ints ≡ unwrap_or (class_slot (codes "[I") longer) 0 → slots.pages ≡ unwrap_or (class_slot (codes "[[I") longer) 0 → slots.text ≡ unwrap_or (class_slot (codes "java/lang/String") longer) 0 → AreReferences longer slots
references-of longer pool slots same few ints pages text =
    subst (λ z. AreReferences z slots) (sym same)
    (framed-references pool slots (omega (arith, few, ap length same)) (ints ∙ ap (λ z. unwrap_or (class_slot (codes "[I") z) 0) same) (pages ∙ ap (λ z. unwrap_or (class_slot (codes "[[I") z) 0) same)
    (text ∙ ap (λ z. unwrap_or (class_slot (codes "java/lang/String") z) 0) same))
