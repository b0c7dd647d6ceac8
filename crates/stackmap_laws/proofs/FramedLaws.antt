-- Framed classes link, are typed by their tables, and run as the classes before.
use Rattle.std.proofs.Common.{◌≡◌, ℕ, zero, suc, ◌+◌, ◌<◌, true, List, [], ◌∷◌, ◌++◌, length, map, get_or, Option, Some, None, refl, sym, ap, subst, ◌∙◌, arith}
use Rattle.std.specs.Prelude.{slice_get, All}
use Rattle.std.specs.List.{AllZip}
use Rattle.std.proofs.lemmas.Bool.{and_parts}
use Rattle.std.proofs.lemmas.Option.{same_Some, none-some}
use Rattle.run_definition.specs.Question.{Question}
use Rattle.run_definition.specs.Answer.{Answer}
use Rattle.run_definition.specs.Turn.{Turn}
use Rattle.run_definition.specs.Run.{run_of}
use Rattle.run_simulation_laws.specs.Runs.{Agrees, SameRuns}
use Rattle.class_names.specs.Kept.{IsClass}
use Rattle.jvm_definition.specs.Step.{jvm_start, jvm_turn}
use Rattle.stackmap_laws.proofs.RunLaws.{programs-run-alike}
use Rattle.class_definition.specs.PoolChecks.{text_at}
use Rattle.class_definition.specs.declared.class.Class.{Class}
use Rattle.class_definition.specs.declared.method.Method.{Method}
use Rattle.class_definition.specs.Members.{method}
use Rattle.class_definition.specs.MemberNames.{slot_text}
use Rattle.class_definition.specs.LinkFault.{link_fault}
use Rattle.class_names.proofs.PlaceLemmas.{AllZip-append}
use Rattle.jvm_definition.specs.declared.linked_method.LinkedMethod.{LinkedMethod}
use Rattle.jvm_definition.specs.Program.{LaidFrom, line_in}
use Rattle.jvm_definition.specs.Typing.{AllTyped}
use Rattle.class_definition.specs.Linking.{gives_int, linked_method, methods_from, linked_methods, program_of}
use Rattle.jvm_type_inference.specs.declared.frame.Frame.{Frame}
use Rattle.type_verifier.specs.Refusal.{methods_before}
use Rattle.type_verifier.specs.Typings.{IsListed}
use Rattle.frame_maps.specs.Checked.{IsTyped, HaveTables, AreTyped}
use Rattle.stackmap_laws.specs.Alike.{IsAlike}
use Rattle.emit_classes.proofs.Classes.{class-parts, fit_all}
use Rattle.stackmap_laws.specs.Like.{IsLike, AreLikeIn}
use Rattle.stackmap_laws.proofs.NameLaws.{AreLike, same-text, some-is, method-named}
use Rattle.stackmap_laws.proofs.LinkLaws.{are-like, links}
use Rattle.stackmap_laws.proofs.InstructionLaws.{instruction-same}
use Rattle.stackmap_table.specs.Shortest.{has_no_long}
use Rattle.stackmap_prune.specs.Pruned.{IsPruned}
use Rattle.stackmap_prune.proofs.TabledLaws.{IsReady, ready-typed}
use Rattle.stackmap_laws.specs.Framed.{IsPrunedOf, ArePruned, IsFramed, AreFramedFrom, AreFramed, IsTableFor, AreTablesFor, AreTablesFrom, AreTables}
use Rattle.stackmap_laws.proofs.MethodLaws.{IsPair, numbers-few}
use Rattle.stackmap_laws.proofs.ClassLaws.{parts-of, AllFit, all-like, all-kept}
use Rattle.stackmap_laws.proofs.ProgramLaws.{AreLinked, linked-ready, all-typed, good, alike}

module _ (cs ds : List Class) (all : AreLike cs ds) where
  -- a method of a class and what became of it
  pub pair-of : (number : ℕ) (c d : Class) → IsLike c d → (m n : Method) (p : IsPrunedOf cs number c m n) → (method c.pool).fits m ≡ true → IsPair cs ds number c d m n p.reached
  pair-of number c d like m n p fits =
      let few = numbers-few c.pool m fits in
      let named = method-named c.pool m fits in
      record {
        sound = (parts-of c.pool m fits).sound;
        sound_too = p.sound;
        descriptor = ap (slot_text d) p.is.desc ∙ same-text c d like m.desc (some-is (text_at c.pool m.desc) named.descriptor named.described);
        same = λ op right. instruction-same cs ds all c d like number (gives_int (slot_text c m.desc)) op right;
        listed = p.listed;
        pruned = p.is;
        few_stack = omega (arith, few.0);
        few_locals = omega (arith, few.1);
      }

  -- the methods of a class
  class-zip : (number : ℕ) (c d : Class) → slice_get cs number ≡ Some c → IsLike c d → (ms ns : List Method) → ArePruned cs number c ms ns → fit_all (method c.pool) ms ≡ true → AllZip (AreLinked cs ds all) (map (linked_method cs number c) ms) (map (linked_method ds number d) ns)
  class-zip number c d is like [] [] p fits = tt
  class-zip number c d is like [] (n ∷ ns) p fits = absurd p
  class-zip number c d is like (m ∷ ms) [] p fits = absurd p
  class-zip number c d is like (m ∷ ms) (n ∷ ns) p fits =
      let q = and_parts ((method c.pool).fits m) (fit_all (method c.pool) ms) fits in (
        record {
          number = number;
          class = c;
          framed = d;
          method = m;
          pruned = n;
          reached = p.0.reached;
          class_is = is;
          like = like;
          pair = pair-of number c d like m n p.0 q.0;
          before_is = refl;
          after_is = refl;
        },
        class-zip number c d is like ms ns p.1 q.1,
      )

  methods-zip : (number : ℕ) (xs ys : List Class) → ((i : ℕ) (c : Class) → slice_get xs i ≡ Some c → slice_get cs (number + i) ≡ Some c) → AreLike xs ys → AreFramedFrom cs number xs ys → AllZip (AreLinked cs ds all) (methods_from cs number xs) (methods_from ds number ys)
  methods-zip number [] [] at l f = tt
  methods-zip number [] (y ∷ ys) at l f = absurd f
  methods-zip number (x ∷ xs) [] at l f = absurd f
  methods-zip number (x ∷ xs) (y ∷ ys) at l f =
      let zero-at : number + 0 ≡ number = omega arith in
      AllZip-append (AreLinked cs ds all) (map (linked_method cs number x) x.methods) (methods_from cs (suc number) xs) (map (linked_method ds number y) y.methods) (methods_from ds (suc number) ys)
      (class-zip number x y (ap (slice_get cs) (sym zero-at) ∙ at 0 x refl) l.0 x.methods y.methods f.0.methods (class-parts x l.0.fits).methods_fit)
      (methods-zip (suc number) xs ys (λ i c is. let next : suc number + i ≡ number + suc i = omega arith in ap (slice_get cs) next ∙ at (suc i) c is) l.1 f.1)

module _ (cs ds : List Class) (kept : AllFit cs) (f : AreFramed cs ds) where
  like-in : AreLikeIn cs ds
  like-in = all-like cs 0 cs ds kept f

  pub like : AreLike cs ds
  like = are-like cs ds like-in

  pub zipped : AllZip (AreLinked cs ds like) (linked_methods cs) (linked_methods ds)
  zipped = methods-zip cs ds like 0 cs ds (λ i c is. let e : 0 + i ≡ i = omega arith in ap (slice_get cs) e ∙ is) like f

  pub framed-kept : AllFit ds
  framed-kept = all-kept cs 0 cs ds kept f

  pub framed-links : link_fault cs ≡ None → link_fault ds ≡ None
  framed-links h = links cs ds like-in h

  pub framed-typed : AllTyped (program_of ds)
  framed-typed = all-typed cs ds like zipped

  pub framed-alike : IsAlike (good cs ds like zipped) (program_of cs) (program_of ds)
  framed-alike = alike cs ds like zipped

-- ---- tables

-- the method of a class at a place
pub place-from : (ds : List Class) (number : ℕ) (ys : List Class) (c : ℕ) (d : Class) (m : ℕ) (n : Method) → slice_get ys c ≡ Some d → slice_get d.methods m ≡ Some n → slice_get (methods_from ds number ys) (methods_before ys c + m) ≡ Some (linked_method ds (number + c) d n)
place-from ds number [] c d m n is there = absurd (none-some d is)
place-from ds number (y ∷ ys) zero d m n is there =
    let same : y ≡ d = same_Some y d is in
    let e : number + 0 ≡ number = omega arith in
    let k : 0 + m ≡ m = omega arith in
    ap (λ i. slice_get (methods_from ds number (y ∷ ys)) i) k
    ∙ (front (linked_method ds number y) y.methods (methods_from ds (suc number) ys) m n (ap (λ x. slice_get x.methods m) same ∙ there)
    ∙ (ap (λ x. Some (linked_method ds number x n)) same ∙ ap (λ i. Some (linked_method ds i d n)) (sym e)))
  where
    front : (g : Method → LinkedMethod) (ms : List Method) (others : List LinkedMethod) (i : ℕ) (x : Method) → slice_get ms i ≡ Some x → slice_get (map g ms ++ others) i ≡ Some (g x)
    front g [] others i x h = absurd (none-some x h)
    front g (z ∷ ms) others zero x h = ap (λ w. Some (g w)) (same_Some z x h)
    front g (z ∷ ms) others (suc i) x h = front g ms others i x h
place-from ds number (y ∷ ys) (suc c) d m n is there =
    let e : suc number + c ≡ number + suc c = omega arith in
    let k : (length y.methods + methods_before ys c) + m ≡ length y.methods + (methods_before ys c + m) = omega arith in
    ap (λ i. slice_get (methods_from ds number (y ∷ ys)) i) k
    ∙ (behind (linked_method ds number y) y.methods (methods_from ds (suc number) ys) (methods_before ys c + m)
    ∙ (place-from ds (suc number) ys c d m n is there ∙ ap (λ i. Some (linked_method ds i d n)) e))
  where
    behind : (g : Method → LinkedMethod) (ms : List Method) (others : List LinkedMethod) (i : ℕ) → slice_get (map g ms ++ others) (length ms + i) ≡ slice_get others i
    behind g [] others i = let z : 0 + i ≡ i = omega arith in ap (slice_get others) z
    behind g (x ∷ ms) others i =
        let z : suc (length ms) + i ≡ suc (length ms + i) = omega arith in
        ap (slice_get (g x ∷ (map g ms ++ others))) z ∙ behind g ms others i

-- what is known of the table of a method
table-at : (cs ds : List Class) (number : ℕ) (c d : Class) (ms ns : List Method) (ts : List (List ℕ)) → AreTablesFor cs ds number c d ms ns ts → (k : ℕ) (n : Method) → slice_get ns k ≡ Some n → (m : Method) × (slice_get ms k ≡ Some m) × IsTableFor cs ds number c d m n (get_or ts k [])
table-at cs ds number c d (m ∷ ms) (n ∷ ns) (t ∷ ts) h zero x is = (m, refl, subst (λ y. IsTableFor cs ds number c d m y t) (same_Some n x is) h.0)
table-at cs ds number c d (m ∷ ms) (n ∷ ns) (t ∷ ts) h (suc k) x is = table-at cs ds number c d ms ns ts h.1 k x is
table-at cs ds number c d [] [] [] h k x is = absurd (none-some x is)
table-at cs ds number c d [] [] (t ∷ ts) h k x is = absurd h
table-at cs ds number c d [] (n ∷ ns) ts h k x is = absurd h
table-at cs ds number c d (m ∷ ms) [] ts h k x is = absurd h
table-at cs ds number c d (m ∷ ms) (n ∷ ns) [] h k x is = absurd h

tables-at : (cs ds : List Class) (number : ℕ) (xs ys : List Class) (ts : List (List (List ℕ))) → AreTablesFrom cs ds number xs ys ts → (k : ℕ) (d : Class) → slice_get ys k ≡ Some d → (c : Class) × (slice_get xs k ≡ Some c) × AreTablesFor cs ds (number + k) c d c.methods d.methods (get_or ts k [])
tables-at cs ds number (x ∷ xs) (y ∷ ys) (t ∷ ts) h zero d is =
    let e : number ≡ number + 0 = omega arith in
    (x, refl, subst (λ i. AreTablesFor cs ds i x d x.methods d.methods t) e (subst (λ z. AreTablesFor cs ds number x z x.methods z.methods t) (same_Some y d is) h.0))
tables-at cs ds number (x ∷ xs) (y ∷ ys) (t ∷ ts) h (suc k) d is =
    let e : suc number + k ≡ number + suc k = omega arith in
    let r = tables-at cs ds (suc number) xs ys ts h.1 k d is in
    (r.0, r.1, subst (λ i. AreTablesFor cs ds i r.0 d r.0.methods d.methods (get_or ts k [])) e r.2)
tables-at cs ds number [] [] [] h k d is = absurd (none-some d is)
tables-at cs ds number [] [] (t ∷ ts) h k d is = absurd h
tables-at cs ds number [] (y ∷ ys) ts h k d is = absurd h
tables-at cs ds number (x ∷ xs) [] ts h k d is = absurd h
tables-at cs ds number (x ∷ xs) (y ∷ ys) [] h k d is = absurd h

pub table-count : (cs ds : List Class) (number : ℕ) (c d : Class) (ms ns : List Method) (ts : List (List ℕ)) → AreTablesFor cs ds number c d ms ns ts → length ts ≡ length ns
table-count cs ds number c d (m ∷ ms) (n ∷ ns) (t ∷ ts) h = ap suc (table-count cs ds number c d ms ns ts h.1)
table-count cs ds number c d [] [] [] h = refl
table-count cs ds number c d [] [] (t ∷ ts) h = absurd h
table-count cs ds number c d [] (n ∷ ns) ts h = absurd h
table-count cs ds number c d (m ∷ ms) [] ts h = absurd h
table-count cs ds number c d (m ∷ ms) (n ∷ ns) [] h = absurd h

pub lists-count : (cs ds : List Class) (number : ℕ) (xs ys : List Class) (ts : List (List (List ℕ))) → AreTablesFrom cs ds number xs ys ts → length ts ≡ length ys
lists-count cs ds number (x ∷ xs) (y ∷ ys) (t ∷ ts) h = ap suc (lists-count cs ds (suc number) xs ys ts h.1)
lists-count cs ds number [] [] [] h = refl
lists-count cs ds number [] [] (t ∷ ts) h = absurd h
lists-count cs ds number [] (y ∷ ys) ts h = absurd h
lists-count cs ds number (x ∷ xs) [] ts h = absurd h
lists-count cs ds number (x ∷ xs) (y ∷ ys) [] h = absurd h

-- the class at a place is framed
pub framed-at : (cs : List Class) (number : ℕ) (xs ys : List Class) → AreFramedFrom cs number xs ys → (k : ℕ) (c d : Class) → slice_get xs k ≡ Some c → slice_get ys k ≡ Some d → IsFramed cs (number + k) c d
framed-at cs number [] ys f k c d is there = absurd (none-some c is)
framed-at cs number (x ∷ xs) [] f k c d is there = absurd f
framed-at cs number (x ∷ xs) (y ∷ ys) f zero c d is there =
    let e : number ≡ number + 0 = omega arith in
    subst (λ i. IsFramed cs i c d) e (subst (λ z. IsFramed cs number z d) (same_Some x c is) (subst (IsFramed cs number x) (same_Some y d there) f.0))
framed-at cs number (x ∷ xs) (y ∷ ys) f (suc k) c d is there =
    let e : suc number + k ≡ number + suc k = omega arith in
    subst (λ i. IsFramed cs i c d) e (framed-at cs (suc number) xs ys f.1 k c d is there)

-- the pair of methods at a place
linked-at : (cs ds : List Class) (all : AreLike cs ds) (number : ℕ) (c d : Class) (ms ns : List Method) → AllZip (AreLinked cs ds all) (map (linked_method cs number c) ms) (map (linked_method ds number d) ns) → (k : ℕ) (m n : Method) → slice_get ms k ≡ Some m → slice_get ns k ≡ Some n → AreLinked cs ds all (linked_method cs number c m) (linked_method ds number d n)
linked-at cs ds all number c d [] ns z k m n is there = absurd (none-some m is)
linked-at cs ds all number c d (x ∷ ms) [] z k m n is there = absurd z
linked-at cs ds all number c d (x ∷ ms) (y ∷ ns) z zero m n is there =
    subst (λ a. AreLinked cs ds all (linked_method cs number c a) (linked_method ds number d n)) (same_Some x m is)
    (subst (λ b. AreLinked cs ds all (linked_method cs number c x) (linked_method ds number d b)) (same_Some y n there) z.0)
linked-at cs ds all number c d (x ∷ ms) (y ∷ ns) z (suc k) m n is there = linked-at cs ds all number c d ms ns z.1 k m n is there

pub get-of : {A : Type 0} (xs : List A) (k : ℕ) → k < length xs → (x : A) × (slice_get xs k ≡ Some x)
get-of [] k h = absurd (omega (arith, h))
get-of (x ∷ xs) zero h = (x, refl)
get-of (x ∷ xs) (suc k) h = get-of xs k (omega (arith, h))

pub like-get : (xs ys : List Class) → AreLike xs ys → (k : ℕ) (c d : Class) → slice_get xs k ≡ Some c → slice_get ys k ≡ Some d → IsLike c d
like-get [] ys l k c d is there = absurd (none-some c is)
like-get (x ∷ xs) [] l k c d is there = absurd l
like-get (x ∷ xs) (y ∷ ys) l zero c d is there = subst (λ a. IsLike a d) (same_Some x c is) (subst (IsLike x) (same_Some y d there) l.0)
like-get (x ∷ xs) (y ∷ ys) l (suc k) c d is there = like-get xs ys l.1 k c d is there

-- a method and what became of it, and the frames of its least typing
pub method-ready : (cs ds : List Class) → AllFit cs → AreFramed cs ds → (number : ℕ) (c d : Class) → slice_get cs number ≡ Some c → IsLike c d → IsFramed cs number c d → (i : ℕ) (m n : Method) → slice_get c.methods i ≡ Some m → slice_get d.methods i ≡ Some n → (reached : List (ℕ × Frame)) → IsListed (program_of cs) (linked_method cs number c m) reached → IsReady (program_of cs) (program_of ds) (linked_method cs number c m) (linked_method ds number d n) reached
method-ready cs ds kept f number c d is lk fr i m n m-is n-is reached listed =
    let l = like cs ds kept f in
    let z = zipped cs ds kept f in
    let pairs = class-zip cs ds l number c d is lk c.methods d.methods fr.methods (class-parts c lk.fits).methods_fit in
    let pair = linked-at cs ds l number c d c.methods d.methods pairs i m n m-is n-is in
    let old = linked_method cs number c m in
    let new = linked_method ds number d n in
    let ready = linked-ready cs ds l z old new pair in
    record {
      listed = listed;
      laid = subst (λ x. LaidFrom 0 x.lines) (sym pair.before_is) ready.laid;
      is = subst (λ x. IsPruned x (linked_method ds number d n)) (sym pair.before_is) (subst (IsPruned (linked_method cs pair.number pair.class pair.method)) (sym pair.after_is) ready.is);
      effects = ready.effects;
      parameters = ap (λ x. has_no_long x.parameters) pair.before_is ∙ ready.parameters;
      near = λ at line e. ready.near at line (ap (λ x. line_in x.lines at) (sym pair.after_is) ∙ e);
      few_locals = omega (arith, ready.few_locals, ap (λ x. x.locals) pair.after_is);
      few_stack = omega (arith, ready.few_stack, ap (λ x. x.stack) pair.after_is);
    }

module _ (cs ds : List Class) (kept : AllFit cs) (f : AreFramed cs ds) (ts : List (List (List ℕ))) (tables : AreTables cs ds ts) where
  pub have-tables : HaveTables ds ts
  have-tables = record {
    lists = lists-count cs ds 0 cs ds ts tables;
    each = λ c d is. let r = tables-at cs ds 0 cs ds ts tables c d is in table-count cs ds (0 + c) r.0 d r.0.methods d.methods (get_or ts c []) r.2;
  }

  pub are-typed : AreTyped ds ts
  are-typed k d is m inside method method-is =
      let r = tables-at cs ds 0 cs ds ts tables k d is in
      let c = r.0 in
      let zero-plus : 0 + k ≡ k = omega arith in
      let n = get-of d.methods m inside in
      let t = table-at cs ds (0 + k) c d c.methods d.methods (get_or ts k []) r.2 m n.0 n.1 in
      let fr = framed-at cs 0 cs ds f k c d r.1 is in
      let lk = like-get cs ds (like cs ds kept f) k c d r.1 is in
      let new = linked_method ds (0 + k) d n.0 in
      let place : slice_get (linked_methods ds) (methods_before ds k + m) ≡ Some (linked_method ds (0 + k) d n.0) = place-from ds 0 ds k d m n.0 is n.1 in
      let same : linked_method ds (0 + k) d n.0 ≡ method = same_Some new method (sym place ∙ method-is) in
      let own = method-ready cs ds kept f (0 + k) c d (ap (slice_get cs) zero-plus ∙ r.1) lk fr m t.0 n.0 t.1 n.1 t.2.reached t.2.listed in
      subst (λ x. IsTyped (program_of ds) d.pool x (get_or (get_or ts k []) m [])) same
      (ready-typed (program_of cs) (program_of ds) (linked_method cs (0 + k) c t.0) (linked_method ds (0 + k) d n.0) t.2.reached own d.pool (get_or (get_or ts k []) m []) t.2.is)

-- ---- the laws

pub fit-of-all : (cs : List Class) → All IsClass cs → AllFit cs
fit-of-all [] h = tt
fit-of-all (c ∷ cs) h = (h 0 c (omega arith), fit-of-all cs (λ k d less. h (suc k) d (omega (arith, less))))

pub all-of-fit : (cs : List Class) → AllFit cs → All IsClass cs
all-of-fit [] h k d less = absurd (omega (arith, less))
all-of-fit (c ∷ cs) h zero d less = h.0
all-of-fit (c ∷ cs) h (suc k) d less = all-of-fit cs h.1 k d (omega (arith, less))

pub framed-runs : {G K : Type 0} (cs ds : List Class) → AllFit cs → AreFramed cs ds → (words : ℕ) (guest : G → Turn G) (reply : K → Question → Option (Answer × K)) (allowance : ℕ → ℕ) (g : G) (k : K) → SameRuns guest (jvm_turn (program_of cs) words) reply allowance g (jvm_start (program_of cs)) k → SameRuns guest (jvm_turn (program_of ds) words) reply allowance g (jvm_start (program_of ds)) k
framed-runs cs ds kept f words guest reply allowance g k r =
    let same = λ (n : ℕ). programs-run-alike (good cs ds (like cs ds kept f) (zipped cs ds kept f)) (program_of cs) (program_of ds) (framed-alike cs ds kept f) words reply n k in
    record {
      forth = λ n. subst (λ x. Agrees (run_of guest reply n g k) x) (sym (same (allowance n))) (r.forth n);
      back = λ m. subst (λ x. Agrees x (run_of guest reply m g k)) (sym (same m)) (r.back m);
    }
