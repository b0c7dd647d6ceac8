-- What is written has at most so many bytes.
use Rattle.std.proofs.Common.{◌≡◌, ℕ, zero, suc, ◌+◌, ◌-◌, ◌*◌, ◌<◌, ◌≤◌, ◌==◌, false, List, [], ◌∷◌, ◌++◌, length, take, Some, refl, sym, ap, subst, ◌∙◌, arith}
use Rattle.std.specs.Prelude.{if◌then◌else◌, slice_get, All}
use Rattle.std.proofs.lemmas.Bool.{ne_eqb}
use Rattle.std.proofs.lemmas.Option.{same_Some, none-some, get_or_from_slice_get}
use Rattle.class_definition.specs.declared.entry.Entry.{Entry}
use Rattle.class_definition.specs.declared.class.Class.{Class}
use Rattle.class_definition.specs.declared.method.Method.{Method}
use Rattle.class_definition.specs.declared.framed_class.FramedClass.{FramedClass}
use Rattle.class_definition.specs.Tables.{table_size}
use Rattle.stackmap_pool.specs.Longer.{framed_pool}
use Rattle.stackmap_laws.proofs.FramedLaws.{get-of}
use Rattle.stackmap_maker.specs.declared.sized_class.SizedClass.{SizedClass}
use Rattle.stackmap_maker.specs.declared.tabled_classes.TabledClasses.{TabledClasses}
use Rattle.stackmap_maker.specs.declared.tabled_classes.TabledClasses.TheVariants.{Framed, TooLarge}
use Rattle.stackmap_maker.specs.Made.{AreMade, IsMadeWithin, AreMadeWithin, IsClassMade, IsClassMadeWithin, AreClassesMadeFrom, AreSmall, AreTabledTo, IsRoomOf, IsWithClass}
use Rattle.stackmap_maker.specs.Sizes.{method_size, methods_size, pool_size, file_size, most, IsFirstLarge}
use Rattle.stackmap_maker.proofs.Steps.{made-next, classes-next, taken-length}

-- ---- methods

-- by how many bytes a table of a size makes its method longer
abbrev pub size_of : ℕ → ℕ
size_of size = if size == 0 then 0 else size + 6

suc-not-zero : (n : ℕ) → (suc n == 0) ≡ false
suc-not-zero n = ne_eqb (suc n) 0 (λ zero. omega (arith, zero))

size_of-suc : (n : ℕ) → size_of (suc n) ≡ suc n + 6
size_of-suc n = ap (λ z. if z then 0 else suc n + 6) (suc-not-zero n)

table-sized : (t : List ℕ) (size : ℕ) → size ≡ length t → size_of size ≡ table_size t
table-sized [] size e = ap size_of e
table-sized (b ∷ t) size e = ap size_of e ∙ size_of-suc (length t)

within-size : (size : ℕ) → size ≤ size_of size
within-size zero = omega arith
within-size (suc n) = omega (arith, size_of-suc n)

methods-push : (cs : List Class) (number : ℕ) (c : Class) (pool : List Entry) (ms ns : List Method) (ts : List (List ℕ)) (n : Method) (t : List ℕ) → AreMade cs number c pool ms ns ts → methods_size (ns ++ n ∷ []) (ts ++ t ∷ []) ≡ methods_size ns ts + method_size n t
methods-push cs number c pool [] [] [] n t h = omega arith
methods-push cs number c pool (x ∷ ms) (y ∷ ns) (z ∷ ts) n t h = omega (arith, methods-push cs number c pool ms ns ts n t h.1)
methods-push cs number c pool [] [] (z ∷ ts) n t h = absurd h
methods-push cs number c pool [] (y ∷ ns) ts n t h = absurd h
methods-push cs number c pool (x ∷ ms) [] ts n t h = absurd h
methods-push cs number c pool (x ∷ ms) (y ∷ ns) [] n t h = absurd h

pub none-within : (cs : List Class) (number : ℕ) (c : Class) (pool : List Entry) (room : ℕ) (ms ns : List Method) (ts : List (List ℕ)) → ns ≡ [] → ts ≡ [] → AreMadeWithin cs number c pool room (take 0 ms) ns ts 0
none-within cs number c pool room ms ns ts e f = record {
  all = [];
  are = subst (λ z. AreMade cs number c pool [] z []) (sym e) tt;
  sized = ap (λ z. methods_size z []) (sym e);
  written = λ _. f;
}

pub next-within : (cs : List Class) (number : ℕ) (c : Class) (pool : List Entry) (room : ℕ) (ms : List Method) (i : ℕ) (m n : Method) (t : List ℕ) (ns os : List Method) (ts us : List (List ℕ)) (bytes size after : ℕ) → slice_get ms i ≡ Some m → os ≡ ns ++ n ∷ [] → us ≡ ts ++ t ∷ [] → after ≡ bytes + (26 + length n.code + size_of size) → AreMadeWithin cs number c pool room (take i ms) ns ts bytes → IsMadeWithin cs number c pool (room - bytes) m n t size → AreMadeWithin cs number c pool room (take (i + 1) ms) os us after
next-within cs number c pool room ms i m n t ns os ts us bytes size after is more others sum p q = record {
  all = p.all ++ q.all ∷ [];
  are = made-next cs number c pool ms i m n q.all ns os p.all (p.all ++ q.all ∷ []) is more refl p.are q.is;
  sized =
      omega (
        arith,
        sum,
        p.sized,
        table-sized q.all size q.sized,
        methods-push cs number c pool (take i ms) ns p.all n q.all p.are,
        ap (λ z. methods_size z (p.all ++ q.all ∷ [])) more,
      );
  written = λ few.
      let before : bytes ≤ room = omega (arith, few, sum) in
      let own : size ≤ room - bytes = omega (arith, few, sum, within-size size) in
      others ∙ (ap (λ z. z ++ t ∷ []) (p.written before) ∙ ap (λ z. p.all ++ z ∷ []) (q.written own));
}

-- ---- classes

-- a class with its methods and tables, where it has so many bytes but for these
pub class-within : (cs : List Class) (number : ℕ) (c : Class) (room front bytes all_bytes : ℕ) (made : Class) (ts : List (List ℕ)) → made.pool ≡ framed_pool c.pool → length made.pool ≤ 65534
    → made.this_class ≡ c.this_class → made.super_class ≡ c.super_class → made.fields ≡ c.fields → front ≡ 24 + pool_size made.pool + 8 * length made.fields → all_bytes ≡ front + bytes
    → AreMadeWithin cs number c made.pool (room - front) c.methods made.methods ts bytes
    → IsClassMadeWithin cs number c room (record { framed = record { class = made; tables = ts }; bytes = all_bytes })
class-within cs number c room front bytes all_bytes made ts pool few this super fields before sum p = record {
  all = record { class = made; tables = p.all };
  is = record { pool = pool; few = few; this = this; super = super; fields = fields; methods = p.are };
  sized = omega (arith, before, sum, p.sized);
  written = λ small.
      let own : bytes ≤ room - front = omega (arith, sum, small) in
      ap (λ (z : List (List ℕ)). record { class = made; tables = z }) (p.written own);
}

-- the same where its parts are these
pub class-made : (cs : List Class) (number : ℕ) (c : Class) (room front left bytes all_bytes : ℕ) (made : Class) (ts us : List (List ℕ)) (entries : List Entry) (ms : List Method)
    → made.pool ≡ entries → made.methods ≡ ms → ts ≡ us → left ≡ room - front → entries ≡ framed_pool c.pool → length entries ≤ 65534
    → made.this_class ≡ c.this_class → made.super_class ≡ c.super_class → made.fields ≡ c.fields → front ≡ 24 + pool_size entries + 8 * length c.fields → all_bytes ≡ front + bytes
    → AreMadeWithin cs number c entries left c.methods ms us bytes → IsClassMadeWithin cs number c room (record { framed = record { class = made; tables = ts }; bytes = all_bytes })
class-made cs number c room front left bytes all_bytes made ts us entries ms pool methods tables rest is few this super fields before sum h =
    let by_room = subst (λ n. AreMadeWithin cs number c entries n c.methods ms us bytes) rest h in
    let by_tables = subst (λ x. AreMadeWithin cs number c entries (room - front) c.methods ms x bytes) (sym tables) by_room in
    let by_methods = subst (λ x. AreMadeWithin cs number c entries (room - front) c.methods x ts bytes) (sym methods) by_tables in
    let by_pool = subst (λ x. AreMadeWithin cs number c x (room - front) c.methods made.methods ts bytes) (sym pool) by_methods in
    let sized : front ≡ 24 + pool_size made.pool + 8 * length made.fields = omega (arith, before, ap pool_size pool, ap length fields) in
    class-within cs number c room front bytes all_bytes made ts (pool ∙ is) (subst (λ x. length x ≤ 65534) (sym pool) few) this super fields sized sum by_pool

get-same : {A : Type 0} (xs : List A) (x : A) (k : ℕ) → k < length xs → slice_get (xs ++ x ∷ []) k ≡ slice_get xs k
get-same [] x k less = absurd (omega (arith, less))
get-same (y ∷ xs) x zero less = refl
get-same (y ∷ xs) x (suc k) less = get-same xs x k (omega (arith, less))

get-last : {A : Type 0} (xs : List A) (x : A) → slice_get (xs ++ x ∷ []) (length xs) ≡ Some x
get-last [] x = refl
get-last (y ∷ xs) x = get-last xs x

get-within : {A : Type 0} (xs : List A) (k : ℕ) (x : A) → slice_get xs k ≡ Some x → k < length xs
get-within [] k x e = absurd (none-some x e)
get-within (y ∷ xs) zero x e = omega arith
get-within (y ∷ xs) (suc k) x e = let l = get-within xs k x e in omega (arith, l)

small-push : (fs : List FramedClass) (f : FramedClass) → AreSmall fs → file_size f ≤ most → AreSmall (fs ++ f ∷ [])
small-push [] f h small zero other e = subst (λ x. file_size x ≤ most) (same_Some f other e) small
small-push [] f h small (suc k) other e = absurd (none-some other e)
small-push (x ∷ fs) f h small zero other e = h zero other e
small-push (x ∷ fs) f h small (suc k) other e = small-push fs f (λ i o is. h (suc i) o is) small k other e

first-large : (fs : List FramedClass) (f : FramedClass) (bytes : ℕ) → AreSmall fs → bytes ≡ file_size f → most < bytes → IsFirstLarge (fs ++ f ∷ []) (length fs) bytes
first-large fs f bytes h e large = record {
  of = f;
  of_is = get-last fs f;
  size = e;
  more = large;
  earlier = λ k other less is. h k other (sym (get-same fs f k less) ∙ is);
}

large-push : (fs : List FramedClass) (f : FramedClass) (class bytes : ℕ) → IsFirstLarge fs class bytes → IsFirstLarge (fs ++ f ∷ []) class bytes
large-push fs f class bytes h =
    let within = get-within fs class h.of h.of_is in
    record {
      of = h.of;
      of_is = get-same fs f class within ∙ h.of_is;
      size = h.size;
      more = h.more;
      earlier = λ k other less is. h.earlier k other less (sym (get-same fs f k (omega (arith, less, within))) ∙ is);
    }

made-length : (cs : List Class) (number : ℕ) (xs : List Class) (ys : List FramedClass) → AreClassesMadeFrom cs number xs ys → length ys ≡ length xs
made-length cs number [] [] h = refl
made-length cs number [] (y ∷ ys) h = absurd h
made-length cs number (x ∷ xs) [] h = absurd h
made-length cs number (x ∷ xs) (y ∷ ys) h = ap suc (made-length cs (suc number) xs ys h.1)

pub next-tabled : (cs : List Class) (n : ℕ) (c : Class) (room : ℕ) (made : SizedClass) (t u : TabledClasses) → slice_get cs n ≡ Some c → IsRoomOf t room → IsWithClass t n made u → IsClassMadeWithin cs n c room made → AreTabledTo cs (take n cs) t → AreTabledTo cs (take (n + 1) cs) u
next-tabled cs n c room made (Framed framed) (Framed after) is near with p h =
    let own = p.written (omega (arith, with.0, near)) in
    let small : file_size p.all ≤ most = omega (arith, with.0, p.sized) in
    let more = with.1 ∙ ap (λ f. framed.items ++ f ∷ []) own in (
      classes-next cs n c p.all framed.items after.items is more h.0 p.is,
      subst AreSmall (sym more) (small-push framed.items p.all h.1 small),
    )
next-tabled cs n c room made (Framed framed) (TooLarge class bytes) is near with p h =
    let all = framed.items ++ p.all ∷ [] in
    let place : length framed.items ≡ class = omega (arith, with.1, made-length cs 0 (take n cs) framed.items h.0, taken-length cs n c is) in
    let large = first-large framed.items p.all bytes h.1 (with.2 ∙ p.sized) (omega (arith, with.0, with.2)) in (
      all,
      classes-next cs n c p.all framed.items all is refl h.0 p.is,
      subst (λ k. IsFirstLarge all k bytes) place large,
    )
next-tabled cs n c room made (TooLarge class bytes) (Framed after) is near with p h = absurd with
next-tabled cs n c room made (TooLarge class bytes) (TooLarge other size) is near with p h =
    let all = h.0 ++ p.all ∷ [] in
    let large = large-push h.0 p.all class bytes h.2 in (
      all,
      classes-next cs n c p.all h.0 all is refl h.1 p.is,
      subst (λ k. IsFirstLarge all k size) (sym with.0) (subst (IsFirstLarge all class) (sym with.1) large),
    )

pub all-small : (fs : List FramedClass) → AreSmall fs → All (λ f. file_size f ≤ most) fs
all-small fs h k d less =
    let f = get-of fs k less in
    subst (λ x. file_size x ≤ most) (sym (get_or_from_slice_get fs k f.0 d f.1)) (h k f.0 f.1)
