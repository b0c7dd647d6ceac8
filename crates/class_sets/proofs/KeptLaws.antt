-- Classes of a set keep the rules of the format, and have as many tables as methods.
use Rattle.std.proofs.Common.{◌≡◌, ℕ, zero, suc, true, List, [], ◌∷◌, length, get_or, Option, Some, None, option_map, Result, Ok, IfOk, refl, sym, ap, subst, ◌∙◌}
use Rattle.std.specs.Prelude.{slice_get, All}
use Rattle.std.specs.List.{AllZip}
use Rattle.std.proofs.lemmas.Bool.{false≢true}
use Rattle.std.proofs.lemmas.List.Elements.{All-nil, All-cons}
use Rattle.std.proofs.lemmas.Option.{same_Some, none-some}
use Rattle.class_definition.specs.declared.class_fault.ClassFault.{ClassFault}
use Rattle.class_definition.specs.Format.{behind, both, fits_by}
use Rattle.class_definition.specs.PoolChecks.{pool}
use Rattle.class_definition.specs.declared.class.Class.{Class}
use Rattle.class_definition.specs.declared.method.Method.{Method}
use Rattle.class_definition.specs.ClassFile.{class_slots}
use Rattle.class_definition.specs.declared.framed_class.FramedClass.{FramedClass}
use Rattle.class_definition.specs.FramedClassFile.{framed_preamble, members_with_tables, with_method, methods_with_tables, framed_class}
use Rattle.class_definition_laws.proofs.FramedClassLaws.{framed-alone}
use Rattle.class_names.specs.Kept.{IsClass}
use Rattle.class_sets.specs.Kept as plain
use Rattle.class_sets.specs.declared.members.Members.{Members}
use Rattle.class_sets.specs.declared.named_set.NamedSet.{NamedSet}
use Rattle.class_sets.specs.declared.named_set.NamedSet.TheVariants.{NoFile, Faulty, Classes}
use Rattle.class_sets.specs.declared.version.Version.{Version}
use Rattle.class_sets.specs.declared.version.Version.TheVariants.{V48, V51}
use Rattle.class_sets.specs.Plain.{loaded_of}
use Rattle.class_sets.specs.NamedKept.{IsKept, IsKeptWith, AreKept, IsKeptSet}

class-of-kept : (v : Version) (c : Class) (t : List (List ℕ)) → IsKeptWith v c t → IsClass c
class-of-kept V48 c t h = h
class-of-kept V51 c t h = framed-alone (record { class = c; tables = t }) h

pub class-kept : (v : Version) (c : FramedClass) (read : Result FramedClass ClassFault) → IfOk read (IsKept v) → read ≡ Ok c → IsClass c.class
class-kept v c read kept is = class-of-kept v c.class c.tables (subst (λ r. IfOk r (IsKept v)) is kept)

classes-from : (v : Version) (cs : List Class) (ts : List (List (List ℕ))) → AllZip (IsKeptWith v) cs ts → All IsClass cs
classes-from v [] [] z = All-nil IsClass
classes-from v [] (t ∷ ts) z = absurd z
classes-from v (c ∷ cs) [] z = absurd z
classes-from v (c ∷ cs) (t ∷ ts) z = All-cons IsClass c cs (class-of-kept v c t z.0) (classes-from v cs ts z.1)

pub classes-kept : (v : Version) (m : Members) → AreKept v m → All IsClass m.classes
classes-kept v m kept = classes-from v m.classes m.tables kept.classes

pub plain-kept : (set : NamedSet) → IsKeptSet V48 set → plain.IsKeptSet (loaded_of set)
plain-kept NoFile kept = tt
plain-kept (Faulty number fault) kept = tt
plain-kept (Classes m) kept = classes-kept V48 m kept

-- ---- as many tables as methods

counts : (methods : List Method) (tables : List (List ℕ)) (ms : List (Method × List ℕ)) → methods_with_tables methods tables ≡ Some ms → length tables ≡ length methods
counts [] [] ms e = refl
counts [] (t ∷ tables) ms e = absurd (none-some ms e)
counts (m ∷ methods) [] ms e = absurd (none-some ms e)
counts (m ∷ methods) (t ∷ tables) ms e = by-others (λ others is. counts methods tables others is) (methods_with_tables methods tables) refl e
  where
    by-others : ((others : List (Method × List ℕ)) → methods_with_tables methods tables ≡ Some others → length tables ≡ length methods) → (o : Option (List (Method × List ℕ))) → methods_with_tables methods tables ≡ o → with_method (m, t) o ≡ Some ms → suc (length tables) ≡ suc (length methods)
    by-others same None is h = absurd (none-some ms h)
    by-others same (Some others) is h = ap suc (same others is)

tables-count : (x : FramedClass) → framed_class.fits x ≡ true → length x.tables ≡ length x.class.methods
unfolding framed_class
tables-count x e = by-parts (methods_with_tables x.class.methods x.tables) refl e
  where
    by-parts : (o : Option (List (Method × List ℕ))) → methods_with_tables x.class.methods x.tables ≡ o → fits_by (behind framed_preamble (both pool (λ entries. both (class_slots entries) (λ _. members_with_tables entries)))) (option_map (λ methods. (x.class.pool, ((x.class.this_class, x.class.super_class), (x.class.fields, methods)))) o) ≡ true → length x.tables ≡ length x.class.methods
    by-parts None is h = absurd (false≢true h)
    by-parts (Some ms) is h = counts x.class.methods x.tables ms is

lists-are : (cs : List Class) (ts : List (List (List ℕ))) → AllZip (IsKeptWith V51) cs ts → length ts ≡ length cs
lists-are [] [] z = refl
lists-are [] (t ∷ ts) z = absurd z
lists-are (c ∷ cs) [] z = absurd z
lists-are (c ∷ cs) (t ∷ ts) z = ap suc (lists-are cs ts z.1)

pub lists-kept : (m : Members) → AreKept V51 m → length m.tables ≡ length m.classes
lists-kept m kept = lists-are m.classes m.tables kept.classes

list-is : (cs : List Class) (ts : List (List (List ℕ))) → AllZip (IsKeptWith V51) cs ts → (k : ℕ) (c : Class) → slice_get cs k ≡ Some c → length (get_or ts k []) ≡ length c.methods
list-is [] [] z k c is = absurd (none-some c is)
list-is [] (t ∷ ts) z k c is = absurd z
list-is (x ∷ cs) [] z k c is = absurd z
list-is (x ∷ cs) (t ∷ ts) z zero c is = tables-count (record { class = x; tables = t }) z.0 ∙ ap (λ (y : Class). length y.methods) (same_Some x c is)
list-is (x ∷ cs) (t ∷ ts) z (suc k) c is = list-is cs ts z.1 k c is

pub list-kept : (m : Members) → AreKept V51 m → (k : ℕ) (c : Class) → slice_get m.classes k ≡ Some c → length (get_or m.tables k []) ≡ length c.methods
list-kept m kept k c is = list-is m.classes m.tables kept.classes k c is
