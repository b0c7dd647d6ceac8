-- Readings one after the other, and the bytes that they leave.
use Rattle.std.proofs.Common.{◌≡◌, ℕ, ◌+◌, ◌<◌, true, List, ◌++◌, length, Option, Some, None, Result, Ok, Err, refl, subst, append_assoc}
use Rattle.std.proofs.lemmas.List.{get_or-append-add}
use Rattle.class_definition.specs.declared.class_fault.ClassFault.{ClassFault}
use Rattle.class_definition.specs.declared.miss.Miss.{Miss}
use Rattle.class_definition.specs.Format.{Format, Reading, ◌>>=◌, settled, is_sound}
use Rattle.class_definition.specs.Spelling.{IsBytes, Begins}

-- the bytes behind some bytes are bytes
pub IsBytes-behind : (front rest : List ℕ) → IsBytes (front ++ rest) → IsBytes rest
IsBytes-behind front rest h i =
    let P : ℕ → Type 0 = λ n. n < 256 in
    subst P (get_or-append-add front rest i 0) (h (length front + i))

pub IsBytes-rest : {A : Type 0} (f : Format A) (bytes : List ℕ) (a : A) (rest : List ℕ) → IsBytes bytes → Begins f bytes a rest → IsBytes rest
IsBytes-rest f bytes a rest h t = IsBytes-behind (f.spell a) rest (subst IsBytes t.spelled h)

-- the value of a reading that went on
pub went_on : {A B : Type 0} (r : Reading A) (f : A × List ℕ → Reading B) (y : B × List ℕ) → (r >>= f) ≡ Ok y → (x : A × List ℕ) × (r ≡ Ok x) × (f x ≡ Ok y)
went_on (Ok x) f y e = (x, refl, e)
went_on (Err d) f y e = absurd cc

abbrev done : {A E : Type 0} → A → Result A E
done x = Ok x

pub same_value : {A E : Type 0} (x y : A) → done {E = E} x ≡ done y → x ≡ y
same_value x y e = cc

pub settled_ok : {A : Type 0} (size : ℕ) (fault : Option ClassFault) (x y : A × List ℕ) → settled size fault x ≡ Ok y → (is_sound fault ≡ true) × (x ≡ y)
settled_ok size None x y e = (refl, same_value {E = Miss} x y e)
settled_ok size (Some fault) x y e = absurd cc

pub settled_sound : {A : Type 0} (size : ℕ) (fault : Option ClassFault) (x : A × List ℕ) → is_sound fault ≡ true → settled size fault x ≡ Ok x
settled_sound size None x e = refl
settled_sound size (Some fault) x e = absurd cc

-- two pieces of bytes, one after the other
pub joined : (bytes a b c d : List ℕ) → bytes ≡ a ++ c → c ≡ b ++ d → bytes ≡ (a ++ b) ++ d
joined bytes a b c d p q = rw (append_assoc, ← q) p
