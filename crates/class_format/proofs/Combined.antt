-- What is made of formats is a format.
use Rattle.std.proofs.Common.{◌≡◌, ℕ, zero, suc, Bool, true, eqb, List, [], ◌∷◌, ◌++◌, length, Option, Some, None, Ok, refl, ap, subst, ◌∙◌, append_assoc}
use Rattle.std.proofs.lemmas.Bool.{and_parts, and_from, eqb-true, eq-eqb}
use Rattle.class_definition.specs.declared.class_fault.ClassFault.{ClassFault}
use Rattle.class_definition.specs.declared.miss.Miss.{Miss}
use Rattle.class_definition.specs.Format.{Format, ◌>>=◌, both, chain, chain_spelling, chain_fits, chain_reading, repeated, mapped, spelled_by, fits_by, settled, is_sound, checked, tested, fault_unless}
use Rattle.class_definition.specs.Spelling.{IsBytes, Begins, IsFormat}
use Rattle.class_format.proofs.Readings.{IsBytes-rest, went_on, same_value, settled_ok, settled_sound, joined}

-- ---- one after the other

both_back : {A B : Type 0} (f : Format A) (g : A → Format B) → IsFormat f → ((a : A) → IsFormat (g a))
    → (x : A × B) (rest : List ℕ) → (both f g).fits x ≡ true → (both f g).read ((both f g).spell x ++ rest) ≡ Ok (x, rest)
both_back f g first second x rest e =
    let p = and_parts (f.fits x.0) ((g x.0).fits x.1) e in
    rw (append_assoc (f.spell x.0) ((g x.0).spell x.1) rest, first.back x.0 ((g x.0).spell x.1 ++ rest) p.0, (second x.0).back x.1 rest p.1) refl

both_taken : {A B : Type 0} (f : Format A) (g : A → Format B) → IsFormat f → ((a : A) → IsFormat (g a))
    → (bytes : List ℕ) (x : A × B) (rest : List ℕ) → IsBytes bytes → (both f g).read bytes ≡ Ok (x, rest) → Begins (both f g) bytes x rest
both_taken {A} {B} f g first second bytes x rest h e =
    let p = went_on (f.read bytes) (λ a. (g a.0).read a.1 >>= λ b. Ok ((a.0, b.0), b.1)) (x, rest) e in
    let q = went_on ((g p.0.0).read p.0.1) (λ b. Ok ((p.0.0, b.0), b.1)) (x, rest) p.2 in
    let t = first.taken bytes p.0.0 p.0.1 h p.1 in
    let u = (second p.0.0).taken p.0.1 q.0.0 q.0.1 (IsBytes-rest f bytes p.0.0 p.0.1 h t) q.1 in
    let parts : bytes ≡ (f.spell p.0.0 ++ (g p.0.0).spell q.0.0) ++ q.0.1 = joined bytes (f.spell p.0.0) ((g p.0.0).spell q.0.0) p.0.1 q.0.1 t.spelled u.spelled in
    let made : (A × B) × List ℕ = ((p.0.0, q.0.0), q.0.1) in
    let P : (A × B) × List ℕ → Type 0 = λ y. Begins (both f g) bytes y.0 y.1 in
    subst P (same_value {E = Miss} made (x, rest) q.2) (record { fits = and_from _ _ t.fits u.fits; spelled = parts })

pub both_law : {A B : Type 0} (f : Format A) (g : A → Format B) → IsFormat f → ((a : A) → IsFormat (g a)) → IsFormat (both f g)
both_law f g first second = record { back = both_back f g first second; taken = both_taken f g first second }

chain_back : {S A : Type 0} (g : S → ℕ → Format A) (next : S → A → S) → ((s : S) (n : ℕ) → IsFormat (g s n))
    → (s : S) (xs : List A) (rest : List ℕ) → chain_fits g next s xs ≡ true → chain_reading g next s (length xs) (chain_spelling g next s xs ++ rest) ≡ Ok (xs, rest)
unfolding chain_reading
chain_back g next law s [] rest e = refl
chain_back g next law s (x ∷ xs) rest e =
    let p = and_parts ((g s (length xs)).fits x) (chain_fits g next (next s x) xs) e in
    let front = (g s (length xs)).spell x in
    let others = chain_spelling g next (next s x) xs in
    ap (chain_reading g next s (suc (length xs))) (append_assoc front others rest)
    ∙ rw ((law s (length xs)).back x (others ++ rest) p.0, chain_back g next law (next s x) xs rest p.1) refl

chain_taken : {S A : Type 0} (g : S → ℕ → Format A) (next : S → A → S) → ((s : S) (n : ℕ) → IsFormat (g s n))
    → (s : S) (n : ℕ) (bytes : List ℕ) (xs : List A) (rest : List ℕ) → IsBytes bytes → chain_reading g next s n bytes ≡ Ok (xs, rest) → Begins (chain g next s n) bytes xs rest
unfolding chain_reading
chain_taken {S} {A} g next law s zero bytes xs rest h e =
    let P : List A × List ℕ → Type 0 = λ y. Begins (chain g next s zero) bytes y.0 y.1 in
    subst P (same_value {E = Miss} ([], bytes) (xs, rest) e) (record { fits = refl; spelled = refl })
chain_taken {S} {A} g next law s (suc n) bytes xs rest h e =
    let p = went_on ((g s n).read bytes) (λ x. chain_reading g next (next s x.0) n x.1 >>= λ ys. Ok (x.0 ∷ ys.0, ys.1)) (xs, rest) e in
    let q = went_on (chain_reading g next (next s p.0.0) n p.0.1) (λ ys. Ok (p.0.0 ∷ ys.0, ys.1)) (xs, rest) p.2 in
    let t = (law s n).taken bytes p.0.0 p.0.1 h p.1 in
    let u = chain_taken g next law (next s p.0.0) n p.0.1 q.0.0 q.0.1 (IsBytes-rest (g s n) bytes p.0.0 p.0.1 h t) q.1 in
    let c = and_parts (eqb (length q.0.0) n) (chain_fits g next (next s p.0.0) q.0.0) u.fits in
    let same : length q.0.0 ≡ n = eqb-true _ _ c.0 in
    let parts : bytes ≡ ((g s n).spell p.0.0 ++ chain_spelling g next (next s p.0.0) q.0.0) ++ q.0.1 = joined bytes ((g s n).spell p.0.0) (chain_spelling g next (next s p.0.0) q.0.0) p.0.1 q.0.1 t.spelled u.spelled in
    let made : List A × List ℕ = (p.0.0 ∷ q.0.0, q.0.1) in
    let P : List A × List ℕ → Type 0 = λ y. Begins (chain g next s (suc n)) bytes y.0 y.1 in
    let begins : P made = record {
      fits = and_from _ _ (eq-eqb _ _ (ap suc same)) (and_from _ _ (rw same t.fits) c.1);
      spelled = rw same parts;
    } in
    subst P (same_value {E = Miss} made (xs, rest) q.2) begins

chain_back_of : {S A : Type 0} (g : S → ℕ → Format A) (next : S → A → S) → ((s : S) (n : ℕ) → IsFormat (g s n))
    → (s : S) (n : ℕ) (xs : List A) (rest : List ℕ) → (chain g next s n).fits xs ≡ true → (chain g next s n).read ((chain g next s n).spell xs ++ rest) ≡ Ok (xs, rest)
chain_back_of {S} {A} g next law s n xs rest e =
    let p = and_parts (eqb (length xs) n) (chain_fits g next s xs) e in
    let P : ℕ → Type 0 = λ k. chain_reading g next s k (chain_spelling g next s xs ++ rest) ≡ Ok (xs, rest) in
    subst P (eqb-true _ _ p.0) (chain_back g next law s xs rest p.1)

pub chain_law : {S A : Type 0} (g : S → ℕ → Format A) (next : S → A → S) → ((s : S) (n : ℕ) → IsFormat (g s n)) → (s : S) (n : ℕ) → IsFormat (chain g next s n)
chain_law g next law s n = record { back = chain_back_of g next law s n; taken = chain_taken g next law s n }

pub repeated_law : {A : Type 0} (f : Format A) (n : ℕ) → IsFormat f → IsFormat (repeated f n)
repeated_law f n law = chain_law {S = Unit {0}} (λ _ _. f) (λ s _. s) (λ _ _. law) tt n

-- ---- of another form

-- make and back lead to each other among the values that fit
pub record IsMade {A B : Type 0} (make : B → A) (back : A → Option B) (f : Format B) : Type 0 where
  pub back_of : (b : B) → f.fits b ≡ true → back (make b) ≡ Some b
  pub made_of : (a : A) (b : B) → back a ≡ Some b → make b ≡ a

spelled_back : {A B : Type 0} (make : B → A) (back : A → Option B) (f : Format B) → IsFormat f → IsMade make back f
    → (a : A) (o : Option B) → back a ≡ o → (rest : List ℕ) → fits_by f o ≡ true → (mapped make back f).read (spelled_by f o ++ rest) ≡ Ok (a, rest)
spelled_back make back f law made a None is rest e = absurd cc
spelled_back make back f law made a (Some b) is rest e = rw (law.back b rest e) (rw (made.made_of a b is) refl)

mapped_taken : {A B : Type 0} (make : B → A) (back : A → Option B) (f : Format B) → IsFormat f → IsMade make back f
    → (bytes : List ℕ) (a : A) (rest : List ℕ) → IsBytes bytes → (mapped make back f).read bytes ≡ Ok (a, rest) → Begins (mapped make back f) bytes a rest
mapped_taken {A} make back f law made bytes a rest h e =
    let p = went_on (f.read bytes) (λ b. Ok (make b.0, b.1)) (a, rest) e in
    let t = law.taken bytes p.0.0 p.0.1 h p.1 in
    let b = made.back_of p.0.0 t.fits in
    let P : A × List ℕ → Type 0 = λ y. Begins (mapped make back f) bytes y.0 y.1 in
    subst P (same_value {E = Miss} (make p.0.0, p.0.1) (a, rest) p.2) (record { fits = rw b t.fits; spelled = rw b t.spelled })

pub mapped_law : {A B : Type 0} (make : B → A) (back : A → Option B) (f : Format B) → IsFormat f → IsMade make back f → IsFormat (mapped make back f)
mapped_law make back f law made = record { back = λ a rest e. spelled_back make back f law made a (back a) refl rest e; taken = mapped_taken make back f law made }

-- ---- what is at fault

checked_back : {A : Type 0} (fault : A → Option ClassFault) (f : Format A) → IsFormat f
    → (a : A) (rest : List ℕ) → (checked fault f).fits a ≡ true → (checked fault f).read (f.spell a ++ rest) ≡ Ok (a, rest)
checked_back fault f law a rest e =
    let p = and_parts (f.fits a) (is_sound (fault a)) e in
    rw (law.back a rest p.0) (settled_sound (length (f.spell a ++ rest)) (fault a) (a, rest) p.1)

checked_taken : {A : Type 0} (fault : A → Option ClassFault) (f : Format A) → IsFormat f
    → (bytes : List ℕ) (a : A) (rest : List ℕ) → IsBytes bytes → (checked fault f).read bytes ≡ Ok (a, rest) → Begins (checked fault f) bytes a rest
checked_taken {A} fault f law bytes a rest h e =
    let p = went_on (f.read bytes) (λ x. settled (length bytes) (fault x.0) x) (a, rest) e in
    let q = settled_ok (length bytes) (fault p.0.0) p.0 (a, rest) p.2 in
    let t = law.taken bytes p.0.0 p.0.1 h p.1 in
    let P : A × List ℕ → Type 0 = λ y. Begins (checked fault f) bytes y.0 y.1 in
    subst P q.1 (record { fits = and_from _ _ t.fits q.0; spelled = t.spelled })

pub checked_law : {A : Type 0} (fault : A → Option ClassFault) (f : Format A) → IsFormat f → IsFormat (checked fault f)
checked_law fault f law = record { back = checked_back fault f law; taken = checked_taken fault f law }

pub tested_law : {A : Type 0} (kind : ℕ) (test : A → Bool) (f : Format A) → IsFormat f → IsFormat (tested kind test f)
tested_law kind test f law = checked_law (λ a. fault_unless kind (test a)) f law
