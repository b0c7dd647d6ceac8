-- What one more symbol says of the names.
use Rattle.std.proofs.Common.{◌≡◌, ◌<◌, ◌+◌, ◌≤◌, ℕ, Bool, true, false, cond, not, ◌&&◌, ◌||◌, ◌==◌, nat_lt, List, [], ◌∷◌, ◌++◌, length, take, drop, get_or, map, Option, Some, None, is_some, bytes_eq, position, refl, sym, ap, ◌∙◌, subst, inl, inr, arith, ◌⊎◌}
use Rattle.std.specs.List.{find, list_any, before_first, position_or_len}
use Rattle.std.specs.Option.{option_or}
use Rattle.std.proofs.lemmas.Bool.{cases_Bool, eqb-true}
use Rattle.std.proofs.lemmas.Bool.Decides.{nat_tests}
use Rattle.std.proofs.lemmas.List.{drop_more, map-append, take_all}
use Rattle.std.proofs.lemmas.List.Folds.{find-append, list_any-append}
use Rattle.obj_reader.specs.declared.obj_error.ObjError.{ObjError}
use Rattle.obj_reader.specs.declared.obj_error.ObjError.TheVariants.{Refused, NoMemory}
use Rattle.obj_linker.specs.declared.letter.Letter.{Letter}
use Rattle.obj_linker.specs.declared.meaning.Meaning.{Meaning}
use Rattle.obj_linker.specs.declared.meaning.Meaning.TheVariants.{Number}
use Rattle.obj_linker.specs.declared.name.Name.{Name}
use Rattle.obj_linker.specs.declared.named_symbol.NamedSymbol.{NamedSymbol}
use Rattle.obj_reader.specs.declared.symbol.Symbol.{Symbol}
use Rattle.obj_reader.specs.Fault.{IsAnswer}
use Rattle.obj_linker.specs.Known.{NameList, again, known_in, known_of, known_with, meaning_by, name_meaning, with_symbol}
use Rattle.obj_linker.specs.Names.{defines, defines_weakly, needs, first_repeated, name_of_symbol, named_meaning, meaning_of, own_meaning, defines_again}
use Rattle.obj_linker.specs.Naming.{IsNamed, plain_symbols}
use Rattle.obj_linker.specs.Texts.{AreApart, IsNumber}
use Rattle.obj_linker.specs.Whole.{symbol_fault_of}
use Rattle.obj_reader.specs.Symbols.{binding, is_defined, is_local}
use Rattle.obj_linker.proofs.NamingLemmas.{named_is, plain_more}
use Rattle.obj_linker.proofs.TextLemmas.{same_number}

-- the bytes up to a 00
by_place : (bs : List ℕ) (n place : ℕ) (t : Bool) → cond t (Some place) None ≡ Some n → take n bs ≡ take place bs
by_place bs n place true e = let same : place ≡ n = cc in ap (λ k. take k bs) (sym same)
by_place bs n place false e = absurd (cc)

pub before_place : (bs : List ℕ) (n : ℕ) → position (λ b. b == 0) bs ≡ Some n → take n bs ≡ before_first (λ b. b == 0) bs
before_place bs n h = by_place bs n (position_or_len (λ b. b == 0) bs) (nat_lt (position_or_len (λ b. b == 0) bs) (length bs)) h

past : (place len : ℕ) (t : Bool) → nat_lt place len ≡ t → ◌≡◌ {A = Option ℕ} (cond t (Some place) None) None → len ≤ place
past place len true lt e = absurd (cc)
past place len false lt e = grind (arith, nat_tests)

pub before_none : (bs : List ℕ) → position (λ b. b == 0) bs ≡ None → bs ≡ before_first (λ b. b == 0) bs
before_none bs h =
    sym (take_all (position_or_len (λ b. b == 0) bs) bs
    (past (position_or_len (λ b. b == 0) bs) (length bs) (nat_lt (position_or_len (λ b. b == 0) bs) (length bs)) refl h))

-- ---- one symbol more
found_more : (p : Symbol → Bool) (xs : List Symbol) (s : Symbol) (t : Bool) → p s ≡ t
    → find p (xs ++ s ∷ []) ≡ option_or (find p xs) (cond t (Some s) None)
found_more p xs s t h = find-append p xs (s ∷ []) ∙ ap (λ b. option_or (find p xs) (cond b (Some s) None)) h

any_more : (p : Symbol → Bool) (xs : List Symbol) (s : Symbol) (t : Bool) → p s ≡ t
    → list_any p (xs ++ s ∷ []) ≡ (list_any p xs || t)
any_more p xs s t h = list_any-append p xs (s ∷ []) ∙ ap (λ b. list_any p xs || b) (or_false (p s) ∙ h)
  where
    or_false : (b : Bool) → (b || false) ≡ b
    or_false true = refl
    or_false false = refl

or_none : (o : Option Symbol) → option_or o None ≡ o
or_none None = refl
or_none (Some s) = refl

or_false : (b : Bool) → (b || false) ≡ b
or_false true = refl
or_false false = refl

and_all : (a b c : Bool) → c ≡ true → (a && (b && c)) ≡ (a && b)
and_all true true c h = h
and_all true false c h = refl
and_all false b c h = refl

and_none : (a b c : Bool) → c ≡ false → (a && (b && c)) ≡ false
and_none true true c h = h
and_none true false c h = refl
and_none false b c h = refl

and_no : (a b c : Bool) → b ≡ false → (a && (b && c)) ≡ false
and_no true true c h = absurd (cc)
and_no true false c h = refl
and_no false b c h = refl

same_known : (a b : Option Symbol) (c d : Option Symbol) (e f : Bool) → a ≡ b → c ≡ d → e ≡ f
    → ◌≡◌ {A = Name} (record { global = a; weak = c; is_needed = e }) (record { global = b; weak = d; is_needed = f })
same_known a b c d e f p q r = λ i. record { global = p i; weak = q i; is_needed = r i }

-- a symbol of the name
of_name : (files : List (List ℕ)) (xs : List Symbol) (s : Symbol) (name : List ℕ) → bytes_eq (name_of_symbol files s) name ≡ true
    → known_of files (xs ++ s ∷ []) name ≡ with_symbol (known_of files xs name) s
of_name files xs s name h =
    same_known _ _ _ _ _ _
    (found_more (defines files name) xs s (is_defined s && binding s == 1) (and_all (is_defined s) (binding s == 1) (bytes_eq (name_of_symbol files s) name) h))
    (found_more (defines_weakly files name) xs s (is_defined s && binding s == 2) (and_all (is_defined s) (binding s == 2) (bytes_eq (name_of_symbol files s) name) h))
    (any_more (needs files name) xs s (not (is_defined s) && binding s == 1) (and_all (not (is_defined s)) (binding s == 1) (bytes_eq (name_of_symbol files s) name) h))

-- one that says nothing of the name
of_other : (files : List (List ℕ)) (xs : List Symbol) (s : Symbol) (name : List ℕ)
    → defines files name s ≡ false → defines_weakly files name s ≡ false → needs files name s ≡ false
    → known_of files (xs ++ s ∷ []) name ≡ known_of files xs name
of_other files xs s name a b d =
    same_known _ _ _ _ _ _
    (found_more (defines files name) xs s false a ∙ or_none (find (defines files name) xs))
    (found_more (defines_weakly files name) xs s false b ∙ or_none (find (defines_weakly files name) xs))
    (any_more (needs files name) xs s false d ∙ or_false (list_any (needs files name) xs))

of_other_name : (files : List (List ℕ)) (xs : List Symbol) (s : Symbol) (name : List ℕ) → bytes_eq (name_of_symbol files s) name ≡ false
    → known_of files (xs ++ s ∷ []) name ≡ known_of files xs name
of_other_name files xs s name h =
    of_other files xs s name (and_none (is_defined s) (binding s == 1) (bytes_eq (name_of_symbol files s) name) h)
    (and_none (is_defined s) (binding s == 2) (bytes_eq (name_of_symbol files s) name) h)
    (and_none (not (is_defined s)) (binding s == 1) (bytes_eq (name_of_symbol files s) name) h)

of_local : (files : List (List ℕ)) (xs : List Symbol) (s : Symbol) (name : List ℕ) → is_local s ≡ true
    → known_of files (xs ++ s ∷ []) name ≡ known_of files xs name
of_local files xs s name h =
    let one : (binding s == 1) ≡ false = grind (arith, nat_tests) in
    let two : (binding s == 2) ≡ false = grind (arith, nat_tests) in
    of_other files xs s name (and_no (is_defined s) (binding s == 1) (bytes_eq (name_of_symbol files s) name) one)
    (and_no (is_defined s) (binding s == 2) (bytes_eq (name_of_symbol files s) name) two)
    (and_no (not (is_defined s)) (binding s == 1) (bytes_eq (name_of_symbol files s) name) one)

-- the names, with one symbol more
pub known_more : (files : List (List ℕ)) (letters : List Letter) → AreApart letters → (xs ys : List Symbol) (x : NamedSymbol) (old new : NameList)
    → ((n : ℕ) (name : List ℕ) → IsNumber letters n name → known_in old n ≡ known_of files xs name)
    → ((other : ℕ) → known_in new other ≡ known_with old x other)
    → IsNamed files letters x → ys ≡ xs ++ x.symbol ∷ []
    → (n : ℕ) (name : List ℕ) → IsNumber letters n name → known_in new n ≡ known_of files ys name
known_more files letters apart xs ys x old new was step named all n name has =
    step n ∙ by (cases_Bool (is_local s)) (cases_Bool (x.name == n)) ∙ ap (λ l. known_of files l name) (sym all)
  where
    s : Symbol
    s = x.symbol

    own : is_local s ≡ false → IsNumber letters x.name (name_of_symbol files s)
    own away = subst (λ t. IsNumber letters x.name t) (named_is files s away) named

    told : is_local s ≡ false → known_with old x n ≡ cond (x.name == n) (with_symbol (known_in old x.name) s) (known_in old n)
    told away = ap (λ t. cond (not t && (x.name == n)) (with_symbol (known_in old x.name) s) (known_in old n)) away

    same : is_local s ≡ false → (x.name == n) ≡ bytes_eq (name_of_symbol files s) name
    same away = same_number letters apart x.name n (name_of_symbol files s) name (own away) has

    by : (is_local s ≡ true) ⊎ (is_local s ≡ false) → ((x.name == n) ≡ true) ⊎ ((x.name == n) ≡ false)
        → known_with old x n ≡ known_of files (xs ++ s ∷ []) name
    by (inl here) e =
        ap (λ t. cond (not t && (x.name == n)) (with_symbol (known_in old x.name) s) (known_in old n)) here
        ∙ was n name has ∙ sym (of_local files xs s name here)
    by (inr away) (inl e) =
        told away ∙ ap (λ t. cond t (with_symbol (known_in old x.name) s) (known_in old n)) e
        ∙ ap (λ k. with_symbol k s) (was x.name name (subst (λ m. IsNumber letters m name) (sym (eqb-true x.name n e)) has))
        ∙ sym (of_name files xs s name (sym (same away) ∙ e))
    by (inr away) (inr e) =
        told away ∙ ap (λ t. cond t (with_symbol (known_in old x.name) s) (known_in old n)) e
        ∙ was n name has ∙ sym (of_other_name files xs s name (sym (same away) ∙ e))

not_global : (s : Symbol) → is_local s ≡ true → (binding s == 1) ≡ false
not_global s here = grind (arith, nat_tests)

no_and : (a b c : Bool) → b ≡ false → (a && b && c) ≡ false
no_and true true c h = absurd (cc)
no_and true false c h = refl
no_and false b c h = refl

-- whether it defines a name again
pub again_is : (files : List (List ℕ)) (letters : List Letter) (xs : List Symbol) (x : NamedSymbol) (old : NameList)
    → ((n : ℕ) (name : List ℕ) → IsNumber letters n name → known_in old n ≡ known_of files xs name) → IsNamed files letters x
    → again old x ≡ defines_again files xs x.symbol
again_is files letters xs x old was named = by (cases_Bool (is_local s))
  where
    s : Symbol
    s = x.symbol

    by : (is_local s ≡ true) ⊎ (is_local s ≡ false) → again old x ≡ defines_again files xs s
    by (inl here) =
        let one : (binding s == 1) ≡ false = not_global s here in
        no_and (is_defined s) (binding s == 1) (is_some (known_in old x.name).global) one
        ∙ sym (no_and (is_defined s) (binding s == 1) (is_some (known_of files xs (name_of_symbol files s)).global) one)
    by (inr away) =
        ap (λ (k : Name). is_defined s && binding s == 1 && is_some k.global)
        (was x.name (name_of_symbol files s) (subst (λ t. IsNumber letters x.name t) (named_is files s away) named))

-- the first that defines a name again is this one, or one of the later ones
pub first_repeated_next : (files : List (List ℕ)) (letters : List Letter) (all : List NamedSymbol) (i : ℕ) (d : NamedSymbol) (old : NameList) → i < length all
    → ((n : ℕ) (name : List ℕ) → IsNumber letters n name → known_in old n ≡ known_of files (plain_symbols (take i all)) name)
    → IsNamed files letters (get_or all i d)
    → first_repeated files (plain_symbols (take i all)) (plain_symbols (drop i all))
    ≡ cond (again old (get_or all i d)) (Some (get_or all i d).symbol) (first_repeated files (plain_symbols (take (i + 1) all)) (plain_symbols (drop (i + 1) all)))
first_repeated_next files letters all i d old lt was named =
    let x = get_or all i d in
    let before = plain_symbols (take i all) in
    let later = plain_symbols (drop (i + 1) all) in
    ap (λ l. first_repeated files before (plain_symbols l)) (drop_more all i d lt)
    ∙ ap (λ t. cond t (Some x.symbol) (first_repeated files (before ++ x.symbol ∷ []) later)) (sym (again_is files letters before x old was named))
    ∙ ap (λ l. cond (again old x) (Some x.symbol) (first_repeated files l later)) (sym (plain_more all i d lt))

pub passed_more : (files : List (List ℕ)) (letters : List Letter) (all : List NamedSymbol) (i : ℕ) (d : NamedSymbol) (old : NameList) (whole : Option Symbol) → i < length all
    → ((n : ℕ) (name : List ℕ) → IsNumber letters n name → known_in old n ≡ known_of files (plain_symbols (take i all)) name)
    → IsNamed files letters (get_or all i d) → again old (get_or all i d) ≡ false
    → first_repeated files (plain_symbols (take i all)) (plain_symbols (drop i all)) ≡ whole
    → first_repeated files (plain_symbols (take (i + 1) all)) (plain_symbols (drop (i + 1) all)) ≡ whole
passed_more files letters all i d old whole lt known named is_new was =
    sym (first_repeated_next files letters all i d old lt known named
    ∙ ap (λ t. cond t (Some (get_or all i d).symbol) (first_repeated files (plain_symbols (take (i + 1) all)) (plain_symbols (drop (i + 1) all)))) is_new)
    ∙ was

-- it is this one, where it defines its name again
pub repeated_here : (files : List (List ℕ)) (letters : List Letter) (all : List NamedSymbol) (i : ℕ) (d : NamedSymbol) (old : NameList) (whole : Option Symbol) (e : ObjError) → i < length all
    → ((n : ℕ) (name : List ℕ) → IsNumber letters n name → known_in old n ≡ known_of files (plain_symbols (take i all)) name)
    → IsNamed files letters (get_or all i d)
    → first_repeated files (plain_symbols (take i all)) (plain_symbols (drop i all)) ≡ whole
    → IsAnswer (symbol_fault_of 10 (cond (again old (get_or all i d)) (Some (get_or all i d).symbol) None)) e
    → IsAnswer (symbol_fault_of 10 whole) e
repeated_here files letters all i d old whole e lt known named was fault =
    subst (λ o. IsAnswer (symbol_fault_of 10 o) e) (sym (first_repeated_next files letters all i d old lt known named) ∙ was)
    (by (again old (get_or all i d)) (first_repeated files (plain_symbols (take (i + 1) all)) (plain_symbols (drop (i + 1) all))) e fault)
  where
    by : (t : Bool) (o : Option Symbol) (f : ObjError) → IsAnswer (symbol_fault_of 10 (cond t (Some (get_or all i d).symbol) None)) f
        → IsAnswer (symbol_fault_of 10 (cond t (Some (get_or all i d).symbol) o)) f
    by true o f h = h
    by false o (Refused g) h = absurd (cc)
    by false o NoMemory h = tt

-- ---- what symbols mean

pub meaning_is : (files : List (List ℕ)) (letters : List Letter) (symbols : List Symbol) (x : NamedSymbol) (names : NameList)
    → ((n : ℕ) (name : List ℕ) → IsNumber letters n name → known_in names n ≡ known_of files symbols name) → IsNamed files letters x
    → meaning_by names x ≡ meaning_of files symbols x.symbol
meaning_is files letters symbols x names was named = by (cases_Bool (is_local s))
  where
    s : Symbol
    s = x.symbol

    whole : Bool → Meaning → Meaning
    whole t m = cond (s.number == 0) (Number 0) (cond t (own_meaning s) m)

    by : (is_local s ≡ true) ⊎ (is_local s ≡ false) → meaning_by names x ≡ meaning_of files symbols s
    by (inl here) =
        ap (λ t. whole t (name_meaning (known_in names x.name))) here
        ∙ sym (ap (λ t. whole t (named_meaning files symbols (name_of_symbol files s))) here)
    by (inr away) =
        ap (λ (k : Name). whole (is_local s) (name_meaning k))
        (was x.name (name_of_symbol files s) (subst (λ t. IsNumber letters x.name t) (named_is files s away) named))

-- ---- the first and the last symbol

pub known_first : (files : List (List ℕ)) (names : NameList) (n : ℕ) (name : List ℕ) → names ≡ [] → known_in names n ≡ known_of files [] name
known_first files names n name none = ap (λ l. known_in l n) none

pub meaning_more : (files : List (List ℕ)) (letters : List Letter) (symbols : List Symbol) (all : List NamedSymbol) (i : ℕ) (d : NamedSymbol) (names : NameList)
    (old new : List Meaning) (m : Meaning) → i < length all
    → ((n : ℕ) (name : List ℕ) → IsNumber letters n name → known_in names n ≡ known_of files symbols name) → IsNamed files letters (get_or all i d)
    → m ≡ meaning_by names (get_or all i d) → new ≡ old ++ m ∷ []
    → old ≡ map (meaning_of files symbols) (plain_symbols (take i all)) → new ≡ map (meaning_of files symbols) (plain_symbols (take (i + 1) all))
meaning_more files letters symbols all i d names old new m lt was named is pushed before =
    let x = get_or all i d in
    pushed ∙ ap (λ l. l ++ m ∷ []) before
    ∙ ap (λ k. map (meaning_of files symbols) (plain_symbols (take i all)) ++ k ∷ []) (is ∙ meaning_is files letters symbols x names was named)
    ∙ sym (ap (map (meaning_of files symbols)) (plain_more all i d lt)
    ∙ map-append (meaning_of files symbols) (plain_symbols (take i all)) (x.symbol ∷ []))
