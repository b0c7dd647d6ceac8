-- Symbols and the numbers of their names.
use Rattle.std.proofs.Common.{◌≡◌, ℕ, ◌+◌, ◌-◌, ◌<◌, ◌≤◌, Bool, true, false, cond, List, [], ◌∷◌, ◌++◌, length, drop, take, get_or, map, slice_get, Some, refl, sym, ap, ◌∙◌, subst, arith, append_assoc}
use Rattle.std.specs.List.{All, AllZip}
use Rattle.std.proofs.lemmas.Bool.{cases_Bool, eqb-true}
use Rattle.std.proofs.lemmas.List.{drop-drop, drop_more, map-append, take_more}
use Rattle.std.proofs.lemmas.List.Elements.{All-push, All-same}
use Rattle.obj_linker.specs.declared.letter.Letter.{Letter}
use Rattle.obj_linker.specs.declared.name.Name.{Name}
use Rattle.obj_linker.specs.declared.named_symbol.NamedSymbol.{NamedSymbol}
use Rattle.obj_linker.specs.declared.stretch.Stretch.{Stretch}
use Rattle.obj_reader.specs.declared.symbol.Symbol.{Symbol}
use Rattle.obj_reader.specs.Symbols.{is_local}
use Rattle.obj_linker.specs.Names.{name_of_symbol, object_bytes, text_in_file}
use Rattle.obj_linker.specs.Naming.{IsNamed, IsStretch, plain_symbols, shared_name}
use Rattle.obj_linker.specs.Texts.{AreApart, IsNumber, Keeps, texts_within, up_to_zero}
use Rattle.obj_linker.proofs.TextLemmas.{at_place}

-- ---- stretches

-- the numbers of the places of some bytes of an object are a stretch
pub stretch_is : (files : List (List ℕ)) (letters : List Letter) (s : Stretch) (bytes rest : List ℕ)
    → rest ≡ drop s.first (object_bytes files s.object) → bytes ++ drop (length bytes) rest ≡ rest
    → up_to_zero (drop (length bytes) rest) ≡ [] → AllZip (IsNumber letters) s.numbers.items (texts_within bytes)
    → IsStretch files letters s
stretch_is files letters s bytes rest is whole ended are i n at =
    let file = object_bytes files s.object in
    let here = at_place letters s.numbers.items bytes (drop (length bytes) rest) are ended i n at in
    let place : drop i (bytes ++ drop (length bytes) rest) ≡ drop (s.first + i) file =
    ap (drop i) (whole ∙ is) ∙ drop-drop i s.first file in
    subst (λ l. IsNumber letters n (up_to_zero l)) place here

-- the number at a place of an object
pub in_stretch : (files : List (List ℕ)) (letters : List Letter) (s : Stretch) (object place n : ℕ) → IsStretch files letters s
    → object ≡ s.object → s.first ≤ place → slice_get s.numbers.items (place - s.first) ≡ Some n
    → IsNumber letters n (text_in_file (object_bytes files object) place)
in_stretch files letters s object place n is same le at =
    let sum : s.first + (place - s.first) ≡ place = omega (arith, le) in
    subst (λ p. IsNumber letters n (text_in_file (object_bytes files object) p)) sum
    (subst (λ o. IsNumber letters n (text_in_file (object_bytes files o) (s.first + (place - s.first)))) (sym same)
    (is (place - s.first) n at))

pub no_stretch : (files : List (List ℕ)) (letters : List Letter) (s : Stretch) → s.numbers.items ≡ [] → IsStretch files letters s
no_stretch files letters s none i n at =
    let no : slice_get [] i ≡ Some n = ap (λ l. slice_get l i) (sym none) ∙ at in
    absurd (cc)

-- ---- names

pub local_name : (files : List (List ℕ)) (letters : List Letter) (s : Symbol) → is_local s ≡ true → IsNumber letters 0 (shared_name files s)
local_name files letters s here =
    let none : shared_name files s ≡ [] = ap (λ t. cond t [] (name_of_symbol files s)) here in
    subst (λ t. IsNumber letters 0 t) (sym none) refl

pub named_is : (files : List (List ℕ)) (s : Symbol) → is_local s ≡ false → shared_name files s ≡ name_of_symbol files s
named_is files s away = ap (λ t. cond t [] (name_of_symbol files s)) away

pub name_there : (files : List (List ℕ)) (letters : List Letter) (s : Symbol) (n : ℕ)
    → IsNumber letters n (text_in_file (object_bytes files s.object) (s.strings + s.st_name))
    → IsNumber letters n (name_of_symbol files s)
unfolding name_of_symbol
name_there files letters s n h = h

pub shared_there : (files : List (List ℕ)) (letters : List Letter) (s : Symbol) (n : ℕ) → is_local s ≡ false
    → IsNumber letters n (name_of_symbol files s) → IsNumber letters n (shared_name files s)
shared_there files letters s n away h = subst (λ t. IsNumber letters n t) (sym (named_is files s away)) h

-- ---- one symbol more

pub named_more : (files : List (List ℕ)) (old new : List Letter) (xs ys : List NamedSymbol) (x : NamedSymbol) → Keeps old new
    → ys ≡ xs ++ x ∷ [] → All (IsNamed files old) xs → IsNamed files new x → All (IsNamed files new) ys
named_more files old new xs ys x keeps made all here =
    All-same (IsNamed files new) ys (xs ++ x ∷ []) made
    (All-push (IsNamed files new) xs x (λ k d lt. keeps (get_or xs k d).name (shared_name files (get_or xs k d).symbol) (all k d lt)) here)

pub plain_push : (xs ys : List NamedSymbol) (x : NamedSymbol) (rest later symbols : List Symbol)
    → ys ≡ xs ++ x ∷ [] → rest ≡ x.symbol ∷ later → plain_symbols xs ++ rest ≡ symbols → plain_symbols ys ++ later ≡ symbols
plain_push xs ys x rest later symbols made first was =
    ap (λ l. plain_symbols l ++ later) made ∙ ap (λ l. l ++ later) (map-append (λ (s : NamedSymbol). s.symbol) xs (x ∷ []))
    ∙ append_assoc (plain_symbols xs) (x.symbol ∷ []) later ∙ ap (λ l. plain_symbols xs ++ l) (sym first) ∙ was

pub plain_more : (all : List NamedSymbol) (i : ℕ) (d : NamedSymbol) → i < length all
    → plain_symbols (take (i + 1) all) ≡ plain_symbols (take i all) ++ (get_or all i d).symbol ∷ []
plain_more all i d lt =
    ap plain_symbols (take_more all i d lt) ∙ map-append (λ (s : NamedSymbol). s.symbol) (take i all) (get_or all i d ∷ [])

-- ---- the first and the last symbol

pub none_named : (files : List (List ℕ)) (letters : List Letter) (xs : List NamedSymbol) → xs ≡ [] → All (IsNamed files letters) xs
none_named files letters xs none k d lt = let no : ⊥ = omega (arith, ap length none, lt) in absurd no
