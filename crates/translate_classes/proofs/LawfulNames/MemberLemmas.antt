-- The names of members, tried one by one.
use Rattle.std.proofs.Common.{◌≡◌, ℕ, zero, suc, ◌+◌, ◌<◌, ◌≤◌, Bool, true, refl, sym, subst, inl, inr, arith, codes}
use Rattle.std.specs.Prelude.{◌&&◌}
use Rattle.std.specs.List.{list_all, range_with_len}
use Rattle.std.proofs.lemmas.Bool.{and_parts, cases_eq}
use Rattle.std.specs.Fmt.{digits}
use Rattle.class_definition.specs.NameGrammar.{after_field, after_parameters}
use Rattle.class_definition.specs.Named.{is_own_descriptor}
use Rattle.emit_layout.specs.Fields.{field_name, field_descriptor}
use Rattle.emit_layout.specs.Helpers.{helper_name, helper_descriptor}
use Rattle.emit_classes.specs.declared.member_kind.MemberKind.TheVariants.{Method}
use Rattle.emit_classes.specs.Lawful.{is_descriptor}
use Rattle.translate_classes.specs.Making.{nothing}
use Rattle.translate_classes.specs.Called.{pages_descriptor}
use Rattle.translate_classes.specs.DataNaming.{words_descriptor}
use Rattle.translate_classes.specs.Room.{can_name_field, can_name_method, is_own_method}

one-of : (test : ℕ → Bool) (a n k : ℕ) → list_all test (range_with_len a n) ≡ true → a ≤ k → k < a + n → test k ≡ true
one-of test a zero k all from below = absurd (omega (arith, from, below))
one-of test a (suc n) k all from below =
    let parts = and_parts (test a) (list_all test (range_with_len (a + 1) n)) all in
    elim (cases_eq k a) [
      | inl same ↦ subst (λ x. test x ≡ true) (sym same) parts.0
      | inr other ↦ one-of test (a + 1) n k parts.1 (omega (arith, from, other)) (omega (arith, below))
    ]

-- ---- fields and helpers

abbrev is_field_named : ℕ → Bool
is_field_named k = can_name_field (field_name k) (field_descriptor k)

fields-tried : list_all is_field_named (range_with_len 0 39) ≡ true
unfolding after_field digits
fields-tried = refl

pub field-named : (k : ℕ) → k < 39 → can_name_field (field_name k) (field_descriptor k) ≡ true
field-named k h = one-of is_field_named 0 39 k fields-tried (omega arith) (omega (arith, h))

abbrev is_helper_named : ℕ → Bool
is_helper_named k =
    can_name_method (helper_name k) (helper_descriptor k) && is_own_method (helper_name k) (helper_descriptor k)

helpers-tried : list_all is_helper_named (range_with_len 0 20) ≡ true
unfolding after_field after_parameters
helpers-tried = refl

helper-tried : (k : ℕ) → k < 20 → is_helper_named k ≡ true
helper-tried k h = one-of is_helper_named 0 20 k helpers-tried (omega arith) (omega (arith, h))

pub helper-named : (k : ℕ) → k < 20 → can_name_method (helper_name k) (helper_descriptor k) ≡ true
helper-named k h = (and_parts (can_name_method (helper_name k) (helper_descriptor k)) _ (helper-tried k h)).0

pub helper-own : (k : ℕ) → k < 20 → is_own_method (helper_name k) (helper_descriptor k) ≡ true
helper-own k h = (and_parts (can_name_method (helper_name k) (helper_descriptor k)) _ (helper-tried k h)).1

-- ---- other methods

-- a method without arguments that gives nothing, and those of the classes
pub nothing-named : is_descriptor Method nothing ≡ true
unfolding after_field after_parameters
nothing-named = refl

pub nothing-own : is_own_descriptor nothing ≡ true
unfolding after_field after_parameters
nothing-own = refl

pub run-named : can_name_method (codes "run") nothing ≡ true
unfolding after_field after_parameters
run-named = refl

pub run-own : is_own_method (codes "run") nothing ≡ true
unfolding after_field after_parameters
run-own = refl

pub fill-named : can_name_method (codes "fill") nothing ≡ true
unfolding after_field after_parameters
fill-named = refl

pub fill-own : is_own_method (codes "fill") nothing ≡ true
unfolding after_field after_parameters
fill-own = refl

pub choose-named : can_name_method (codes "choose") nothing ≡ true
unfolding after_field after_parameters
choose-named = refl

pub choose-own : is_own_method (codes "choose") nothing ≡ true
unfolding after_field after_parameters
choose-own = refl

pub missing-named : can_name_method (codes "missing") nothing ≡ true
unfolding after_field after_parameters
missing-named = refl

pub missing-own : is_own_method (codes "missing") nothing ≡ true
unfolding after_field after_parameters
missing-own = refl

pub pages-named : can_name_method (codes "pages") pages_descriptor ≡ true
unfolding after_field after_parameters
pages-named = refl

pub pages-own : is_own_method (codes "pages") pages_descriptor ≡ true
unfolding after_field after_parameters
pages-own = refl

pub words-named : can_name_method (codes "words") words_descriptor ≡ true
unfolding after_field after_parameters
words-named = refl

pub words-own : is_own_method (codes "words") words_descriptor ≡ true
unfolding after_field after_parameters
words-own = refl

-- ---- the host and strings

pub call-named : can_name_method (codes "call") (codes "([[I[[IIIIII)I") ≡ true
unfolding after_field after_parameters
call-named = refl

pub fault-named : can_name_method (codes "fault") (codes "(III)V") ≡ true
unfolding after_field after_parameters
fault-named = refl

pub length-named : can_name_method (codes "length") (codes "()I") ≡ true
unfolding after_field after_parameters
length-named = refl

pub character-named : can_name_method (codes "charAt") (codes "(I)C") ≡ true
unfolding after_field after_parameters
character-named = refl
