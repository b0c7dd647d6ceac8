-- What a parse by `clap` of a form's command gives, for formed words.
use Rattle.std.proofs.Common.{◌≡◌, ◌∙◌, ◌≤◌, ◌&&◌, ◌||◌, ℕ, Bool, cond, true, false, not, suc, refl, ap, ap₂, List, [], ◌∷◌, ◌++◌, map, length, None, is_some}
use Rattle.std.specs.List.{fold, list_all, list_any}
use Rattle.std.specs.Str.{bytes_eq}
use Rattle.std.specs.Prelude.{count_by}
use Rattle.nv_values.specs.Names.{Text}
use Rattle.command_forms.specs.Word.{is_formed}
use Rattle.command_forms.specs.Given.{Form, Given, given_in, given_value}
use Rattle.command_forms.proofs.FormRules.{app_built, built_option, built_rules, built_shape, built_word, built_words}
use Rattle.command_forms.specs.Builder.{form_app, option_rule, word_rules}
use Rattle.command_forms.proofs.FormWalk.{Agrees, agree, all_fault, at, end_rows, or_else-nil, rows_of_given}
use Rattle.clap.specs.Kinds.{or_else}
use Rattle.clap.specs.Walk.{Row, Rule, finished, first_of, has_row, nothing_held, settled, walk, with_default, idle, rows_after, walk_from, is_early_multiple}
use Rattle.clap.specs.Faults.{check_fault, defaults_fault, fault_of, is_simple_and_free, settle_fault, walk_fault, built_fault, is_free_app}
use Rattle.clap.specs.Simple.{App, is_buildable, is_ready, is_ready_leaf, is_simple, matches_of, names_of}
use Rattle.clap.specs.Takes.{is_given}
use Rattle.clap.proofs.FaultLemmas.{leaf_fault}

-- ---- the end of a parse

-- a test that each argument of a form passes
each_passes : (p : Rule → Bool) → ((n : Text) → p (built_option n) ≡ true) → ((i : ℕ) (n : Text) → p (built_word i n) ≡ true)
    → (os ns : List Text) (i : ℕ) → list_all p (map built_option os ++ built_words i ns) ≡ true
each_passes p o w [] [] i = refl
each_passes p o w [] (n ∷ ns) i = simp (w i n) (each_passes p o w [] ns (suc i))
each_passes p o w (x ∷ os) ns i = simp (o x) (each_passes p o w os ns i)

none_passes : (p : Rule → Bool) → ((n : Text) → p (built_option n) ≡ false) → ((i : ℕ) (n : Text) → p (built_word i n) ≡ false)
    → (os ns : List Text) (i : ℕ) → list_any p (map built_option os ++ built_words i ns) ≡ false
none_passes p o w [] [] i = refl
none_passes p o w [] (n ∷ ns) i = simp (w i n) (none_passes p o w [] ns (suc i))
none_passes p o w (x ∷ os) ns i = simp (o x) (none_passes p o w os ns i)

added_simple : (os ns : List Text) (i : ℕ) → list_all (λ (a : Rule). a.is_simple) (map option_rule os ++ word_rules i ns) ≡ true
added_simple [] [] i = refl
added_simple [] (n ∷ ns) i = added_simple [] ns (suc i)
added_simple (o ∷ os) ns i = added_simple os ns i

either : {A : Type 0} (b : Bool) (a : A) → cond b a a ≡ a
either true a = refl
either false a = refl

or_yes : (b : Bool) → (b || true) ≡ true
or_yes true = refl
or_yes false = refl

-- no argument has a default
no_defaults : (os ns : List Text) (i : ℕ) (rows : List Row) → defaults_fault rows (map built_option os ++ built_words i ns) ≡ []
unfolding defaults_fault
no_defaults [] [] i rows = refl
no_defaults [] (n ∷ ns) i rows = simp (or_yes, either {A = List Row}) (no_defaults [] ns (suc i) rows)
no_defaults (o ∷ os) ns i rows = simp (or_yes, either {A = List Row}) (no_defaults os ns i rows)

stays : (os ns : List Text) (i : ℕ) (rows : List Row) → fold with_default rows (map built_option os ++ built_words i ns) ≡ rows
stays [] [] i rows = refl
stays [] (n ∷ ns) i rows = ap (λ r. fold with_default r (built_words (suc i) ns)) (either (has_row n rows) rows) ∙ stays [] ns (suc i) rows
stays (o ∷ os) ns i rows = ap (λ r. fold with_default r (map built_option os ++ built_words i ns)) (either (has_row o rows) rows) ∙ stays os ns i rows

checks_pass : (form : Form) (rows : List Row) → check_fault (built_shape (built_rules form)) rows false ≡ []
checks_pass form rows =
    let none : list_any (λ (a : Rule). a.required && not (is_given a.id rows)) (built_rules form) ≡ false =
    none_passes (λ a. a.required && not (is_given a.id rows)) (λ n. refl) (λ i n. refl) form.options form.words 1 in
    simp none

buildable : (form : Form) → is_buildable (form_app form) ≡ true
buildable form = simp (added_simple form.options form.words 1)

ready : (form : Form) → is_ready (built_shape (built_rules form)) ≡ true
ready form =
    let all : list_all (λ (a : Rule). a.is_simple) (built_rules form) ≡ true = each_passes (λ a. a.is_simple) (λ n. refl) (λ i n. refl) form.options form.words 1 in
    let none = none_passes (is_early_multiple (count_by (λ (a : Rule). is_some a.index) (built_rules form))) (λ n. refl) (λ i n. refl) form.options form.words 1 in
    simp (all, none)

pub form_is_simple : (form : Form) → is_simple (form_app form) ≡ true
form_is_simple form = ap₂ (λ x (a : App). x && (is_ready a.top && list_all is_ready_leaf a.subs)) (buildable form) (app_built form) ∙ simp (ready form)

pub form_is_free : (form : Form) → is_simple_and_free (form_app form) ≡ true
form_is_free form =
    let free : list_all (λ (a : Rule). a.is_free) (built_rules form) ≡ true = each_passes (λ a. a.is_free) (λ n. refl) (λ i n. refl) form.options form.words 1 in
    ap₂ (λ x (a : App). x && is_free_app a) (form_is_simple form) (app_built form) ∙ simp free

fault_is : (form : Form) (words : List Text) → fault_of (form_app form) words ≡ all_fault (built_rules form) (at [] None idle 1) words
fault_is form words =
    let c = built_rules form in
    let end = (walk c [] nothing_held words).held in
    ap (λ a. built_fault a nothing_held words) (app_built form)
    ∙ leaf_fault (record { top = built_shape c; subs = [] }) nothing_held words refl
    ∙ ap (or_else (walk_fault (built_shape c) [] (walk_from nothing_held) words))
    (ap (or_else (settle_fault c false end)) (ap₂ or_else (no_defaults form.options form.words 1 (settled c end).rows) (checks_pass form (finished c end)))
    ∙ or_else-nil (settle_fault c false end))

rows_are : (form : Form) (words : List Text) → matches_of (form_app form) words ≡ end_rows (built_rules form) (at [] None idle 1) words
rows_are form words =
    ap (λ (a : App). rows_after a.top.rules (names_of a) words) (app_built form)
    ∙ stays form.options form.words 1 (end_rows (built_rules form) (at [] None idle 1) words)

-- where the definition takes the words, so does `clap`, with its values, and else it refuses them
pub clap_agrees : (form : Form) → length form.words ≤ 8 → (words : List Text) → list_all is_formed words ≡ true
    → Agrees (given_in form words) (fault_of (form_app form) words) (matches_of (form_app form) words)
clap_agrees form few words formed = rw (fault_is form words, rows_are form words) ((agree form few words formed).0 [] 0 [] None refl refl)

-- ---- the values

pub value_of_row : (given : List Given) (name : Text) → first_of name (rows_of_given given) ≡ given_value name given
value_of_row [] name = refl
value_of_row (g ∷ given) name = go (bytes_eq g.name name) refl (value_of_row given name)
  where
    go : (b : Bool) → bytes_eq g.name name ≡ b → first_of name (rows_of_given given) ≡ given_value name given → first_of name (rows_of_given (g ∷ given)) ≡ given_value name (g ∷ given)
    go true e rest = simp e
    go false e rest = simp e rest
