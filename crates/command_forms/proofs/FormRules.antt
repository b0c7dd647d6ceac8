-- The rules that `clap` reads of a command of a form, and what a search in them finds.
use Rattle.std.proofs.Common.{◌≡◌, ◌+◌, ℕ, Bool, cond, true, false, zero, suc, refl, sym, ap, arith, List, [], ◌∷◌, ◌++◌, map, Option, Some, None, option_map, inl, inr, ⊎_elim, ◌⊎◌, true≢false}
use Rattle.std.specs.Prelude.{slice_get, ◌==◌}
use Rattle.std.specs.Str.{bytes_eq}
use Rattle.std.proofs.lemmas.Slice.Eq.{bytes_eq-Decides}
use Rattle.std.proofs.lemmas.Bool.{eq-eqb}
use Rattle.std.proofs.lemmas.Bool.Decides.{eqb_tells}
use Rattle.nv_values.specs.Names.{Text}
use Rattle.command_forms.specs.Given.{Form, is_among_texts}
use Rattle.command_forms.specs.Builder.{form_app, form_shape, option_rule, word_rules}
use Rattle.clap.specs.Walk.{Rule, arg_by_id, arg_by_index, arg_by_long}
use Rattle.clap.specs.Simple.{Shape, built, filled_from, new_rule}
use Rattle.clap.specs.declared.builder.action.ArgAction.TheVariants.{Set}
use Rattle.clap.specs.declared.builder.value_parser.ValueParser.TheVariants as vp

-- the rules, built
abbrev pub value_rule : Text → Option Text → Option ℕ → Rule
value_rule n long index = record (new_rule n) {
  long = long;
  index = index;
  action = Some Set;
  range = Some (record { start_inclusive = 1; end_inclusive = 1 });
  parser = Some vp.String;
}

abbrev pub built_option : Text → Rule
built_option n = value_rule n (Some n) None

abbrev pub built_word : ℕ → Text → Rule
built_word i n = value_rule n None (Some i)

abbrev pub built_words : ℕ → List Text → List Rule
built_words i [] = []
built_words i (n ∷ ns) = built_word i n ∷ built_words (suc i) ns

abbrev pub built_rules : Form → List Rule
built_rules form = map built_option form.options ++ built_words 1 form.words

abbrev pub built_shape : List Rule → Shape
built_shape rules = record (form_shape rules) { disable_help_subcommand = true; is_built = true }

words_filled : (i : ℕ) (ns : List Text) → filled_from 1 (word_rules i ns) ≡ built_words i ns
words_filled i [] = refl
words_filled i (n ∷ ns) = ap (λ rs. built_word i n ∷ rs) (words_filled (suc i) ns)

rules_filled : (os ns : List Text) → filled_from 1 (map option_rule os ++ word_rules 1 ns) ≡ map built_option os ++ built_words 1 ns
rules_filled [] ns = words_filled 1 ns
rules_filled (o ∷ os) ns = ap (λ rs. built_option o ∷ rs) (rules_filled os ns)

pub app_built : (form : Form) → built (form_app form) ≡ record { top = built_shape (built_rules form); subs = [] }
app_built form = ap (λ rs. record { top = built_shape rs; subs = [] }) (rules_filled form.options form.words)

-- ---- searches

pub same_text : (a b : Text) → bytes_eq a b ≡ true → a ≡ b
same_text a b e = (bytes_eq-Decides a b).0 e

pub text_is_itself : (a : Text) → bytes_eq a a ≡ true
text_is_itself a = (bytes_eq-Decides a a).1 refl

abbrev pub found_long : Bool → Text → Option Rule
found_long known n = cond known (Some (built_option n)) None

no_word_is_long : (i : ℕ) (ns : List Text) (n : Text) → arg_by_long (built_words i ns) n ≡ None
no_word_is_long i [] n = refl
no_word_is_long i (x ∷ ns) n = no_word_is_long (suc i) ns n

long_in : (os ns : List Text) (n : Text) → arg_by_long (map built_option os ++ built_words 1 ns) n ≡ found_long (is_among_texts os n) n
long_in [] ns n = no_word_is_long 1 ns n
long_in (o ∷ os) ns n = go (bytes_eq o n) refl (long_in os ns n)
  where
    go : (b : Bool) → bytes_eq o n ≡ b → arg_by_long (map built_option os ++ built_words 1 ns) n ≡ found_long (is_among_texts os n) n
        → arg_by_long (map built_option (o ∷ os) ++ built_words 1 ns) n ≡ found_long (is_among_texts (o ∷ os) n) n
    go true e rest = simp e (ap (λ x. Some (built_option x)) (same_text o n e))
    go false e rest = simp e rest

pub by_long : (form : Form) (n : Text) → arg_by_long (built_rules form) n ≡ found_long (is_among_texts form.options n) n
by_long form n = long_in form.options form.words n

-- the rule of an id, of which only the name matters
pub record FindsId (rules : List Rule) (n : Text) : Type 0 where
  pub long : Option Text
  pub index : Option ℕ
  pub found : arg_by_id rules n ≡ Some (value_rule n long index)

id_of_word : (i : ℕ) (ns : List Text) (n : Text) → is_among_texts ns n ≡ true → FindsId (built_words i ns) n
id_of_word i [] n known = absurd (true≢false (sym known))
id_of_word i (x ∷ ns) n known = go (bytes_eq x n) refl (id_of_word (suc i) ns n)
  where
    go : (b : Bool) → bytes_eq x n ≡ b → (is_among_texts ns n ≡ true → FindsId (built_words (suc i) ns) n) → FindsId (built_words i (x ∷ ns)) n
    go true e more = record { long = None; index = Some i; found = simp e (ap (λ t. Some (built_word i t)) (same_text x n e)) }
    go false e more =
        let rest : is_among_texts ns n ≡ true = simp e at known in
        let f = more rest in
        record { long = f.long; index = f.index; found = simp e f.found }

id_in : (os ns : List Text) (n : Text) → (is_among_texts os n ≡ true) ⊎ (is_among_texts ns n ≡ true) → FindsId (map built_option os ++ built_words 1 ns) n
id_in [] ns n (inl known) = absurd (true≢false (sym known))
id_in [] ns n (inr known) = id_of_word 1 ns n known
id_in (o ∷ os) ns n known = go (bytes_eq o n) refl (id_in os ns n)
  where
    go : (b : Bool) → bytes_eq o n ≡ b → ((is_among_texts os n ≡ true) ⊎ (is_among_texts ns n ≡ true) → FindsId (map built_option os ++ built_words 1 ns) n) → FindsId (map built_option (o ∷ os) ++ built_words 1 ns) n
    go true e more = record { long = Some o; index = None; found = simp e (ap (λ t. Some (value_rule t (Some o) None)) (same_text o n e)) }
    go false e more =
        let f = more (⊎_elim {C = (is_among_texts os n ≡ true) ⊎ (is_among_texts ns n ≡ true)} (λ h. inl (simp e at h)) (λ h. inr h) known) in
        record { long = f.long; index = f.index; found = simp e f.found }

pub by_id : (form : Form) (n : Text) → (is_among_texts form.options n ≡ true) ⊎ (is_among_texts form.words n ≡ true) → FindsId (built_rules form) n
by_id form n known = id_in form.options form.words n known

pub differs : (a b : ℕ) → (a ≡ b → ⊥) → (a == b) ≡ false
differs a b ne = ⊎_elim (λ same. absurd (ne same.1)) (λ other. other.0) (eqb_tells a b)

index_of_word : (i j p : ℕ) (ns : List Text) → p ≡ i + j → arg_by_index (built_words i ns) p ≡ option_map (built_word p) (slice_get ns j)
index_of_word i j p [] at = refl
index_of_word i zero p (n ∷ ns) at =
    let same : i ≡ p = omega arith in
    let e : (i == p) ≡ true = eq-eqb i p same in
    rw e (ap (λ k. Some (built_word k n)) same)
index_of_word i (suc j) p (n ∷ ns) at =
    let e : (i == p) ≡ false = differs i p (omega arith) in
    rw e (index_of_word (suc i) j p ns (omega arith))

index_in : (os ns : List Text) (j : ℕ) → arg_by_index (map built_option os ++ built_words 1 ns) (j + 1) ≡ option_map (built_word (j + 1)) (slice_get ns j)
index_in [] ns j = index_of_word 1 j (j + 1) ns (omega arith)
index_in (o ∷ os) ns j = index_in os ns j

pub by_index : (form : Form) (j : ℕ) → arg_by_index (built_rules form) (j + 1) ≡ option_map (built_word (j + 1)) (slice_get form.words j)
by_index form j = index_in form.options form.words j
