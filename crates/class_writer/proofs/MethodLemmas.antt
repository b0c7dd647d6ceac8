-- The pieces of a method, one after the other.
use Rattle.std.proofs.Common.{◌≡◌, ◌≢◌, ℕ, ◌+◌, true, List, [], ◌∷◌, ◌++◌, length, refl, sym, ap, ◌∙◌, append_assoc, subst, arith}
use Rattle.std.specs.Prelude.{flat_map}
use Rattle.std.specs.List.{list_all}
use Rattle.std.proofs.lemmas.Bool.{and_parts}
use Rattle.std.proofs.lemmas.List.{append-nil}
use Rattle.class_definition.specs.declared.method.Method.{Method}
use Rattle.class_definition.specs.Tables.{table_size}
use Rattle.class_writer.specs.Written.{halves, word, code_bytes, method_bytes, has_short_code, table_bytes, framed_method_bytes, framed_methods_bytes, is_short_table}

pub code_written : (m : Method) (size : ℕ) (code old a b c d new : List ℕ) → code ≡ m.code
    → a ≡ old ++ halves (9 ∷ m.name ∷ m.desc ∷ 1 ∷ m.attr ∷ []) → b ≡ a ++ word size → c ≡ b ++ halves (m.stack ∷ m.locals ∷ [])
    → d ≡ c ++ word (length code) → new ≡ d ++ code → new ≡ old ++ code_bytes m size
unfolding code_bytes
code_written m size code old a b c d new is one two three four five = rw (five, four, three, two, one, is) (simp append_assoc refl)

pub method_written : (m : Method) (old a new : List ℕ) → a ≡ old ++ code_bytes m (length m.code + 12) → new ≡ a ++ halves (0 ∷ 0 ∷ []) → new ≡ old ++ method_bytes m
unfolding method_bytes
method_written m old a new one two = rw (two, one) (simp append_assoc refl)

pub framed_written : (name : ℕ) (m : Method) (table old a b new : List ℕ) → a ≡ old ++ code_bytes m (length m.code + 12 + table_size table) → b ≡ a ++ halves (0 ∷ []) → new ≡ b ++ table_bytes name table → new ≡ old ++ framed_method_bytes name m table
unfolding framed_method_bytes
framed_written name m table old a b new one two three = rw (three, two, one) (simp append_assoc refl)

pub table_written : (name : ℕ) (table old a b new : List ℕ) → table ≢ [] → a ≡ old ++ halves (1 ∷ name ∷ []) → b ≡ a ++ word (length table) → new ≡ b ++ table → new ≡ old ++ table_bytes name table
table_written name [] old a b new some one two three = absurd (some refl)
table_written name (x ∷ table) old a b new some one two three = rw (three, two, one) (simp append_assoc refl)

-- methods that are left, with their tables
pub record AreLeft (name : ℕ) (all old : List ℕ) (methods : List Method) (tables : List (List ℕ)) : Type 0 where
  pub codes : list_all has_short_code methods ≡ true
  pub short : list_all is_short_table tables ≡ true
  pub written : old ++ framed_methods_bytes name methods tables ≡ all

pub one_framed : (name : ℕ) (all old new : List ℕ) (rest methods : List Method) (m : Method) (others tables : List (List ℕ)) (t : List ℕ) → rest ≡ m ∷ methods → others ≡ t ∷ tables → new ≡ old ++ framed_method_bytes name m t → AreLeft name all old rest others → AreLeft name all new methods tables
one_framed name all old new rest methods m others tables t first second made l = record {
  codes = (and_parts (has_short_code m) (list_all has_short_code methods) (ap (list_all has_short_code) (sym first) ∙ l.codes)).1;
  short = (and_parts (is_short_table t) (list_all is_short_table tables) (ap (list_all is_short_table) (sym second) ∙ l.short)).1;
  written =
      ap (λ x. x ++ framed_methods_bytes name methods tables) made
      ∙ (append_assoc old (framed_method_bytes name m t) (framed_methods_bytes name methods tables)
      ∙ (ap (λ x. old ++ framed_methods_bytes name x (t ∷ tables)) (sym first) ∙ (ap (λ x. old ++ framed_methods_bytes name rest x) (sym second) ∙ l.written)));
}

pub no_methods : (name : ℕ) (all old : List ℕ) (methods : List Method) (tables : List (List ℕ)) → length methods ≡ 0 → AreLeft name all old methods tables → old ≡ all
no_methods name all old [] tables e l = sym (append-nil old) ∙ l.written
no_methods name all old (m ∷ methods) tables e l = absurd (omega (arith, e))

pub no_tables : (name : ℕ) (all old : List ℕ) (methods : List Method) (tables : List (List ℕ)) → length tables ≡ 0 → AreLeft name all old methods tables → old ≡ all
no_tables name all old [] [] e l = sym (append-nil old) ∙ l.written
no_tables name all old (m ∷ methods) [] e l = sym (append-nil old) ∙ l.written
no_tables name all old methods (t ∷ tables) e l = absurd (omega (arith, e))

pub one_more : (all old new : List ℕ) (rest others : List Method) (m : Method) → rest ≡ m ∷ others → new ≡ old ++ method_bytes m
    → list_all has_short_code rest ≡ true → old ++ flat_map method_bytes rest ≡ all
    → (list_all has_short_code others ≡ true) × (new ++ flat_map method_bytes others ≡ all)
one_more all old new rest others m first made short was =
    let again : old ++ flat_map method_bytes (m ∷ others) ≡ all = subst (λ (ms : List Method). old ++ flat_map method_bytes ms ≡ all) first was in
    let each : list_all has_short_code (m ∷ others) ≡ true = subst (λ (ms : List Method). list_all has_short_code ms ≡ true) first short in
    ((and_parts (has_short_code m) (list_all has_short_code others) each).1, rw made (rw append_assoc again))
