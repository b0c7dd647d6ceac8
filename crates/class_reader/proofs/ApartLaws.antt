-- Methods and their tables, taken apart from the last one to the first.
use Rattle.std.proofs.Common.{◌≡◌, ℕ, List, [], ◌∷◌, ◌++◌, refl, sym, ap, ◌∙◌, append_assoc}
use Rattle.std.specs.Prelude.{map, reverse}
use Rattle.std.proofs.lemmas.List.{append-nil, reverse-append}
use Rattle.class_definition.specs.declared.method.Method.{Method}
use Rattle.class_definition.specs.FramedClassFile.{method_without_table, table_of}

pub record AreApart (framed rest : List (Method × List ℕ)) (methods : List Method) (tables : List (List ℕ)) : Type 0 where
  pub behind : List (Method × List ℕ)
  pub whole : framed ≡ rest ++ behind
  pub methods_are : reverse methods ≡ map method_without_table behind
  pub tables_are : reverse tables ≡ map table_of behind

pub none-apart : (framed : List (Method × List ℕ)) → AreApart framed framed [] []
none-apart framed = record { behind = []; whole = sym (append-nil framed); methods_are = refl; tables_are = refl }

pub one-apart : (framed rest before : List (Method × List ℕ)) (methods : List Method) (tables : List (List ℕ)) (m : Method) (t : List ℕ) → before ≡ rest ++ (m, t) ∷ [] → AreApart framed before methods tables → AreApart framed rest (methods ++ m ∷ []) (tables ++ t ∷ [])
one-apart framed rest before methods tables m t e a = record {
  behind = (m, t) ∷ a.behind;
  whole = a.whole ∙ (ap (λ x. x ++ a.behind) e ∙ append_assoc rest ((m, t) ∷ []) a.behind);
  methods_are = reverse-append methods (m ∷ []) ∙ ap (λ x. m ∷ x) a.methods_are;
  tables_are = reverse-append tables (t ∷ []) ∙ ap (λ (x : List (List ℕ)). t ∷ x) a.tables_are;
}

module _ (framed rest : List (Method × List ℕ)) (methods : List Method) (tables : List (List ℕ)) (none : rest ≡ []) (a : AreApart framed rest methods tables) where
  whole : framed ≡ a.behind
  whole = a.whole ∙ ap (λ x. x ++ a.behind) none

  pub methods-apart : reverse methods ≡ map method_without_table framed
  methods-apart = a.methods_are ∙ ap (map method_without_table) (sym whole)

  pub tables-apart : reverse tables ≡ map table_of framed
  tables-apart = a.tables_are ∙ ap (map table_of) (sym whole)
