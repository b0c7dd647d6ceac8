-- What is written of a class with its tables is its spelling.
use Rattle.std.proofs.Common.{◌≡◌, ◌≢◌, ℕ, zero, suc, ◌+◌, ◌-◌, ◌^◌, ◌<◌, ◌≤◌, Bool, true, false, eqb, List, [], ◌∷◌, ◌++◌, length, get_or, Option, Some, None, refl, sym, ap, subst, ◌∙◌, append_assoc, arith}
use Rattle.std.specs.Prelude.{flat_map, map, if◌then◌else◌, option_map, IsSome, is_some, unwrap_or}
use Rattle.std.specs.List.{list_all}
use Rattle.std.specs.Int.{w16, w32}
use Rattle.std.proofs.lemmas.Bool.{and_parts, and_from, eq-eqb, ne_eqb, lt-ltb, false≢true}
use Rattle.std.proofs.lemmas.List.{append-nil}
use Rattle.std.proofs.lemmas.Option.{same_Some, none-some}
use Rattle.class_definition.specs.Kinds.{cut, attribute}
use Rattle.class_definition.specs.Format.{Format, spelled_by, chain_spelling, behind, both, raw, exactly, counted}
use Rattle.class_definition.specs.declared.entry.Entry.{Entry}
use Rattle.class_definition.specs.PoolEntries.{slot, is_long_entry}
use Rattle.class_definition.specs.PoolChecks.{pool}
use Rattle.class_definition.specs.declared.class.Class.{Class}
use Rattle.class_definition.specs.declared.method.Method.{Method}
use Rattle.class_definition.specs.ClassFile as files
use Rattle.class_definition.specs.ClassFile.{class_slots}
use Rattle.class_definition.specs.Named.{slot_of}
use Rattle.class_definition.specs.Members.{attributes, field}
use Rattle.class_definition.specs.declared.framed_class.FramedClass.{FramedClass}
use Rattle.class_definition.specs.Tables.{table_slot, table_name_fault, table_name, without_table, some_table, table_attribute, table_size, framed_code_attribute, framed_method}
use Rattle.class_definition.specs.FramedClassFile.{framed_preamble, members_with_tables, FramedClassParts, with_method, methods_with_tables, framed_class_parts, framed_class, IsTabled, SpellsFramed}
use Rattle.class_definition_laws.proofs.TabledLaws.{tabled-fits}
use Rattle.class_writer.specs.Written.{halves, word, entry_bytes, field_bytes, code_bytes, front_bytes, table_bytes, framed_method_bytes, framed_methods_bytes, name_slot, is_short_table, framed_class_bytes}
use Rattle.class_writer.proofs.Spelled.{spelling_of, entries_spelled, pool_fits, all_spelled, field_spelled, class_fits, pieces, pieces_same, pieces_joined}

-- ---- a table

module _ (es : List Entry) where
  name-is : (table : List ℕ) → table ≢ [] → (table ≢ [] → IsSome (table_slot es)) → table_slot es ≡ Some (name_slot es)
  name-is table some named = by-case (table_slot es) (named some)
    where
      by-case : (o : Option ℕ) → IsSome o → o ≡ Some (unwrap_or o 0)
      by-case None h = absurd (false≢true h)
      by-case (Some n) h = refl

  table-spelled : (table : List ℕ) (more : ℕ) → more ≡ table_size table → (table ≢ [] → IsSome (table_slot es)) → (table_attribute es more).spell table ≡ table_bytes (name_slot es) table
  table-spelled [] more e named = ap (λ b. (if b then without_table else some_table es (more - 6)).spell []) (eq-eqb more 0 e)
  table-spelled (x ∷ table) more e named =
      let size : more - 6 ≡ suc (length table) = omega (arith, e) in
      let name : table_slot es ≡ Some (name_slot es) = name-is (x ∷ table) (λ h. cc) named in
      ap (λ b. (if b then without_table else some_table es (more - 6)).spell (x ∷ table)) (ne_eqb more 0 (λ z. omega (arith, e, z)))
      ∙ (ap (λ k. (some_table es k).spell (x ∷ table)) size
      ∙ (ap (λ o. halves (1 ∷ []) ++ (spelled_by (slot_of (table_name_fault es)) o ++ (word (suc (length table)) ++ (x ∷ table)))) name
      ∙ simp append_assoc refl))

  method-spelled : (m : Method) (table : List ℕ) → (table ≢ [] → IsSome (table_slot es)) → (framed_method es).spell (m, table) ≡ framed_method_bytes (name_slot es) m table
  unfolding framed_method framed_code_attribute code_bytes framed_method_bytes
  method-spelled m table named =
      let n = length m.code in
      let t = table-spelled table (n + 12 + table_size table - (n + 12)) (omega arith) named in
      rw t (simp append_assoc refl)

  methods-spelled : (methods : List Method) (tables : List (List ℕ)) (ms : List (Method × List ℕ)) → methods_with_tables methods tables ≡ Some ms → ((i : ℕ) → get_or tables i [] ≢ [] → IsSome (table_slot es)) → spelling_of (framed_method es) ms ≡ framed_methods_bytes (name_slot es) methods tables
  methods-spelled [] [] ms e named = ap (spelling_of (framed_method es)) (sym (same_Some [] ms e))
  methods-spelled [] (t ∷ tables) ms e named = absurd (none-some ms e)
  methods-spelled (m ∷ methods) [] ms e named = absurd (none-some ms e)
  methods-spelled (m ∷ methods) (t ∷ tables) ms e named = by-case (methods_with_tables methods tables) (λ others is. methods-spelled methods tables others is (λ i. named (suc i))) refl e
    where
      by-case : (o : Option (List (Method × List ℕ))) → ((others : List (Method × List ℕ)) → methods_with_tables methods tables ≡ Some others → spelling_of (framed_method es) others ≡ framed_methods_bytes (name_slot es) methods tables) → methods_with_tables methods tables ≡ o → with_method (m, t) o ≡ Some ms → spelling_of (framed_method es) ms ≡ framed_methods_bytes (name_slot es) (m ∷ methods) (t ∷ tables)
      by-case None all is h = absurd (none-some ms h)
      by-case (Some others) all is h =
          ap (spelling_of (framed_method es)) (sym (same_Some ((m, t) ∷ others) ms h))
          ∙ (ap (λ x. x ++ spelling_of (framed_method es) others) (method-spelled m t (named 0))
          ∙ ap (λ x. framed_method_bytes (name_slot es) m t ++ x) (all others is))

-- ---- the class

together : (methods : List Method) (tables : List (List ℕ)) → length tables ≡ length methods → (ms : List (Method × List ℕ)) × (methods_with_tables methods tables ≡ Some ms) × (length ms ≡ length methods)
together [] [] e = ([], refl, refl)
together [] (t ∷ tables) e = absurd (omega (arith, e))
together (m ∷ methods) [] e = absurd (omega (arith, e))
together (m ∷ methods) (t ∷ tables) e =
    let r = together methods tables (omega (arith, e)) in
    ((m, t) ∷ r.0, ap (with_method (m, t)) r.1, ap suc r.2)

abbrev parts : Format FramedClassParts
parts = behind framed_preamble (both pool (λ entries. both (class_slots entries) (λ _. members_with_tables entries)))

in-pieces : (c : Class) (ms : List (Method × List ℕ)) → parts.spell (c.pool, ((c.this_class, c.super_class), (c.fields, ms))) ≡ pieces 51 (length c.pool + 1) c.this_class c.super_class (length c.fields) (length ms)
    (chain_spelling slot (λ _ e. is_long_entry e) false c.pool) (spelling_of (field c.pool) c.fields) (spelling_of (framed_method c.pool) ms)
unfolding framed_preamble class_slots members_with_tables pool
in-pieces c ms = refl

framed-spelled : (c : FramedClass) → files.class.fits c.class ≡ true → IsTabled c → framed_class.spell c ≡ framed_class_bytes c
unfolding framed_class
framed-spelled c e h =
    let k = c.class in
    let p = and_parts (pool.fits k.pool) _ (class_fits k e) in
    let t = together k.methods c.tables h.count in
    ap (λ o. spelled_by parts (option_map (λ (methods : List (Method × List ℕ)). (k.pool, ((k.this_class, k.super_class), (k.fields, methods)))) o)) t.1
    ∙ (in-pieces k t.0
    ∙ (ap (λ n. pieces 51 (length k.pool + 1) k.this_class k.super_class (length k.fields) n (chain_spelling slot (λ _ e. is_long_entry e) false k.pool) (spelling_of (field k.pool) k.fields) (spelling_of (framed_method k.pool) t.0)) t.2
    ∙ (pieces_same 51 (length k.pool + 1) k.this_class k.super_class (length k.fields) (length k.methods) _ _ _ _ _ _
    (entries_spelled false k.pool (pool_fits k.pool p.0)) (all_spelled (field k.pool) field_bytes (field_spelled k.pool) k.fields) (methods-spelled k.pool k.methods c.tables t.0 t.1 h.named)
    ∙ pieces_joined 51 k (framed_methods_bytes (name_slot k.pool) k.methods c.tables))))

pub framed_spells : (c : FramedClass) (bytes : List ℕ) → files.class.fits c.class ≡ true → IsTabled c → bytes ≡ framed_class_bytes c → SpellsFramed bytes c
framed_spells c bytes e h is = record { fits = tabled-fits c e h; spelled = is ∙ sym (framed-spelled c e h) }

pub tables_short : (tables : List (List ℕ)) → ((i : ℕ) → length (get_or tables i []) < 2 ^ 31) → list_all is_short_table tables ≡ true
tables_short [] h = refl
tables_short (t ∷ tables) h = and_from _ _ (lt-ltb (length t) (2 ^ 31) (h 0)) (tables_short tables (λ i. h (suc i)))
