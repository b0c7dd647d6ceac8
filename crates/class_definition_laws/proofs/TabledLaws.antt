-- A class that keeps the rules of version 48.0 keeps those of version 51.0, with tables that it may have.
use Rattle.std.proofs.Common.{◌≡◌, ◌≢◌, ℕ, suc, ◌+◌, ◌-◌, ◌^◌, ◌<◌, ◌≤◌, Bool, true, false, ◌||◌, eqb, List, [], ◌∷◌, length, get_or, Option, Some, None, refl, sym, ap, subst, ◌∙◌, arith}
use Rattle.std.specs.Prelude.{not, if◌then◌else◌, nat_lt, option_map, IsSome}
use Rattle.std.specs.List.{position_from}
use Rattle.std.specs.Int.{w16, w32}
use Rattle.std.proofs.lemmas.Bool.{and_parts, and_from, eq-eqb, ne_eqb, le-leb, ltb-true, ltb-false, lt-ltb, false≢true}
use Rattle.std.proofs.lemmas.Option.{same_Some, none-some}
use Rattle.class_definition.specs.Kinds.{cut, attribute, bad_code}
use Rattle.class_definition.specs.Format.{Format, number_format, both, exactly, behind, before, counted, repeated, fault_unless, is_sound, fits_by, chain_fits}
use Rattle.class_format.proofs.Parts.{passes}
use Rattle.class_definition.specs.declared.entry.Entry.{Entry}
use Rattle.class_definition.specs.NameGrammar.{is_member_name}
use Rattle.class_definition.specs.PoolChecks.{pool, sound_slots, text_at}
use Rattle.class_definition.specs.declared.method.Method.{Method}
use Rattle.class_definition.specs.Code.{is_bad_length}
use Rattle.class_definition.specs.Named.{slot_of, text_slot, is_own_descriptor, code_name_slot, fault_here}
use Rattle.class_definition.specs.Members as plain
use Rattle.class_definition.specs.Members.{public_static, attributes, field, CodeHead, code_length, code_bytes}
use Rattle.class_definition.specs.ClassFile as files
use Rattle.class_definition.specs.ClassFile.{class_slots}
use Rattle.class_definition.specs.declared.framed_class.FramedClass.{FramedClass}
use Rattle.class_definition.specs.Tables.{is_lawful_length, table_slot, is_slot, other_name_kind, table_name_fault, is_table_name, table_name, without_table, some_table, table_attribute, framed_code_attribute, table_size, framed_method}
use Rattle.class_definition.specs.FramedClassFile.{framed_preamble, members_with_tables, FramedClassParts, with_method, methods_with_tables, framed_class_parts, framed_class, IsTabled}

-- ---- the name of the attribute

slot-before : (from : ℕ) (entries : List Entry) (n : ℕ) → position_from is_table_name from entries ≡ Some n → n < from + length entries
slot-before from [] n e = absurd (none-some n e)
slot-before from (x ∷ entries) n e = by-test (is_table_name x) (λ h. slot-before (from + 1) entries n h) e
  where
    by-test : (b : Bool) → (position_from is_table_name (from + 1) entries ≡ Some n → n < from + 1 + length entries) → (if b then Some from else position_from is_table_name (from + 1) entries) ≡ Some n → n < from + length (x ∷ entries)
    by-test true others h = omega (arith, same_Some from n h)
    by-test false others h = let less = others h in omega (arith, less)

pub slot-within : (entries : List Entry) (n : ℕ) → table_slot entries ≡ Some n → n ≤ length entries
slot-within entries n e = omega (arith, slot-before 1 entries n e)

slot-is : (n : ℕ) → is_slot (Some n) n ≡ true
slot-is n = eq-eqb n n refl

name-fits : (entries : List Entry) (n : ℕ) → table_slot entries ≡ Some n → n < 2 ^ 16 → (table_name entries).fits tt ≡ true
name-fits entries n e small =
    let is : is_slot (table_slot entries) n ≡ true = ap (λ o. is_slot o n) e ∙ slot-is n in
    let sound : is_sound (fault_here (table_name_fault entries n)) ≡ true = ap (λ b. is_sound (fault_here (if b then None else Some (other_name_kind (text_at entries n))))) is in
    let fits : (slot_of (table_name_fault entries)).fits n ≡ true = and_from _ _ (lt-ltb n (2 ^ 16) small) sound in
    ap (fits_by (slot_of (table_name_fault entries))) e ∙ fits

-- ---- a table

module _ (entries : List Entry) (slots : length entries < 2 ^ 16) where
  -- a table that a method may have
  record MayHave (table : List ℕ) : Type 0 where
    short : length table < 2 ^ 31
    named : table ≢ [] → IsSome (table_slot entries)

  some-fits : (x : ℕ) (table : List ℕ) → MayHave (x ∷ table) → (some_table entries (suc (length table))).fits (x ∷ table) ≡ true
  some-fits x table h =
      let n = slot (table_slot entries) (h.named (λ e. cc)) refl in
      let long : suc (length table) < 2 ^ 32 = omega (arith, h.short) in
      let counted : (exactly cut w32 attribute (suc (length table))).fits tt ≡ true =
      and_from _ _ (lt-ltb (suc (length table)) (2 ^ 32) long) (ap (λ b. is_sound (fault_unless attribute b)) (eq-eqb (suc (length table)) (suc (length table)) refl)) in
      and_from _ _ refl (and_from _ _ (name-fits entries n.0 n.1 (omega (arith, slots, slot-within entries n.0 n.1))) (and_from _ _ counted (eq-eqb (suc (length table)) (suc (length table)) refl)))
    where
      slot : (o : Option ℕ) → IsSome o → table_slot entries ≡ o → (n : ℕ) × (table_slot entries ≡ Some n)
      slot None s e = absurd (false≢true s)
      slot (Some n) s e = (n, e)

  table-fits : (table : List ℕ) (more : ℕ) → MayHave table → more ≡ table_size table → (table_attribute entries more).fits table ≡ true
  table-fits [] more h e = ap (λ b. (if b then without_table else some_table entries (more - 6)).fits []) (eq-eqb more 0 e)
  table-fits (x ∷ table) more h e =
      let size : more - 6 ≡ suc (length table) = omega (arith, e) in
      ap (λ b. (if b then without_table else some_table entries (more - 6)).fits (x ∷ table)) (ne_eqb more 0 (λ z. omega (arith, e, z)))
      ∙ (ap (λ k. (some_table entries k).fits (x ∷ table)) size ∙ some-fits x table h)

  or-true : (a b : Bool) → b ≡ true → (a || b) ≡ true
  or-true true b e = refl
  or-true false b e = e

  or-left : (a b : Bool) → a ≡ true → (a || b) ≡ true
  or-left true b e = refl
  or-left false b e = absurd (false≢true e)

  is-lawful : (n : ℕ) (table : List ℕ) → is_lawful_length (n + 12 + table_size table) n ≡ true
  is-lawful n [] = or-left _ _ (eq-eqb (n + 12 + 0) (n + 12) (omega arith))
  is-lawful n (x ∷ table) = or-true _ _ (le-leb (n + 19) (n + 12 + (suc (length table) + 6)) (omega arith))

  short_of : (a b : Bool) → not (a || b) ≡ true → b ≡ false
  short_of true b e = absurd (false≢true e)
  short_of false true e = absurd (false≢true e)
  short_of false false e = refl

  not-long : (n : ℕ) → nat_lt 65535 n ≡ false → n ≤ 65535
  not-long n e = omega (arith, ltb-false 65535 n e)

  size-short : (table : List ℕ) → MayHave table → table_size table < 2 ^ 31 + 6
  size-short [] h = omega arith
  size-short (x ∷ table) h = omega (arith, h.short)

  attribute-fits : (stack locals : ℕ) (bytes table : List ℕ) → MayHave table → plain.code_attribute.fits ((length bytes + 12, (stack, (locals, length bytes))), bytes) ≡ true → (framed_code_attribute entries).fits ((length bytes + 12 + table_size table, (stack, (locals, length bytes))), (bytes, table)) ≡ true
  unfolding framed_code_attribute plain.code_attribute
  attribute-fits stack locals bytes table h e =
      let n = length bytes in
      let p = and_parts (plain.code_head.fits (n + 12, (stack, (locals, n)))) _ e in
      let q = and_parts _ (is_sound (fault_unless attribute (eqb (n + 12) (n + 12)))) p.0 in
      let r = and_parts ((number_format cut w32).fits (n + 12)) _ q.0 in
      let s = and_parts ((number_format cut w16).fits stack) _ r.1 in
      let t = and_parts ((number_format cut w16).fits locals) (code_length.fits n) s.1 in
      let u = and_parts ((number_format cut w32).fits n) (is_sound (fault_unless bad_code (not (is_bad_length n)))) t.1 in
      let few : n ≤ 65535 = not-long n (short_of (eqb n 0) (nat_lt 65535 n) (passes bad_code (not (is_bad_length n)) u.1)) in
      let total : n + 12 + table_size table < 2 ^ 32 = omega (arith, few, size-short table h) in
      let head = and_from _ _ (and_from ((number_format cut w32).fits (n + 12 + table_size table)) _ (lt-ltb (n + 12 + table_size table) (2 ^ 32) total) r.1) (ap (λ b. is_sound (fault_unless attribute b)) (is-lawful n table)) in
      let body = and_parts ((before (code_bytes n) (attributes 0)).fits bytes) ((attributes 0).fits tt) p.1 in
      and_from _ _ head (and_from _ _ body.0 (table-fits table (n + 12 + table_size table - (n + 12)) h (omega arith)))

  abbrev names : Format (ℕ × ℕ)
  names = both (text_slot entries is_member_name) (λ _. text_slot entries is_own_descriptor)

  abbrev named_code : Format (ℕ × (CodeHead × List ℕ))
  named_code = behind (attributes 1) (both (code_name_slot entries) (λ _. plain.code_attribute))

  method-fits : (m : Method) (table : List ℕ) → MayHave table → (plain.method entries).fits m ≡ true → (framed_method entries).fits (m, table) ≡ true
  unfolding framed_method plain.method
  method-fits m table h e =
      let b = plain.method_parts m in
      let p = and_parts (public_static.fits tt) ((both names (λ _. named_code)).fits b) e in
      let q = and_parts (names.fits b.0) (named_code.fits b.1) p.1 in
      let r = and_parts ((attributes 1).fits tt) ((both (code_name_slot entries) (λ _. plain.code_attribute)).fits b.1) q.1 in
      let s = and_parts ((code_name_slot entries).fits b.1.0) (plain.code_attribute.fits b.1.1) r.1 in
      and_from _ _ p.0 (and_from _ _ q.0 (and_from _ _ r.0 (and_from _ _ s.0 (attribute-fits m.stack m.locals m.code table h s.1))))

  -- ---- all of them

  record AreFramed (methods : List Method) (tables : List (List ℕ)) (ms : List (Method × List ℕ)) : Type 0 where
    is : methods_with_tables methods tables ≡ Some ms
    count : length ms ≡ length methods
    fits : chain_fits {S = Unit {0}} (λ _ _. framed_method entries) (λ s _. s) tt ms ≡ true

  methods-fit : (methods : List Method) (tables : List (List ℕ)) → length tables ≡ length methods → ((i : ℕ) → MayHave (get_or tables i [])) → chain_fits {S = Unit {0}} (λ _ _. plain.method entries) (λ s _. s) tt methods ≡ true → (ms : List (Method × List ℕ)) × AreFramed methods tables ms
  methods-fit [] [] e h f = ([], record { is = refl; count = refl; fits = refl })
  methods-fit [] (t ∷ tables) e h f = absurd (omega (arith, e))
  methods-fit (m ∷ methods) [] e h f = absurd (omega (arith, e))
  methods-fit (m ∷ methods) (t ∷ tables) e h f =
      let p = and_parts ((plain.method entries).fits m) _ f in
      let r = methods-fit methods tables (omega (arith, e)) (λ i. h (suc i)) p.1 in (
        (m, t) ∷ r.0,
        record {
          is = ap (with_method (m, t)) r.1.is;
          count = ap suc r.1.count;
          fits = and_from _ _ (method-fits m t (h 0) p.0) r.1.fits;
        },
      )

-- ---- the class

pool-slots : (entries : List Entry) → pool.fits entries ≡ true → length entries < 2 ^ 16
unfolding pool
pool-slots entries e =
    let p = and_parts _ ((sound_slots (length entries + 1)).fits entries) e in
    let q = and_parts ((number_format cut w16).fits (length entries + 1)) _ p.0 in
    let less = ltb-true (length entries + 1) (2 ^ 16) q.0 in
    omega (arith, less)

abbrev parts : Format FramedClassParts
parts = behind framed_preamble (both pool (λ entries. both (class_slots entries) (λ _. members_with_tables entries)))

parts-fit : (c : FramedClass) → files.class.fits c.class ≡ true → IsTabled c → fits_by parts (framed_class_parts c) ≡ true
unfolding framed_preamble members_with_tables files.class files.preamble files.members
parts-fit c e h =
    let k = c.class in
    let p = and_parts (files.preamble.fits tt) _ e in
    let q = and_parts (pool.fits k.pool) _ p.1 in
    let r = and_parts ((class_slots k.pool).fits (k.this_class, k.super_class)) _ q.1 in
    let s = and_parts ((both (counted cut w16 (field k.pool)) (λ _. counted cut w16 (plain.method k.pool))).fits (k.fields, k.methods)) ((attributes 0).fits tt) r.1 in
    let t = and_parts ((counted cut w16 (field k.pool)).fits k.fields) ((counted cut w16 (plain.method k.pool)).fits k.methods) s.0 in
    let u = and_parts ((number_format cut w16).fits (length k.methods)) ((repeated (plain.method k.pool) (length k.methods)).fits k.methods) t.1 in
    let v = and_parts (eqb (length k.methods) (length k.methods)) _ u.1 in
    let slots = pool-slots k.pool q.0 in
    let m = methods-fit k.pool slots k.methods c.tables h.count (λ i. record { short = h.short i; named = h.named i }) v.1 in
    let few : (number_format cut w16).fits (length m.0) ≡ true = subst (λ n. (number_format cut w16).fits n ≡ true) (sym m.1.count) u.0 in
    let counted-fits = and_from _ _ few (and_from _ _ (eq-eqb (length m.0) (length m.0) refl) m.1.fits) in
    let all : parts.fits (k.pool, ((k.this_class, k.super_class), (k.fields, m.0))) ≡ true =
    and_from _ _ refl (and_from _ _ q.0 (and_from _ _ r.0 (and_from _ _ (and_from _ _ t.0 counted-fits) s.1))) in
    ap (λ o. fits_by parts (option_map (λ (methods : List (Method × List ℕ)). (k.pool, ((k.this_class, k.super_class), (k.fields, methods)))) o)) m.1.is ∙ all

pub tabled-fits : (c : FramedClass) → files.class.fits c.class ≡ true → IsTabled c → framed_class.fits c ≡ true
unfolding framed_class
tabled-fits c e h = parts-fit c e h
