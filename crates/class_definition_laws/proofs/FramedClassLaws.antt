-- A class file of version 51.0 is a format, and what its class alone is.
use Rattle.std.proofs.Common.{◌≡◌, ℕ, suc, ◌+◌, ◌-◌, ◌^◌, ◌<◌, ◌≤◌, Bool, true, false, ◌||◌, eqb, List, [], ◌∷◌, length, Option, Some, None, Ok, refl, sym, ap, subst, ◌∙◌, arith, ⊎_elim}
use Rattle.std.specs.Prelude.{not, map, if◌then◌else◌, nat_le, option_map}
use Rattle.std.specs.Int.{w16, w32}
use Rattle.std.proofs.lemmas.Bool.{and_parts, and_from, or_cases, eqb-true, eq-eqb, leb-true, ltb-true, lt-ltb, false≢true}
use Rattle.std.proofs.lemmas.Option.{same_Some, none-some}
use Rattle.class_definition.specs.Kinds.{cut, index, attribute, bad_code, flags, magic, version, trailing}
use Rattle.class_definition.specs.Format.{Format, number_format, raw, both, exactly, behind, before, counted, fault_unless, is_sound, fits_by, chain_fits, whole}
use Rattle.class_definition.specs.Spelling.{IsBytes, IsFormat}
use Rattle.class_format.proofs.FieldLaws.{wide16, wide32, number_law, raw_law}
use Rattle.class_format.proofs.Combined.{both_law, mapped_law, checked_law, tested_law}
use Rattle.class_format.proofs.Parts.{passes, exactly_law, behind_law, before_law, counted_law, whole_back, whole_taken}
use Rattle.class_format.proofs.Readings.{same_value}
use Rattle.class_definition.specs.declared.miss.Miss.{Miss}
use Rattle.class_definition.specs.declared.entry.Entry.{Entry}
use Rattle.class_definition.specs.NameGrammar.{is_member_name}
use Rattle.class_definition.specs.PoolChecks.{pool, text_at, class_text_at}
use Rattle.constant_pool.proofs.EntryLaws.{pool_law}
use Rattle.class_definition.specs.declared.method.Method.{Method}
use Rattle.class_definition.specs.Code.{code_fault, is_bad_length}
use Rattle.class_definition.specs.Named.{fault_here, slot_of, text_slot, this_slot, super_slot, is_object, is_own_descriptor, code_name_slot}
use Rattle.class_definition.specs.Members as plain
use Rattle.class_definition.specs.Members.{public_static, attributes, field, CodeHead, code_length, fault_of_code, code_bytes}
use Rattle.class_definition.specs.ClassFile as files
use Rattle.class_definition.specs.ClassFile.{class_flags, no_interfaces, class_slots}
use Rattle.class_definition_laws.proofs.ClassLaws.{slot_law, field_law}
use Rattle.class_definition.specs.declared.framed_class.FramedClass.{FramedClass}
use Rattle.class_definition.specs.Tables.{is_lawful_length, table_slot, is_slot, other_name_kind, table_name_fault, table_name, framed_code_head, is_no_table, without_table, some_table, table_attribute, framed_code_attribute, FramedMethodParts, framed_method_made, table_size, framed_method_parts, framed_method}
use Rattle.class_definition.specs.FramedClassFile.{framed_preamble, members_with_tables, FramedClassParts, method_without_table, table_of, framed_class_made, with_method, methods_with_tables, framed_class_parts, framed_class, SpellsFramed, class_fault}

-- ---- parts that are as in version 48.0

super_law : (entries : List Entry) → IsFormat (super_slot entries)
super_law entries = tested_law index (λ n. is_object (class_text_at entries n)) (number_format cut w16) (number_law cut w16 wide16)

attributes_law : (n : ℕ) → IsFormat (attributes n)
attributes_law n = exactly_law cut w16 attribute n wide16

static_law : IsFormat public_static
static_law = exactly_law cut w16 flags 9 wide16

length_law : IsFormat code_length
length_law = tested_law bad_code (λ n. not (is_bad_length n)) (number_format cut w32) (number_law cut w32 wide32)

bytes_law : (n : ℕ) → IsFormat (code_bytes n)
bytes_law n = checked_law (λ bytes. fault_of_code (code_fault bytes)) (raw cut n) (raw_law cut n)

class_slots_law : (entries : List Entry) → IsFormat (class_slots entries)
unfolding class_slots
class_slots_law entries =
    behind_law class_flags (before (both (this_slot entries) (λ _. super_slot entries)) no_interfaces) (exactly_law cut w16 flags 0x31 wide16)
    (before_law (both (this_slot entries) (λ _. super_slot entries)) no_interfaces
    (both_law (this_slot entries) (λ _. super_slot entries) (slot_law _) (λ _. super_law entries)) (exactly_law cut w16 flags 0 wide16))

-- ---- tables

slot-is : (o : Option ℕ) (n : ℕ) → is_slot o n ≡ true → o ≡ Some n
slot-is None n e = absurd (false≢true e)
slot-is (Some m) n e = ap (λ (k : ℕ). Some k) (eqb-true m n e)

name_back : (entries : List Entry) (n : ℕ) → (slot_of (table_name_fault entries)).fits n ≡ true → table_slot entries ≡ Some n
name_back entries n e =
    let p = and_parts ((number_format cut w16).fits n) (is_sound (fault_here (table_name_fault entries n))) e in
    by-test (is_slot (table_slot entries) n) refl p.1
  where
    by-test : (b : Bool) → is_slot (table_slot entries) n ≡ b → is_sound (fault_here (if b then None else Some (other_name_kind (text_at entries n)))) ≡ true → table_slot entries ≡ Some n
    by-test true is h = slot-is (table_slot entries) n is
    by-test false is h = absurd (false≢true h)

name_law : (entries : List Entry) → IsFormat (table_name entries)
name_law entries =
    mapped_law (λ _. tt) (λ _. table_slot entries) (slot_of (table_name_fault entries)) (slot_law (table_name_fault entries))
    (record { back_of = λ n e. name_back entries n e; made_of = λ a b e. refl })

none_made : (table : List ℕ) (b : Unit {0}) → (if is_no_table table then Some tt else None) ≡ Some b → [] ≡ table
none_made [] b e = refl
none_made (x ∷ table) b e = absurd cc

no_table_law : IsFormat without_table
no_table_law =
    mapped_law (λ _. []) (λ table. if is_no_table table then Some tt else None) (attributes 0) (attributes_law 0)
    (record { back_of = λ b e. refl; made_of = none_made })

some_table_law : (entries : List Entry) (n : ℕ) → IsFormat (some_table entries n)
some_table_law entries n =
    behind_law (attributes 1) (behind (table_name entries) (behind (exactly cut w32 attribute n) (raw cut n))) (attributes_law 1)
    (behind_law (table_name entries) (behind (exactly cut w32 attribute n) (raw cut n)) (name_law entries)
    (behind_law (exactly cut w32 attribute n) (raw cut n) (exactly_law cut w32 attribute n wide32) (raw_law cut n)))

either_law : {A : Type 0} (b : Bool) (f g : Format A) → IsFormat f → IsFormat g → IsFormat (if b then f else g)
either_law true f g one two = one
either_law false f g one two = two

table_law : (entries : List Entry) (more : ℕ) → IsFormat (table_attribute entries more)
table_law entries more = either_law (eqb more 0) without_table (some_table entries (more - 6)) no_table_law (some_table_law entries (more - 6))

-- ---- code

abbrev lawful : CodeHead → Bool
lawful h = is_lawful_length h.0 h.1.1.1

head_law : IsFormat framed_code_head
head_law =
    tested_law attribute lawful (both (number_format cut w32) (λ _. both (number_format cut w16) (λ _. both (number_format cut w16) (λ _. code_length))))
    (both_law (number_format cut w32) (λ _. both (number_format cut w16) (λ _. both (number_format cut w16) (λ _. code_length))) (number_law cut w32 wide32)
    (λ _. both_law (number_format cut w16) (λ _. both (number_format cut w16) (λ _. code_length)) (number_law cut w16 wide16)
    (λ _. both_law (number_format cut w16) (λ _. code_length) (number_law cut w16 wide16) (λ _. length_law))))

abbrev body : List Entry → CodeHead → Format (List ℕ × List ℕ)
body entries h = both (before (code_bytes h.1.1.1) (attributes 0)) (λ _. table_attribute entries (h.0 - (h.1.1.1 + 12)))

code_law : (entries : List Entry) → IsFormat (framed_code_attribute entries)
unfolding framed_code_attribute
code_law entries =
    both_law framed_code_head (body entries) head_law
    (λ h. both_law (before (code_bytes h.1.1.1) (attributes 0)) (λ _. table_attribute entries (h.0 - (h.1.1.1 + 12)))
    (before_law (code_bytes h.1.1.1) (attributes 0) (bytes_law h.1.1.1) (attributes_law 0)) (λ _. table_law entries (h.0 - (h.1.1.1 + 12))))

-- the attribute's length, by its code and its table
table-counts : (entries : List Entry) (total n : ℕ) (table : List ℕ) → (eqb total (n + 12) || nat_le (n + 19) total) ≡ true → (table_attribute entries (total - (n + 12))).fits table ≡ true → total ≡ n + 12 + table_size table
table-counts entries total n table test fits =
    ⊎_elim
    (λ same.
    let is : total ≡ n + 12 = eqb-true total (n + 12) same in
    let none : total - (n + 12) ≡ 0 = omega (arith, is) in
    without is (subst (λ k. (table_attribute entries k).fits table ≡ true) none fits))
    (λ more.
    let least : n + 19 ≤ total = leb-true (n + 19) total more in
    with_one least (eqb (total - (n + 12)) 0) refl fits)
    (or_cases (eqb total (n + 12)) (nat_le (n + 19) total) test)
  where
    empty : (t : List ℕ) → fits_by (attributes 0) (if is_no_table t then Some tt else None) ≡ true → table_size t ≡ 0
    empty [] e = refl
    empty (x ∷ t) e = absurd (false≢true e)

    without : total ≡ n + 12 → (table_attribute entries 0).fits table ≡ true → total ≡ n + 12 + table_size table
    without is e = omega (arith, is, empty table e)

    size-is : (t : List ℕ) (k : ℕ) → 1 ≤ k → length t ≡ k → table_size t ≡ k + 6
    size-is [] k some e = absurd (omega (arith, some, e))
    size-is (x ∷ t) k some e = omega (arith, e)

    with_one : n + 19 ≤ total → (b : Bool) → eqb (total - (n + 12)) 0 ≡ b → (if b then without_table else some_table entries (total - (n + 12) - 6)).fits table ≡ true → total ≡ n + 12 + table_size table
    with_one least true h e = let zero' = eqb-true (total - (n + 12)) 0 h in absurd (omega (arith, zero', least))
    with_one least false h e =
        let p = and_parts ((attributes 1).fits tt) _ e in
        let q = and_parts ((table_name entries).fits tt) _ p.1 in
        let r = and_parts ((exactly cut w32 attribute (total - (n + 12) - 6)).fits tt) (eqb (length table) (total - (n + 12) - 6)) q.1 in
        let k : length table ≡ total - (n + 12) - 6 = eqb-true _ _ r.1 in
        let s = size-is table (total - (n + 12) - 6) (omega (arith, least)) k in
        omega (arith, s, least)

pub record Counts (h : CodeHead) (bytes table : List ℕ) : Type 0 where
  pub total : h.0 ≡ length bytes + 12 + table_size table
  pub count : h.1.1.1 ≡ length bytes

code-counts : (entries : List Entry) (h : CodeHead) (bytes table : List ℕ) → (framed_code_attribute entries).fits (h, (bytes, table)) ≡ true → Counts h bytes table
unfolding framed_code_attribute
code-counts entries h bytes table e =
    let p = and_parts (framed_code_head.fits h) ((body entries h).fits (bytes, table)) e in
    let q = and_parts ((before (code_bytes h.1.1.1) (attributes 0)).fits bytes) ((table_attribute entries (h.0 - (h.1.1.1 + 12))).fits table) p.1 in
    let r = and_parts ((code_bytes h.1.1.1).fits bytes) ((attributes 0).fits tt) q.0 in
    let s = and_parts (eqb (length bytes) h.1.1.1) (is_sound (fault_of_code (code_fault bytes))) r.0 in
    let count : length bytes ≡ h.1.1.1 = eqb-true _ _ s.0 in
    let t = and_parts _ (is_sound (fault_unless attribute (lawful h))) p.0 in
    let total = table-counts entries h.0 h.1.1.1 table (passes attribute (lawful h) t.1) q.1 in
    record { total = total ∙ ap (λ (n : ℕ). n + 12 + table_size table) (sym count); count = sym count }

-- ---- methods

abbrev parts_of : ℕ → ℕ → ℕ → ℕ → ℕ → ℕ → ℕ → List ℕ → List ℕ → FramedMethodParts
parts_of name desc attr total stack locals count bytes table = ((name, desc), (attr, ((total, (stack, (locals, count))), (bytes, table))))

parts_again : (name desc attr total stack locals count t k : ℕ) (bytes table : List ℕ) → total ≡ t → count ≡ k
    → parts_of name desc attr t stack locals k bytes table ≡ parts_of name desc attr total stack locals count bytes table
parts_again name desc attr total stack locals count t k bytes table e g = rw (e, g) refl

abbrev names : List Entry → Format (ℕ × ℕ)
names entries = both (text_slot entries is_member_name) (λ _. text_slot entries is_own_descriptor)

abbrev named_code : List Entry → Format (ℕ × (CodeHead × (List ℕ × List ℕ)))
named_code entries = behind (attributes 1) (both (code_name_slot entries) (λ _. framed_code_attribute entries))

method_back : (entries : List Entry) (b : FramedMethodParts) → (behind public_static (both (names entries) (λ _. named_code entries))).fits b ≡ true → framed_method_parts (framed_method_made b) ≡ b
method_back entries b e =
    let p = and_parts (public_static.fits tt) ((both (names entries) (λ _. named_code entries)).fits b) e in
    let q = and_parts ((names entries).fits b.0) ((named_code entries).fits b.1) p.1 in
    let r = and_parts ((attributes 1).fits tt) ((both (code_name_slot entries) (λ _. framed_code_attribute entries)).fits b.1) q.1 in
    let s = and_parts ((code_name_slot entries).fits b.1.0) ((framed_code_attribute entries).fits b.1.1) r.1 in
    let n = code-counts entries b.1.1.0 b.1.1.1.0 b.1.1.1.1 s.1 in
    parts_again b.0.0 b.0.1 b.1.0 b.1.1.0.0 b.1.1.0.1.0 b.1.1.0.1.1.0 b.1.1.0.1.1.1 (length b.1.1.1.0 + 12 + table_size b.1.1.1.1) (length b.1.1.1.0) b.1.1.1.0 b.1.1.1.1 n.total n.count

method_law : (entries : List Entry) → IsFormat (framed_method entries)
unfolding framed_method
method_law entries =
    mapped_law framed_method_made (λ m. Some (framed_method_parts m)) (behind public_static (both (names entries) (λ _. named_code entries)))
    (behind_law public_static (both (names entries) (λ _. named_code entries)) static_law
    (both_law (names entries) (λ _. named_code entries)
    (both_law (text_slot entries is_member_name) (λ _. text_slot entries is_own_descriptor) (slot_law _) (λ _. slot_law _))
    (λ _. behind_law (attributes 1) (both (code_name_slot entries) (λ _. framed_code_attribute entries)) (attributes_law 1)
    (both_law (code_name_slot entries) (λ _. framed_code_attribute entries) (slot_law _) (λ _. code_law entries)))))
    (record {
      back_of = λ b e. ap (λ (x : FramedMethodParts). Some x) (method_back entries b e);
      made_of = λ m b e. sym (ap framed_method_made (same_Some (framed_method_parts m) b e));
    })

-- ---- the class

preamble_law : IsFormat framed_preamble
unfolding framed_preamble
preamble_law =
    behind_law (exactly cut w32 magic 0xCAFEBABE) (behind (exactly cut w16 version 0) (exactly cut w16 version 51)) (exactly_law cut w32 magic 0xCAFEBABE wide32)
    (behind_law (exactly cut w16 version 0) (exactly cut w16 version 51) (exactly_law cut w16 version 0 wide16) (exactly_law cut w16 version 51 wide16))

members_law : (entries : List Entry) → IsFormat (members_with_tables entries)
unfolding members_with_tables
members_law entries =
    before_law (both (counted cut w16 (field entries)) (λ _. counted cut w16 (framed_method entries))) (attributes 0)
    (both_law (counted cut w16 (field entries)) (λ _. counted cut w16 (framed_method entries))
    (counted_law cut w16 (field entries) wide16 (field_law entries)) (λ _. counted_law cut w16 (framed_method entries) wide16 (method_law entries)))
    (attributes_law 0)

tables-again : (ms : List (Method × List ℕ)) → methods_with_tables (map method_without_table ms) (map table_of ms) ≡ Some ms
tables-again [] = refl
tables-again (m ∷ ms) = ap (with_method (m.0, m.1)) (tables-again ms)

pair-some : (m : Method × List ℕ) (o : Option (List (Method × List ℕ))) (ms : List (Method × List ℕ)) → with_method m o ≡ Some ms → (others : List (Method × List ℕ)) × (o ≡ Some others) × (m ∷ others ≡ ms)
pair-some m None ms e = absurd (none-some ms e)
pair-some m (Some others) ms e = (others, refl, same_Some (m ∷ others) ms e)

record AreTogether (methods : List Method) (tables : List (List ℕ)) (ms : List (Method × List ℕ)) : Type 0 where
  firsts : map method_without_table ms ≡ methods
  seconds : map table_of ms ≡ tables

pairs-are : (methods : List Method) (tables : List (List ℕ)) (ms : List (Method × List ℕ)) → methods_with_tables methods tables ≡ Some ms → AreTogether methods tables ms
pairs-are [] [] ms e = let is : [] ≡ ms = same_Some [] ms e in record { firsts = ap (map method_without_table) (sym is); seconds = ap (map table_of) (sym is) }
pairs-are [] (t ∷ tables) ms e = absurd (none-some ms e)
pairs-are (m ∷ methods) [] ms e = absurd (none-some ms e)
pairs-are (m ∷ methods) (t ∷ tables) ms e =
    let r = pair-some (m, t) (methods_with_tables methods tables) ms e in
    let p = pairs-are methods tables r.0 r.1 in
    record {
      firsts = ap (map method_without_table) (sym r.2) ∙ ap (λ xs. m ∷ xs) p.firsts;
      seconds = ap (map table_of) (sym r.2) ∙ ap (λ (xs : List (List ℕ)). t ∷ xs) p.seconds;
    }

class_back : (b : FramedClassParts) → framed_class_parts (framed_class_made b) ≡ Some b
class_back b = ap (option_map (λ (methods : List (Method × List ℕ)). (b.0, (b.1.0, (b.1.1.0, methods))))) (tables-again b.1.1.1)

map-some : {A B : Type 0} (f : A → B) (o : Option A) (y : B) → option_map f o ≡ Some y → (x : A) × (o ≡ Some x) × (f x ≡ y)
map-some f None y e = absurd (none-some y e)
map-some f (Some x) y e = (x, refl, same_Some (f x) y e)

made-parts : (x : FramedClass) (ms : List (Method × List ℕ)) → AreTogether x.class.methods x.tables ms → framed_class_made (x.class.pool, ((x.class.this_class, x.class.super_class), (x.class.fields, ms))) ≡ x
made-parts x ms p = λ i. record { class = record x.class { methods = p.firsts i }; tables = p.seconds i }

class_again : (x : FramedClass) (b : FramedClassParts) → framed_class_parts x ≡ Some b → framed_class_made b ≡ x
class_again x b e =
    let r = map-some (λ (methods : List (Method × List ℕ)). (x.class.pool, ((x.class.this_class, x.class.super_class), (x.class.fields, methods)))) (methods_with_tables x.class.methods x.tables) b e in
    ap framed_class_made (sym r.2) ∙ made-parts x r.0 (pairs-are x.class.methods x.tables r.0 r.1)

abbrev parts : Format FramedClassParts
parts = behind framed_preamble (both pool (λ entries. both (class_slots entries) (λ _. members_with_tables entries)))

pub framed_law : IsFormat framed_class
unfolding framed_class
framed_law =
    mapped_law framed_class_made framed_class_parts parts
    (behind_law framed_preamble (both pool (λ entries. both (class_slots entries) (λ _. members_with_tables entries))) preamble_law
    (both_law pool (λ entries. both (class_slots entries) (λ _. members_with_tables entries)) pool_law
    (λ entries. both_law (class_slots entries) (λ _. members_with_tables entries) (class_slots_law entries) (λ _. members_law entries))))
    (record { back_of = λ b e. class_back b; made_of = class_again })

-- ---- the class alone

-- the attribute without its table
head-alone : (entries : List Entry) (total stack locals : ℕ) (bytes table : List ℕ) → total ≡ length bytes + 12 + table_size table → (framed_code_attribute entries).fits ((total, (stack, (locals, length bytes))), (bytes, table)) ≡ true → plain.code_attribute.fits ((length bytes + 12, (stack, (locals, length bytes))), bytes) ≡ true
unfolding framed_code_attribute plain.code_attribute
head-alone entries total stack locals bytes table is e =
    let h : CodeHead = (total, (stack, (locals, length bytes))) in
    let p = and_parts (framed_code_head.fits h) ((body entries h).fits (bytes, table)) e in
    let q = and_parts ((before (code_bytes (length bytes)) (attributes 0)).fits bytes) _ p.1 in
    let t = and_parts _ (is_sound (fault_unless attribute (lawful h))) p.0 in
    let n = and_parts ((number_format cut w32).fits total) _ t.0 in
    let less : length bytes + 12 < 2 ^ 32 = omega (arith, ltb-true total (2 ^ 32) n.0, is) in
    let head = and_from ((number_format cut w32).fits (length bytes + 12)) _ (lt-ltb (length bytes + 12) (2 ^ 32) less) n.1 in
    and_from _ _ (and_from _ _ head (ap (λ b. is_sound (fault_unless attribute b)) (eq-eqb (length bytes + 12) (length bytes + 12) refl)))
    (and_from ((before (code_bytes (length bytes)) (attributes 0)).fits bytes) ((attributes 0).fits tt) q.0 refl)

method-alone : (entries : List Entry) (m : Method × List ℕ) → (framed_method entries).fits m ≡ true → (plain.method entries).fits m.0 ≡ true
unfolding framed_method plain.method
method-alone entries m e =
    let b = framed_method_parts m in
    let p = and_parts (public_static.fits tt) ((both (names entries) (λ _. named_code entries)).fits b) e in
    let q = and_parts ((names entries).fits b.0) ((named_code entries).fits b.1) p.1 in
    let r = and_parts ((attributes 1).fits tt) ((both (code_name_slot entries) (λ _. framed_code_attribute entries)).fits b.1) q.1 in
    let s = and_parts ((code_name_slot entries).fits b.1.0) ((framed_code_attribute entries).fits b.1.1) r.1 in
    let alone = head-alone entries b.1.1.0.0 m.0.stack m.0.locals m.0.code m.1 refl s.1 in
    and_from _ _ p.0 (and_from _ _ q.0 (and_from _ _ r.0 (and_from _ _ s.0 alone)))

methods-alone : (entries : List Entry) (ms : List (Method × List ℕ)) → chain_fits {S = Unit {0}} (λ _ _. framed_method entries) (λ s _. s) tt ms ≡ true → chain_fits {S = Unit {0}} (λ _ _. plain.method entries) (λ s _. s) tt (map method_without_table ms) ≡ true
methods-alone entries [] e = refl
methods-alone entries (m ∷ ms) e =
    let p = and_parts ((framed_method entries).fits m) _ e in
    and_from _ _ (method-alone entries m p.0) (methods-alone entries ms p.1)

length-first : (ms : List (Method × List ℕ)) → length (map method_without_table ms) ≡ length ms
length-first [] = refl
length-first (m ∷ ms) = ap suc (length-first ms)

counted-alone : (entries : List Entry) (ms : List (Method × List ℕ)) → (counted cut w16 (framed_method entries)).fits ms ≡ true → (counted cut w16 (plain.method entries)).fits (map method_without_table ms) ≡ true
counted-alone entries ms e =
    let n = length-first ms in
    let p = and_parts ((number_format cut w16).fits (length ms)) _ e in
    let q = and_parts (eqb (length ms) (length ms)) _ p.1 in
    and_from _ _ (subst (λ k. (number_format cut w16).fits k ≡ true) (sym n) p.0) (and_from _ _ (eq-eqb (length (map method_without_table ms)) (length (map method_without_table ms)) refl) (methods-alone entries ms q.1))

parts-alone : (b : FramedClassParts) → parts.fits b ≡ true → files.class.fits (framed_class_made b).class ≡ true
unfolding framed_preamble members_with_tables files.class files.preamble files.members
parts-alone b e =
    let p = and_parts (framed_preamble.fits tt) _ e in
    let q = and_parts (pool.fits b.0) _ p.1 in
    let r = and_parts ((class_slots b.0).fits b.1.0) _ q.1 in
    let s = and_parts ((both (counted cut w16 (field b.0)) (λ _. counted cut w16 (framed_method b.0))).fits b.1.1) ((attributes 0).fits tt) r.1 in
    let t = and_parts ((counted cut w16 (field b.0)).fits b.1.1.0) ((counted cut w16 (framed_method b.0)).fits b.1.1.1) s.0 in
    and_from _ _ refl (and_from _ _ q.0 (and_from _ _ r.0 (and_from _ _ (and_from _ _ t.0 (counted-alone b.0 b.1.1.1 t.1)) s.1)))

pub framed-alone : (x : FramedClass) → framed_class.fits x ≡ true → files.class.fits x.class ≡ true
unfolding framed_class
framed-alone x e = by-case (framed_class_parts x) refl e
  where
    by-case : (o : Option FramedClassParts) → framed_class_parts x ≡ o → fits_by parts o ≡ true → files.class.fits x.class ≡ true
    by-case None is h = absurd (false≢true h)
    by-case (Some b) is h = subst (λ (y : FramedClass). files.class.fits y.class ≡ true) (class_again x b is) (parts-alone b h)

pub same_spelling : (x : FramedClass) (a b : List ℕ) → SpellsFramed a x → SpellsFramed b x → b ≡ a
same_spelling x a b first second = second.spelled ∙ sym first.spelled

pub same_framed : (bytes : List ℕ) (x y : FramedClass) → SpellsFramed bytes x → SpellsFramed bytes y → y ≡ x
same_framed bytes x y first second =
    same_value {E = Miss} y x (sym (whole_back framed_class trailing bytes y framed_law second) ∙ whole_back framed_class trailing bytes x framed_law first)

pub spelled_read : (bytes : List ℕ) (x : FramedClass) → SpellsFramed bytes x → whole framed_class trailing bytes ≡ Ok x
spelled_read bytes x spells = whole_back framed_class trailing bytes x framed_law spells

pub read_spelled : (bytes : List ℕ) (x : FramedClass) → IsBytes bytes → whole framed_class trailing bytes ≡ Ok x → SpellsFramed bytes x
read_spelled bytes x h e = whole_taken framed_class trailing bytes x framed_law h e

-- bytes that spell a class are at no fault
pub no_fault : (bytes : List ℕ) (x : FramedClass) → SpellsFramed bytes x → class_fault bytes ≡ None
no_fault bytes x spells = rw (spelled_read bytes x spells) refl

-- what was read of them is that class
pub same_read : (bytes : List ℕ) (x y : FramedClass) → SpellsFramed bytes x → whole framed_class trailing bytes ≡ Ok y → y ≡ x
same_read bytes x y spells e = same_value {E = Miss} y x (sym e ∙ spelled_read bytes x spells)
