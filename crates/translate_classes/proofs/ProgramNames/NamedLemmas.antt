-- What is named stays named while the pool grows.
use Rattle.std.proofs.Common.{◌≡◌, ℕ, ◌+◌, ◌<◌, List, slice_index_or, refl, ap, sym, ◌∙◌, arith, subst, ◌++◌, ◌∷◌, [], inl, inr}
use Rattle.std.proofs.lemmas.Bool.{cases_lt}
use Rattle.std.proofs.lemmas.List.{get_or_push, get_or_append_left, length_push}
use Rattle.class_definition.specs.declared.entry.Entry.{Entry}
use Rattle.class_definition.specs.declared.entry.Entry.TheVariants.{FieldRef, MethodRef}
use Rattle.class_definition.specs.declared.class.Class.{Class}
use Rattle.class_definition.specs.MemberNames.{Signature}
use Rattle.emit_layout.specs.Fields.{field_name, field_descriptor}
use Rattle.emit_assembly.specs.Assembling.{Extends}
use Rattle.emit_assembly.proofs.Pools.{extends-itself, extends-further}
use Rattle.emit_classes.specs.Built.{GrowsPool}
use Rattle.emit_classes.specs.Named.{IsClassAt, IsMemberAt}
use Rattle.emit_classes.proofs.Growing.{stays-behind}
use Rattle.emit_classes.proofs.Stays.{class-stays, member-stays}
use Rattle.translate_classes.specs.Named.{AreMembers, AreTwoMethods, AreNames}
use Rattle.translate_classes.specs.declared.names.Names.{Names}
use Rattle.translate_classes.specs.declared.two_methods.TwoMethods.{TwoMethods}

pub grown-not : (c : Class) → GrowsPool c c 0
grown-not c = record {
  pool = record { kept = extends-itself c.pool; few = omega arith; sound = λ h. h };
  others = refl;
}

pub grown-further : (a b c : Class) (m n : ℕ) → GrowsPool a b m → GrowsPool b c n → GrowsPool a c (m + n)
grown-further a b c m n first second = record {
  pool = record {
    kept = extends-further a.pool b.pool c.pool first.pool.kept second.pool.kept;
    few = omega (arith, first.pool.few, second.pool.few);
    sound = λ h. second.pool.sound (first.pool.sound h);
  };
  others = second.others ∙ ap (λ (x : Class). record x { pool = c.pool }) first.others;
}

module _ (old new : List Entry) (kept : Extends old new) where
  pub class-later : (slot : ℕ) (name : List ℕ) → IsClassAt old slot name → IsClassAt new slot name
  class-later slot name is = class-stays old new (stays-behind old new kept) slot name is

  pub member-later : (kind : ℕ → ℕ → Entry) (slot class : ℕ) (name descriptor : List ℕ) → IsMemberAt kind old slot class name descriptor
      → IsMemberAt kind new slot class name descriptor
  member-later kind slot class name descriptor is = member-stays old new (stays-behind old new kept) kind slot class name descriptor is

  pub members-later : (kind : ℕ → ℕ → Entry) (name descriptor : ℕ → List ℕ) (class : ℕ) (slots : List ℕ) (count : ℕ)
      → AreMembers kind name descriptor old class slots count → AreMembers kind name descriptor new class slots count
  members-later kind name descriptor class slots count are = record {
    count_is = are.count_is;
    each = λ k less. member-later kind (slice_index_or slots k 0) class (name k) (descriptor k) (are.each k less);
  }

  pub two-later : (owner : List ℕ) (first second : Signature) (slots : TwoMethods) → AreTwoMethods old owner first second slots
      → AreTwoMethods new owner first second slots
  two-later owner first second slots is = record {
    class_is = class-later slots.class owner is.class_is;
    first_is = member-later MethodRef slots.first slots.class _ _ is.first_is;
    second_is = member-later MethodRef slots.second slots.class _ _ is.second_is;
  }

  -- one member more
  pub members-more : (kind : ℕ → ℕ → Entry) (name descriptor : ℕ → List ℕ) (class : ℕ) (slots : List ℕ) (count slot : ℕ)
      → AreMembers kind name descriptor old class slots count → IsMemberAt kind new slot class (name count) (descriptor count)
      → AreMembers kind name descriptor new class (slots ++ slot ∷ []) (count + 1)
  members-more kind name descriptor class slots count slot are is =
      let later = members-later kind name descriptor class slots count are in
      record {
        count_is = omega (arith, length_push slots slot, are.count_is);
        each = λ k less. elim (cases_lt k count) [
          | inl before ↦
              let e = get_or_append_left slots (slot ∷ []) 0 k (subst (λ n. k < n) (sym are.count_is) before) in
              subst (λ s. IsMemberAt kind new s class (name k) (descriptor k)) (sym e) (later.each k before)
          | inr not_before ↦
              let last : k ≡ count = omega (arith, less, not_before) in
              let e = get_or_push slots slot 0 k (are.count_is ∙ sym last) in
              subst (λ s. IsMemberAt kind new s class (name k) (descriptor k)) (sym e)
              (subst (λ n. IsMemberAt kind new slot class (name n) (descriptor n)) (sym last) is)
        ];
      }

pub no-members : (kind : ℕ → ℕ → Entry) (name descriptor : ℕ → List ℕ) (pool : List Entry) (class : ℕ) → AreMembers kind name descriptor pool class [] 0
no-members kind name descriptor pool class = record { count_is = refl; each = λ k less. absurd (omega (arith, less)) }

pub names-later : (fields : ℕ) (old new : List Entry) → Extends old new → (main : List ℕ) (names : Names) → AreNames fields old main names
    → AreNames fields new main names
names-later fields old new kept main names are = record {
  main_is = class-later old new kept names.main main are.main_is;
  fields_are = members-later old new kept FieldRef field_name field_descriptor names.main names.fields.items fields are.fields_are;
  host_is = two-later old new kept _ _ _ names.host are.host_is;
  strings_are = two-later old new kept _ _ _ names.strings are.strings_are;
  ints_is = class-later old new kept names.ints _ are.ints_is;
}
