-- The slots of methods mean calls of these.
use Rattle.std.proofs.Common.{◌≡◌, ℕ, ◌+◌, ◌-◌, ◌<◌, ◌≤◌, Bool, true, false, List, length, Some, ap, ◌∙◌, arith}
use Rattle.std.specs.Prelude.{nat_lt, slice_index}
use Rattle.std.proofs.lemmas.Bool.{and_parts, ltb-true, leb-true}
use Rattle.jvm_definition.specs.declared.instruction.Instruction.TheVariants as instructions
use Rattle.class_definition.specs.declared.entry.Entry.{Entry}
use Rattle.class_definition.specs.declared.entry.Entry.TheVariants.{MethodRef}
use Rattle.class_definition.specs.NameGrammar.{same_text}
use Rattle.class_definition.specs.declared.class.Class.{Class}
use Rattle.class_definition.specs.MemberNames.{host_name}
use Rattle.emit_assembly.specs.declared.references.References.{References}
use Rattle.emit_assembly.specs.Assembling.{Extends, has_method}
use Rattle.emit_classes.specs.Laws.{MethodsAreMeant}
use Rattle.emit_classes.specs.Named.{IsClassAt}
use Rattle.emit_methods_laws.specs.Naming.{is_helper}
use Rattle.translate_classes.specs.Named.{AreMembers}
use Rattle.translate_classes_laws.specs.Meaning.{AreCalled, HaveMethodNumbers, IsMethodNumber}

module _ (law : MethodsAreMeant) (r : References) (classes : List Class) (number : ℕ) (c : Class) (pool : List Entry) (goes_on : Extends pool c.pool) where
  pub numbered-called : (calls : ℕ → Bool)
      → ((m : ℕ) → calls m ≡ true → IsMethodNumber classes pool (slice_index r.methods (m - r.first_method)) m)
      → AreCalled r classes number c calls
  numbered-called calls each m is =
      let n = each m is in
      law classes number c pool (slice_index r.methods (m - r.first_method)) n.class m n.owner n.name n.descriptor goes_on n.owner_is n.method_is
      n.no_host n.number_is

  -- members of a class
  module _ (class count : ℕ) (owner : List ℕ) (name descriptor : ℕ → List ℕ) (owner_is : IsClassAt pool class owner) (no_host : same_text owner host_name ≡ false) (members : AreMembers MethodRef name descriptor pool class r.methods count) (numbers : HaveMethodNumbers classes owner name descriptor r.first_method count) where
    member-number : (m : ℕ) → r.first_method ≤ m → m - r.first_method < count
        → IsMethodNumber classes pool (slice_index r.methods (m - r.first_method)) m
    member-number m low below =
        let k = m - r.first_method in
        let same : r.first_method + k ≡ m = omega (arith, low) in
        record {
          class = class;
          owner = owner;
          name = name k;
          descriptor = descriptor k;
          owner_is = owner_is;
          no_host = no_host;
          method_is = members.each k below;
          number_is = numbers k below ∙ ap (λ n. Some n) same;
        }

    pub members-called : AreCalled r classes number c (has_method r)
    members-called = numbered-called (has_method r) (λ m is.
        let parts = and_parts _ (nat_lt (m - r.first_method) (length r.methods)) is in
        let low = leb-true r.first_method m parts.0 in
        let below = ltb-true (m - r.first_method) (length r.methods) parts.1 in
        let total = members.count_is in
        member-number m low (omega (arith, below, total)))

    pub helpers-called : r.first_method ≡ 0 → count ≡ 20 → AreCalled r classes number c is_helper
    helpers-called none total = numbered-called is_helper (λ m is.
        let below = ltb-true m 20 is in member-number m (omega (arith, none)) (omega (arith, below, none, total)))
