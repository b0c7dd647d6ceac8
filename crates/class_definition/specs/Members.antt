-- JVM Specification, 4.5, 4.6 and 4.7.3: fields, methods and their code.
use Rattle.std.specs.Prelude.{ℕ, ◌+◌, ◌==◌, not, List, length, Option, Some, option_map}
use Rattle.std.specs.Int.{w16, w32}
use Rattle.class_definition.specs.declared.class_fault.ClassFault.{ClassFault}
use Rattle.class_definition.specs.Kinds.{cut, flags, attribute, bad_code}
use Rattle.class_definition.specs.Format.{Format, number_format, raw, both, mapped, tested, checked, exactly, behind, before}
use Rattle.class_definition.specs.declared.entry.Entry.{Entry}
use Rattle.class_definition.specs.NameGrammar.{is_member_name, is_field_descriptor}
use Rattle.class_definition.specs.declared.code_fault.CodeFault.{CodeFault}
use Rattle.class_definition.specs.declared.member.Member.{Member}
use Rattle.class_definition.specs.declared.method.Method.{Method}
use Rattle.class_definition.specs.Code.{code_fault, is_bad_length}
use Rattle.class_definition.specs.Named.{text_slot, is_own_descriptor, code_name_slot}

-- fields and methods are public and static
abbrev pub public_static : Format (Unit {0})
public_static = exactly cut w16 flags 9

-- the number of attributes, or of exception handlers
abbrev pub attributes : ℕ → Format (Unit {0})
attributes n = exactly cut w16 attribute n

unfoldable pub field : List Entry → Format Member
field pool =
    mapped (λ x. record { name = x.0; desc = x.1 }) (λ f. Some (f.name, f.desc))
    (behind public_static
    (before (both (text_slot pool is_member_name) (λ _. text_slot pool is_field_descriptor))
    (attributes 0)))

-- ---- code

-- the attribute's length, max_stack, max_locals, and how many bytes the code has; its length counts what follows it
abbrev pub CodeHead : Type 0
CodeHead = ℕ × (ℕ × (ℕ × ℕ))

abbrev pub code_length : Format ℕ
code_length = tested bad_code (λ n. not (is_bad_length n)) (number_format cut w32)

abbrev pub code_head : Format CodeHead
code_head =
    tested attribute (λ h. h.0 == h.1.1.1 + 12)
    (both (number_format cut w32) (λ _. both (number_format cut w16)
    (λ _. both (number_format cut w16) (λ _. code_length))))

-- the code's fault as one of the class
abbrev pub fault_of_code : Option CodeFault → Option ClassFault
fault_of_code fault = option_map (λ f. record { kind = bad_code; at = f.at }) fault

abbrev pub code_bytes : ℕ → Format (List ℕ)
code_bytes n = checked (λ bytes. fault_of_code (code_fault bytes)) (raw cut n)

-- no exception handlers and no attributes follow
unfoldable pub code_attribute : Format (CodeHead × List ℕ)
code_attribute =
    both code_head (λ h. before (before (code_bytes h.1.1.1) (attributes 0)) (attributes 0))

-- name, descriptor, the name of the attribute, and the attribute
abbrev pub MethodParts : Type 0
MethodParts = (ℕ × ℕ) × (ℕ × (CodeHead × List ℕ))

abbrev pub method_made : MethodParts → Method
method_made x = record {
  name = x.0.0;
  desc = x.0.1;
  attr = x.1.0;
  stack = x.1.1.0.1.0;
  locals = x.1.1.0.1.1.0;
  code = x.1.1.1;
}

abbrev pub method_parts : Method → MethodParts
method_parts m = (
  (m.name, m.desc),
  (
    m.attr,
    (
      (length m.code + 12, (m.stack, (m.locals, length m.code))),
      m.code,
    ),
  ),
)

unfoldable pub method : List Entry → Format Method
method pool =
    mapped method_made (λ m. Some (method_parts m))
    (behind public_static
    (both (both (text_slot pool is_member_name) (λ _. text_slot pool is_own_descriptor))
    (λ _. behind (attributes 1) (both (code_name_slot pool) (λ _. code_attribute)))))
