-- The names and descriptors of members that are made.
use Rattle.std.proofs.Common.{◌≡◌, ℕ, List, [], ◌∷◌, map, refl}
use Rattle.std.specs.Prelude.{unwrap_or}
use Rattle.std.specs.List.{AllZip}
use Rattle.class_definition.specs.declared.class.Class.{Class}
use Rattle.class_definition.specs.declared.member.Member.{Member}
use Rattle.class_definition.specs.declared.method.Method.{Method}
use Rattle.class_definition.specs.MemberNames.{signature, slot_text, field_signature, method_signature}
use Rattle.emit_classes.specs.Named.{IsTextAt}
use Rattle.emit_classes.specs.Built.{IsNamed}
use Rattle.translate_classes.specs.Making.{Plan, IsMade}
use Rattle.translate_classes_laws.specs.Planned.{planned, numbered}

signature-by : (c : Class) (slot other : ℕ) (name descriptor : List ℕ) → IsTextAt c.pool slot name → IsTextAt c.pool other descriptor
    → signature (slot_text c slot) (slot_text c other) ≡ signature name descriptor
signature-by c slot other name descriptor a b = λ i. signature (unwrap_or (a i) []) (unwrap_or (b i) [])

pub methods-made : (c : Class) (ms : List Method) (plans : List Plan) → AllZip (IsMade c.pool) ms plans → map (method_signature c) ms ≡ map planned plans
methods-made c [] [] made = refl
methods-made c [] (p ∷ plans) made = absurd made
methods-made c (m ∷ ms) [] made = absurd made
methods-made c (m ∷ ms) (p ∷ plans) made =
    λ i. signature-by c m.name m.desc p.name p.descriptor made.0.name_is made.0.descriptor_is i ∷ methods-made c ms plans made.1 i

pub fields-made : (c : Class) (name descriptor : ℕ → List ℕ) (fs : List Member) (numbers : List ℕ) → AllZip (λ (f : Member) k. IsNamed c.pool f (name k) (descriptor k)) fs numbers
    → map (field_signature c) fs ≡ map (numbered name descriptor) numbers
fields-made c name descriptor [] [] made = refl
fields-made c name descriptor [] (k ∷ numbers) made = absurd made
fields-made c name descriptor (f ∷ fs) [] made = absurd made
fields-made c name descriptor (f ∷ fs) (k ∷ numbers) made =
    λ i. signature-by c f.name f.desc (name k) (descriptor k) made.0.name_is made.0.descriptor_is i ∷ fields-made c name descriptor fs numbers made.1 i
