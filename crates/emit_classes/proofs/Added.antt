-- What a class with one more method has more than before.
use Rattle.std.proofs.Common.{◌≡◌, ℕ, ◌+◌, List, [], ◌∷◌, ◌++◌, refl, ap, subst, arith}
use Rattle.std.specs.Prelude.{Vec}
use Rattle.std.specs.declared.alloc.Global.{Global}
use Rattle.class_definition.specs.declared.entry.Entry.{Entry}
use Rattle.class_definition.specs.declared.class.Class.{Class}
use Rattle.class_definition.specs.declared.member.Member.{Member}
use Rattle.class_definition.specs.declared.method.Method.{Method}
use Rattle.class_definition.specs.Linking.{lines_of_code}
use Rattle.emit_steps.specs.declared.step.Step.{Step}
use Rattle.emit_assembly.specs.declared.references.References.{References}
use Rattle.emit_assembly.specs.Assembling.{Extends, AreLinked, slots_of}
use Rattle.emit_classes.specs.declared.builder.ClassBuilder.TheInside.{Inside}
use Rattle.emit_classes.specs.Inside.{class_so_far}
use Rattle.emit_classes.specs.Mentioned.{mentioned, Mentions}
use Rattle.emit_classes.specs.Built.{Grows, IsNamed, AddsMethod}
use Rattle.emit_classes.proofs.Growing.{grows-more}
use Rattle.emit_classes.proofs.Made.{text-later}
use Rattle.emit_classes.proofs.Mentions.{mentions-still}

pub named-later : (old new : List Entry) (slots : Member) (name descriptor : List ℕ) → Extends old new
    → IsNamed old slots name descriptor → IsNamed new slots name descriptor
named-later old new slots name descriptor x n =
    record {
      name_is = text-later old new slots.name name x n.name_is;
      descriptor_is = text-later old new slots.desc descriptor x
          n.descriptor_is;
    }

pub method-added : (b : Inside) (c : Class) (mid new : List Entry) (methods : Vec Method Global) (named : Member) (locals : ℕ)
    (r : References) (steps : List Step)
    (bytes code : List ℕ) (name descriptor : List ℕ) → class_so_far b ≡ c → Grows b.pool mid 2 → Grows mid new (slots_of steps)
    → Mentions mid (mentioned b.pool) → Mentions new (mentioned mid) → IsNamed
    mid named name descriptor
    → AreLinked r new steps (lines_of_code bytes) → code ≡ bytes
    → methods.items ≡ b.methods.items ++ (record {
      name = named.name;
      desc = named.desc;
      attr = b.code;
      stack = 16;
      locals = locals;
      code = code;
    }) ∷ []
    → AddsMethod c (class_so_far (record b { pool = new; methods = methods })) name descriptor locals r steps
method-added b c mid new methods named locals r steps bytes code name descriptor is x y first second n lines same more =
    let m : Method = record { name = named.name; desc = named.desc; attr = b.code; stack = 16; locals = locals; code = code } in
    let P : Class → Type 0 = λ d. AddsMethod d (class_so_far (record b { pool = new; methods = methods })) name descriptor locals r steps in
    subst P is (record {
      method = m;
      named = named-later mid new named name descriptor y.kept n;
      stack = refl;
      locals_are = refl;
      lines = rw same lines;
      pool = grows-more b.pool mid new 2 (slots_of steps) (2 + slots_of steps) x y (omega arith);
      mentions = mentions-still mid new (mentioned b.pool) first second;
      others = ap (λ (ms : List Method). record (class_so_far b) { pool = new; methods = ms }) more;
    })
