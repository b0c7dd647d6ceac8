-- A class that is made could be written at any time.
use Rattle.std.proofs.Common.{◌≡◌, ℕ, ◌+◌, ◌<◌, ◌&&◌, true, List, [], ◌∷◌, ◌++◌, length, None, refl, subst, codes, arith}
use Rattle.std.specs.Prelude.{Vec}
use Rattle.std.specs.declared.alloc.Global.{Global}
use Rattle.std.proofs.lemmas.Bool.{and_parts}
use Rattle.class_definition.specs.declared.entry.Entry.{Entry}
use Rattle.class_definition.specs.NameGrammar.{is_class_file_name, is_member_name, is_field_descriptor}
use Rattle.class_definition.specs.declared.member.Member.{Member}
use Rattle.class_definition.specs.declared.method.Method.{Method}
use Rattle.class_definition.specs.Code.{code_fault}
use Rattle.class_definition.specs.Named.{is_own_descriptor}
use Rattle.class_definition.specs.ClassFile.{class}
use Rattle.emit_classes.specs.declared.builder.ClassBuilder.TheInside.{Inside}
use Rattle.emit_classes.specs.Named.{IsTextAt, IsClassAt}
use Rattle.emit_classes.specs.Inside.{class_so_far, CanBeWritten}
use Rattle.emit_classes.specs.Built.{Grows, IsNamed}
use Rattle.emit_classes.proofs.Growing.{stays-behind, grows-more}
use Rattle.emit_classes.proofs.Joined.{empty-pool}
use Rattle.emit_classes.proofs.Made.{text-later, class-later}
use Rattle.emit_classes.proofs.Classes.{class-parts, class-of-parts, class-stays-sound, class_slots-fit}
use Rattle.emit_classes.proofs.Members.{field-fits, class-with-field, method-fits, class-with-method}

-- its pool grows
pub written-grown : (b : Inside) (new : List Entry) (slots : ℕ) → CanBeWritten b → Grows b.pool new slots
    → CanBeWritten (record b { pool = new })
written-grown b new slots w g =
    let sound = (class-parts (class_so_far b) w.fits).pool_is in
    record {
      fits = class-stays-sound (class_so_far b) new (stays-behind b.pool new g.kept) (g.sound sound) w.fits;
      code_is = text-later b.pool new b.code (codes "Code") g.kept w.code_is;
    }

-- ---- a class without members

begun-fits : (pool : List Entry) (this super : ℕ) (fields : List Member) (methods : List Method) (name : List ℕ) → Grows [] pool 5
    → fields ≡ [] → methods ≡ []
    → this < 65536 → super < 65536 → IsClassAt pool this name → is_class_file_name name ≡ true → IsClassAt pool super (codes "java/lang/Object")
    → class.fits (record { pool = pool; this_class = this; super_class = super; fields = fields; methods = methods }) ≡ true
begun-fits pool this super fields methods name g field_less method_less small low own lawful object =
    rw (field_less, method_less) (class-of-parts (record {
      pool = pool;
      this_class = this;
      super_class = super;
      fields = [];
      methods = [];
    }) (record {
      pool_is = g.sound empty-pool;
      slots = class_slots-fit pool this super name small low own lawful object;
      few_fields = omega arith;
      fields_fit = refl;
      few_methods = omega arith;
      methods_fit = refl;
    }))

module _ (first second third new : List Entry) (none : first ≡ []) (x : Grows first second 2) (y : Grows second third 2)
    (z : Grows third new 1) where
  pub begun-grows : Grows [] new 5
  begun-grows =
      let P : List Entry → Type 0 = λ p. Grows p new 5 in
      subst P none (grows-more first third new 4 1 5 (grows-more first second third 2 2 4 x y (omega arith)) z (omega arith))

  pub begun-name : (this : ℕ) (name : List ℕ) → IsClassAt second this name → IsClassAt new this name
  begun-name this name own = class-later third new this name z.kept (class-later second third this name y.kept own)

  pub written-begun : (b : Inside) (name : List ℕ) → b.pool ≡ new → b.fields.items ≡ [] → b.methods.items ≡ [] → b.this_class < 65536
      → b.super_class < 65536
      → IsClassAt second b.this_class name → is_class_file_name name ≡ true → IsClassAt third b.super_class (codes "java/lang/Object")
      → IsTextAt b.pool b.code (codes "Code")
      → CanBeWritten b
  written-begun b name is no_fields no_methods small low own lawful object code =
      record {
        fits = rw is (begun-fits new b.this_class b.super_class b.fields.items b.methods.items name begun-grows no_fields no_methods small
            low
            (begun-name b.this_class name own) lawful (class-later third new b.super_class (codes "java/lang/Object") z.kept object));
        code_is = code;
      }

-- ---- one more field

pub written-field : (b : Inside) (new : List Entry) (fields : Vec Member Global) (f : Member) (name descriptor : List ℕ) → CanBeWritten b
    → Grows b.pool new 2 → IsNamed new f name descriptor
    → (is_member_name name && is_field_descriptor descriptor) ≡ true → f.name < 65536 → f.desc < 65536 → length b.fields.items < 65535
    → fields.items ≡ b.fields.items ++ f ∷ []
    → CanBeWritten (record b { pool = new; fields = fields })
written-field b new fields f name descriptor w g n lawful small low few more =
    let wider = written-grown b new 2 w g in
    let p = and_parts (is_member_name name) (is_field_descriptor descriptor) lawful in
    let one = field-fits new f name descriptor small low n.name_is n.descriptor_is p.0 p.1 in
    record { fits = rw more (class-with-field (class_so_far (record b { pool = new })) f wider.fits few one); code_is = wider.code_is }

pub written-fields : (b : Inside) (new : List Entry) (fields : Vec Member Global) → CanBeWritten b → Grows b.pool new 2
    → fields.items ≡ b.fields.items
    → CanBeWritten (record b { pool = new; fields = fields })
written-fields b new fields w g same =
    let wider = written-grown b new 2 w g in
    record { fits = rw same wider.fits; code_is = wider.code_is }

-- ---- one more method, for which the pool grows twice

module _ (b : Inside) (mid new : List Entry) (first second : ℕ) (w : CanBeWritten b)
    (x : Grows b.pool mid first) (y : Grows mid new second) where
  pub written-further : CanBeWritten (record b { pool = new })
  written-further =
      written-grown b new (first + second) w (grows-more b.pool mid new first second (first + second) x y (omega arith))

  pub written-methods : (methods : Vec Method Global) → methods.items ≡ b.methods.items
      → CanBeWritten (record b { pool = new; methods = methods })
  written-methods methods same =
      let wider = written-further in
      record { fits = rw same wider.fits; code_is = wider.code_is }

  pub written-method : (methods : Vec Method Global) (named : Member) (locals : ℕ) (code : List ℕ) (name descriptor : List ℕ)
      → IsNamed new named name descriptor
      → (is_member_name name && is_own_descriptor descriptor) ≡ true → named.name < 65536 → named.desc < 65536 → b.code < 65536
      → locals < 65536 → code_fault code ≡ None
      → length b.methods.items < 65535
      → methods.items ≡ b.methods.items ++ (record {
        name = named.name;
        desc = named.desc;
        attr = b.code;
        stack = 16;
        locals = locals;
        code = code;
      }) ∷ []
      → CanBeWritten (record b { pool = new; methods = methods })
  written-method methods named locals code name descriptor n lawful small low attr few_locals sound few more =
      let wider = written-further in
      let p = and_parts (is_member_name name) (is_own_descriptor descriptor) lawful in
      let m : Method = record { name = named.name; desc = named.desc; attr = b.code; stack = 16; locals = locals; code = code } in
      let sixteen : 16 < 65536 = omega arith in
      let one = method-fits new m name descriptor small low attr sixteen few_locals n.name_is n.descriptor_is wider.code_is p.0 p.1 sound in
      record { fits = rw more (class-with-method (class_so_far (record b { pool = new })) m wider.fits few one); code_is = wider.code_is }
