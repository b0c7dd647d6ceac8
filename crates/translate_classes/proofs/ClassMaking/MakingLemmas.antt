-- What is made stays made while the pool grows, and methods follow methods.
use Rattle.std.proofs.Common.{◌≡◌, ℕ, ◌+◌, List, [], ◌∷◌, ◌++◌, map, ap, sym, ◌∙◌, arith, subst, append_assoc}
use Rattle.std.specs.List.{AllZip, range_with_len}
use Rattle.std.proofs.lemmas.List.FromFn.{map-range_with_len_more}
use Rattle.std.proofs.lemmas.List.{append-nil}
use Rattle.class_definition.specs.declared.entry.Entry.{Entry}
use Rattle.class_definition.specs.declared.class.Class.{Class}
use Rattle.class_definition.specs.declared.method.Method.{Method}
use Rattle.emit_steps.specs.declared.step.Step.{Step}
use Rattle.emit_assembly.specs.declared.references.References.{References}
use Rattle.emit_assembly.specs.Assembling.{Extends}
use Rattle.emit_classes.specs.Built.{AddsMethod, GrowsPool}
use Rattle.emit_assembly.proofs.Pools.{extends-itself, extends-further}
use Rattle.emit_classes.specs.Named.{IsClassAt}
use Rattle.emit_classes.specs.Mentioned.{mentioned, Mentions}
use Rattle.emit_classes.proofs.Made.{text-later, class-later}
use Rattle.emit_classes.proofs.Mentions.{mentions-itself, mentions-still}
use Rattle.translate_classes.specs.Making.{Plan, IsMade, AddsMethods}
use Rattle.translate_classes.proofs.ClassMaking.ZipLemmas.{zip-through, zip-joined, zip-none}

made-later : (old new : List Entry) → Extends old new → (m : Method) (p : Plan) → IsMade old m p → IsMade new m p
made-later old new kept m p made = record {
  name_is = text-later old new m.name p.name kept made.name_is;
  descriptor_is = text-later old new m.desc p.descriptor kept made.descriptor_is;
  stack = made.stack;
  locals_are = made.locals_are;
  lines = λ classes number c gives behind known. made.lines classes number c gives (extends-further old new c.pool kept behind) known;
}

all-later : (old new : List Entry) → Extends old new → (ms : List Method) (ps : List Plan) → AllZip (IsMade old) ms ps → AllZip (IsMade new) ms ps
all-later old new kept ms ps made = zip-through (IsMade old) (IsMade new) (made-later old new kept) ms ps made

pub adds-none : (c : Class) → AddsMethods c c []
adds-none c = record {
  added = [];
  made = tt;
  pool = extends-itself c.pool;
  mentions = mentions-itself c.pool;
  others = ap (λ methods. record c { methods = methods }) (sym (append-nil c.methods));
}

-- one method
pub adds-one : (old new : Class) (name descriptor : List ℕ) (locals : ℕ) (r : References) (code : List Step)
    → AddsMethod old new name descriptor locals r code
    → AddsMethods old new (record { name = name; descriptor = descriptor; locals = locals; references = r; code = code } ∷ [])
adds-one old new name descriptor locals r code is = record {
  added = is.method ∷ [];
  made = (
    record {
      name_is = is.named.name_is;
      descriptor_is = is.named.descriptor_is;
      stack = is.stack;
      locals_are = is.locals_are;
      lines = is.lines;
    },
    tt,
  );
  pool = is.pool.kept;
  mentions = is.mentions;
  others = is.others;
}

-- none, where only the pool grows
pub adds-slots : (old new : Class) (slots : ℕ) → GrowsPool old new slots → Mentions new.pool (mentioned old.pool) → AddsMethods old new []
adds-slots old new slots grown named = record {
  added = [];
  made = tt;
  pool = grown.pool.kept;
  mentions = named;
  others = grown.others ∙ ap (λ methods. record old { pool = new.pool; methods = methods }) (sym (append-nil old.methods));
}

-- methods behind methods
pub adds-more : (a b c : Class) (ps qs : List Plan) → AddsMethods a b ps → AddsMethods b c qs → AddsMethods a c (ps ++ qs)
adds-more a b c ps qs first second = record {
  added = first.added ++ second.added;
  made = zip-joined (IsMade c.pool) first.added ps second.added qs (all-later b.pool c.pool second.pool first.added ps first.made) second.made;
  pool = extends-further a.pool b.pool c.pool first.pool second.pool;
  mentions = mentions-still b.pool c.pool (mentioned a.pool) first.mentions second.mentions;
  others =
      second.others
      ∙ ap (λ (x : Class). record x { pool = c.pool; methods = x.methods ++ second.added }) first.others
      ∙ ap (λ methods. record a { pool = c.pool; methods = methods }) (append_assoc a.methods first.added second.added);
}

-- slots, and then slots
pub adds-nothing : (a b c : Class) → AddsMethods a b [] → AddsMethods b c [] → AddsMethods a c []
adds-nothing a b c first second = adds-more a b c [] [] first second

-- one more of methods that are made by their numbers
pub adds-next : (a b c : Class) (plan : ℕ → Plan) (k : ℕ) → AddsMethods a b (map plan (range_with_len 0 k)) → AddsMethods b c (plan k ∷ [])
    → AddsMethods a c (map plan (range_with_len 0 (k + 1)))
adds-next a b c plan k before one =
    subst (AddsMethods a c) (sym (map-range_with_len_more plan 0 k k (omega arith)))
    (adds-more a b c (map plan (range_with_len 0 k)) (plan k ∷ []) before one)

-- ---- a class to which all its methods were added

pub made-all : (old new : Class) (plans : List Plan) → AddsMethods old new plans → old.methods ≡ [] → AllZip (IsMade new.pool) new.methods plans
made-all old new plans adds none =
    subst (λ methods. AllZip (IsMade new.pool) methods plans)
    (sym (ap (λ (x : Class). x.methods) adds.others ∙ ap (λ methods. methods ++ adds.added) none)) adds.made

pub keeps-methods : (old new : Class) → AddsMethods old new [] → new.methods ≡ old.methods
keeps-methods old new adds =
    ap (λ (x : Class). x.methods) adds.others
    ∙ ap (λ added. old.methods ++ added) (zip-none (IsMade new.pool) adds.added adds.made)
    ∙ append-nil old.methods

pub adds-fields : (old new : Class) (plans : List Plan) → AddsMethods old new plans → new.fields ≡ old.fields
adds-fields old new plans adds = ap (λ (x : Class). x.fields) adds.others

pub adds-name : (old new : Class) (plans : List Plan) (name : List ℕ) → AddsMethods old new plans → IsClassAt old.pool old.this_class name
    → IsClassAt new.pool new.this_class name
adds-name old new plans name adds is =
    subst (λ slot. IsClassAt new.pool slot name) (sym (ap (λ (x : Class). x.this_class) adds.others))
    (class-later old.pool new.pool old.this_class name adds.pool is)
