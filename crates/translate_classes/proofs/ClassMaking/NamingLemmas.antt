-- A class whose pool names more keeps its name and its members.
use Rattle.std.proofs.Common.{◌≡◌, ℕ, List, [], ◌++◌, refl, ap, sym, ◌∙◌, subst}
use Rattle.class_definition.specs.declared.class.Class.{Class}
use Rattle.std.proofs.lemmas.List.{append-nil}
use Rattle.emit_assembly.proofs.Pools.{extends-itself, extends-further}
use Rattle.emit_classes.specs.Built.{GrowsPool}
use Rattle.emit_classes.specs.Named.{IsClassAt}
use Rattle.emit_classes.specs.Mentioned.{Mention, mentioned, Mentions}
use Rattle.emit_classes.proofs.Made.{class-later}
use Rattle.emit_classes.proofs.Mentions.{mentions-itself, mentions-further, mentions-after, mentions-still}
use Rattle.translate_classes.specs.Making.{AddsMethods, NamesMore}
use Rattle.translate_classes.proofs.ClassMaking.MakingLemmas.{keeps-methods}

pub names-none : (c : Class) → NamesMore c c []
names-none c = record {
  pool = extends-itself c.pool;
  mentions = subst (Mentions c.pool) (sym (append-nil (mentioned c.pool))) (mentions-itself c.pool);
  others = refl;
}

pub names-slots : (old new : Class) (slots : ℕ) (names : List Mention) → GrowsPool old new slots → Mentions new.pool (mentioned old.pool ++ names)
    → NamesMore old new names
names-slots old new slots names grown named = record { pool = grown.pool.kept; mentions = named; others = grown.others }

-- more, and more behind
pub names-more : (a b c : Class) (xs ys : List Mention) → NamesMore a b xs → NamesMore b c ys → NamesMore a c (xs ++ ys)
names-more a b c xs ys first second = record {
  pool = extends-further a.pool b.pool c.pool first.pool second.pool;
  mentions = mentions-after a.pool b.pool c.pool xs ys first.mentions second.mentions;
  others = second.others ∙ ap (λ (x : Class). record x { pool = c.pool }) first.others;
}

-- more, and then nothing
pub names-still : (a b c : Class) (names : List Mention) → NamesMore a b names → AddsMethods b c [] → NamesMore a c names
names-still a b c names first second = record {
  pool = extends-further a.pool b.pool c.pool first.pool second.pool;
  mentions = mentions-still b.pool c.pool (mentioned a.pool ++ names) first.mentions second.mentions;
  others =
      second.others
      ∙ ap (λ methods. record b { pool = c.pool; methods = methods })
      (sym (ap (λ (x : Class). x.methods) second.others) ∙ keeps-methods b c second)
      ∙ ap (λ (x : Class). record x { pool = c.pool }) first.others;
}

-- what a class names whose pool named something
pub names-all : (old new : Class) (xs ys : List Mention) → Mentions old.pool xs → NamesMore old new ys → Mentions new.pool (xs ++ ys)
names-all old new xs ys first second = mentions-further old.pool new.pool xs ys first second.mentions

pub named-methods : (old new : Class) (names : List Mention) → NamesMore old new names → new.methods ≡ old.methods
named-methods old new names named = ap (λ (x : Class). x.methods) named.others

pub named-fields : (old new : Class) (names : List Mention) → NamesMore old new names → new.fields ≡ old.fields
named-fields old new names named = ap (λ (x : Class). x.fields) named.others

pub named-name : (old new : Class) (names : List Mention) (name : List ℕ) → NamesMore old new names → IsClassAt old.pool old.this_class name
    → IsClassAt new.pool new.this_class name
named-name old new names name named is =
    subst (λ slot. IsClassAt new.pool slot name) (sym (ap (λ (x : Class). x.this_class) named.others))
    (class-later old.pool new.pool old.this_class name named.pool is)
