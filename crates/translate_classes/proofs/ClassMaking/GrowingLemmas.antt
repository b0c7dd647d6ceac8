-- A class whose pool grows keeps its name and its members.
use Rattle.std.proofs.Common.{◌≡◌, ℕ, List, ap, sym, subst}
use Rattle.class_definition.specs.declared.class.Class.{Class}
use Rattle.emit_classes.specs.Built.{GrowsPool}
use Rattle.emit_classes.specs.Named.{IsClassAt}
use Rattle.emit_classes.proofs.Made.{class-later}

pub grown-name : (old new : Class) (slots : ℕ) (name : List ℕ) → GrowsPool old new slots → IsClassAt old.pool old.this_class name
    → IsClassAt new.pool new.this_class name
grown-name old new slots name grown is =
    subst (λ slot. IsClassAt new.pool slot name) (sym (ap (λ (x : Class). x.this_class) grown.others))
    (class-later old.pool new.pool old.this_class name grown.pool.kept is)

pub grown-methods : (old new : Class) (slots : ℕ) → GrowsPool old new slots → new.methods ≡ old.methods
grown-methods old new slots grown = ap (λ (x : Class). x.methods) grown.others

pub grown-fields : (old new : Class) (slots : ℕ) → GrowsPool old new slots → new.fields ≡ old.fields
grown-fields old new slots grown = ap (λ (x : Class). x.fields) grown.others
