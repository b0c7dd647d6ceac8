-- Framed classes and their tables are determined.
use Rattle.std.proofs.Common.{◌≡◌, ℕ, suc, List, [], ◌∷◌, refl, sym, ◌∙◌}
use Rattle.class_definition.specs.declared.class.Class.{Class}
use Rattle.class_definition.specs.declared.method.Method.{Method}
use Rattle.class_definition.specs.Linking.{gives_int, linked_method, program_of}
use Rattle.class_definition.specs.MemberNames.{slot_text}
use Rattle.stackmap_table.proofs.DeterminedLaws.{tables-same}
use Rattle.stackmap_prune.proofs.DeterminedLaws.{listed-alike, listed-same, pruning-same}
use Rattle.stackmap_laws.specs.Framed.{IsPrunedOf, ArePruned, IsFramed, AreFramedFrom, AreFramed, IsTableFor, AreTablesFor, AreTablesFrom, AreTables}
use Rattle.stackmap_laws.proofs.MethodLaws.{good-code}

-- ---- classes

method-same : (cs : List Class) (number : ℕ) (c : Class) (m n o : Method) → IsPrunedOf cs number c m n → IsPrunedOf cs number c m o → n ≡ o
method-same cs number c m n o a b =
    pruning-same (program_of cs) (linked_method cs number c m) (gives_int (slot_text c m.desc)) m n o a.reached b.reached (good-code n.code a.sound) a.listed b.listed a.is b.is

methods-same : (cs : List Class) (number : ℕ) (c : Class) (ms ns os : List Method) → ArePruned cs number c ms ns → ArePruned cs number c ms os → ns ≡ os
methods-same cs number c [] [] [] a b = refl
methods-same cs number c [] [] (o ∷ os) a b = absurd b
methods-same cs number c [] (n ∷ ns) os a b = absurd a
methods-same cs number c (m ∷ ms) [] os a b = absurd a
methods-same cs number c (m ∷ ms) (n ∷ ns) [] a b = absurd b
methods-same cs number c (m ∷ ms) (n ∷ ns) (o ∷ os) a b = λ i. method-same cs number c m n o a.0 b.0 i ∷ methods-same cs number c ms ns os a.1 b.1 i

class-same : (cs : List Class) (number : ℕ) (c d e : Class) → IsFramed cs number c d → IsFramed cs number c e → d ≡ e
class-same cs number c d e a b =
    let pool : d.pool ≡ e.pool = a.pool ∙ sym b.pool in
    let this : d.this_class ≡ e.this_class = a.this ∙ sym b.this in
    let super : d.super_class ≡ e.super_class = a.super ∙ sym b.super in
    let fields : d.fields ≡ e.fields = a.fields ∙ sym b.fields in
    let methods : d.methods ≡ e.methods = methods-same cs number c c.methods d.methods e.methods a.methods b.methods in
    λ i. record { pool = pool i; this_class = this i; super_class = super i; fields = fields i; methods = methods i }

classes-same : (cs : List Class) (number : ℕ) (xs ds es : List Class) → AreFramedFrom cs number xs ds → AreFramedFrom cs number xs es → ds ≡ es
classes-same cs number [] [] [] a b = refl
classes-same cs number [] [] (e ∷ es) a b = absurd b
classes-same cs number [] (d ∷ ds) es a b = absurd a
classes-same cs number (x ∷ xs) [] es a b = absurd a
classes-same cs number (x ∷ xs) (d ∷ ds) [] a b = absurd b
classes-same cs number (x ∷ xs) (d ∷ ds) (e ∷ es) a b = λ i. class-same cs number x d e a.0 b.0 i ∷ classes-same cs (suc number) xs ds es a.1 b.1 i

pub framed-same : (cs ds es : List Class) → AreFramed cs ds → AreFramed cs es → ds ≡ es
framed-same cs ds es a b = classes-same cs 0 cs ds es a b

-- ---- tables

table-same : (cs ds : List Class) (number : ℕ) (c d : Class) (m n : Method) (t u : List ℕ) → IsTableFor cs ds number c d m n t → IsTableFor cs ds number c d m n u → t ≡ u
table-same cs ds number c d m n t u a b =
    let after = linked_method ds number d n in
    let alike = listed-alike (linked_method ds number d n) a.reached b.reached (listed-same (program_of cs) (linked_method cs number c m) a.reached b.reached a.listed b.listed) in
    tables-same d.pool after.parameters _ _ t u alike a.is b.is

class-tables-same : (cs ds : List Class) (number : ℕ) (c d : Class) (ms ns : List Method) (ts us : List (List ℕ)) → AreTablesFor cs ds number c d ms ns ts → AreTablesFor cs ds number c d ms ns us → ts ≡ us
class-tables-same cs ds number c d [] [] [] [] a b = refl
class-tables-same cs ds number c d [] [] [] (u ∷ us) a b = absurd b
class-tables-same cs ds number c d [] [] (t ∷ ts) us a b = absurd a
class-tables-same cs ds number c d [] (n ∷ ns) ts us a b = absurd a
class-tables-same cs ds number c d (m ∷ ms) [] ts us a b = absurd a
class-tables-same cs ds number c d (m ∷ ms) (n ∷ ns) [] us a b = absurd a
class-tables-same cs ds number c d (m ∷ ms) (n ∷ ns) (t ∷ ts) [] a b = absurd b
class-tables-same cs ds number c d (m ∷ ms) (n ∷ ns) (t ∷ ts) (u ∷ us) a b =
    λ i. table-same cs ds number c d m n t u a.0 b.0 i ∷ class-tables-same cs ds number c d ms ns ts us a.1 b.1 i

lists-same : (cs ds : List Class) (number : ℕ) (xs ys : List Class) (ts us : List (List (List ℕ))) → AreTablesFrom cs ds number xs ys ts → AreTablesFrom cs ds number xs ys us → ts ≡ us
lists-same cs ds number [] [] [] [] a b = refl
lists-same cs ds number [] [] [] (u ∷ us) a b = absurd b
lists-same cs ds number [] [] (t ∷ ts) us a b = absurd a
lists-same cs ds number [] (y ∷ ys) ts us a b = absurd a
lists-same cs ds number (x ∷ xs) [] ts us a b = absurd a
lists-same cs ds number (x ∷ xs) (y ∷ ys) [] us a b = absurd a
lists-same cs ds number (x ∷ xs) (y ∷ ys) (t ∷ ts) [] a b = absurd b
lists-same cs ds number (x ∷ xs) (y ∷ ys) (t ∷ ts) (u ∷ us) a b =
    λ i. class-tables-same cs ds number x y x.methods y.methods t u a.0 b.0 i ∷ lists-same cs ds (suc number) xs ys ts us a.1 b.1 i

pub all-tables-same : (cs ds : List Class) (ts us : List (List (List ℕ))) → AreTables cs ds ts → AreTables cs ds us → ts ≡ us
all-tables-same cs ds ts us a b = lists-same cs ds 0 cs ds ts us a b
