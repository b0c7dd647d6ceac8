-- Classes that became others, with their tables, are classes with their tables.
use Rattle.std.proofs.Common.{◌≡◌, ℕ, zero, suc, true, List, [], ◌∷◌, map, sym, subst}
use Rattle.std.specs.Prelude.{All}
use Rattle.std.proofs.lemmas.Bool.{and_parts}
use Rattle.class_definition.specs.declared.entry.Entry.{Entry}
use Rattle.class_definition.specs.declared.class.Class.{Class}
use Rattle.class_definition.specs.declared.method.Method.{Method}
use Rattle.class_definition.specs.Members.{method}
use Rattle.class_definition.specs.declared.framed_class.FramedClass.{FramedClass}
use Rattle.emit_classes.proofs.Classes.{class-parts, fit_all}
use Rattle.class_names.specs.Kept.{IsClass}
use Rattle.class_definition.specs.Linking.{linked_method}
use Rattle.stackmap_table.specs.Shortest.{IsTableOf}
use Rattle.stackmap_laws.specs.Like.{IsLike}
use Rattle.stackmap_laws.proofs.NameLaws.{AreLike}
use Rattle.stackmap_prune.specs.Listing.{listing_of}
use Rattle.stackmap_prune.specs.Linked.{listing_behind}
use Rattle.stackmap_laws.specs.Framed.{ArePruned, IsFramed, AreFramedFrom, AreFramed, IsTableFor, AreTablesFor, AreTablesFrom}
use Rattle.stackmap_laws.proofs.MethodLaws.{parameters-same, listing-behind}
use Rattle.stackmap_laws.proofs.FramedLaws.{pair-of, like, fit-of-all}
use Rattle.stackmap_maker.specs.Made.{IsMade, AreMade, IsClassMade, AreClassesMadeFrom, AreClassesMade}
use Rattle.stackmap_maker.specs.Refusals.{class_without_tables, tables_of, AreWithTables}

-- ---- they are framed

made-pruned : (cs : List Class) (number : ℕ) (c : Class) (pool : List Entry) (ms ns : List Method) (ts : List (List ℕ)) → AreMade cs number c pool ms ns ts → ArePruned cs number c ms ns
made-pruned cs number c pool [] [] [] h = tt
made-pruned cs number c pool (m ∷ ms) (n ∷ ns) (t ∷ ts) h = (h.0.is, made-pruned cs number c pool ms ns ts h.1)
made-pruned cs number c pool [] [] (t ∷ ts) h = absurd h
made-pruned cs number c pool [] (n ∷ ns) ts h = absurd h
made-pruned cs number c pool (m ∷ ms) [] ts h = absurd h
made-pruned cs number c pool (m ∷ ms) (n ∷ ns) [] h = absurd h

class-framed : (cs : List Class) (number : ℕ) (c : Class) (f : FramedClass) → IsClassMade cs number c f → IsFramed cs number c f.class
class-framed cs number c f h = record {
  pool = h.pool;
  few = h.few;
  this = h.this;
  super = h.super;
  fields = h.fields;
  methods = made-pruned cs number c f.class.pool c.methods f.class.methods f.tables h.methods;
}

made-framed : (cs : List Class) (number : ℕ) (xs : List Class) (fs : List FramedClass) → AreClassesMadeFrom cs number xs fs → AreFramedFrom cs number xs (map class_without_tables fs)
made-framed cs number [] [] h = tt
made-framed cs number [] (f ∷ fs) h = absurd h
made-framed cs number (x ∷ xs) [] h = absurd h
made-framed cs number (x ∷ xs) (f ∷ fs) h = (class-framed cs number x f h.0, made-framed cs (suc number) xs fs h.1)

-- ---- and these are their tables

module _ (cs ds : List Class) (all : AreLike cs ds) where
  method-table : (number : ℕ) (c d : Class) → IsLike c d → (m n : Method) (t : List ℕ) → IsMade cs number c d.pool m n t → (method c.pool).fits m ≡ true → IsTableFor cs ds number c d m n t
  method-table number c d like m n t h fits =
      let reached = h.is.reached in
      let pair = pair-of cs ds all number c d like m n h.is fits in
      record {
        reached = reached;
        listed = h.is.listed;
        is =
            subst (λ ks. IsTableOf d.pool ks (listing_of (linked_method ds number d n) reached) t) (sym (parameters-same cs ds number c d m n reached pair))
            (subst (λ l. IsTableOf d.pool (linked_method cs number c m).parameters l t) (sym (listing-behind cs ds number c d m n reached pair)) h.tabled);
      }

  methods-tables : (number : ℕ) (c d : Class) → IsLike c d → (ms ns : List Method) (ts : List (List ℕ)) → AreMade cs number c d.pool ms ns ts → fit_all (method c.pool) ms ≡ true → AreTablesFor cs ds number c d ms ns ts
  methods-tables number c d like [] [] [] h fits = tt
  methods-tables number c d like (m ∷ ms) (n ∷ ns) (t ∷ ts) h fits =
      let q = and_parts ((method c.pool).fits m) (fit_all (method c.pool) ms) fits in
      (method-table number c d like m n t h.0 q.0, methods-tables number c d like ms ns ts h.1 q.1)
  methods-tables number c d like [] [] (t ∷ ts) h fits = absurd h
  methods-tables number c d like [] (n ∷ ns) ts h fits = absurd h
  methods-tables number c d like (m ∷ ms) [] ts h fits = absurd h
  methods-tables number c d like (m ∷ ms) (n ∷ ns) [] h fits = absurd h

  classes-tables : (number : ℕ) (xs : List Class) (fs : List FramedClass) → AreLike xs (map class_without_tables fs) → AreClassesMadeFrom cs number xs fs → AreTablesFrom cs ds number xs (map class_without_tables fs) (map tables_of fs)
  classes-tables number [] [] l h = tt
  classes-tables number [] (f ∷ fs) l h = absurd h
  classes-tables number (x ∷ xs) [] l h = absurd h
  classes-tables number (x ∷ xs) (f ∷ fs) l h = (
    methods-tables number x f.class l.0 x.methods f.class.methods f.tables h.0.methods (class-parts x l.0.fits).methods_fit,
    classes-tables (suc number) xs fs l.1 h.1,
  )

pub with-tables : (cs : List Class) (fs : List FramedClass) → All IsClass cs → AreClassesMade cs fs → AreWithTables cs fs
with-tables cs fs kept h =
    let ds = map class_without_tables fs in
    let framed : AreFramed cs (map class_without_tables fs) = made-framed cs 0 cs fs h in
    let all = like cs ds (fit-of-all cs kept) framed in
    record { are = framed; tabled = classes-tables cs ds all 0 cs fs all h }
