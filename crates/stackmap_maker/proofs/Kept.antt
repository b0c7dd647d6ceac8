-- Framed classes with small files can be written.
use Rattle.std.proofs.Common.{◌≡◌, ℕ, zero, suc, ◌+◌, ◌<◌, ◌≤◌, List, [], ◌∷◌, length, map, get_or, Some, option_map, sym, ap, subst, ◌∙◌, arith}
use Rattle.std.specs.Prelude.{slice_get, IsSome, All}
use Rattle.std.proofs.lemmas.Option.{get_or_from_slice_get, slice_get-map}
use Rattle.class_definition.specs.declared.class.Class.{Class}
use Rattle.class_definition.specs.declared.method.Method.{Method}
use Rattle.class_definition.specs.declared.framed_class.FramedClass.{FramedClass}
use Rattle.class_definition.specs.Tables.{table_size, table_slot}
use Rattle.class_names.specs.Kept.{IsClass}
use Rattle.stackmap_pool.proofs.PoolLaws.{table-named}
use Rattle.stackmap_laws.proofs.FramedLaws.{get-of, fit-of-all, framed-kept, have-tables}
use Rattle.stackmap_maker.proofs.Steps.{all-fit-at}
use Rattle.stackmap_maker.specs.Refusals.{class_without_tables, tables_of, AreWithTables, IsWritable}
use Rattle.stackmap_maker.specs.Sizes.{methods_size, file_size, most}
use Rattle.stackmap_maker.proofs.TableSteps.{class-at}

table-within-size : (t : List ℕ) → length t ≤ table_size t
table-within-size [] = omega arith
table-within-size (b ∷ t) = omega arith

table-within : (ms : List Method) (ts : List (List ℕ)) (i : ℕ) → length ts ≡ length ms → length (get_or ts i []) ≤ methods_size ms ts
table-within [] [] i e = omega arith
table-within [] (t ∷ ts) i e = absurd (omega (arith, e))
table-within (m ∷ ms) [] i e = absurd (omega (arith, e))
table-within (m ∷ ms) (t ∷ ts) zero e = let l = table-within-size t in omega (arith, l)
table-within (m ∷ ms) (t ∷ ts) (suc i) e = let l = table-within ms ts i (omega (arith, e)) in omega (arith, l)

writable-at : (cs : List Class) (fs : List FramedClass) → All IsClass cs → AreWithTables cs fs → (k : ℕ) (f : FramedClass) → slice_get fs k ≡ Some f → file_size f ≤ most → IsWritable f
writable-at cs fs kept w k f is small =
    let class-is : slice_get (map class_without_tables fs) k ≡ Some f.class = slice_get-map class_without_tables fs k ∙ ap (option_map class_without_tables) is in
    let tables-are : slice_get (map tables_of fs) k ≡ Some f.tables = slice_get-map tables_of fs k ∙ ap (option_map tables_of) is in
    let c = class-at cs (map class_without_tables fs) w.are k f.class class-is in
    let tables = have-tables cs (map class_without_tables fs) (fit-of-all cs kept) w.are (map tables_of fs) w.tabled in
    let count : length f.tables ≡ length f.class.methods = ap length (sym (get_or_from_slice_get (map tables_of fs) k f.tables [] tables-are)) ∙ tables.each k f.class class-is in
    record {
      class = all-fit-at (map class_without_tables fs) k f.class (framed-kept cs (map class_without_tables fs) (fit-of-all cs kept) w.are) class-is;
      tabled = record {
        count = count;
        short = λ i. let l = table-within f.class.methods f.tables i count in omega (arith, l, small);
        named = λ i some. subst (λ p. IsSome (table_slot p)) (sym c.2.pool) (table-named c.0.pool);
      };
    }

pub all-writable : (cs : List Class) (fs : List FramedClass) → All IsClass cs → AreWithTables cs fs → All (λ f. file_size f ≤ most) fs → All IsWritable fs
all-writable cs fs kept w small k d less =
    let f = get-of fs k less in
    let same = get_or_from_slice_get fs k f.0 d f.1 in
    subst IsWritable (sym same) (writable-at cs fs kept w k f.0 f.1 (subst (λ x. file_size x ≤ most) same (small k d less)))
