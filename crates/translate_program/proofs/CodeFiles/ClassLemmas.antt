-- The classes of code so far, and one more.
use Rattle.std.proofs.Common.{◌≡◌, ℕ, Bool, ◌+◌, List, [], ◌∷◌, ◌++◌, length, Option, refl, ap, sym, ◌∙◌, arith, subst}
use Rattle.std.specs.List.{AllZip}
use Rattle.std.proofs.lemmas.List.{map_push, flat_map_more, length_push}
use Rattle.std.proofs.lemmas.Slice.Zip.{all_zipped_more, AllZip-long}
use Rattle.nv_values.specs.Names.{Text}
use Rattle.emit_layout.specs.Numbers.{main_methods}
use Rattle.translate_classes.specs.declared.part.Part.{Part}
use Rattle.translate_program.specs.declared.block_info.BlockInfo.{BlockInfo}
use Rattle.translate_program.specs.declared.code_files.Code.{Code}
use Rattle.translate_program.specs.declared.counting.CodeCounts.{CodeCounts}
use Rattle.translate_program.specs.declared.told_blocks.ToldBlocks.{ToldBlocks}
use Rattle.translate_program.specs.declared.told_blocks.ToldBlocks.TheVariants.{Listed, Omitted}
use Rattle.translate_program.specs.Places.{Place, IsPartAt}
use Rattle.translate_program.specs.Classes.{Placed, Follow, run_of, methods_behind, IsPlaced, ArePlaced, IsCodeFile, starts_of_class, spans_of_class}
use Rattle.translate_program.specs.Blocks.{blocks_of_class, blocks_of, told_of}
use Rattle.translate_program.specs.Adding.{IsClassOf, IsTold, AddsClass, HasPlaces}
use Rattle.translate_program.specs.Counting.{CountsClass, CountsPlaces}
use Rattle.translate_program.proofs.CodeFiles.BlockLemmas.{blocks-push}

follow-push : (number first : ℕ) (classes : List Placed) (c : Placed) → Follow number first classes → c.number ≡ number + length classes
    → c.first_method ≡ methods_behind first classes → Follow number first (classes ++ c ∷ [])
follow-push number first [] c follow n m = (omega (arith, n), m, tt)
follow-push number first (x ∷ classes) c follow n m =
    let e : c.number ≡ (number + 1) + length classes = omega (arith, n) in
    (follow.0, follow.1, follow-push (number + 1) (run_of x + 1) classes c follow.2 e m)

behind-push : (first : ℕ) (classes : List Placed) (c : Placed) → methods_behind first (classes ++ c ∷ []) ≡ run_of c + 1
behind-push first [] c = refl
behind-push first (x ∷ classes) c = behind-push (run_of x + 1) classes c

-- one class more stands at one place more
pub placed-more : (metered : Bool) (code : ℕ → Option ℕ) (method_bytes : ℕ) (part : Part) (places : List Place) (place : Place) (classes : List Placed)
    (c : Placed) (number first : ℕ) → IsClassOf method_bytes number first part c → number ≡ length classes → first ≡ methods_behind main_methods classes
    → part.metered ≡ metered → IsPartAt code place part → ArePlaced metered code method_bytes places classes
    → ArePlaced metered code method_bytes (places ++ place ∷ []) (classes ++ c ∷ [])
placed-more metered code method_bytes part places place classes c number first class numbered methods flag is placed =
    let n : c.number ≡ 0 + length classes = omega (arith, class.number_is, numbered) in
    let own : IsPlaced metered code method_bytes place c = record {
      metered_is = ap (λ (p : Part). p.metered) class.part_is ∙ flag;
      part_is = subst (IsPartAt code place) (sym class.part_is) is;
      spans_are = class.spans_are;
    } in
    record {
      follow = follow-push 0 main_methods classes c placed.follow n (class.first_is ∙ methods);
      each = all_zipped_more (IsPlaced metered code method_bytes) places classes place c placed.each own;
    }

-- ---- classes that are counted

pub no-counts : (metered : Bool) (code : ℕ → Option ℕ) (method_bytes : ℕ) (n : CodeCounts) → n.classes ≡ 0 → n.methods ≡ main_methods
    → CountsPlaces metered code method_bytes [] n
no-counts metered code method_bytes n classes methods = record {
  classes = [];
  placed = record { follow = tt; each = tt };
  classes_are = classes;
  methods_are = methods;
}

pub count-more : (metered : Bool) (code : ℕ → Option ℕ) (method_bytes : ℕ) (part : Part) (old new : CodeCounts) (places : List Place) (place : Place)
    → CountsClass method_bytes part old new → part.metered ≡ metered → IsPartAt code place part → CountsPlaces metered code method_bytes places old
    → CountsPlaces metered code method_bytes (places ++ place ∷ []) new
count-more metered code method_bytes part old new places place counts flag is has = record {
  classes = has.classes ++ counts.class ∷ [];
  placed =
      placed-more metered code method_bytes part places place has.classes counts.class old.classes old.methods counts.class_is has.classes_are
      has.methods_are flag is has.placed;
  classes_are = omega (arith, counts.classes_are, has.classes_are, length_push has.classes counts.class);
  methods_are = counts.methods_are ∙ sym (behind-push main_methods has.classes counts.class);
}

-- ---- classes that are made

no-blocks : (told : ToldBlocks) → [] ≡ told_of told []
no-blocks Listed = refl
no-blocks Omitted = refl

pub no-places : (metered : Bool) (code : ℕ → Option ℕ) (name : Text) (method_bytes : ℕ) (c : Code) → c.files.items ≡ [] → c.starts.items ≡ [] → c.runs.items ≡ []
    → c.spans.items ≡ [] → c.blocks.items ≡ [] → c.methods ≡ main_methods → HasPlaces metered code name method_bytes [] c
no-places metered code name method_bytes c files starts runs spans blocks methods = record {
  classes = [];
  placed = record { follow = tt; each = tt };
  told = record {
    files_are = subst (AllZip (IsCodeFile name) []) (sym files) tt;
    starts_are = starts;
    runs_are = runs;
    spans_are = spans;
    blocks_are = blocks ∙ no-blocks c.told;
    methods_are = methods;
  };
}

told-push : (told : ToldBlocks) (before more : List BlockInfo) → told_of told before ++ told_of told more ≡ told_of told (before ++ more)
told-push Listed before more = refl
told-push Omitted before more = refl

module _ (name : Text) (method_bytes : ℕ) (part : Part) (old new : Code) (adds : AddsClass name method_bytes part old new)
    (classes : List Placed) where
  told-more : IsTold name classes old → IsTold name (classes ++ adds.class ∷ []) new
  told-more told =
      let own = blocks_of_class (length old.spans.items) adds.class in
      record {
        files_are =
            subst (AllZip (IsCodeFile name) (classes ++ adds.class ∷ [])) (sym adds.files_are)
            (all_zipped_more (IsCodeFile name) classes old.files.items adds.class adds.file told.files_are adds.file_is);
        starts_are =
            adds.starts_are ∙ ap (λ l. l ++ starts_of_class adds.class) told.starts_are ∙ flat_map_more starts_of_class [] classes adds.class;
        runs_are = adds.runs_are ∙ ap (λ l. l ++ run_of adds.class ∷ []) told.runs_are ∙ sym (map_push run_of classes adds.class);
        spans_are =
            adds.spans_are ∙ ap (λ l. l ++ spans_of_class adds.class) told.spans_are ∙ flat_map_more spans_of_class [] classes adds.class;
        blocks_are =
            adds.blocks_are
            ∙ ap (λ l. l ++ told_of old.told own) told.blocks_are
            ∙ told-push old.told (blocks_of 0 classes) own
            ∙ ap (told_of old.told) (sym (blocks-push 0 classes adds.class (length old.spans.items) (omega (arith, ap length told.spans_are))))
            ∙ ap (λ l. told_of l (blocks_of 0 (classes ++ adds.class ∷ []))) (sym adds.told_is);
        methods_are = adds.methods_are ∙ sym (behind-push main_methods classes adds.class);
      }

pub class-more : (metered : Bool) (code : ℕ → Option ℕ) (name : Text) (method_bytes : ℕ) (part : Part) (old new : Code) (places : List Place) (place : Place)
    → AddsClass name method_bytes part old new → part.metered ≡ metered → IsPartAt code place part → HasPlaces metered code name method_bytes places old
    → HasPlaces metered code name method_bytes (places ++ place ∷ []) new
class-more metered code name method_bytes part old new places place adds flag is has = record {
  classes = has.classes ++ adds.class ∷ [];
  placed =
      placed-more metered code method_bytes part places place has.classes adds.class (length old.files.items) old.methods adds.class_is
      (AllZip-long (IsCodeFile name) has.classes old.files.items has.told.files_are) has.told.methods_are flag is has.placed;
  told = told-more name method_bytes part old new adds has.classes has.told;
}
