-- What the main class names it still names while its pool grows.
use Rattle.std.proofs.Common.{ℕ, ◌+◌, List, [], ◌∷◌, ◌++◌, map, sym, arith, subst}
use Rattle.std.specs.List.{AllZip, range_with_len}
use Rattle.std.proofs.lemmas.List.FromFn.{map-range_with_len_more}
use Rattle.std.proofs.lemmas.Slice.Zip.{all_zipped_more}
use Rattle.class_definition.specs.declared.entry.Entry.{Entry}
use Rattle.emit_assembly.specs.Assembling.{Extends}
use Rattle.emit_classes.specs.Named.{IsTextAt}
use Rattle.emit_classes.proofs.Made.{text-later}
use Rattle.translate_classes.proofs.ClassMaking.ZipLemmas.{zip-through}
use Rattle.translate_classes.specs.declared.names.Names.{Names}
use Rattle.translate_classes.proofs.ProgramNames.NamedLemmas.{names-later}
use Rattle.translate_classes.specs.declared.content.MainClass.{MainClass}
use Rattle.translate_classes.specs.Content.{main_fields, share_texts}
use Rattle.translate_classes.specs.MainNaming.{AreMainNames}
use Rattle.translate_classes.proofs.MainClasses.CalledLemmas.{methods-later}

pub texts-later : (old new : List Entry) → Extends old new → (slots : List ℕ) (texts : List (List ℕ)) → AllZip (IsTextAt old) slots texts
    → AllZip (IsTextAt new) slots texts
texts-later old new kept slots texts are =
    zip-through (IsTextAt old) (IsTextAt new) (λ slot text is. text-later old new slot text kept is) slots texts are

-- one text more
pub texts-more : (old new : List Entry) → Extends old new → (slots : List ℕ) (text_of : ℕ → List ℕ) (k slot : ℕ)
    → AllZip (IsTextAt old) slots (map text_of (range_with_len 0 k)) → IsTextAt new slot (text_of k)
    → AllZip (IsTextAt new) (slots ++ slot ∷ []) (map text_of (range_with_len 0 (k + 1)))
texts-more old new kept slots text_of k slot are is =
    subst (AllZip (IsTextAt new) (slots ++ slot ∷ [])) (sym (map-range_with_len_more text_of 0 k k (omega arith)))
    (all_zipped_more (IsTextAt new) slots (map text_of (range_with_len 0 k)) slot (text_of k)
    (texts-later old new kept slots (map text_of (range_with_len 0 k)) are) is)

pub main-names-later : (old new : List Entry) → Extends old new → (name : List ℕ) (main : MainClass) (names : Names) (methods texts : List ℕ)
    → AreMainNames old name main names methods texts → AreMainNames new name main names methods texts
main-names-later old new kept name main names methods texts are = record {
  names_are = names-later (main_fields main) old new kept name names are.names_are;
  methods_are = methods-later old new kept name names.main main methods are.methods_are;
  texts_are = texts-later old new kept texts (share_texts main.runs.now) are.texts_are;
}
