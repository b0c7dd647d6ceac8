-- The files of classes of data, and one more.
use Rattle.std.proofs.Common.{◌≡◌, ℕ, ◌+◌, List, [], ◌∷◌, ◌++◌, ap, sym, ◌∙◌, arith, subst}
use Rattle.std.specs.List.{AllZip, range_with_len}
use Rattle.std.proofs.lemmas.List.FromFn.{map-range_with_len_more}
use Rattle.std.proofs.lemmas.Slice.Zip.{all_zipped_more}
use Rattle.nv_values.specs.Names.{Text}
use Rattle.elf_image_parts.specs.Pages.{Page}
use Rattle.translate_classes.proofs.ClassMaking.ZipLemmas.{range-more}
use Rattle.translate_program.specs.declared.data_files.Data.{Data}
use Rattle.translate_program.specs.DataFiles.{class_number, first_method, pages_of_class, fill_of, IsFileOfPages, IsDataFile, AddsFile, HasFiles}

pub no-files : (name : Text) (code_classes methods : ℕ) (pages : List Page) (d : Data) → d.files.items ≡ [] → d.fills.items ≡ []
    → HasFiles name code_classes methods pages 0 d
no-files name code_classes methods pages d files fills = record {
  files_are = subst (AllZip (IsDataFile name code_classes methods pages) []) (sym files) tt;
  fills_are = fills;
}

pub file-more : (name : Text) (code_classes methods k : ℕ) (pages own : List Page) (old new : Data) → AddsFile name code_classes methods k own old new
    → own ≡ pages_of_class pages k → HasFiles name code_classes methods pages k old → HasFiles name code_classes methods pages (k + 1) new
file-more name code_classes methods k pages own old new adds own_is has =
    let is = IsDataFile name code_classes methods pages in
    let here : is k adds.file =
    subst (λ p. IsFileOfPages name k (class_number code_classes k) (first_method methods k) p adds.file) own_is adds.file_is in
    record {
      files_are =
          subst (λ numbers. AllZip is numbers new.files.items) (sym (range-more k))
          (subst (AllZip is (range_with_len 0 k ++ k ∷ [])) (sym adds.files_are)
          (all_zipped_more is (range_with_len 0 k) old.files.items k adds.file has.files_are here));
      fills_are =
          adds.fills_are ∙ ap (λ l. l ++ fill_of methods k ∷ []) has.fills_are ∙ sym (map-range_with_len_more (fill_of methods) 0 k k (omega arith));
    }
