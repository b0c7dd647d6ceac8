-- The files of a translation stand as they were stored one after the other, since no two of them have the same name.
use Rattle.std.proofs.Common.{◌≡◌, ◌∙◌, ◌+◌, ◌≤◌, ℕ, zero, suc, Bool, true, false, List, [], ◌∷◌, codes, length, map, Option, Some, None, refl, sym, ap, subst, length-append, arith}
use Rattle.std.specs.Prelude.{nat_lt, if◌then◌else◌}
use Rattle.std.specs.List.{AllByRecursion, AllZip, IsDistinct, range_with_len}
use Rattle.std.proofs.lemmas.Bool.{true≢false}
use Rattle.std.proofs.lemmas.Bool.Decides.{nat_tests}
use Rattle.std.proofs.lemmas.List.{append_cancel_right}
use Rattle.std.proofs.lemmas.Map.Keys.{IsDistinct-head, IsDistinct-tail}
use Rattle.std.proofs.lemmas.Option.{none-some, same_Some}
use Rattle.std.proofs.lemmas.Slice.Zip.{AllZip-long}
use Rattle.nv_outside.specs.Files.{Files}
use Rattle.nv_values.specs.Names.{Text}
use Rattle.elf_definition.specs.Start.{Source}
use Rattle.class_definition.specs.ClassFile.{Spells}
use Rattle.class_definition.specs.LinkFault.{at_class, too_many}
use Rattle.class_definition.specs.NameGrammar.{same_text}
use Rattle.class_definition.specs.declared.class.Class.{Class}
use Rattle.class_definition.specs.declared.link_fault.LinkFault.{LinkFault}
use Rattle.class_names.proofs.NumberLemmas.{same_text-refl}
use Rattle.class_names.proofs.PlaceLemmas.{AllZip-append}
use Rattle.emit_layout.specs.ClassNames.{code_class_name, data_class_name, file_name}
use Rattle.emit_layout.specs.Numbers.{main_methods}
use Rattle.translate_classes_laws.specs.Translated.{class_names}
use Rattle.translate_classes_laws.proofs.LinkedNumbers.Names.{names-distinct}
use Rattle.translate_program.specs.Classes.{Follow, IsCodeFile, Placed, run_of}
use Rattle.translate_program.specs.DataFiles.{IsDataFile, class_count, filled_pages}
use Rattle.translate_program.specs.Files.{named_file_name}
use Rattle.translate_program.specs.Translation.{IsTranslationBy, code_methods}
use Rattle.translate_program.specs.declared.built.Built.{Built}
use Rattle.translate_program.specs.declared.named_file.NamedFile.{NamedFile}
use Rattle.translate_program.proofs.Counts.PageLemmas.{data-few}
use Rattle.nv_translate.specs.Made.{AreMade}
use Rattle.nv_translate.specs.Translated.{AreStored, HoldClasses}
use Rattle.command_frames_laws.specs.Stored.{Leave}
use Rattle.command_translate.specs.Stores.{files_stored}

-- ---- files of classes whose names differ

-- a file is that of the class of this name
abbrev IsOf : NamedFile → List ℕ → Type 0
IsOf file class = named_file_name file ≡ file_name class

apart : (name other : List ℕ) → same_text name other ≡ false → file_name name ≡ file_name other → ⊥
apart name other differ same =
    let one : name ≡ other = append_cancel_right name other (codes ".class") same in
    true≢false (sym (same_text-refl name) ∙ ap (same_text name) one ∙ differ)

-- later files leave that of a class as it is
stays : (name : List ℕ) (names : List (List ℕ)) (files : List NamedFile) (before after : Files) → AllZip IsOf files names
    → AllByRecursion (λ other. same_text name other ≡ false) names → Leave before (files_stored files) after
    → after (file_name name) ≡ before (file_name name)
stays name [] [] before after of differ leave = leave (file_name name)
stays name [] (file ∷ files) before after of differ leave = absurd of
stays name (other ∷ names) [] before after of differ leave = absurd of
stays name (other ∷ names) (file ∷ files) before after of differ leave =
    stays name names files leave.0 after of.1 differ.1 leave.2 ∙ leave.1.1 (file_name name) (λ same. apart name other differ.0 (same ∙ of.0))

stand-so : (names : List (List ℕ)) (files : List NamedFile) (before after : Files) → AllZip IsOf files names → IsDistinct same_text names
    → Leave before (files_stored files) after → AreStored after files
stand-so names [] before after of distinct leave k file at = absurd (none-some file at)
stand-so [] (file ∷ files) before after of distinct leave k one at = absurd of
stand-so (name ∷ names) (file ∷ files) before after of distinct leave zero one at =
    subst (λ (f : NamedFile). after (named_file_name f) ≡ Some f.bytes.items) (same_Some file one at)
    (ap after of.0
    ∙ stays name names files leave.0 after of.1 (IsDistinct-head same_text name names distinct) leave.2
    ∙ ap leave.0 (sym of.0)
    ∙ leave.1.0)
stand-so (name ∷ names) (file ∷ files) before after of distinct leave (suc k) one at =
    stand-so names files leave.0 after of.1 (IsDistinct-tail same_text name names distinct) leave.2 k one at

-- ---- those of a translation

code-of : (name : Text) (number first : ℕ) (code : List Placed) (files : List NamedFile) → AllZip (IsCodeFile name) code files → Follow number first code
    → AllZip IsOf files (map (code_class_name name) (range_with_len number (length code)))
code-of name number first [] [] all follow = tt
code-of name number first [] (file ∷ files) all follow = absurd all
code-of name number first (c ∷ code) [] all follow = absurd all
code-of name number first (c ∷ code) (file ∷ files) all follow = (
  subst (λ n. named_file_name file ≡ file_name (code_class_name name n)) follow.0 all.0.named,
  code-of name (number + 1) (run_of c + 1) code files all.1 follow.2,
)

data-of : (name : Text) (IsFile : ℕ → NamedFile → Type 0) → ((k : ℕ) (file : NamedFile) → IsFile k file → IsOf file (data_class_name name k))
    → (numbers : List ℕ) (files : List NamedFile) → AllZip IsFile numbers files → AllZip IsOf files (map (data_class_name name) numbers)
data-of name IsFile each [] [] all = tt
data-of name IsFile each [] (file ∷ files) all = absurd all
data-of name IsFile each (k ∷ numbers) [] all = absurd all
data-of name IsFile each (k ∷ numbers) (file ∷ files) all = (each k file all.0, data-of name IsFile each numbers files all.1)

-- classes that link are few
few-by : (many : Bool) (count : ℕ) (rest : Option LinkFault) → nat_lt 1024 count ≡ many → (if many then at_class too_many 1024 else rest) ≡ None → count ≤ 1024
few-by true count rest is none = cc
few-by false count rest is none = grind (arith, nat_tests)

module _ {meter : Option ℕ} (source : Source) (name : Text) (method_bytes : ℕ) (built : Built) (t : IsTranslationBy meter source name method_bytes built)
    (classes : List Class) (held : HoldClasses name built.files.items classes) where
  abbrev datas : ℕ
  datas = class_count (filled_pages source)

  abbrev names : List (List ℕ)
  names = class_names name (length t.code) datas

  abbrev IsData : ℕ → NamedFile → Type 0
  IsData = IsDataFile name (length t.code) (code_methods t.code) (filled_pages source)

  files-of : AllZip IsOf built.files.items names
  files-of = subst (λ files. AllZip IsOf files names) (sym t.files_are) (
    t.main_is.named,
    AllZip-append IsOf t.code_files t.data_files (map (code_class_name name) (range_with_len 0 (length t.code)))
        (map (data_class_name name) (range_with_len 0 datas))
        (code-of name 0 main_methods t.code t.code_files t.code_are t.code_is.placed.follow)
        (data-of name IsData (λ k file is. is.named) (range_with_len 0 datas) t.data_files t.data_are),
  )

  few : length t.code ≤ 1024
  few =
      let all : length classes ≤ 1024 = few-by (nat_lt 1024 (length classes)) (length classes) _ refl held.accepted.links in
      let each : length classes ≡ length built.files.items =
      AllZip-long (λ (f : NamedFile) (c : Class). Spells f.bytes.items c) built.files.items classes held.spelled in
      let long : length t.code_files ≡ length t.code = AllZip-long (IsCodeFile name) t.code t.code_files t.code_are in
      omega (arith, all, each, long, ap length t.files_are, length-append t.code_files t.data_files)

  pub built-stand : (before left : Files) → Leave before (files_stored built.files.items) left → AreStored left built.files.items
  built-stand before left leave =
      stand-so names built.files.items before left files-of (names-distinct name (length t.code) datas (omega (arith, few)) (omega (arith, data-few source))) leave

pub made-stand : (meter : Option ℕ) (source : Source) (name : Text) (method_bytes : ℕ) (files : List NamedFile) → AreMade meter source name method_bytes files
    → (before left : Files) → Leave before (files_stored files) left → AreStored left files
made-stand None source name method_bytes files m before left =
    subst (λ fs. Leave before (files_stored fs) left → AreStored left fs) m.files_are
    (built-stand source name method_bytes m.built m.made.by.is m.made.translated.classes m.made.translated.held before left)
made-stand (Some turns) source name method_bytes files m before left =
    subst (λ fs. Leave before (files_stored fs) left → AreStored left fs) m.files_are
    (built-stand source name method_bytes m.built m.made.by.is m.made.translated.runs.classes m.made.translated.runs.held before left)
