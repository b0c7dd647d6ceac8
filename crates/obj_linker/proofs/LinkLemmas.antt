-- From the tables that were read to the objects.
use Rattle.std.proofs.Common.{◌≡◌, ℕ, List, [], map, Option, Some, None, sym, ap, ◌∙◌, subst}
use Rattle.std.specs.List.{find}
use Rattle.std.specs.Option.{option_or}
use Rattle.obj_linker.specs.declared.layout.Ends.{Ends}
use Rattle.obj_linker.specs.declared.meaning.Meaning.{Meaning}
use Rattle.obj_reader.specs.declared.obj_error.ObjError.{ObjError}
use Rattle.elf_definition.specs.declared.obj_fault.ObjFault.{ObjFault}
use Rattle.obj_reader.specs.declared.relocation.Relocation.{Relocation}
use Rattle.obj_reader.specs.declared.section.Section.{Section}
use Rattle.obj_reader.specs.declared.symbol.Symbol.{Symbol}
use Rattle.obj_linker.specs.Cursor.{IsEnds}
use Rattle.obj_reader.specs.Fault.{IsAnswer}
use Rattle.obj_linker.specs.Layout.{code_end, text_end, zeros_end}
use Rattle.obj_linker.specs.Link.{IsFileWith, IsLinked, entry_of, linked_image, meanings_of, names_fault}
use Rattle.obj_linker.specs.Names.{first_repeated, meaning_of}
use Rattle.obj_reader.specs.Objects.{first_start, relocations_from, sections_from, symbols_from}
use Rattle.obj_linker.specs.Pairs.{first_alone}
use Rattle.obj_linker.specs.Program.{IsLinkedFile}
use Rattle.obj_linker.specs.Sites.{is_undefined}
use Rattle.obj_linker.specs.Whole.{relocation_fault_of, symbol_fault_of}
use Rattle.obj_reader.proofs.FaultLemmas.{first_comes}

-- the file of the program that was placed
pub file_with : (files : List (List ℕ)) (sections : List Section) (symbols : List Symbol) (relocations : List Relocation) (entry file image : List ℕ)
    (at : ℕ) (e : Ends)
    → entry_of files sections symbols entry ≡ Some at → image ≡ linked_image files sections symbols relocations → IsEnds sections e
    → IsLinkedFile at image e.code e.text e.zeros file → IsFileWith files sections symbols relocations entry file
file_with files sections symbols relocations entry file image at e is same ends written = (
  at,
  is,
  subst (λ i. IsLinkedFile at i (code_end sections) (text_end sections) (zeros_end sections) file) same
      (subst (λ n. IsLinkedFile at image n (text_end sections) (zeros_end sections) file) ends.code
      (subst (λ n. IsLinkedFile at image e.code n (zeros_end sections) file) ends.text
      (subst (λ n. IsLinkedFile at image e.code e.text n file) ends.zeros written))),
)

pub linked : (files : List (List ℕ)) (sections : List Section) (symbols : List Symbol) (relocations : List Relocation) (entry file : List ℕ)
    → sections ≡ sections_from first_start files → symbols ≡ symbols_from first_start files → relocations ≡ relocations_from first_start files
    → IsFileWith files sections symbols relocations entry file → IsLinked files entry file
linked files sections symbols relocations entry file a b c is =
    subst (λ s. IsFileWith files (sections_from first_start files) (symbols_from first_start files) s entry file) c
    (subst (λ s. IsFileWith files (sections_from first_start files) s relocations entry file) b
    (subst (λ s. IsFileWith files s symbols relocations entry file) a is))

-- the third of three checks
third : (a b c : Option ObjFault) (e : ObjError) → a ≡ None → b ≡ None → IsAnswer c e → IsAnswer (option_or a (option_or b (option_or c None))) e
third a b c e p q h =
    subst (λ o. IsAnswer (option_or o (option_or b (option_or c None))) e) (sym p)
    (subst (λ o. IsAnswer (option_or o (option_or c None)) e) (sym q) (first_comes c None e h))

undefined_same : (files : List (List ℕ)) (sections ss : List Section) (symbols ys : List Symbol) (relocations rs : List Relocation)
    (meanings ms : List Meaning) → ss ≡ sections → ys ≡ symbols → rs ≡ relocations → ms ≡ meanings
    → meanings ≡ map (meaning_of files ys) ys
    → find (is_undefined ss ms) rs ≡ find (is_undefined sections (meanings_of files symbols)) relocations
undefined_same files sections ss symbols ys relocations rs meanings ms s y r m are =
    ap (λ l. find (is_undefined l ms) rs) s ∙ ap (λ l. find (is_undefined sections l) rs) (m ∙ are ∙ ap (λ l. map (meaning_of files l) l) y)
    ∙ ap (λ l. find (is_undefined sections (meanings_of files symbols)) l) r

-- the first relocation of a symbol that means nothing is the first fault, where the checks before pass
pub undefined_here : (files : List (List ℕ)) (sections ss : List Section) (symbols ys : List Symbol) (relocations rs : List Relocation)
    (meanings ms : List Meaning) (e : ObjError) → ss ≡ sections → ys ≡ symbols → rs ≡ relocations → ms ≡ meanings
    → meanings ≡ map (meaning_of files ys) ys → first_alone rs ≡ None → first_repeated files [] ys ≡ None
    → IsAnswer (relocation_fault_of 11 (find (is_undefined ss ms) rs)) e
    → IsAnswer (names_fault files sections symbols relocations) e
unfolding names_fault
undefined_here files sections ss symbols ys relocations rs meanings ms e s y r m are alone again fault =
    third (relocation_fault_of 9 (first_alone relocations)) (symbol_fault_of 10 (first_repeated files [] symbols))
    (relocation_fault_of 11 (find (is_undefined sections (meanings_of files symbols)) relocations)) e
    (ap (λ l. relocation_fault_of 9 (first_alone l)) (sym r) ∙ ap (relocation_fault_of 9) alone)
    (ap (λ l. symbol_fault_of 10 (first_repeated files [] l)) (sym y) ∙ ap (symbol_fault_of 10) again)
    (subst (λ o. IsAnswer (relocation_fault_of 11 o) e) (undefined_same files sections ss symbols ys relocations rs meanings ms s y r m are) fault)

three : (a b c : Option ObjFault) → a ≡ None → b ≡ None → c ≡ None → option_or a (option_or b (option_or c None)) ≡ None
three a b c p q r =
    ap (λ o. option_or o (option_or b (option_or c None))) p ∙ ap (λ o. option_or o (option_or c None)) q ∙ ap (λ o. option_or o None) r

-- no fault, where all three checks pass
pub names_pass : (files : List (List ℕ)) (sections ss : List Section) (symbols ys : List Symbol) (relocations rs : List Relocation)
    (meanings ms : List Meaning) → ss ≡ sections → ys ≡ symbols → rs ≡ relocations → ms ≡ meanings
    → meanings ≡ map (meaning_of files ys) ys → first_alone rs ≡ None → first_repeated files [] ys ≡ None
    → find (is_undefined ss ms) rs ≡ None → names_fault files sections symbols relocations ≡ None
unfolding names_fault
names_pass files sections ss symbols ys relocations rs meanings ms s y r m are alone again none =
    three (relocation_fault_of 9 (first_alone relocations)) (symbol_fault_of 10 (first_repeated files [] symbols))
    (relocation_fault_of 11 (find (is_undefined sections (meanings_of files symbols)) relocations))
    (ap (λ l. relocation_fault_of 9 (first_alone l)) (sym r) ∙ ap (relocation_fault_of 9) alone)
    (ap (λ l. symbol_fault_of 10 (first_repeated files [] l)) (sym y) ∙ ap (symbol_fault_of 10) again)
    (ap (relocation_fault_of 11)
    (sym (undefined_same files sections ss symbols ys relocations rs meanings ms s y r m are) ∙ none))
