-- One object more.
use Rattle.std.proofs.Common.{◌≡◌, ℕ, List, ◌∷◌, ◌++◌, append_assoc, Option, None, sym, ap, ◌∙◌, subst, Vec}
use Rattle.std.specs.List.{All}
use Rattle.std.specs.Option.{option_or}
use Rattle.std.proofs.lemmas.List.Elements.{All-tail, All-head}
use Rattle.elf_definition.specs.declared.obj_fault.ObjFault.{ObjFault}
use Rattle.obj_reader.specs.declared.start.Start.{Start}
use Rattle.obj_reader.specs.Files.{files_of, IsShort}
use Rattle.obj_reader.specs.Objects.{next_start, objects_fault_from, object_fault}

-- the files of a first object and others
pub files_first : {Z : Type 0} (rest others : List (Vec ℕ Z)) (o : Vec ℕ Z) (file : List ℕ) → rest ≡ o ∷ others → file ≡ o.items
    → files_of rest ≡ file ∷ files_of others
files_first rest others o file first same = ap files_of first ∙ ap (λ (f : List ℕ). f ∷ files_of others) (sym same)

-- what an object has was appended
pub appended_object : {X : Type 0} (of : Start → List ℕ → List X) (from : Start → List (List ℕ) → List X) (old new all : List X)
    (start next : Start) (file : List ℕ) (files rest : List (List ℕ))
    → from start (file ∷ files) ≡ of start file ++ from (next_start start file) files
    → rest ≡ file ∷ files → next ≡ next_start start file → new ≡ old ++ of start file → old ++ from start rest ≡ all
    → new ++ from next files ≡ all
appended_object of from old new all start next file files rest step first is more was =
    ap (λ s. new ++ from s files) is ∙ ap (λ l. l ++ from (next_start start file) files) more
    ∙ append_assoc old (of start file) (from (next_start start file) files)
    ∙ ap (λ l. old ++ l) (sym step) ∙ ap (λ r. old ++ from start r) (sym first) ∙ was

-- an object passed
pub passed_object : (start next : Start) (file : List ℕ) (files rest : List (List ℕ)) (all : Option ObjFault)
    → rest ≡ file ∷ files → next ≡ next_start start file → object_fault start file ≡ None → objects_fault_from start rest ≡ all
    → objects_fault_from next files ≡ all
passed_object start next file files rest all first is none was =
    ap (λ s. objects_fault_from s files) is ∙ ap (λ o. option_or o (objects_fault_from (next_start start file) files)) (sym none)
    ∙ ap (objects_fault_from start) (sym first) ∙ was

pub short_rest : (file : List ℕ) (files rest : List (List ℕ)) → rest ≡ file ∷ files → All IsShort rest → All IsShort files
short_rest file files rest first short = All-tail IsShort file files (subst (λ fs. All IsShort fs) first short)

pub short_first : (file : List ℕ) (files rest : List (List ℕ)) → rest ≡ file ∷ files → All IsShort rest → IsShort file
short_first file files rest first short = All-head IsShort file files (subst (λ fs. All IsShort fs) first short)
