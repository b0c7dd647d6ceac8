-- A text and its program, stage by stage.
use Rattle.std.proofs.Common.{◌≡◌, ◌<◌, ◌≤◌, Bool, true, nat_lt, ℕ, List, length, Option, Some, None, Result, Ok, Err, ap, inr, refl, sym, subst}
use Rattle.std.specs.Prelude.{if◌then◌else◌}
use Rattle.std.proofs.lemmas.Bool.{lt-ltb, le-ltb}
use Rattle.command_words.specs.declared.named.Named.{Named}
use Rattle.mips_definition.specs.declared.asm_fault.AsmFault.{AsmFault}
use Rattle.nv_outside.specs.Files.{Files}
use Rattle.mips_asm.specs.declared.asm_error.AsmError.{AsmError}
use Rattle.mips_asm.specs.declared.asm_error.AsmError.TheVariants.{Refused}
use Rattle.mips_asm.specs.Answers.{IsFault}
use Rattle.mips_asm.specs.File.{IsAssembled}
use Rattle.mips_asm.specs.Program.{asm_fault}
use Rattle.command_deeds.specs.declared.done.Done.TheVariants.{AsmRefused}
use Rattle.command_deeds.proofs.DeedLemmas.{file_is, file_is_not, gives_ends, gives_then, makes_gives}
use Rattle.command_deeds.specs.Checks.{Behind, Check, after_check, file_at, unless_fault}
use Rattle.command_deeds.specs.Ends.{CommandAnswer, Comes, GivesEnd, MakesEnd, Over, Works, answers, says}
use Rattle.command_deeds.specs.World.{OnlyShelf, World}
use Rattle.command_deeds.specs.declared.stop.Stop.{Stop}
use Rattle.command_guest.specs.declared.assembly.TheConstants.{LONGEST_TEXT, TEXT_TOO_LONG}
use Rattle.command_guest.proofs.DueLemmas.{IsProgramFrom, asm_due}
use Rattle.command_guest.specs.Assembly.{IsAssembledTo, IsDueOfAsm, IsProgramOf, asm_refused, assembled, sound_text, text_checked}

-- ---- one text

-- by whether it is long, and by its first faulty line
abbrev checked : Bool → List ℕ → Check (List ℕ) → Type 0
checked long text check = Behind (after_check (if long then Err (says (AsmRefused TEXT_TOO_LONG)) else Ok text) sound_text) IsAssembledTo check

abbrev sound : Option (ℕ × ℕ) → List ℕ → Check (List ℕ) → Type 0
sound fault text check = Behind (unless_fault fault asm_refused text) IsAssembledTo check

pub too_long : (text : List ℕ) → LONGEST_TEXT < length text → IsProgramOf text (Err (says (AsmRefused TEXT_TOO_LONG)))
too_long text h =
    subst (λ b. checked b text (Err (says (AsmRefused TEXT_TOO_LONG)))) (sym (lt-ltb LONGEST_TEXT (length text) h)) refl

fits : (text : List ℕ) (check : Check (List ℕ)) → length text ≤ LONGEST_TEXT → sound (asm_fault text) text check → IsProgramOf text check
fits text check h s = subst (λ b. checked b text check) (sym (le-ltb LONGEST_TEXT (length text) h)) s

pub faulty : (text : List ℕ) (f : AsmFault) (error : AsmError) → length text ≤ LONGEST_TEXT → error ≡ Refused f → IsFault (asm_fault text) error
    → IsProgramOf text (Err (says (AsmRefused f)))
faulty text f error h is answer =
    let fault : asm_fault text ≡ Some (f.line, f.kind) = subst (IsFault (asm_fault text)) is answer in
    fits text (Err (says (AsmRefused f))) h (subst (λ found. sound found text (Err (says (AsmRefused f)))) (sym fault) refl)

pub program_of : (text program : List ℕ) → length text ≤ LONGEST_TEXT → asm_fault text ≡ None → IsAssembled text program → IsProgramOf text (Ok program)
program_of text program h none is = fits text (Ok program) h (subst (λ found. sound found text (Ok program)) (sym none) is)

-- ---- the text of a name

from_file : (input : Named) (name file bytes : List ℕ) (files : Files) (check : Check (List ℕ)) → name ≡ input.text → bytes ≡ file
    → Ok file ≡ file_at files input.word name → IsProgramOf bytes check → IsProgramFrom input files check
from_file input name file bytes files check is same found h =
    subst (λ f. Behind (after_check f text_checked) IsAssembledTo check) (file_is input name file bytes files is same found) h

-- it is not there
pub asm_lacks : (input : Named) (output name : List ℕ) (w v : World) (end : Result CommandAnswer Stop) → name ≡ input.text
    → GivesEnd (λ files answer. Err answer ≡ file_at files input.word name) w.shelf v.shelf end → OnlyShelf w v → Comes true (IsDueOfAsm input output) w v end
asm_lacks input output name w v end is gives only =
    gives_ends (IsDueOfAsm input output) (λ files answer. Err answer ≡ file_at files input.word name) w v end gives only
    (λ files answer agree h. asm_due input output w files (Err answer) (answers answer) agree
    (subst (λ f. Behind (after_check f text_checked) IsAssembledTo (Err answer)) (file_is_not input name files answer is h) refl) refl tt)

-- its program was made, and worked on
pub asm_comes : (input : Named) (output name file bytes program : List ℕ) (w u v : World) (end : Result CommandAnswer Stop) → name ≡ input.text
    → bytes ≡ file → Over (λ files. Ok file ≡ file_at files input.word name) w.shelf u.shelf → OnlyShelf w u → IsProgramOf bytes (Ok program)
    → Works (assembled output program) u v end → Comes true (IsDueOfAsm input output) w v end
asm_comes input output name file bytes program w u v end is same gives only made works =
    gives_then (IsDueOfAsm input output) (λ x due. due ≡ assembled output program) (λ files. Ok file ≡ file_at files input.word name) w u v end
    gives only (λ files due agree found h. asm_due input output w files (Ok program) due agree
    (from_file input name file bytes files (Ok program) is same found made) tt h) (inr (assembled output program, refl, works))

-- its text was refused
pub asm_refuses : (input : Named) (output name file bytes : List ℕ) (w u : World) (end : Result CommandAnswer Stop) → name ≡ input.text → bytes ≡ file
    → Over (λ files. Ok file ≡ file_at files input.word name) w.shelf u.shelf → OnlyShelf w u → MakesEnd (λ answer. IsProgramOf bytes (Err answer)) end
    → Comes true (IsDueOfAsm input output) w u end
asm_refuses input output name file bytes w u end is same gives only makes =
    gives_ends (IsDueOfAsm input output) (λ files answer. IsProgramFrom input files (Err answer)) w u end
    (makes_gives (λ files. Ok file ≡ file_at files input.word name) (λ answer. IsProgramOf bytes (Err answer))
    (λ files answer. IsProgramFrom input files (Err answer)) w.shelf u.shelf end gives
    (λ files answer found h. from_file input name file bytes files (Err answer) is same found h) makes) only
    (λ files answer agree h. asm_due input output w files (Err answer) (answers answer) agree h refl tt)
