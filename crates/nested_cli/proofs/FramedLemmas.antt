-- That the set which `frames` stored passes `check`.
use Rattle.std.proofs.Common.{◌≡◌, ◌⊎◌, ◌∙◌, ℕ, List, [], ◌∷◌, length, codes, sym, ap, subst, inl, inr}
use Rattle.std.proofs.lemmas.Option.{same_Some}
use Rattle.nv_outside.specs.Files.{Files}
use Rattle.class_definition.specs.declared.class.Class.{Class}
use Rattle.command_words.specs.declared.command.Command.TheVariants as command
use Rattle.command_words.specs.declared.named_class.NamedClass.{NamedClass}
use Rattle.command_deeds.specs.Deeds.{DoesAll, prints}
use Rattle.command_deeds.specs.Ends.{CommandAnswer, Due, says}
use Rattle.command_deeds.specs.Line.{number_line}
use Rattle.command_deeds.specs.World.{Seen, Takes, World}
use Rattle.command_deeds.specs.declared.done.Done.{Done}
use Rattle.command_deeds.specs.declared.done.Done.TheVariants as done
use Rattle.command_guest.specs.Classes.{counts_line, classes_counted, set_loaded}
use Rattle.command_frames.specs.Frames.{stored_and_counted}
use Rattle.command_frames_laws.specs.Counted.{IsCounted, StandIn, StoresSet}
use Rattle.command_frames_laws.proofs.CountedLemmas.{frames-stores, later-counts}
use Rattle.command_frames_laws.proofs.LeftLemmas.{left-behind, set-stores}
use Rattle.nested_cli.specs.ByName.{ChecksSo, FramesAreChecked}
use Rattle.nested_cli.proofs.AnsweredLemmas.{Answered, answered, answered-good}

-- ---- `check`

-- what is counted is told
counted-told : (classes : List Class) (class : NamedClass) (moment : ℕ) (w v : World) (said : Done) (so : Answered (command.Check class) moment w v said)
    → so.due ≡ classes_counted classes → (said ≡ done.Good) × Takes w.out v.out (counts_line classes)
counted-told classes class moment w v said so is = (good, told)
  where
    good : said ≡ done.Good
    good =
        so.said_is
        ∙ ap (λ (a : CommandAnswer). a.done) (same_Some so.answer (says done.Good) (sym so.answer_is ∙ ap (λ (d : Due). d.answer) is))

    deeds : DoesAll (prints (counts_line classes) ∷ []) w so.worked
    deeds = subst (λ (d : Due). DoesAll d.deeds w so.worked) is so.deeds_done

    told : Takes w.out v.out (counts_line classes)
    told = subst (λ (s : Seen (List ℕ)). Takes w.out s (counts_line classes)) (sym (so.out ∙ deeds.2.1.1)) deeds.1.0

checks-so : (class : NamedClass) (classes : List Class) (Stand : Files → Type 0) → ((files : Files) → Stand files → IsCounted class files classes)
    → ChecksSo class classes Stand
checks-so class classes Stand counts words moment w v said files means told stand does none =
    by (answered words moment w v said (command.Check class) means does none)
  where
    by : (said ≡ done.NoMemory) ⊎ Answered (command.Check class) moment w v said
        → (said ≡ done.NoMemory) ⊎ ((said ≡ done.Good) × Takes w.out v.out (counts_line classes))
    by (inl stop) = inl stop
    by (inr so) = inr (counted-told classes class moment w v said so (counts files stand w so.due told so.is_due))

-- ---- `frames`

pub frames-checked : FramesAreChecked
frames-checked words moment w v class files means told bytes does =
    let so : Answered (command.Frames class) moment w v done.Good = answered-good words moment w v (command.Frames class) means does in
    let s : StoresSet class files so.due = frames-stores class files w so.due told so.answer so.is_due so.answer_is (sym so.said_is) in
    let deeds : DoesAll (stored_and_counted s.deeds).deeds w so.worked = subst (λ (d : Due). DoesAll d.deeds w so.worked) s.is so.deeds_done in
    let left = left-behind s.deeds (number_line (codes "classes ") (length s.deeds)) files w so.worked v.shelf (set-stores class files so.due s) told deeds so.shelf in
    record {
      classes = s.classes;
      loaded = ap (set_loaded class) s.loaded;
      deeds = s.deeds;
      stored = record { left = left.left; left_told = left.left_told; leaves = left.leaves };
      checked = checks-so class s.classes (StandIn files s.deeds) (λ later stand. later-counts class files later so.due s bytes stand);
    }
