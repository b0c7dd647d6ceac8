-- How a call is answered over an outside that does not fail.
use Rattle.std.proofs.Common.{◌≡◌, ◌⊎◌, ◌<◌, ◌-◌, ◌^◌, ℕ, true, List, Some, Result, Ok, Err, refl, ◌∙◌, ap, inl, inr, arith}
use Rattle.nv_outside.specs.Faults.{CountsFailure, one_more}
use Rattle.nv_values.specs.Names.{Text}
use Rattle.nv_translate.specs.Made.{AreMade}
use Rattle.command_words.specs.Meaning.{command_of}
use Rattle.command_words.specs.declared.command.Command.{Command}
use Rattle.command_deeds.specs.Deeds.{DoesAll}
use Rattle.command_deeds.specs.Ends.{CommandAnswer, Comes, Due, done_of_stop, final}
use Rattle.command_deeds.specs.Line.{answer_line}
use Rattle.command_deeds.specs.World.{SameShelf, Seen, World}
use Rattle.command_deeds.specs.declared.done.Done.{Done}
use Rattle.command_deeds.specs.declared.done.Done.TheVariants as done
use Rattle.command_deeds.specs.declared.stop.Stop.{Stop}
use Rattle.command_deeds.specs.declared.stop.Stop.TheVariants.{ReadFault, WriteFault, ShelfFault, NoMemory}
use Rattle.nested_cli.specs.Commands.{Does, IsDueOf, loads_files}
use Rattle.nested_cli.specs.Faults.{ErrFailed, OutFailed}
use Rattle.nested_cli.specs.Laws.{NoCountRose, Sound}
use Rattle.nested_cli.proofs.CheckLemmas.{not-told}

-- ---- no call failed

counts-none : (a b : ℕ) {A : Type 0} → b ≡ a → a < 2 ^ 64 - 1 → b ≡ one_more a → A
counts-none a b same low rose =
    let no : ⊥ = omega (arith, same, low, rose) in
    absurd no

rose-none : {B : Type 0} (old new : Seen B) {A : Type 0} → Sound old new → CountsFailure true old.faults new.faults → A
rose-none old new sound count = counts-none old.faults new.faults sound.0 sound.1 (count.rises refl)

err-rose : (w v : World) {A : Type 0} → NoCountRose w v → ErrFailed w v → A
err-rose w v none (inl failed) = rose-none w.err v.err none.err failed.err_count
err-rose w v none (inr (inl failed)) = rose-none w.err v.err none.err failed.err_count
err-rose w v none (inr (inr failed)) = rose-none w.err v.err none.err failed.err_count

write-rose : (w v : World) {A : Type 0} → NoCountRose w v → OutFailed w v ⊎ ErrFailed w v → A
write-rose w v none (inl failed) = rose-none w.out v.out none.out failed.out_count
write-rose w v none (inr failed) = err-rose w v none failed

-- ---- the answer is that of what is due

-- all is done that is due of a command, and this is answered
pub record Answered (c : Command) (moment : ℕ) (w v : World) (said : Done) : Type 0 where
  pub due : Due
  pub is_due : IsDueOf AreMade c moment w due
  pub answer : CommandAnswer
  pub answer_is : due.answer ≡ Some answer
  pub said_is : said ≡ answer.done
  -- the world before the answer's line
  pub worked : World
  pub deeds_done : DoesAll due.deeds w worked
  pub shelf : SameShelf worked.shelf v.shelf
  pub out : v.out ≡ worked.out

-- or the call was stopped
answered-or : (words : List Text) (moment : ℕ) (w v : World) (said : Done) (c : Command) → command_of words ≡ Ok c → Does AreMade words moment w v said
    → (said ≡ done.WriteFault → ⊥) → ((stop : Stop) × (said ≡ done_of_stop stop)) ⊎ Answered c moment w v said
answered-or words moment w v said c means does told = by does.end refl (does.due c means)
  where
    is : said ≡ (final does.end).done
    is = not-told (answer_line (final does.end).name (final does.end).done) does.worked.err v.err (final does.end).done said told does.line.3

    by : (end : Result CommandAnswer Stop) → does.end ≡ end → Comes (loads_files c) (IsDueOf AreMade c moment) w does.worked end
        → ((stop : Stop) × (said ≡ done_of_stop stop)) ⊎ Answered c moment w v said
    by (Err stop) e comes = inl (stop, is ∙ ap (λ x. (final x).done) e)
    by (Ok answer) e (inl early) = absurd early
    by (Ok answer) e (inr work) = inr (record {
      due = work.0;
      is_due = work.1;
      answer = answer;
      answer_is = work.2.0;
      said_is = is ∙ ap (λ x. (final x).done) e;
      worked = does.worked;
      deeds_done = work.2.2;
      shelf = does.line.0;
      out = does.line.2;
    })

-- where no call failed
pub answered : (words : List Text) (moment : ℕ) (w v : World) (said : Done) (c : Command) → command_of words ≡ Ok c → Does AreMade words moment w v said
    → NoCountRose w v → (said ≡ done.NoMemory) ⊎ Answered c moment w v said
answered words moment w v said c means does none = by (answered-or words moment w v said c means does (λ e. write-rose w v none (does.faults.write e)))
  where
    stopped : (stop : Stop) → said ≡ done_of_stop stop → (said ≡ done.NoMemory) ⊎ Answered c moment w v said
    stopped ReadFault e = rose-none w.input v.input none.input (does.faults.read e).input_count
    stopped WriteFault e = write-rose w v none (does.faults.write e)
    stopped ShelfFault e = rose-none w.shelf v.shelf none.shelf (does.faults.shelf e).shelf_count
    stopped NoMemory e = inl e

    by : ((stop : Stop) × (said ≡ done_of_stop stop)) ⊎ Answered c moment w v said → (said ≡ done.NoMemory) ⊎ Answered c moment w v said
    by (inl stop) = stopped stop.0 stop.1
    by (inr so) = inr so

-- where it is that all is good
pub answered-good : (words : List Text) (moment : ℕ) (w v : World) (c : Command) → command_of words ≡ Ok c → Does AreMade words moment w v done.Good
    → Answered c moment w v done.Good
answered-good words moment w v c means does = by (answered-or words moment w v done.Good c means does (λ e. cc))
  where
    stopped : (stop : Stop) → done.Good ≡ done_of_stop stop → Answered c moment w v done.Good
    stopped ReadFault e = cc
    stopped WriteFault e = cc
    stopped ShelfFault e = cc
    stopped NoMemory e = cc

    by : ((stop : Stop) × (done.Good ≡ done_of_stop stop)) ⊎ Answered c moment w v done.Good → Answered c moment w v done.Good
    by (inl stop) = stopped stop.0 stop.1
    by (inr so) = so
