-- What the work of a call and its line come to.
use Rattle.std.proofs.Common.{◌≡◌, ◌⊎◌, ℕ, Bool, true, false, List, [], ◌∷◌, ◌++◌, Result, Ok, Err, refl, sym, ◌∙◌, ap, subst, inl, inr}
use Rattle.nv_translate.specs.Made.{AreMade}
use Rattle.command_words.specs.Meaning.{command_of}
use Rattle.command_words.specs.declared.command.Command.{Command}
use Rattle.command_forms.specs.declared.usage.Usage.{Usage}
use Rattle.command_deeds.specs.Ends.{CommandAnswer, Comes, Due, end_of, final, is_stop}
use Rattle.command_forms.specs.declared.words_error.WordsError.{WordsError}
use Rattle.command_forms.specs.declared.words_error.WordsError.TheVariants as words
use Rattle.command_deeds.proofs.DeedLemmas.{stays}
use Rattle.command_deeds.specs.Line.{answer_line}
use Rattle.command_deeds.specs.Stops.{words_ending}
use Rattle.command_deeds.specs.World.{FailsIn, World}
use Rattle.command_deeds.specs.declared.done.Done.{Done}
use Rattle.command_deeds.specs.declared.done.Done.TheVariants as done
use Rattle.command_deeds.specs.declared.stop.Stop.{Stop}
use Rattle.command_deeds.specs.declared.stop.Stop.TheVariants.{ReadFault, WriteFault, ShelfFault, NoMemory}
use Rattle.nested_cli.specs.Commands.{Does, IsDueOf, loads_files}
use Rattle.nested_cli.specs.Faults.{ErrFailed, Failed, Faults, NoneFailed, OutFailed}
use Rattle.nested_cli.specs.Line.{Says, Tells}
use Rattle.nested_cli.specs.Usage.{Misuses}
use Rattle.nested_cli.proofs.FaultLemmas.{EndSays, StopSays, comes_says, count_rises, count_stays, err_behind, failed_before, sound, stays_sound}

-- an answer that is none of a stop is no fault
no_fault : (done fault : Done) → is_stop done ≡ false → is_stop fault ≡ true → done ≡ fault → ⊥
no_fault done fault kind stop e =
    let both : false ≡ true = sym kind ∙ ap is_stop e ∙ stop in
    cc

-- where no call failed
no_faults : (w v : World) (said : Done) → is_stop said ≡ false → NoneFailed w v → Faults w v said
no_faults w v said kind none = record {
  read = λ e. absurd (no_fault said done.ReadFault kind refl e);
  write = λ e. absurd (no_fault said done.WriteFault kind refl e);
  shelf = λ e. absurd (no_fault said done.ShelfFault kind refl e);
  none = λ a b c. none;
}

-- ---- the line was written

stop_told : (stop : Stop) (w u v : World) → StopSays stop w u → NoneFailed u v → Faults w v (final (Err stop)).done
stop_told ReadFault w u v p q = record {
  read = λ e. failed_before false true false false w u v p q;
  write = λ e. cc;
  shelf = λ e. cc;
  none = λ a b c. absurd (a refl);
}
stop_told WriteFault w u v p q = record { read = λ e. cc; write = λ e. by p; shelf = λ e. cc; none = λ a b c. absurd (b refl) }
  where
    by : OutFailed w u ⊎ Failed false false false true w u → OutFailed w v ⊎ ErrFailed w v
    by (inl out) = inl (failed_before false false true false w u v out q)
    by (inr err) = inr (inl (failed_before false false false true w u v err q))
stop_told ShelfFault w u v p q = record {
  read = λ e. cc;
  write = λ e. cc;
  shelf = λ e. failed_before true false false false w u v p q;
  none = λ a b c. absurd (c refl);
}
stop_told NoMemory w u v p q = record {
  read = λ e. cc;
  write = λ e. cc;
  shelf = λ e. cc;
  none = λ a b c. failed_before false false false false w u v p q;
}

end_told : (end : Result CommandAnswer Stop) (w u v : World) → EndSays end w u → NoneFailed u v → Faults w v (final end).done
end_told (Ok answer) w u v p q = no_faults w v answer.done p.0 (failed_before false false false false w u v p.1 q)
end_told (Err stop) w u v p q = stop_told stop w u v p q

-- ---- its writing failed

none_left : (front : List ℕ) (next : ℕ) (rest : List ℕ) → [] ≡ front ++ next ∷ rest → ⊥
none_left [] next rest is = cc
none_left (x ∷ front) next rest is = cc

-- a write fault has no line
line_behind : (end : Result CommandAnswer Stop) (w u v : World) → EndSays end w u
    → FailsIn u.err v.err (answer_line (final end).name (final end).done) → Failed false false false true u v → ErrFailed w v
line_behind (Ok answer) w u v p fails line = inl (err_behind false false w u v p.1 line)
line_behind (Err ReadFault) w u v p fails line = inr (inr (err_behind false true w u v p line))
line_behind (Err WriteFault) w u v p fails line = absurd (none_left fails.0.front fails.0.next fails.0.rest fails.0.splits)
line_behind (Err ShelfFault) w u v p fails line = inr (inl (err_behind true false w u v p line))
line_behind (Err NoMemory) w u v p fails line = inl (err_behind false false w u v p line)

line_failed : (w v : World) → ErrFailed w v → Faults w v done.WriteFault
line_failed w v failed = record { read = λ e. cc; write = λ e. inr failed; shelf = λ e. cc; none = λ a b c. absurd (b refl) }

told_faults : (end : Result CommandAnswer Stop) (w u v : World) (said : Done) → EndSays end w u
    → Says (answer_line (final end).name (final end).done) u v (final end).done said → Faults w v said
told_faults end w u v said p says = by says.3
  where
    input : v.input.faults ≡ u.input.faults
    input = ap (λ i. i.faults) says.1

    out : v.out.faults ≡ u.out.faults
    out = ap (λ o. o.faults) says.2

    by : Tells (answer_line (final end).name (final end).done) u.err v.err (final end).done said → Faults w v said
    by (inl told) = subst (Faults w v) (sym told.0) (end_told end w u v p (sound u v says.0.1 input out told.1.1))
    by (inr told) = subst (Faults w v) (sym told.0) (line_failed w v (line_behind end w u v p told.1 (record {
      shelf_count = count_stays u.shelf.faults v.shelf.faults says.0.1;
      input_count = count_stays u.input.faults v.input.faults input;
      out_count = count_stays u.out.faults v.out.faults out;
      err_count = count_rises u.err.faults v.err.faults told.1.1;
    })))

-- ---- the whole call

-- what an end says of the counts, by the words
end_says : (words : List (List ℕ)) (moment : ℕ) (w u : World) (end : Result CommandAnswer Stop)
    → ((misuse : Usage) → command_of words ≡ Err misuse → Misuses misuse w u end)
    → ((c : Command) → command_of words ≡ Ok c → Comes (loads_files c) (IsDueOf AreMade c moment) w u end) → EndSays end w u
end_says words moment w u end usage due = by (command_of words) refl
  where
    misused : (misuse : Usage) → Misuses misuse w u end → EndSays end w u
    misused misuse (stays, inl is) = subst (λ e. EndSays e w u) (sym is) (refl, stays_sound w u stays)
    misused misuse (stays, inr is) = subst (λ e. EndSays e w u) (sym is) (stays_sound w u stays)

    by : (meant : Result Command Usage) → command_of words ≡ meant → EndSays end w u
    by (Ok c) e = comes_says (loads_files c) (IsDueOf AreMade c moment) w u end (due c e)
    by (Err misuse) e = misused misuse (usage misuse e)

-- words that mean a command are refused for want of memory alone
pub refused_due : (error : WordsError) (meant : Result Command Usage) (c : Command) (IsDueAt : World → Due → Type 0) (w : World)
    → ((fault : Usage) → error ≡ words.Usage fault → meant ≡ Err fault) → meant ≡ Ok c
    → Comes (loads_files c) IsDueAt w w (end_of (words_ending error))
refused_due (words.Usage fault) meant c IsDueAt w usage is =
    let both : Err fault ≡ Ok c = sym (usage fault refl) ∙ is in
    cc
refused_due words.NoMemory meant c IsDueAt w usage is = early (loads_files c)
  where
    early : (l : Bool) → Comes l IsDueAt w w (Err NoMemory)
    early true = inl (stays w)
    early false = inl (refl, stays w)

pub does : (words : List (List ℕ)) (moment : ℕ) (w u v : World) (end : Result CommandAnswer Stop) (said : Done)
    → ((misuse : Usage) → command_of words ≡ Err misuse → Misuses misuse w u end)
    → ((c : Command) → command_of words ≡ Ok c → Comes (loads_files c) (IsDueOf AreMade c moment) w u end)
    → Says (answer_line (final end).name (final end).done) u v (final end).done said → Does AreMade words moment w v said
does words moment w u v end said usage due line = record {
  worked = u;
  end = end;
  usage = usage;
  due = due;
  faults = told_faults end w u v said (end_says words moment w u end usage due) line;
  line = line;
}
