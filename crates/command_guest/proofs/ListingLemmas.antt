-- How far the writing of a listing has come.
use Rattle.std.proofs.Common.{◌≡◌, ℕ, suc, ◌+◌, ◌-◌, ◌%◌, ◌^◌, ◌<◌, List, [], ◌∷◌, ◌++◌, length, length-append, drop, get_or, codes}
use Rattle.std.proofs.Common.{Option, sym, ap, refl, ◌∙◌, append_assoc, add-one, drop-cons, subst, arith}
use Rattle.elf_definition.specs.declared.range.Range.{Range}
use Rattle.nv_outside.specs.Gains.{AppendsProperPart}
use Rattle.command_deeds.specs.World.{FailsIn, Seen, StopsPrint, Takes}
use Rattle.command_deeds.specs.declared.stop.Stop.{Stop}
use Rattle.command_deeds.specs.declared.stop.Stop.TheVariants.{ReadFault, WriteFault, ShelfFault, NoMemory}
use Rattle.command_deeds.specs.Line.{hex_word, pieces_joined}
use Rattle.mips_definition.specs.Table.{inst}
use Rattle.mips_decode.specs.Text.{text_of}
use Rattle.command_guest.specs.Listing.{listing_line_at, run_lines, runs_lines, word_line}
use Rattle.nv_outside.proofs.SeenLemmas.{fails-before, fails-behind}
use Rattle.nv_outside.proofs.WriteLemmas.{Appends-both, Appends-nothing}

pub record Leads (old new : Seen (List ℕ)) (all later : List ℕ) : Type 0 where
  pub gained : List ℕ
  pub took : Takes old new gained
  pub splits : all ≡ gained ++ later

pub leads_more : (old mid new : Seen (List ℕ)) (all rest piece later : List ℕ) → rest ≡ piece ++ later → Leads old mid all rest → Takes mid new piece
    → Leads old new all later
leads_more old mid new all rest piece later e j took = record {
  gained = j.gained ++ piece;
  took = (Appends-both old.told mid.told new.told j.gained piece j.took.0 took.0, took.1 ∙ j.took.1);
  splits = j.splits ∙ ap (λ z. j.gained ++ z) e ∙ sym (append_assoc j.gained piece later);
}

leads_part : (old mid new : Seen (List ℕ)) (all rest piece later : List ℕ) → rest ≡ piece ++ later → Leads old mid all rest
    → AppendsProperPart mid.told new.told piece → AppendsProperPart old.told new.told all
leads_part old mid new all rest piece later e j p = record {
  front = j.gained ++ p.front;
  next = p.next;
  rest = p.rest ++ later;
  splits =
      j.splits ∙ ap (λ z. j.gained ++ z) (e ∙ ap (λ z. z ++ later) p.splits ∙ append_assoc p.front (p.next ∷ p.rest) later)
      ∙ sym (append_assoc j.gained p.front (p.next ∷ (p.rest ++ later)));
  gained = Appends-both old.told mid.told new.told j.gained p.front j.took.0 p.gained;
}

pub leads_stopped : (old mid new : Seen (List ℕ)) (all rest piece later : List ℕ) (stop : Stop) → rest ≡ piece ++ later → Leads old mid all rest
    → StopsPrint mid new piece stop → StopsPrint old new all stop
leads_stopped old mid new all rest piece later WriteFault e j p =
    subst (FailsIn old new) (sym (j.splits ∙ ap (λ z. j.gained ++ z) e))
    (fails-behind old mid new j.gained (piece ++ later) j.took (fails-before mid new piece later p))
leads_stopped old mid new all rest piece later NoMemory e j p = (leads_part old mid new all rest piece later e j p.0, p.1 ∙ j.took.1)
leads_stopped old mid new all rest piece later ReadFault e j p = absurd p
leads_stopped old mid new all rest piece later ShelfFault e j p = absurd p

-- nothing was written of a text that is not empty
none_of : (old : Seen (List ℕ)) (text : List ℕ) → 0 < length text → StopsPrint old old text NoMemory
none_of old [] some = absurd (grind (arith, some))
none_of old (next ∷ rest) some = (record { front = []; next = next; rest = rest; splits = refl; gained = Appends-nothing old.told }, refl)

hex_long : (word : ℕ) → length (hex_word word) ≡ 8
unfolding hex_word
hex_long word = refl

some_before : (xs ys : List ℕ) → length xs ≡ 8 → 0 < length (xs ++ ys)
some_before xs ys long = omega (arith, length-append xs ys, long)

pub none_printed : (old : Seen (List ℕ)) (at word : ℕ) → StopsPrint old old (word_line at word) NoMemory
none_printed old at word =
    let behind : List ℕ = pieces_joined (codes ": " ∷ hex_word word ∷ codes " " ∷ text_of (inst word) at ∷ codes "\n" ∷ []) in
    none_of old (word_line at word) (some_before (hex_word at) behind (hex_long at))

one_less : (n i : ℕ) → i < n → n - i ≡ suc (n - (i + 1))
one_less n i h = omega arith

pub run_next : (code : ℕ → Option ℕ) (at n i : ℕ) → i < n → run_lines code at (n - i) ≡ listing_line_at code at
    ++ run_lines code ((at + 4) % 2 ^ 32) (n - (i + 1))
run_next code at n i h = ap (run_lines code at) (one_less n i h)

pub runs_next : (code : ℕ → Option ℕ) (runs : List Range) (i : ℕ) (d : Range) → i < length runs
    → runs_lines code (drop i runs) ≡ run_lines code (get_or runs i d).first (get_or runs i d).words ++ runs_lines code (drop (i + 1) runs)
runs_next code runs i d h = rw add-one (ap (runs_lines code) (drop-cons runs i d h))
