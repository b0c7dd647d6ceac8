-- How far a writing of several pieces has come.
use Rattle.std.proofs.Common.{◌≡◌, ℕ, ◌+◌, ◌<◌, List, [], ◌∷◌, ◌++◌, length, map, drop, get_or}
use Rattle.std.proofs.Common.{Bor, sym, ◌∙◌, append_assoc, add-one, ap, drop-cons, subst}
use Rattle.std.proofs.Common.{Option, Result, Ok, Err, refl}
use Rattle.std.specs.Prelude.{OnErr, OnOk, is_err}
use Rattle.std.specs.Io.KnownBytes.{Appends}
use Rattle.nv_outside.proofs.SeenLemmas.{fails-before, fails-behind, takes-both}
use Rattle.nv_outside.specs.Faults.{CountsFailure}
use Rattle.nv_outside.specs.Gains.{AppendsProperPart}
use Rattle.nv_outside.specs.declared.failed.Failed.{Failed}
use Rattle.command_deeds.specs.Line.{pieces_joined}
use Rattle.command_deeds.specs.World.{FailsIn, Seen, Takes, Writes}

pub record Joins (old new : Seen (List ℕ)) (all later : List (List ℕ)) : Type 0 where
  pub gained : List ℕ
  pub took : Takes old new gained
  pub splits : pieces_joined all ≡ gained ++ pieces_joined later

pub Joins-more : (old mid new : Seen (List ℕ)) (all later : List (List ℕ)) (piece : List ℕ) → Joins old mid all (piece ∷ later)
    → Takes mid new piece → Joins old new all later
Joins-more old mid new all later piece j took = record {
  gained = j.gained ++ piece;
  took = takes-both old mid new j.gained piece j.took took;
  splits = j.splits ∙ sym (append_assoc j.gained piece (pieces_joined later));
}

pub Joins-part : (old mid new : Seen (List ℕ)) (all later : List (List ℕ)) (piece : List ℕ) → Joins old mid all (piece ∷ later)
    → FailsIn mid new piece → FailsIn old new (pieces_joined all)
Joins-part old mid new all later piece j fails =
    subst (FailsIn old new) (sym j.splits)
    (fails-behind old mid new j.gained (piece ++ pieces_joined later) j.took (fails-before mid new piece (pieces_joined later) fails))

-- the pieces from one on are that one and the later ones
pub later_split : (pieces : List (Bor (List ℕ))) (i : ℕ) (d : Bor (List ℕ)) → i < length pieces
    → map (λ p. p.now) (drop i pieces) ≡ (get_or pieces i d).now ∷ map (λ p. p.now) (drop (i + 1) pieces)
later_split pieces i d h = rw add-one (ap (map (λ p. p.now)) (drop-cons pieces i d h))

-- pieces in front of others
pub joined-append : (front back : List (List ℕ)) → pieces_joined (front ++ back) ≡ pieces_joined front ++ pieces_joined back
joined-append [] back = refl
joined-append (piece ∷ front) back = ap (λ z. piece ++ z) (joined-append front back) ∙ sym (append_assoc piece (pieces_joined front) (pieces_joined back))

-- what a sink did with a text, by what it says
pub writes-all : (old new : Seen (List ℕ)) (text : List ℕ) (result : Result (Unit {0}) Failed) → OnOk result (Appends old.told new.told text)
    → OnErr result (AppendsProperPart old.told new.told text) → CountsFailure (is_err result) old.faults new.faults → Writes old new text result
writes-all old new text (Ok done) ok err count = (ok, count.stays refl)
writes-all old new text (Err failed) ok err count = (err, record { never_falls = count.never_falls; rose = count.rises refl })
