-- A run over answers that the parts gave is a run of the definition.
use Rattle.std.proofs.Common.{◌≡◌, ◌≢◌, ◌≤◌, ℕ, zero, suc, Bool, true, false, IsTrue, List, [], ◌∷◌, ◌++◌, length, Option, Some, None, option_map, refl, ap, sym, ◌∙◌, subst, append_assoc, append-nil, if◌then◌else◌}
use Rattle.std.specs.Io.KnownBytes.{Consumes}
use Rattle.nv_outside.specs.Seen.{Takes}
use Rattle.run_definition.specs.Question.{Question}
use Rattle.run_definition.specs.Answer.{Answer, answer_fits, next_answer}
use Rattle.run_definition.specs.Turn.{Turn, moves, ends, leaves, asks, outcome_of}
use Rattle.run_definition.specs.Run.{Run, stops, asking, run_of}
use Rattle.nv_events.specs.Serving.{Leads}
use Rattle.run_definition.specs.declared.outcome.Outcome.{Outcome}
use Rattle.run_definition.specs.declared.outcome.Outcome.TheVariants.{Waiting, Going}
use Rattle.nv_events.proofs.RunLaws.{given, turned, run_of-suc}
use Rattle.unix_definition.specs.System.{System, with_console}
use Rattle.unix_definition.specs.Unix.{unix, reply, fitting_answer}
use Rattle.unix_calls.specs.Arriving.{Arriving, arrived, arriving, reply_arriving, without_pieces}
use Rattle.unix_calls.specs.Held.{Held, system_of}
use Rattle.unix_calls.specs.Drawing.{known}
use Rattle.unix_calls.specs.Serving.{Parts}
use Rattle.unix_calls.specs.Playing.{PlaysRun, run_over}
use Rattle.unix_calls.proofs.DrawLemmas.{consumes-nothing, consumes-both}
use Rattle.unix_calls.proofs.LeadsLemmas.{Answers}
use Rattle.nv_outside.proofs.SeenLemmas.{takes-nothing, takes-both}

-- the system of parts, to which these were written before
abbrev pub sys : Parts → List ℕ → List ℕ → System
sys p b e = system_of p.unix (known p.input.told) b e

-- no pieces come where all of the input is told
abbrev pub HasPieces : Option (List ℕ) → List (List ℕ) → Type 0
HasPieces None pieces = Unit {0}
HasPieces (Some rest) pieces = pieces ≡ []

pub told-on : (a b : Option (List ℕ)) (rest got : List ℕ) → a ≡ Some rest → Consumes a b got → (b ≡ Some (known b)) × (rest ≡ got ++ known b)
told-on None b rest got e c = cc
told-on (Some xs) None rest got e c = absurd c
told-on (Some xs) (Some ys) rest got e c = let same : xs ≡ rest = cc in (refl, sym same ∙ c)

-- ---- without pieces the run is the plain one

module _ {S : Type 0} (go : S → Arriving → Run S Arriving) (plain : S → System → Run S System) (h : (t : S) (l : System) → without_pieces (go t (arriving l [])) ≡ plain t l) where
  given-plain : (y : Option (Answer × System)) (q : Question) (next : Answer → S) (s : S) (k : System)
      → without_pieces (given (option_map (λ given. (given.0, arriving given.1 [])) y) q next s (arriving k []) go) ≡ given y q next s k plain
  given-plain None q next s k = refl
  given-plain (Some y) q next s k = ap (asking q) (h (next y.0) y.1)

  turned-plain : (x : Turn S) (s : S) (k : System) → without_pieces (turned reply_arriving x s (arriving k []) go) ≡ turned reply x s k plain
  turned-plain (moves t) s k = h t k
  turned-plain (ends end) s k = refl
  turned-plain (leaves q end) s k = refl
  turned-plain (asks q next) s k = given-plain (reply k q) q next s k

pub plain-run : {S : Type 0} (turn : S → Turn S) (n : ℕ) (s : S) (k : System) → without_pieces (run_of turn reply_arriving n s (arriving k [])) ≡ run_of turn reply n s k
plain-run turn zero s k = refl
plain-run turn (suc n) s k =
    ap without_pieces (run_of-suc turn reply_arriving n s (arriving k []))
    ∙ (turned-plain (run_of turn reply_arriving n) (run_of turn reply n) (plain-run turn n) (turn s) s k
    ∙ sym (run_of-suc turn reply n s k))

pub run-is : {S : Type 0} (turn : S → Turn S) (n : ℕ) (s : S) (u : Held) (told : Option (List ℕ)) (pieces : List (List ℕ)) → HasPieces told pieces
    → run_over turn n s u told pieces ≡ without_pieces (run_of turn reply_arriving n s (arriving (system_of u (known told) [] []) pieces))
run-is turn n s u None pieces has = refl
run-is turn n s u (Some rest) pieces has =
    sym (plain-run turn n s (system_of u rest [] []))
    ∙ ap (λ l. without_pieces (run_of turn reply_arriving n s (arriving (system_of u rest [] []) l))) (sym has)

-- ---- a call

replied : (k next : System) (q : Question) (a : Answer) → unix k q ≡ (a, next) → IsTrue (answer_fits a q) → reply k q ≡ Some (a, next)
replied k next q a is fit = ap (fitting_answer q) is ∙ ap (λ t. if t then Some (a, next) else None) fit

-- an answer of the parts is the definition's, when these pieces come
record Arrives (p r : Parts) (q : Question) (a : Answer) (b e c d : List ℕ) (more : List (List ℕ)) : Type 0 where
  pub pieces : List (List ℕ)
  pub has : HasPieces p.input.told pieces
  pub is : reply_arriving (arriving (sys p b e) pieces) q ≡ Some (a, arriving (sys r c d) more)

arrives : (p r : Parts) (q : Question) (a : Answer) (b e : List ℕ) (more : List (List ℕ)) (g : Answers p q a r) → HasPieces r.input.told more
    → Arrives p r q a b e (b ++ g.output) (e ++ g.error_output) more
arrives p r q a b e more g has = by p.input.told refl
  where
    next : System
    next = sys r (b ++ g.output) (e ++ g.error_output)

    by : (input : Option (List ℕ)) → p.input.told ≡ input → Arrives p r q a b e (b ++ g.output) (e ++ g.error_output) more
    by (Some rest) e_told =
        let on = told-on p.input.told r.input.told rest g.got e_told g.consumed in
        let none : more ≡ [] = subst (λ t. HasPieces t more) on.0 has in
        let all : known p.input.told ≡ g.got ++ known r.input.told = ap known e_told ∙ on.1 in
        let so : reply (sys p b e) q ≡ Some (a, next) =
        replied (sys p b e) next q a (ap (λ l. unix (system_of p.unix l b e) q) all ∙ g.is b e) g.fits in
        record {
          pieces = [];
          has = subst (λ t. HasPieces t []) (sym e_told) refl;
          is = ap (option_map (λ given. (given.0, arriving given.1 []))) so ∙ ap (λ l. Some (a, arriving next l)) (sym none);
        }
    by None e_told =
        let piece : List ℕ = g.got ++ known r.input.told in
        let here : (p.unix.ahead ++ known p.input.told) ++ piece ≡ p.unix.ahead ++ piece =
        ap (λ t. (p.unix.ahead ++ known t) ++ piece) e_told ∙ ap (λ l. l ++ piece) (append-nil p.unix.ahead) in
        let same : arrived (sys p b e) piece ≡ system_of p.unix piece b e =
        ap (λ l. with_console (sys p b e) (record { rest = l; output = b; error_output = e })) here in
        let so : reply (arrived (sys p b e) piece) q ≡ Some (a, next) =
        ap (λ k. reply k q) same ∙ replied (system_of p.unix piece b e) next q a (g.is b e) g.fits in
        record {
          pieces = piece ∷ more;
          has = subst (λ t. HasPieces t (piece ∷ more)) (sym e_told) tt;
          is = ap (option_map (λ given. (given.0, arriving given.1 more))) so;
        }

-- pieces with which a run of the definition is as it should be
pub record From (p : Parts) (b e : List ℕ) (Is : Arriving → Type 0) : Type 0 where
  pub pieces : List (List ℕ)
  pub has : HasPieces p.input.told pieces
  pub is : Is (arriving (sys p b e) pieces)

pub behind-call : (p m : Parts) (q : Question) (a : Answer) (b e : List ℕ) (g : Answers p q a m) (Later Is : Arriving → Type 0)
    → ((k l : Arriving) → reply_arriving k q ≡ Some (a, l) → Later l → Is k)
    → From m (b ++ g.output) (e ++ g.error_output) Later → From p b e Is
behind-call p m q a b e g Later Is on later =
    let come = arrives p m q a b e later.pieces g later.has in
    record {
      pieces = come.pieces;
      has = come.has;
      is = on (arriving (sys p b e) come.pieces) (arriving (sys m (b ++ g.output) (e ++ g.error_output)) later.pieces) come.is later.is;
    }

-- where none come
pub no-more : (p : Parts) (b e : List ℕ) (Is : Arriving → Type 0) → Is (arriving (sys p b e) []) → From p b e Is
no-more p b e Is is = record { pieces = []; has = none p.input.told; is = is }
  where
    none : (told : Option (List ℕ)) → HasPieces told []
    none None = tt
    none (Some rest) = refl

-- ---- a run that was not stopped

-- The definition's run x ends as the run y over answers, and its system is that of the parts after it.
pub record Follows {S : Type 0} (x : Run S Arriving) (y : Run S (List Answer)) (p r : Parts) (b e : List ℕ) : Type 0 where
  pub got : List ℕ
  pub output : List ℕ
  pub error_output : List ℕ
  pub consumed : Consumes p.input.told r.input.told got
  pub sound : r.input.faults ≡ p.input.faults
  pub wrote : Takes p.out r.out output
  pub wrote_error : Takes p.err r.err error_output
  pub outcome : x.outcome ≡ y.outcome
  pub last : x.last ≡ y.last
  pub system : x.system.system ≡ sys r (b ++ output) (e ++ error_output)

stays : {S : Type 0} (qs rs : List Question) (o : Outcome) (s : S) (left : List Answer) (p r : Parts) (b e : List ℕ) → r ≡ p
    → From p b e (λ k. Follows (stops qs o s k) (stops rs o s left) p r b e)
stays qs rs o s left p r b e same =
    subst (λ (z : Parts). From p b e (λ k. Follows (stops qs o s k) (stops rs o s left) p z b e)) (sym same)
    (no-more p b e (λ k. Follows (stops qs o s k) (stops rs o s left) p p b e) (record {
      got = [];
      output = [];
      error_output = [];
      consumed = consumes-nothing p.input.told;
      sound = refl;
      wrote = takes-nothing p.out;
      wrote_error = takes-nothing p.err;
      outcome = refl;
      last = refl;
      system = λ i. sys p (sym (append-nil b) i) (sym (append-nil e) i);
    }))

led-nowhere : (p r : Parts) (qs : List Question) (answers : List Answer) → answers ≡ [] → Leads Answers p qs answers r → r ≡ p
led-nowhere p r qs answers none led = subst (λ (l : List Answer). Leads Answers p qs l r) none led

joins : {S : Type 0} (q : Question) (a : Answer) (x : Run S Arriving) (y : Run S (List Answer)) (p m r : Parts) (b e : List ℕ) (g : Answers p q a m) → Follows x y m r (b ++ g.output) (e ++ g.error_output) → Follows (asking q x) (asking q y) p r b e
joins q a x y p m r b e g f = record {
  got = g.got ++ f.got;
  output = g.output ++ f.output;
  error_output = g.error_output ++ f.error_output;
  consumed = consumes-both p.input.told m.input.told r.input.told g.got f.got g.consumed f.consumed;
  sound = f.sound ∙ g.sound;
  wrote = takes-both p.out m.out r.out g.output f.output g.wrote f.wrote;
  wrote_error = takes-both p.err m.err r.err g.error_output f.error_output g.wrote_error f.wrote_error;
  outcome = f.outcome;
  last = f.last;
  system = f.system ∙ (λ i. sys r (append_assoc b g.output f.output i) (append_assoc e g.error_output f.error_output i));
}

module _ {S : Type 0} (r : Parts) (go : S → Arriving → Run S Arriving) (over : S → List Answer → Run S (List Answer)) where
  -- the runs of the turns that are left
  abbrev Rest : Type 0
  Rest = (t : S) (left : List Answer) (m : Parts) (c d : List ℕ) → (over t left).outcome ≢ Waiting → (over t left).system ≡ [] → Leads Answers m (over t left).questions left r → From m c d (λ k. Follows (go t k) (over t left) m r c d)

  follows-fits : Rest → (f : Bool) (q : Question) (next : Answer → S) (s : S) (a : Answer) (left : List Answer) (p : Parts) (b e : List ℕ)
      → (given (if f then Some (a, left) else None) q next s (a ∷ left) over).outcome ≢ Waiting
      → (given (if f then Some (a, left) else None) q next s (a ∷ left) over).system ≡ []
      → Leads Answers p (given (if f then Some (a, left) else None) q next s (a ∷ left) over).questions (a ∷ left) r
      → From p b e (λ k. Follows (given (reply_arriving k q) q next s k go) (given (if f then Some (a, left) else None) q next s (a ∷ left) over) p r b e)
  follows-fits h true q next s a left p b e runs used led =
      let m = led.0 in
      let g = led.1 in
      behind-call p m q a b e g (λ l. Follows (go (next a) l) (over (next a) left) m r (b ++ g.output) (e ++ g.error_output))
      (λ k. Follows (given (reply_arriving k q) q next s k go) (asking q (over (next a) left)) p r b e)
      (λ k l is f. subst (λ (y : Option (Answer × Arriving)). Follows (given y q next s k go) (asking q (over (next a) left)) p r b e) (sym is)
      (joins q a (go (next a) l) (over (next a) left) p m r b e g f))
      (h (next a) left m (b ++ g.output) (e ++ g.error_output) runs used led.2)
  follows-fits h false q next s a left p b e runs used led = absurd (runs refl)

  follows-turn : Rest → (x : Turn S) (s : S) (answers : List Answer) (p : Parts) (b e : List ℕ)
      → (turned next_answer x s answers over).outcome ≢ Waiting
      → (turned next_answer x s answers over).system ≡ []
      → Leads Answers p (turned next_answer x s answers over).questions answers r
      → From p b e (λ k. Follows (turned reply_arriving x s k go) (turned next_answer x s answers over) p r b e)
  follows-turn h (moves t) s answers p b e runs used led = h t answers p b e runs used led
  follows-turn h (ends end) s answers p b e runs used led = stays [] [] (outcome_of end) s answers p r b e (led-nowhere p r [] answers used led)
  follows-turn h (leaves q end) s answers p b e runs used led = stays (q ∷ []) (q ∷ []) (outcome_of end) s answers p r b e (led-nowhere p r (q ∷ []) answers used led)
  follows-turn h (asks q next) s [] p b e runs used led = absurd (runs refl)
  follows-turn h (asks q next) s (a ∷ left) p b e runs used led = follows-fits h (answer_fits a q) q next s a left p b e runs used led

follows : {S : Type 0} (turn : S → Turn S) (n : ℕ) (s : S) (answers : List Answer) (p r : Parts) (b e : List ℕ)
    → (run_of turn next_answer n s answers).outcome ≢ Waiting
    → (run_of turn next_answer n s answers).system ≡ []
    → Leads Answers p (run_of turn next_answer n s answers).questions answers r
    → From p b e (λ k. Follows (run_of turn reply_arriving n s k) (run_of turn next_answer n s answers) p r b e)
follows turn zero s answers p r b e runs used led = stays [] [] Going s answers p r b e (led-nowhere p r [] answers used led)
follows {S} turn (suc n) s answers p r b e runs used led =
    let first = run_of-suc turn next_answer n s answers in
    let f = follows-turn r (run_of turn reply_arriving n) (run_of turn next_answer n) (λ t left m c d. follows turn n t left m r c d) (turn s) s answers p b e
    (subst (λ (y : Run S (List Answer)). y.outcome ≢ Waiting) first runs)
    (subst (λ (y : Run S (List Answer)). y.system ≡ []) first used)
    (subst (λ (y : Run S (List Answer)). Leads Answers p y.questions answers r) first led) in
    record {
      pieces = f.pieces;
      has = f.has;
      is =
          let k : Arriving = arriving (sys p b e) f.pieces in
          subst (λ (x : Run S Arriving). Follows x (run_of turn next_answer (suc n) s answers) p r b e) (sym (run_of-suc turn reply_arriving n s k))
          (subst (λ (y : Run S (List Answer)). Follows (turned reply_arriving (turn s) s k (run_of turn reply_arriving n)) y p r b e) (sym first) f.is);
    }

plays-so : {S : Type 0} (turn : S → Turn S) (x : Run S Arriving) (y : Run S (List Answer)) (now : S) (p r : Parts) (o : Outcome)
    → Follows x y p r [] [] → y.outcome ≡ o → y.last ≡ now → length r.unix.ahead ≤ 4096 → PlaysRun turn (without_pieces x) now p r o
plays-so turn x y now p r o f outcome last few =
    let out = ap (λ k. k.console.output) f.system in
    let err = ap (λ k. k.console.error_output) f.system in
    record {
      comes = record {
        input = record {
          got = f.got;
          ahead = r.unix.ahead;
          lost = f.consumed;
          is = ap (λ k. k.console.rest) f.system;
          few = few;
          sound = f.sound;
        };
        out = subst (Takes p.out r.out) (sym out) f.wrote;
        err = subst (Takes p.err r.err) (sym err) f.wrote_error;
      };
      is = f.outcome ∙ outcome;
      last = f.last ∙ last;
      system = f.system ∙ (λ i. system_of r.unix (known r.input.told) (sym out i) (sym err i));
    }

pub plays : {S : Type 0} (turn : S → Turn S) (n : ℕ) (s now : S) (p r : Parts) (o : Outcome) (answers : List Answer)
    → (run_of turn next_answer n s answers).outcome ≡ o → (run_of turn next_answer n s answers).last ≡ now → o ≢ Waiting
    → (run_of turn next_answer n s answers).system ≡ []
    → Leads Answers p (run_of turn next_answer n s answers).questions answers r → length r.unix.ahead ≤ 4096
    → (pieces : List (List ℕ)) × PlaysRun turn (run_over turn n s p.unix p.input.told pieces) now p r o
plays {S} turn n s now p r o answers outcome last on used led few =
    let f = follows turn n s answers p r [] [] (λ w. on (sym outcome ∙ w)) used led in (
      f.pieces,
      subst (λ (x : Run S System). PlaysRun turn x now p r o) (sym (run-is turn n s p.unix p.input.told f.pieces f.has))
          (plays-so turn (run_of turn reply_arriving n s (arriving (sys p [] []) f.pieces)) (run_of turn next_answer n s answers) now p r o f.is outcome last few),
    )
