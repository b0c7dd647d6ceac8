-- A run that the outside stopped in a call.
use Rattle.std.proofs.Common.{◌≡◌, ◌⊎◌, inl, inr, ◌≤◌, ◌<◌, ℕ, zero, suc, ◌==◌, Bool, true, false, List, [], ◌∷◌, ◌++◌, length, Option, Some, None, option_map, refl, ap, sym, ◌∙◌, subst, append_assoc, append-nil, if◌then◌else◌, arith, slice_get}
use Rattle.std.specs.Io.KnownBytes.{Consumes}
use Rattle.nv_outside.specs.Seen.{FailsIn, Seen, Takes}
use Rattle.run_definition.specs.Question.{Question}
use Rattle.run_definition.specs.Answer.{Answer, answer_fits, next_answer}
use Rattle.run_definition.specs.Turn.{Turn, moves, ends, leaves, asks}
use Rattle.run_definition.specs.Run.{Run, run_of}
use Rattle.nv_events.specs.Serving.{StopsAt}
use Rattle.run_definition.specs.declared.io_fault.IoFault.{IoFault}
use Rattle.run_definition.specs.declared.io_fault.IoFault.TheVariants.{ReadFault, WriteFault}
use Rattle.run_definition.specs.declared.outcome.Outcome.TheVariants.{Waiting}
use Rattle.nv_events.proofs.RunLaws.{given, turned, run_of-suc}
use Rattle.nv_events.proofs.Progress.{end_not_waiting}
use Rattle.unix_definition.specs.System.{System, with_console}
use Rattle.unix_definition.specs.Unix.{fitting_answer, reply, unix}
use Rattle.unix_calls.specs.Arriving.{Arriving, arrived, arriving, reply_arriving, without_pieces}
use Rattle.unix_calls.specs.Drawing.{AreBytes, known}
use Rattle.unix_calls.specs.Held.{system_of}
use Rattle.unix_calls.specs.Playing.{behind, run_over, streams}
use Rattle.unix_calls.specs.Serving.{FellReading, FellWriting, OneFails, Parts, written_by}
use Rattle.unix_calls.specs.Stages.{FailsBehind, FailsCall, IsRear, OneFailsBehind, Stage, StopsRun, goes_on, next_of, reads, stage_of, writes}
use Rattle.unix_calls.proofs.DrawLemmas.{consumes-both}
use Rattle.unix_calls.proofs.FrameLemmas.{Same, unix-framed}
use Rattle.unix_calls.proofs.LeadsLemmas.{Answers, FailsBy}
use Rattle.unix_calls.proofs.PlayLemmas.{From, HasPieces, behind-call, run-is, sys, told-on}
use Rattle.nv_outside.proofs.SeenLemmas.{rises-from, takes-both, takes-nothing}

-- ---- how far it came

-- the system after a reply, if there is one
abbrev next_state : Option (Answer × Arriving) → Arriving → Arriving
next_state None k = k
next_state (Some given) k = given.1

-- a last piece, where pieces come
abbrev lost_pieces : Option (List ℕ) → List ℕ → List (List ℕ)
lost_pieces None lost = lost ∷ []
lost_pieces (Some rest) lost = []

-- The pieces that come with the call that failed: with one that reads what was lost, and what is left.
abbrev last_pieces : (fault : IoFault) (p : Parts) (q : Question) (r : Parts) → FailsBy fault p q r → List (List ℕ)
last_pieces ReadFault p q r fell = lost_pieces p.input.told (fell.got ++ known r.input.told)
last_pieces WriteFault p q r fell = []

has-lost : (told : Option (List ℕ)) (lost : List ℕ) → HasPieces told (lost_pieces told lost)
has-lost None lost = tt
has-lost (Some rest) lost = refl

has-none : (told : Option (List ℕ)) → HasPieces told []
has-none None = tt
has-none (Some rest) = refl

has-last : (fault : IoFault) (p : Parts) (q : Question) (r : Parts) (fell : FailsBy fault p q r) → HasPieces p.input.told (last_pieces fault p q r fell)
has-last ReadFault p q r fell = has-lost p.input.told (fell.got ++ known r.input.told)
has-last WriteFault p q r fell = has-none p.input.told

-- the definition's state in the call, and after it
abbrev in_call : Parts → List ℕ → List ℕ → List (List ℕ) → Arriving
in_call p b e pieces = arriving (sys p b e) pieces

abbrev after_call : Question → Arriving → Arriving
after_call q k = next_state (reply_arriving k q) k

-- The definition's runs x, one of each number of turns, came to a call that the outside failed.
record Broken {S : Type 0} (turn : S → Turn S) (x : ℕ → Run S Arriving) (n : ℕ) (fault : IoFault) (p r : Parts) (b e : List ℕ) : Type 0 where
  pub made : ℕ
  pub within : made < n
  pub mid : Parts
  pub got : List ℕ
  pub output : List ℕ
  pub error_output : List ℕ
  pub consumed : Consumes p.input.told mid.input.told got
  pub sound : mid.input.faults ≡ p.input.faults
  pub wrote : Takes p.out mid.out output
  pub wrote_error : Takes p.err mid.err error_output
  pub q : Question
  pub next : Answer → S
  pub asked : turn (x made).last ≡ asks q next
  pub fell : FailsBy fault mid q r
  pub before : (x made).system ≡ in_call mid (b ++ output) (e ++ error_output) (last_pieces fault mid q r fell)
  pub after : (x (suc made)).system ≡ after_call q (in_call mid (b ++ output) (e ++ error_output) (last_pieces fault mid q r fell))

-- one turn more
one-more : {S : Type 0} (turn : S → Turn S) (x y : ℕ → Run S Arriving) (n : ℕ) (fault : IoFault) (p r : Parts) (b e : List ℕ)
    → ((m : ℕ) → ((x (suc m)).last ≡ (y m).last) × ((x (suc m)).system ≡ (y m).system)) → Broken turn y n fault p r b e
    → Broken turn x (suc n) fault p r b e
one-more turn x y n fault p r b e on w = record {
  made = suc w.made;
  within = omega (arith, w.within);
  mid = w.mid;
  got = w.got;
  output = w.output;
  error_output = w.error_output;
  consumed = w.consumed;
  sound = w.sound;
  wrote = w.wrote;
  wrote_error = w.wrote_error;
  q = w.q;
  next = w.next;
  asked = ap turn (on w.made).0 ∙ w.asked;
  before = (on w.made).1 ∙ w.before;
  after = (on (suc w.made)).1 ∙ w.after;
  fell = w.fell;
}

-- a call that was answered before it
one-call : {S : Type 0} (turn : S → Turn S) (x : ℕ → Run S Arriving) (n : ℕ) (fault : IoFault) (q : Question) (a : Answer) (p m r : Parts) (b e : List ℕ)
    → (g : Answers p q a m) → Broken turn x n fault m r (b ++ g.output) (e ++ g.error_output) → Broken turn x n fault p r b e
one-call turn x n fault q a p m r b e g w =
    let there = λ (c d : List ℕ). in_call w.mid c d (last_pieces fault w.mid w.q r w.fell) in
    let out = append_assoc b g.output w.output in
    let err = append_assoc e g.error_output w.error_output in
    record {
      made = w.made;
      within = w.within;
      mid = w.mid;
      got = g.got ++ w.got;
      output = g.output ++ w.output;
      error_output = g.error_output ++ w.error_output;
      consumed = consumes-both p.input.told m.input.told w.mid.input.told g.got w.got g.consumed w.consumed;
      sound = w.sound ∙ g.sound;
      wrote = takes-both p.out m.out w.mid.out g.output w.output g.wrote w.wrote;
      wrote_error = takes-both p.err m.err w.mid.err g.error_output w.error_output g.wrote_error w.wrote_error;
      q = w.q;
      next = w.next;
      asked = w.asked;
      before = w.before ∙ (λ i. there (out i) (err i));
      after = w.after ∙ (λ i. after_call w.q (there (out i) (err i)));
      fell = w.fell;
    }

next-given : {S : Type 0} (turn : S → Turn S) (y : Option (Answer × Arriving)) (q : Question) (next : Answer → S) (s : S) (k : Arriving)
    → (given y q next s k (run_of turn reply_arriving 0)).system ≡ next_state y k
next-given turn None q next s k = refl
next-given turn (Some given) q next s k = refl

-- a turn's runs, by the turn
first-turn : {S : Type 0} (turn : S → Turn S) (x : Turn S) (m : ℕ) (s : S) (k : Arriving) → turn s ≡ x
    → run_of turn reply_arriving (suc m) s k ≡ turned reply_arriving x s k (run_of turn reply_arriving m)
first-turn turn x m s k is = run_of-suc turn reply_arriving m s k ∙ ap (λ y. turned reply_arriving y s k (run_of turn reply_arriving m)) is

-- it failed in the next turn
broken-here : {S : Type 0} (turn : S → Turn S) (n : ℕ) (s : S) (q : Question) (next : Answer → S) (fault : IoFault) (p r : Parts) (b e : List ℕ)
    → turn s ≡ asks q next → FailsBy fault p q r → From p b e (λ k. Broken turn (λ m. run_of turn reply_arriving m s k) (suc n) fault p r b e)
broken-here turn n s q next fault p r b e is fell =
    let pieces = last_pieces fault p q r fell in
    let k : Arriving = in_call p b e pieces in
    let out = append-nil b in
    let err = append-nil e in
    let same : k ≡ in_call p (b ++ []) (e ++ []) pieces = λ i. in_call p (sym out i) (sym err i) pieces in
    record {
      pieces = pieces;
      has = has-last fault p q r fell;
      is = record {
        made = 0;
        within = omega arith;
        mid = p;
        got = [];
        output = [];
        error_output = [];
        consumed = none p.input.told;
        sound = refl;
        wrote = takes-nothing p.out;
        wrote_error = takes-nothing p.err;
        q = q;
        next = next;
        asked = is;
        before = same;
        after =
            ap (λ y. y.system) (first-turn turn (asks q next) 0 s k is)
            ∙ next-given turn (reply_arriving k q) q next s k
            ∙ ap (λ l. after_call q l) same;
        fell = fell;
      };
    }
  where
    none : (told : Option (List ℕ)) → Consumes told told []
    none None = tt
    none (Some rest) = refl

next-get : (q : Question) (qs : List Question) (m n : ℕ) → m ≡ suc n → slice_get (q ∷ qs) m ≡ slice_get qs n
next-get q qs m n h = ap (slice_get (q ∷ qs)) h

module _ {S : Type 0} (turn : S → Turn S) (n : ℕ) (fault : IoFault) (r : Parts) (over : S → List Answer → Run S (List Answer)) where
  -- the runs of the turns that are left
  abbrev Left : Type 0
  Left = (t : S) (left : List Answer) (m : Parts) (c d : List ℕ) → (over t left).outcome ≡ Waiting → (over t left).system ≡ []
      → StopsAt Answers (FailsBy fault) m (over t left).questions left r
      → From m c d (λ k. Broken turn (λ i. run_of turn reply_arriving i t k) n fault m r c d)

  broken-fits : Left → (f : Bool) (s : S) (q : Question) (next : Answer → S) (a : Answer) (left : List Answer) (p : Parts) (b e : List ℕ) → turn s ≡ asks q next
      → (given (if f then Some (a, left) else None) q next s (a ∷ left) over).outcome ≡ Waiting
      → (given (if f then Some (a, left) else None) q next s (a ∷ left) over).system ≡ []
      → StopsAt Answers (FailsBy fault) p (given (if f then Some (a, left) else None) q next s (a ∷ left) over).questions (a ∷ left) r
      → From p b e (λ k. Broken turn (λ i. run_of turn reply_arriving i s k) (suc n) fault p r b e)
  broken-fits h true s q next a left p b e is waits used stop =
      let m = stop.3.0 in
      let g = stop.3.1 in
      let qs = (over (next a) left).questions in
      let length-is : length (a ∷ left) ≡ suc (length left) = omega arith in
      let at : slice_get qs (length left) ≡ Some stop.0 = sym (next-get q qs (length (a ∷ left)) (length left) length-is) ∙ stop.2 in
      behind-call p m q a b e g (λ l. Broken turn (λ i. run_of turn reply_arriving i (next a) l) n fault m r (b ++ g.output) (e ++ g.error_output))
      (λ k. Broken turn (λ i. run_of turn reply_arriving i s k) (suc n) fault p r b e)
      (λ k l so w.
      let first : (i : ℕ) → run_of turn reply_arriving (suc i) s k ≡ given (Some (a, l)) q next s k (run_of turn reply_arriving i) =
      λ i. first-turn turn (asks q next) i s k is ∙ ap (λ y. given y q next s k (run_of turn reply_arriving i)) so in
      one-more turn (λ i. run_of turn reply_arriving i s k) (λ i. run_of turn reply_arriving i (next a) l) n fault p r b e
      (λ i. (ap (λ y. y.last) (first i), ap (λ y. y.system) (first i)))
      (one-call turn (λ i. run_of turn reply_arriving i (next a) l) n fault q a p m r b e g w))
      (h (next a) left m (b ++ g.output) (e ++ g.error_output) waits used (stop.0, stop.1, at, stop.3.2, stop.4))
  broken-fits h false s q next a left p b e is waits used stop = cc

  broken-turn : Left → (x : Turn S) (s : S) (answers : List Answer) (p : Parts) (b e : List ℕ) → turn s ≡ x
      → (turned next_answer x s answers over).outcome ≡ Waiting
      → (turned next_answer x s answers over).system ≡ []
      → StopsAt Answers (FailsBy fault) p (turned next_answer x s answers over).questions answers r
      → From p b e (λ k. Broken turn (λ i. run_of turn reply_arriving i s k) (suc n) fault p r b e)
  broken-turn h (moves t) s answers p b e is waits used stop =
      let later = h t answers p b e waits used stop in
      record {
        pieces = later.pieces;
        has = later.has;
        is =
            let k : Arriving = arriving (sys p b e) later.pieces in
            one-more turn (λ i. run_of turn reply_arriving i s k) (λ i. run_of turn reply_arriving i t k) n fault p r b e
            (λ i. (ap (λ y. y.last) (first-turn turn (moves t) i s k is), ap (λ y. y.system) (first-turn turn (moves t) i s k is))) later.is;
      }
  broken-turn h (ends end) s answers p b e is waits used stop = absurd (end_not_waiting end waits)
  broken-turn h (leaves q end) s answers p b e is waits used stop = absurd (end_not_waiting end waits)
  broken-turn h (asks q next) s [] p b e is waits used stop =
      let at : Some q ≡ Some stop.0 = stop.2 in
      let same : stop.0 ≡ q = cc in
      let one = subst (λ (z : Question). FailsBy fault stop.1 z r) same stop.4 in
      broken-here turn n s q next fault p r b e is (subst (λ (m : Parts). FailsBy fault m q r) stop.3 one)
  broken-turn h (asks q next) s (a ∷ left) p b e is waits used stop = broken-fits h (answer_fits a q) s q next a left p b e is waits used stop

broken : {S : Type 0} (turn : S → Turn S) (n : ℕ) (s : S) (answers : List Answer) (fault : IoFault) (p r : Parts) (b e : List ℕ)
    → (run_of turn next_answer n s answers).outcome ≡ Waiting
    → (run_of turn next_answer n s answers).system ≡ []
    → StopsAt Answers (FailsBy fault) p (run_of turn next_answer n s answers).questions answers r
    → From p b e (λ k. Broken turn (λ i. run_of turn reply_arriving i s k) n fault p r b e)
broken turn zero s answers fault p r b e waits used stop = cc
broken {S} turn (suc n) s answers fault p r b e waits used stop =
    let first = run_of-suc turn next_answer n s answers in
    broken-turn turn n fault r (run_of turn next_answer n) (λ t left m c d. broken turn n t left fault m r c d) (turn s) s answers p b e refl
    (subst (λ (y : Run S (List Answer)). y.outcome ≡ Waiting) first waits)
    (subst (λ (y : Run S (List Answer)). y.system ≡ []) first used)
    (subst (λ (y : Run S (List Answer)). StopsAt Answers (FailsBy fault) p y.questions answers r) first stop)

-- ---- what the definition reads in the call

-- It reads what was lost, and leaves a rear part of what is left.
module _ (p r : Parts) (q : Question) (b e : List ℕ) (fell : FellReading (λ s. unix s q) q.number q.room p r) (small : AreBytes (known r.input.told)) where
  abbrev all_read : List ℕ
  all_read = fell.got ++ known r.input.told

  -- the call over all of this
  whole-read : reply (system_of p.unix all_read b e) q ≡ Some (unix (system_of p.unix all_read b e) q)
  whole-read = ap (λ t. if t then Some (unix (system_of p.unix all_read b e) q) else None) (fell.reads (known r.input.told) b e small).fits

  abbrev LeavesRear : Arriving → Type 0
  LeavesRear k = IsRear k.system.console.rest (known r.input.told)

  rear-given : (k : Arriving) (pieces : List (List ℕ)) (y : Option (Answer × System)) → y ≡ reply (system_of p.unix all_read b e) q
      → LeavesRear (next_state (option_map (λ given. (given.0, arriving given.1 pieces)) y) k)
  rear-given k pieces y is =
      subst (λ z. LeavesRear (next_state (option_map (λ given. (given.0, arriving given.1 pieces)) z) k)) (sym (is ∙ whole-read))
      (fell.reads (known r.input.told) b e small).leaves

  rear-told : (told : Option (List ℕ)) → p.input.told ≡ told → LeavesRear (after_call q (in_call p b e (lost_pieces told all_read)))
  rear-told None is =
      let here : (p.unix.ahead ++ known p.input.told) ++ all_read ≡ p.unix.ahead ++ all_read =
      ap (λ t. (p.unix.ahead ++ known t) ++ all_read) is ∙ ap (λ l. l ++ all_read) (append-nil p.unix.ahead) in
      let same : arrived (sys p b e) all_read ≡ system_of p.unix all_read b e =
      ap (λ l. with_console (sys p b e) (record { rest = l; output = b; error_output = e })) here in
      rear-given (in_call p b e (all_read ∷ [])) [] (reply (arrived (sys p b e) all_read) q) (ap (λ k. reply k q) same)
  rear-told (Some rest) is =
      let on = told-on p.input.told r.input.told rest fell.got is fell.consumed in
      let same : known p.input.told ≡ all_read = ap known is ∙ on.1 in
      rear-given (in_call p b e []) [] (reply (sys p b e) q) (ap (λ l. reply (system_of p.unix l b e) q) same)

  rear-left : LeavesRear (after_call q (in_call p b e (lost_pieces p.input.told all_read)))
  rear-left = rear-told p.input.told refl

-- ---- what the definition writes in the call

abbrev pub bare : System → System
bare k = with_console k (record { rest = k.console.rest; output = []; error_output = [] })

bare-behind : (k : System) → behind k.console.output k.console.error_output (bare k) ≡ k
bare-behind k = λ i. with_console k (record { rest = k.console.rest; output = append-nil k.console.output i; error_output = append-nil k.console.error_output i })

-- a call, apart from what was written before it
unix-bare : (k : System) (q : Question) → unix k q ≡ ((unix (bare k) q).0, behind k.console.output k.console.error_output (unix (bare k) q).1)
unix-bare k q = ap (λ l. unix l q) (sym (bare-behind k)) ∙ (unix-framed k.console.output k.console.error_output (bare k) q).frame

no-false : (f : Bool) → f ≡ true → f ≡ false → ⊥
no-false f t n = cc

-- a call that writes something is answered
fits-written : (f : Bool) (k : System) (q : Question) (y : Answer × System) → answer_fits y.0 q ≡ f → (y.0.patch ≡ []) ⊎ Same (bare k) y.1
    → ((y.1.console.output ≡ []) → (y.1.console.error_output ≡ []) → ⊥) → f ≡ true
fits-written true k q y is quiet some = refl
fits-written false k q y is (inl none) some =
    let so : answer_fits y.0 q ≡ true = ap (λ (l : List ℕ). answer_fits (record { value = y.0.value; patch = l }) q) none in
    absurd (no-false (answer_fits y.0 q) so is)
fits-written false k q y is (inr same) some = absurd (some same.0 same.1)

-- its answer, and the state after it, behind what was written before
pub reply-written : (k : System) (q : Question) → (((unix (bare k) q).1.console.output ≡ []) → ((unix (bare k) q).1.console.error_output ≡ []) → ⊥)
    → reply k q ≡ Some ((unix (bare k) q).0, behind k.console.output k.console.error_output (unix (bare k) q).1)
reply-written k q some =
    let y : Answer × System = unix (bare k) q in
    let z : System = behind k.console.output k.console.error_output y.1 in
    let fit : answer_fits y.0 q ≡ true = fits-written (answer_fits y.0 q) k q y refl (unix-framed k.console.output k.console.error_output (bare k) q).writes some in
    ap (fitting_answer q) (unix-bare k q) ∙ ap (λ f. if f then Some (y.0, z) else None) fit

-- The state after the call is the definition's, behind what was written before.
after-written : (k : System) (q : Question) → (((unix (bare k) q).1.console.output ≡ []) → ((unix (bare k) q).1.console.error_output ≡ []) → ⊥)
    → next_state (reply_arriving (arriving k []) q) (arriving k []) ≡ arriving (behind k.console.output k.console.error_output (unix (bare k) q).1) []
after-written k q some =
    ap (λ a. next_state (option_map (λ given. (given.0, arriving given.1 [])) a) (arriving k [])) (reply-written k q some)

none-left : (front : List ℕ) (next : ℕ) (rest : List ℕ) → [] ≡ front ++ next ∷ rest → ⊥
none-left [] next rest is = cc
none-left (x ∷ front) next rest is = cc

pub some-written : (old new : Seen (List ℕ)) (text : List ℕ) → FailsIn old new text → text ≡ [] → ⊥
some-written old new text fails none = none-left fails.0.front fails.0.next fails.0.rest (sym none ∙ fails.0.splits)

-- ---- what this is by the stages of the run

-- one text was taken, and then a sink failed in another
pub behind-fails : (old mid new : Seen (List ℕ)) (first text all : List ℕ) → Takes old mid first → FailsIn mid new text → all ≡ first ++ text
    → FailsBehind old new first all
behind-fails old mid new first text all took fails is = record {
  part = fails.0.front;
  next = fails.0.next;
  rest = fails.0.rest;
  is = is ∙ ap (λ t. first ++ t) fails.0.splits ∙ sym (append_assoc first fails.0.front (fails.0.next ∷ fails.0.rest));
  took = (takes-both old mid (record { told = new.told; faults = mid.faults }) first fails.0.front took (fails.0.gained, refl)).0;
  rises = rises-from old.faults mid.faults new.faults (sym took.1) fails.1;
}

reads-next : (n : ℕ) → n ≡ 4 → (if n == 4 then reads else if n == 5 then writes else goes_on) ≡ reads
reads-next n is = ap (λ m. if m == 4 then reads else if m == 5 then writes else goes_on) is

writes-next : (n : ℕ) → n ≡ 5 → (if n == 4 then reads else if n == 5 then writes else goes_on) ≡ writes
writes-next n is = ap (λ m. if m == 4 then reads else if m == 5 then writes else goes_on) is

module _ {S : Type 0} (turn : S → Turn S) (x : ℕ → Run S Arriving) (n : ℕ) (p r : Parts) (few : length r.unix.ahead ≤ 4096) where
  abbrev stage : ℕ → Stage
  stage i = stage_of turn (without_pieces (x i))

  next-is : (fault : IoFault) (w : Broken turn x n fault p r [] []) → (stage w.made).next ≡ (if w.q.number == 4 then reads else if w.q.number == 5 then writes else goes_on)
  next-is fault w = ap next_of w.asked

  fails-reading : (w : Broken turn x n ReadFault p r [] [])
      → FailsCall ReadFault (stage w.made) (stage (suc w.made)) (streams p) (streams r)
  fails-reading w =
      let fell = w.fell in
      let out = ap (λ a. a.system.console.output) w.before in
      let err = ap (λ a. a.system.console.error_output) w.before in (
        next-is ReadFault w ∙ reads-next w.q.number fell.call,
        record {
          got = w.got ++ fell.got;
          lost = consumes-both p.input.told w.mid.input.told r.input.told w.got fell.got w.consumed fell.consumed;
          has = λ rest told.
              let mid = (told-on p.input.told w.mid.input.told rest w.got told w.consumed).0 in
              let end = told-on w.mid.input.told r.input.told (known w.mid.input.told) fell.got mid fell.consumed in (
                w.mid.unix.ahead ++ fell.got,
                ap (λ a. a.system.console.rest) w.before
                    ∙ ap (λ l. w.mid.unix.ahead ++ l) end.1
                    ∙ sym (append_assoc w.mid.unix.ahead fell.got (known r.input.told)),
              );
          leaves = λ small.
              subst (λ (k : Arriving). IsRear k.system.console.rest (known r.input.told)) (sym w.after)
              (rear-left w.mid r w.q w.output w.error_output fell small);
          rises = rises-from p.input.faults w.mid.input.faults r.input.faults (sym w.sound) fell.rises;
        },
        subst (λ o. Takes p.out o (stage w.made).output) (sym fell.out) (subst (Takes p.out w.mid.out) (sym out) w.wrote),
        subst (λ o. Takes p.err o (stage w.made).error_output) (sym fell.err) (subst (Takes p.err w.mid.err) (sym err) w.wrote_error),
      )

  -- the texts before and behind the call
  out-behind : (w : Broken turn x n WriteFault p r [] [])
      → ((written_by (λ s. unix s w.q) w.mid.unix (known w.mid.input.told)).output ≡ []
      → (written_by (λ s. unix s w.q) w.mid.unix (known w.mid.input.told)).error_output ≡ [] → ⊥)
      → ((stage (suc w.made)).output ≡ w.output ++ (written_by (λ s. unix s w.q) w.mid.unix (known w.mid.input.told)).output)
      × ((stage (suc w.made)).error_output ≡ w.error_output ++ (written_by (λ s. unix s w.q) w.mid.unix (known w.mid.input.told)).error_output)
  out-behind w some =
      let so = w.after ∙ after-written (sys w.mid w.output w.error_output) w.q some in
      (ap (λ a. a.system.console.output) so, ap (λ a. a.system.console.error_output) so)

  one-fails : (w : Broken turn x n WriteFault p r [] []) → OneFails (written_by (λ s. unix s w.q) w.mid.unix (known w.mid.input.told)) w.mid r
      → OneFailsBehind (stage w.made) (stage (suc w.made)) (streams p) (streams r)
  one-fails w (inl h) =
      let written = written_by (λ s. unix s w.q) w.mid.unix (known w.mid.input.told) in
      let out = ap (λ a. a.system.console.output) w.before in
      let err = ap (λ a. a.system.console.error_output) w.before in
      let more = out-behind w (λ none all. some-written w.mid.out r.out written.output h.0 none) in
      inl (
        subst (λ t. FailsBehind p.out r.out t (stage (suc w.made)).output) (sym out)
            (behind-fails p.out w.mid.out r.out w.output written.output (stage (suc w.made)).output w.wrote h.0 more.0),
        subst (λ o. Takes p.err o (stage w.made).error_output) (sym h.1) (subst (Takes p.err w.mid.err) (sym err) w.wrote_error),
      )
  one-fails w (inr h) =
      let written = written_by (λ s. unix s w.q) w.mid.unix (known w.mid.input.told) in
      let out = ap (λ a. a.system.console.output) w.before in
      let err = ap (λ a. a.system.console.error_output) w.before in
      let more = out-behind w (λ all none. some-written w.mid.err r.err written.error_output h.1 none) in
      inr (
        subst (λ o. Takes p.out o (stage w.made).output) (sym h.0) (subst (Takes p.out w.mid.out) (sym out) w.wrote),
        subst (λ t. FailsBehind p.err r.err t (stage (suc w.made)).error_output) (sym err)
            (behind-fails p.err w.mid.err r.err w.error_output written.error_output (stage (suc w.made)).error_output w.wrote_error h.1 more.1),
      )

  fails-writing : (w : Broken turn x n WriteFault p r [] []) → FellWriting (λ s. unix s w.q) w.q.number w.mid r
      → FailsCall WriteFault (stage w.made) (stage (suc w.made)) (streams p) (streams r)
  fails-writing w fell = (
    next-is WriteFault w ∙ writes-next w.q.number fell.call,
    record {
      got = w.got;
      ahead = r.unix.ahead;
      lost = subst (λ i. Consumes p.input.told i.told w.got) (sym fell.input) w.consumed;
      is = ap (λ a. a.system.console.rest) w.before ∙ (λ i. (sym fell.same i).ahead ++ known (sym fell.input i).told);
      few = few;
      sound = ap (λ i. i.faults) fell.input ∙ w.sound;
    },
    one-fails w fell.sinks,
  )

  fails-so : (fault : IoFault) (w : Broken turn x n fault p r [] []) → FailsCall fault (stage w.made) (stage (suc w.made)) (streams p) (streams r)
  fails-so ReadFault w = fails-reading w
  fails-so WriteFault w = fails-writing w w.fell

pub breaks : {S : Type 0} (turn : S → Turn S) (n : ℕ) (s : S) (fault : IoFault) (p r : Parts) (answers : List Answer)
    → (run_of turn next_answer n s answers).outcome ≡ Waiting → (run_of turn next_answer n s answers).system ≡ []
    → StopsAt Answers (FailsBy fault) p (run_of turn next_answer n s answers).questions answers r → length r.unix.ahead ≤ 4096
    → (pieces : List (List ℕ))
    × StopsRun n (λ i. stage_of turn (run_over turn i s p.unix p.input.told pieces)) fault (streams p) (streams r)
breaks {S} turn n s fault p r answers waits used stop few =
    let f = broken turn n s answers fault p r [] [] waits used stop in
    let x = λ (i : ℕ). run_of turn reply_arriving i s (arriving (sys p [] []) f.pieces) in
    let w = f.is in
    let same = λ (i : ℕ). run-is turn i s p.unix p.input.told f.pieces f.has in (
      f.pieces,
      record {
        made = w.made;
        within = w.within;
        fails =
            subst (λ (y : Run S System). FailsCall fault (stage_of turn y) (stage_of turn (run_over turn (suc w.made) s p.unix p.input.told f.pieces)) (streams p) (streams r)) (sym (same w.made))
            (subst (λ (y : Run S System). FailsCall fault (stage_of turn (without_pieces (x w.made))) (stage_of turn y) (streams p) (streams r)) (sym (same (suc w.made)))
            (fails-so turn x n p r few fault w));
      },
    )
