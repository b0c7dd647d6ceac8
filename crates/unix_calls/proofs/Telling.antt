-- Where the parts tell what they have, a call that was answered is the definition's.
use Rattle.std.proofs.Common.{◌≡◌, ℕ, List, ◌++◌, Option, Some, None, refl, ap, sym, ◌∙◌, if◌then◌else◌}
use Rattle.run_definition.specs.Question.{Question}
use Rattle.run_definition.specs.Answer.{Answer}
use Rattle.nv_outside.specs.Seen.{Seen}
use Rattle.unix_definition.specs.System.{System}
use Rattle.unix_definition.specs.Unix.{unix, reply, fitting_answer}
use Rattle.unix_calls.specs.Held.{Held, system_of}
use Rattle.unix_calls.specs.Serving.{Parts, parts, told_by, Goes}

-- the answer and the next state are those of the definition, and the next state is told
abbrev pub IsReply : System → Question → Answer → Option System → Type 0
IsReply k q a next = (l : System) × (reply k q ≡ Some (a, l)) × (next ≡ Some l)

abbrev seen : Option (List ℕ) → ℕ → Seen (List ℕ)
seen told faults = record { told = told; faults = faults }

abbrev seen_parts : Held → Option (List ℕ) → Option (List ℕ) → Option (List ℕ) → ℕ → ℕ → ℕ → Parts
seen_parts u rest output error_output i o e =
    parts u (seen rest i) (seen output o) (seen error_output e)

all-told : (q : Question) (u w : Held) (a : Answer) (k : System) (r0 r1 o0 o1 e0 e1 : List ℕ)
    (i o e j f h : ℕ) → Some (system_of u r0 o0 e0) ≡ Some k
    → Goes (λ s. unix s q) q.room (seen_parts u (Some r0) (Some o0) (Some e0) i o e) a
    (seen_parts w (Some r1) (Some o1) (Some e1) j f h)
    → IsReply k q a (told_by w (Some r1) (Some o1) (Some e1))
all-told q u w a k r0 r1 o0 o1 e0 e1 i o e j f h is g =
    let start : system_of u r0 o0 e0 ≡ k = cc in
    let l : System = system_of w r1 o1 e1 in
    let given : unix k q ≡ (a, l) =
    ap (λ s. unix s q) (sym start)
    ∙ (ap (λ r. unix (system_of u r o0 e0) q) g.consumed
    ∙ (g.is o0 e0 ∙ (ap (λ x. (a, system_of w r1 x (e0 ++ g.error_output))) (sym g.wrote.0) ∙ ap
    (λ x. (a, system_of w r1 o1 x)) (sym g.wrote_error.0)))) in
    (l, ap (fitting_answer q) given ∙ ap (λ t. if t then Some (a, l) else None) g.fits, refl)

pub goes_as_told : (q : Question) (u w : Held) (a : Answer) (k : System)
    (r0 o0 e0 r1 o1 e1 : Option (List ℕ)) (i o e j f h : ℕ) → told_by u r0 o0 e0 ≡ Some k
    → Goes (λ s. unix s q) q.room (seen_parts u r0 o0 e0 i o e) a (seen_parts w r1 o1 e1 j f h)
    → IsReply k q a (told_by w r1 o1 e1)
goes_as_told q u w a k None o0 e0 r1 o1 e1 i o e j f h is g = cc
goes_as_told q u w a k (Some r0) None e0 r1 o1 e1 i o e j f h is g = cc
goes_as_told q u w a k (Some r0) (Some o0) None r1 o1 e1 i o e j f h is g = cc
goes_as_told q u w a k (Some r0) (Some o0) (Some e0) None o1 e1 i o e j f h is g = absurd g.consumed
goes_as_told q u w a k (Some r0) (Some o0) (Some e0) (Some r1) None e1 i o e j f h is g =
    absurd g.wrote.0
goes_as_told q u w a k (Some r0) (Some o0) (Some e0) (Some r1) (Some o1) None i o e j f h is g =
    absurd g.wrote_error.0
goes_as_told q u w a k (Some r0) (Some o0) (Some e0) (Some r1) (Some o1) (Some e1)
    i o e j f h is g = all-told q u w a k r0 r1 o0 o1 e0 e1 i o e j f h is g
