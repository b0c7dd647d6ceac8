-- Bodies that leave to offsets of their own.
use Rattle.std.proofs.Common.{◌≡◌, ℕ, zero, suc, List, [], ◌∷◌, ◌++◌, refl, sym, subst, append-nil, arith}
use Rattle.std.specs.Prelude.{Option, Some, None, slice_get}
use Rattle.std.proofs.lemmas.Option.{none-some, same_Some}
use Rattle.jvm_definition.specs.Typing.{TypeFrame, Below}
use Rattle.emit_steps.specs.declared.step.Step.{Step}
use Rattle.emit_steps.specs.Widths.{bytes_before}
use Rattle.emit_types_laws.specs.Judging.{Rules, Meets, Types, TypesFrom}
use Rattle.emit_types_laws.specs.Flowing.{Ahead, AllMeet, Flows}
use Rattle.emit_types_laws.specs.Bodies.{BodyTypes, IsAhead, frame_in}
use Rattle.emit_types_laws.proofs.TypedSteps.Flow.{flows-found}
use Rattle.emit_types_laws.proofs.TypedSteps.Standing.{stands}

met : (f : TypeFrame) (ahead : Ahead) (frames : List TypeFrame) (i : ℕ) → AllMeet ahead frames → slice_get ahead i ≡ Some (Some f)
    → Meets f (slice_get frames i)
met f [] frames i m is = absurd (none-some (Some f) is)
met f (None ∷ ahead) frames zero m is = absurd (none-some f (same_Some None (Some f) is))
met f (None ∷ ahead) [] (suc i) m is = absurd (met f ahead [] i m is)
met f (None ∷ ahead) (g ∷ frames) (suc i) m is = met f ahead frames i m is
met f (Some h ∷ ahead) [] i m is = absurd m
met f (Some h ∷ ahead) (g ∷ frames) zero m is = subst (λ k. Below k g) (same_Some h f (same_Some (Some h) (Some f) is)) m.0
met f (Some h ∷ ahead) (g ∷ frames) (suc i) m is = met f ahead frames i m.1 is

pub stands-met : (rules : Rules) (code : List Step) (frames : List TypeFrame) (f : TypeFrame) (at i : ℕ) (found : Option TypeFrame)
    → Types rules code frames [] → slice_get frames i ≡ found → Meets f found → at ≡ bytes_before code i → Meets f (frame_in 0 code frames at)
stands-met rules code frames f at i None t is m at_is = absurd m
stands-met rules code frames f at i (Some g) t is m at_is =
    subst (Meets f) (sym (stands rules code frames [] 0 at i g t is (omega (arith, at_is))).frame_is) m

pub flows-body : (rules : Rules) (code : List Step) (from : TypeFrame) (ahead : Ahead) → Flows rules code [] (Some from) ahead
    → ((at : ℕ) (f : TypeFrame) → rules.owes at ≡ Some f → IsAhead code ahead at f) → BodyTypes rules code from
flows-body rules code from ahead h owed =
    let t = flows-found rules code [] (Some from) ahead h in
    record {
      body = record { frames = t.frames; begins = t.reaches; types = t.types };
      owed = λ at f e.
          let place = owed at f e in
          let m = subst (λ all. Meets f (slice_get all place.step)) (append-nil t.frames)
          (met f ahead (t.frames ++ []) place.step t.meet place.comes) in
          stands-met rules code t.frames f at place.step (slice_get t.frames place.step) t.types refl m place.offset;
    }

begun-met : (rules : Rules) (s : Step) (code : List Step) (entry : TypeFrame) (frames : List TypeFrame)
    → Meets entry (slice_get (frames ++ []) 0) → Types rules (s ∷ code) frames [] → Meets entry (frame_in 0 (s ∷ code) frames 0)
begun-met rules s code entry [] m t = absurd t
begun-met rules s code entry (f ∷ frames) m t = m

-- a body that is begun anew
pub begun-body : (rules : Rules) (s : Step) (code : List Step) (entry : TypeFrame)
    → ((at : ℕ) (f : TypeFrame) → rules.owes at ≡ Some f → (at ≡ 0) × (f ≡ entry)) → TypesFrom rules (s ∷ code) entry []
    → BodyTypes rules (s ∷ code) entry
begun-body rules s code entry owed t = record {
  body = t;
  owed = λ at f e.
      let p = owed at f e in
      subst (λ x. Meets f (frame_in 0 (s ∷ code) t.frames x)) (sym p.0)
      (subst (λ g. Meets g (frame_in 0 (s ∷ code) t.frames 0)) (sym p.1) (begun-met rules s code entry t.frames t.begins t.types));
}
