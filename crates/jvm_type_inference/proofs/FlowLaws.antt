-- Frames that rise, and work that waits.
use Rattle.std.proofs.Common.{◌≡◌, ℕ, zero, suc, ◌+◌, ◌<◌, ◌≤◌, Bool, true, false, ◌||◌, List, [], ◌∷◌, ◌++◌, length, get_or, set, take, refl, sym, ap, subst, ◌∙◌, Option, Some, None, arith, ⊎_elim}
use Rattle.std.specs.Prelude.{option_map, if◌then◌else◌, nat_lt, nat_eq, All}
use Rattle.std.proofs.lemmas.Bool.{or_parts, or_cases, true≢false, cases_eq, eqb-true, eq-eqb, ltb-true, lt-ltb}
use Rattle.std.proofs.lemmas.List.{get_or-set_same, get_or-set_other, length-set, length-append}
use Rattle.std.proofs.lemmas.List.Elements.{All-more, All-push, All-pop}
use Rattle.std.proofs.lemmas.Option.{same_Some}
use Rattle.jvm_definition.specs.declared.linked_line.LinkedLine.{LinkedLine}
use Rattle.jvm_definition.specs.declared.linked_method.LinkedMethod.{LinkedMethod}
use Rattle.jvm_definition.specs.Program.{line_in}
use Rattle.jvm_definition.specs.Typing.{TypeFrame, Below, Frames, Receives}
use Rattle.jvm_type_inference.specs.declared.frame.Frame.{Frame}
use Rattle.jvm_type_inference.specs.Verdict.{AreBelow}
use Rattle.jvm_type_inference.specs.Frames.{type_frame, frame_at, IsSized, IsFormed, IsAbove, IsStill, IsJoin, weight}
use Rattle.jvm_type_inference.specs.Flow.{has, AreFormed, heights, Rises, Waits, Moves, Flows, FlowsToAll, HaveOperands, StaysBelow, AllStayBelow}
use Rattle.jvm_type_inference.proofs.JoinLaws.{Below-refl, Below-trans}
use Rattle.jvm_type_inference.proofs.StackLaws.{option_map_some}

abbrev pub Slots : Type 0
Slots = List (Option Frame)

-- ---- lists of offsets

or-false : (b : Bool) → b || false ≡ b
or-false true = refl
or-false false = refl

or_assoc : (a b c : Bool) → a || (b || c) ≡ a || b || c
or_assoc true b c = refl
or_assoc false b c = refl

pub has-push : (work : List ℕ) (w x : ℕ) → has (work ++ w ∷ []) x ≡ (has work x || nat_eq w x)
has-push [] w x = or-false (nat_eq w x)
has-push (v ∷ work) w x = ap (λ b. nat_eq v x || b) (has-push work w x) ∙ or_assoc (nat_eq v x) (has work x) (nat_eq w x)

-- ---- heights

pub heights-set : (l s : ℕ) (frames : Slots) (to : ℕ) (v : Option Frame) → to < length frames → heights l s (set frames to v) + weight l s (get_or frames to None) ≡ heights l s frames + weight l s v
heights-set l s [] to v h = absurd (omega arith)
heights-set l s (o ∷ frames) zero v h = omega arith
heights-set l s (o ∷ frames) (suc to) v h = omega (arith, heights-set l s frames to v (omega arith))

-- ---- rising frames

pub Rises-refl : (frames : Slots) → Rises frames frames
Rises-refl frames = record { size = refl; above = λ at f e. (f, e, Below-refl f) }

pub Rises-trans : (frames then' after : Slots) → Rises frames then' → Rises then' after → Rises frames after
Rises-trans frames then' after p q = record {
  size = q.size ∙ p.size;
  above = λ at f e.
      let g = p.above at f e in
      let h = q.above at g.0 g.1 in
      (h.0, h.1, Below-trans f g.0 h.0 g.2 h.2);
}

pub Moves-refl : (l s limit : ℕ) (frames : Slots) (work : List ℕ) → Moves l s limit frames work frames work
Moves-refl l s limit frames work = record {
  rises = Rises-refl frames;
  same_work = λ x h. h;
  same_frame = λ x h k. refl;
  formed = λ h. h;
  waits = λ h. h;
  falls = omega arith;
}

pub Moves-trans : (l s limit : ℕ) (frames : Slots) (work : List ℕ) (then' : Slots) (more : List ℕ) (after : Slots) (later : List ℕ) → Moves l s limit frames work then' more → Moves l s limit then' more after later → Moves l s limit frames work after later
Moves-trans l s limit frames work then' more after later p q = record {
  rises = Rises-trans frames then' after p.rises q.rises;
  same_work = λ x h. p.same_work x (q.same_work x h);
  same_frame = λ x h k. q.same_frame x h k ∙ p.same_frame x h (q.same_work x k);
  formed = λ h. q.formed (p.formed h);
  waits = λ h. q.waits (p.waits h);
  falls = let a = p.falls in let b = q.falls in omega (arith, a, b);
}

-- ---- a frame is set

module _ (frames : Slots) (to : ℕ) (h : Frame) (inside : to < length frames) where
  abbrev set-frames : Slots
  set-frames = set frames to (Some h)

  pub set-here : (at : ℕ) → at ≡ to → get_or set-frames at None ≡ Some h
  set-here at e = ap (λ k. get_or set-frames k None) e ∙ get_or-set_same frames to (Some h) None inside

  pub set-there : (at : ℕ) → (at ≡ to → ⊥) → get_or set-frames at None ≡ get_or frames at None
  set-there at e = get_or-set_other frames to at (Some h) None e

-- work waits at an admitted offset
abbrev pub work_with : ℕ → List ℕ → ℕ → List ℕ
work_with limit work to = if nat_lt to limit then work ++ to ∷ [] else work

has-with : (limit : ℕ) (work : List ℕ) (to x : ℕ) → has (work_with limit work to) x ≡ false → has work x ≡ false
has-with limit work to x h = by-test (nat_lt to limit) h
  where
    by-test : (b : Bool) → has (if b then work ++ to ∷ [] else work) x ≡ false → has work x ≡ false
    by-test true p = (or_parts (has work x) (nat_eq to x) (sym (has-push work to x) ∙ p)).0
    by-test false p = p

has-new : (limit : ℕ) (work : List ℕ) (to : ℕ) → to < limit → has (work_with limit work to) to ≡ false → ⊥
has-new limit work to less h =
    let e : nat_lt to limit ≡ true = lt-ltb to limit less in
    let p : has (work ++ to ∷ []) to ≡ false = subst (λ b. has (if b then work ++ to ∷ [] else work) to ≡ false) e h in
    let q = or_parts (has work to) (nat_eq to to) (sym (has-push work to to) ∙ p) in
    true≢false (sym (eq-eqb to to refl) ∙ q.1)

with-length : (limit : ℕ) (work : List ℕ) (to : ℕ) → length (work_with limit work to) ≤ suc (length work)
with-length limit work to = by-test (nat_lt to limit)
  where
    by-test : (b : Bool) → length (if b then work ++ to ∷ [] else work) ≤ suc (length work)
    by-test true = omega (arith, length-append work (to ∷ []))
    by-test false = omega arith

with-waits : (limit : ℕ) (work : List ℕ) (to : ℕ) → Waits limit work → Waits limit (work_with limit work to)
with-waits limit work to w = by-test (nat_lt to limit) refl
  where
    by-test : (b : Bool) → nat_lt to limit ≡ b → Waits limit (if b then work ++ to ∷ [] else work)
    by-test true e = record {
      each = λ x h.
          ⊎_elim
          (λ p. w.each x p)
          (λ p. let same : to ≡ x = eqb-true to x p in let less = ltb-true to limit e in omega (arith, same, less))
          (or_cases (has work x) (nat_eq to x) (sym (has-push work to x) ∙ h));
    }
    by-test false e = w

pub frame_at-some : (frames : Slots) (at : ℕ) (f : TypeFrame) → frame_at frames at ≡ Some f → (g : Frame) × (get_or frames at None ≡ Some g) × (type_frame g ≡ f)
frame_at-some frames at f e = option_map_some type_frame (get_or frames at None) f e

pub frame_at-is : (frames : Slots) (at : ℕ) (g : Frame) → get_or frames at None ≡ Some g → frame_at frames at ≡ Some (type_frame g)
frame_at-is frames at g e = ap (option_map type_frame) e

module _ (l s limit : ℕ) (frames : Slots) (work : List ℕ) (f h : Frame) (to : ℕ) (inside : to < length frames) (j : IsJoin (get_or frames to None) f h) (all : AreFormed l s frames) (new : IsSized l s f) where
  abbrev put : Slots
  put = set frames to (Some h)

  put-rises : Rises frames put
  put-rises = record {
    size = length-set frames to (Some h);
    above = λ at g e.
        ⊎_elim
        (λ here.
        let o = frame_at-some frames at g e in
        let old : get_or frames to None ≡ Some o.0 = ap (λ k. get_or frames k None) (sym here) ∙ o.1 in
        (type_frame h, frame_at-is put at h (set-here frames to h inside at here), subst (λ x. Below x (type_frame h)) o.2 (j.above_old o.0 old)))
        (λ there. (g, ap (option_map type_frame) (set-there frames to h inside at there) ∙ e, Below-refl g))
        (cases_eq at to);
  }

  put-formed : AreFormed l s put
  put-formed = record {
    each = λ at g e.
        ⊎_elim
        (λ here.
        let same : h ≡ g = same_Some h g (sym (set-here frames to h inside at here) ∙ e) in
        subst (λ x. IsFormed l s x) same (j.formed l s (λ o old. all.each to o old) new))
        (λ there. all.each at g (sym (set-there frames to h inside at there) ∙ e))
        (cases_eq at to);
  }

  pub put-moves : Moves l s limit frames work put (work_with limit work to)
  put-moves = record {
    rises = put-rises;
    same_work = λ x e. has-with limit work to x e;
    same_frame = λ x less e.
        ⊎_elim
        (λ here. absurd (has-new limit work to (omega (arith, here, less)) (subst (λ k. has (work_with limit work to) k ≡ false) here e)))
        (λ there. set-there frames to h inside x there)
        (cases_eq x to);
    formed = λ _. put-formed;
    waits = λ w. with-waits limit work to w;
    falls = omega (arith, heights-set l s frames to (Some h) inside, j.falls l s new, with-length limit work to);
  }

set-below : (frames : Slots) (f h : Frame) (to : ℕ) (inside : to < length frames) (others : Frames) (u : TypeFrame) → AreBelow (frame_at frames) others → others to ≡ Some u → Below (type_frame h) u → AreBelow (frame_at (set frames to (Some h))) others
set-below frames f h to inside others u under is above at g e =
    ⊎_elim
    (λ here.
    let same : type_frame h ≡ g = same_Some (type_frame h) g (sym (frame_at-is (set frames to (Some h)) at h (set-here frames to h inside at here)) ∙ e) in
    (u, ap others here ∙ is, subst (λ x. Below x u) same above))
    (λ there. under at g (sym (ap (option_map type_frame) (set-there frames to h inside at there)) ∙ e))
    (cases_eq at to)

-- ---- a frame flows

-- what receives it is above both
above-both : (method : LinkedMethod) (frames : Slots) (f : Frame) (to : ℕ) (others : Frames) (u : TypeFrame) → HaveOperands others → AreBelow (frame_at frames) others → others to ≡ Some u → Below (type_frame f) u → IsAbove (get_or frames to None) f u
above-both method frames f to others u typed under is above = record {
  operands = typed.each to u is;
  above_old = λ g e.
      let r = under to (type_frame g) (frame_at-is frames to g e) in
      subst (λ x. Below (type_frame g) x) (same_Some r.0 u (sym r.1 ∙ is)) r.2;
  above_new = above;
}

pub changed-below : (method : LinkedMethod) (frames : Slots) (f h : Frame) (to : ℕ) → to < length frames → IsJoin (get_or frames to None) f h → StaysBelow method (type_frame f) to frames true (set frames to (Some h))
changed-below method frames f h to inside j = record {
  each = λ others typed under r.
      let both = above-both method frames f to others r.1 typed under r.3 r.4 in
      (refl, set-below frames f h to inside others r.1 under r.3 (j.least r.1 both));
}

pub refused-below : (method : LinkedMethod) (frames after : Slots) (f : Frame) (to : ℕ) → ((u : TypeFrame) → IsAbove (get_or frames to None) f u → ⊥) → StaysBelow method (type_frame f) to frames false after
refused-below method frames after f to refuse = record {
  each = λ others typed under r. absurd (refuse r.1 (above-both method frames f to others r.1 typed under r.3 r.4));
}

pub still-flows : (method : LinkedMethod) (limit : ℕ) (frames : Slots) (work : List ℕ) (f : Frame) (to : ℕ) (line : LinkedLine) → line_in method.lines to ≡ Some line → IsStill (get_or frames to None) f → Flows method limit (type_frame f) to frames work frames work
still-flows method limit frames work f to line is still = record {
  moves = Moves-refl method.locals method.stack limit frames work;
  received = (line, type_frame still.frame, is, frame_at-is frames to still.frame still.is, still.above);
}

pub changed-flows : (method : LinkedMethod) (limit : ℕ) (frames : Slots) (work : List ℕ) (f h : Frame) (to : ℕ) (line : LinkedLine) → line_in method.lines to ≡ Some line → to < length frames → IsJoin (get_or frames to None) f h → AreFormed method.locals method.stack frames → IsSized method.locals method.stack f → Flows method limit (type_frame f) to frames work (set frames to (Some h)) (work_with limit work to)
changed-flows method limit frames work f h to line is inside j all new = record {
  moves = put-moves method.locals method.stack limit frames work f h to inside j all new;
  received = (line, type_frame h, is, frame_at-is (set frames to (Some h)) to h (get_or-set_same frames to (Some h) None inside), j.above_new);
}

-- frames above those before that receive all that flows are above those after
pub record StillBelow (method : LinkedMethod) (f : TypeFrame) (targets : List ℕ) (frames after : Slots) : Type 0 where
  pub each : (others : Frames) → HaveOperands others → AreBelow (frame_at frames) others → All (Receives method others f) targets → AreBelow (frame_at after) others

pub received-rises : (method : LinkedMethod) (frames after : Slots) (f : TypeFrame) (to : ℕ) → Rises frames after → Receives method (frame_at frames) f to → Receives method (frame_at after) f to
received-rises method frames after f to p r =
    let g = p.above to r.1 r.3 in
    (r.0, g.0, r.2, g.1, Below-trans f r.1 g.0 r.4 g.2)

pub no-flows : (method : LinkedMethod) (limit : ℕ) (f : TypeFrame) (frames : Slots) (work : List ℕ) → FlowsToAll method limit f [] frames work frames work
no-flows method limit f frames work = record {
  moves = Moves-refl method.locals method.stack limit frames work;
  received = λ k d h. absurd (omega arith);
}

pub more-flows : (method : LinkedMethod) (limit : ℕ) (f : TypeFrame) (targets : List ℕ) (i to : ℕ) (frames : Slots) (work : List ℕ) (then' : Slots) (more : List ℕ) (after : Slots) (later : List ℕ) → i < length targets → to ≡ get_or targets i 0 → FlowsToAll method limit f (take i targets) frames work then' more → Flows method limit f to then' more after later → FlowsToAll method limit f (take (i + 1) targets) frames work after later
more-flows method limit f targets i to frames work then' more after later inside is all one = record {
  moves = Moves-trans method.locals method.stack limit frames work then' more after later all.moves one.moves;
  received = All-more (Receives method (frame_at after) f) targets i 0 inside
      (λ k d h. received-rises method then' after f (get_or (take i targets) k d) one.moves.rises (all.received k d h))
      (subst (Receives method (frame_at after) f) is one.received);
}

pub more-below : (method : LinkedMethod) (f : TypeFrame) (targets : List ℕ) (i to : ℕ) (frames then' after : Slots) (good : Bool) → i < length targets → to ≡ get_or targets i 0 → StillBelow method f targets frames then' → StaysBelow method f to then' good after → AllStayBelow method f targets frames good after
more-below method f targets i to frames then' after good inside is all one = record {
  each = λ others typed under r. one.each others typed (all.each others typed under r) (subst (Receives method others f) (sym is) (r i 0 inside));
}

pub still-from : (method : LinkedMethod) (f : TypeFrame) (targets : List ℕ) (frames after : Slots) (good : Bool) → AllStayBelow method f targets frames good after → StillBelow method f targets frames after
still-from method f targets frames after good all = record { each = λ others typed under r. (all.each others typed under r).1 }

pub still-nothing : (method : LinkedMethod) (f : TypeFrame) (targets : List ℕ) (frames : Slots) → StillBelow method f targets frames frames
still-nothing method f targets frames = record { each = λ others typed under r. under }

pub no-below : (method : LinkedMethod) (f : TypeFrame) (targets : List ℕ) (frames : Slots) → AllStayBelow method f targets frames true frames
no-below method f targets frames = record { each = λ others typed under r. (refl, under) }

-- to the others, and to the last one
pub last-flows : (method : LinkedMethod) (limit : ℕ) (f : TypeFrame) (targets others : List ℕ) (to : ℕ) (frames : Slots) (work : List ℕ) (then' : Slots) (more : List ℕ) (after : Slots) (later : List ℕ) → targets ≡ others ++ to ∷ [] → FlowsToAll method limit f others frames work then' more → Flows method limit f to then' more after later → FlowsToAll method limit f targets frames work after later
last-flows method limit f targets others to frames work then' more after later is all one =
    subst (λ ts. FlowsToAll method limit f ts frames work after later) (sym is) (record {
      moves = Moves-trans method.locals method.stack limit frames work then' more after later all.moves one.moves;
      received = All-push (Receives method (frame_at after) f) others to
          (λ k d h. received-rises method then' after f (get_or others k d) one.moves.rises (all.received k d h))
          one.received;
    })

-- what all receive the others and the last one do
parts-of : (method : LinkedMethod) (f : TypeFrame) (targets rest : List ℕ) (to : ℕ) → targets ≡ rest ++ to ∷ [] → (others : Frames) → All (Receives method others f) targets → All (Receives method others f) rest × Receives method others f to
parts-of method f targets rest to is others r =
    let p = All-pop (Receives method others f) (rest ++ to ∷ []) rest (Some to) refl (subst (All (Receives method others f)) is r) in
    (p.0, p.1)

pub others-fail : (method : LinkedMethod) (f : TypeFrame) (targets rest : List ℕ) (to : ℕ) (frames after : Slots) (good : Bool) → targets ≡ rest ++ to ∷ [] → good ≡ false → AllStayBelow method f rest frames good after → AllStayBelow method f targets frames false after
others-fail method f targets rest to frames after good is bad all = record {
  each = λ others typed under r. subst (λ b. (b ≡ true) × AreBelow (frame_at after) others) bad (all.each others typed under (parts-of method f targets rest to is others r).0);
}

pub last-below : (method : LinkedMethod) (f : TypeFrame) (targets rest : List ℕ) (to : ℕ) (frames then' after : Slots) (so_far good : Bool) → targets ≡ rest ++ to ∷ [] → AllStayBelow method f rest frames so_far then' → StaysBelow method f to then' good after → AllStayBelow method f targets frames good after
last-below method f targets rest to frames then' after so_far good is all one = record {
  each = λ others typed under r.
      let p = parts-of method f targets rest to is others r in
      one.each others typed (all.each others typed under p.0).1 p.1;
}
