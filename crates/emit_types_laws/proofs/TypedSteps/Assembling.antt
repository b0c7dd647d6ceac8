-- Bodies of parts.
use Rattle.std.proofs.Common.{◌≡◌, ℕ, zero, suc, ◌+◌, ◌≤◌, List, [], ◌∷◌, ◌++◌, length, length-append, take, append_assoc, append-nil, refl, sym, ap, subst, ◌∙◌, arith}
use Rattle.std.specs.Prelude.{slice_get}
use Rattle.std.specs.List.{flat_map}
use Rattle.std.proofs.Math.Nat.{add_assoc}
use Rattle.jvm_definition.specs.Typing.{TypeFrame}
use Rattle.emit_steps.specs.declared.step.Step.{Step}
use Rattle.emit_steps.specs.Widths.{width, bytes_before, size}
use Rattle.emit_types_laws.specs.Judging.{Rules, Meets, Types}
use Rattle.emit_types_laws.specs.Bodies.{BodyTypes, HasParts, frame_in}
use Rattle.emit_types_laws.proofs.TypedSteps.Joining.{rise-behind, types-rise, types-append, begun-rises, place-behind, parts-typed}
use Rattle.emit_types_laws.proofs.TypedSteps.Looping.{stands-met}

-- ---- bytes

bytes-append : (first second : List Step) (j x : ℕ) → x ≡ length first + j → bytes_before (first ++ second) x ≡ size first + bytes_before second j
bytes-append [] second j x is = let e : x ≡ j = omega (arith, is) in ap (bytes_before second) e ∙ omega arith
bytes-append (s ∷ first) second j zero is = absurd (omega (arith, is))
bytes-append (s ∷ first) second j (suc x) is =
    ap (λ n. width s + n) (bytes-append first second j x (omega (arith, is))) ∙ sym (add_assoc (width s) (size first) (bytes_before second j))

size-append : (first second : List Step) → size (first ++ second) ≡ size first + size second
size-append [] second = omega arith
size-append (s ∷ first) second = ap (λ n. width s + n) (size-append first second) ∙ sym (add_assoc (width s) (size first) (size second))

parts-bytes : (part : ℕ → List Step) (parts : List ℕ) (back : List Step) (n : ℕ)
    → bytes_before (flat_map part parts ++ back) (length (flat_map part (take n parts))) ≡ size (flat_map part (take n parts))
parts-bytes part parts back zero = refl
parts-bytes part [] back (suc n) = refl
parts-bytes part (k ∷ parts) back (suc n) =
    let all = flat_map part parts in
    let some = flat_map part (take n parts) in
    ap (λ code. bytes_before code (length (part k ++ some))) (append_assoc (part k) all back)
    ∙ bytes-append (part k) (all ++ back) (length some) (length (part k ++ some)) (length-append (part k) some)
    ∙ ap (λ n. size (part k) + n) (parts-bytes part parts back n)
    ∙ sym (size-append (part k) some)

-- ---- the body

pub parts-body : (rules : Rules) (front : List Step) (part : ℕ → List Step) (parts : List ℕ) (back : List Step) (entry f : TypeFrame)
    → HasParts rules front part parts back entry f → BodyTypes rules (front ++ (flat_map part parts ++ back)) entry
parts-body rules front part parts back entry f h =
    let code = front ++ (flat_map part parts ++ back) in
    let behind = h.ends.frames ++ [] in
    let p = parts-typed rules part parts f behind h.ends.begins h.between in
    let rest = p.frames ++ h.ends.frames in
    let inner = sym (append_assoc p.frames h.ends.frames []) in
    let rest_types : Types rules (flat_map part parts ++ back) rest [] =
    types-append rules (flat_map part parts) back p.frames h.ends.frames [] p.types h.ends.types in
    let met : (n : ℕ) → n ≤ length parts → Meets f (slice_get (rest ++ []) (length (flat_map part (take n parts)))) =
    λ n few. subst (λ all. Meets f (slice_get all (length (flat_map part (take n parts))))) inner (p.begins n few) in
    let rise = begun-rises f (rest ++ []) (met 0 (omega arith)) in
    let frames = h.begins.frames ++ rest in
    let outer = sym (append_assoc h.begins.frames rest []) in
    let types : Types rules code frames [] =
    types-append rules front (flat_map part parts ++ back) h.begins.frames rest []
    (types-rise rules front h.begins.frames (f ∷ []) (rest ++ []) rise h.begins.types) rest_types in
    record {
      body = record {
        frames = frames;
        begins = subst (λ all. Meets entry (slice_get all 0)) outer
            (rise-behind h.begins.frames (f ∷ []) (rest ++ []) rise entry 0 h.begins.begins);
        types = types;
      };
      owed = λ at g e.
          let place = h.owed at g e in
          let j = length (flat_map part (take place.1.before parts)) in
          let i = length front + j in
          let there : Meets f (slice_get (h.begins.frames ++ (rest ++ [])) i) =
          subst (Meets f) (sym (place-behind rules front h.begins.frames (f ∷ []) (rest ++ []) j i h.begins.types refl))
          (met place.1.before place.1.few) in
          let found : Meets f (slice_get frames i) = subst (λ all. Meets f (slice_get all i)) (append-nil frames)
          (subst (λ all. Meets f (slice_get all i)) outer there) in
          let bytes : at ≡ bytes_before code i =
          place.1.offset
          ∙ ap (λ n. size front + n) (sym (parts-bytes part parts back place.1.before))
          ∙ sym (bytes-append front (flat_map part parts ++ back) j i refl) in
          subst (λ k. Meets k (frame_in 0 code frames at)) (sym place.0)
          (stands-met rules code frames f at i (slice_get frames i) types refl found bytes);
    }
