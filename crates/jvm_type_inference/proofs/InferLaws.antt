-- The frames inside the blocks are found from those at their first instructions.
use Rattle.std.proofs.Common.{◌≡◌, ℕ, suc, ◌<◌, ◌≤◌, ◌^◌, true, List, length, get_or, set, refl, sym, ap, subst, ◌∙◌, Option, Some, None, arith, ⊎_elim}
use Rattle.std.specs.Prelude.{IfSome, option_map}
use Rattle.std.proofs.lemmas.Bool.{cases_eq, cases_lt}
use Rattle.std.proofs.lemmas.List.{get_or-set_same, get_or-set_other, length-set}
use Rattle.std.proofs.lemmas.Option.{same_Some, none-some}
use Rattle.jvm_definition.specs.declared.linked_line.LinkedLine.{LinkedLine}
use Rattle.jvm_definition.specs.declared.linked_method.LinkedMethod.{LinkedMethod}
use Rattle.jvm_definition.specs.Program.{Program, line_in}
use Rattle.jvm_definition.specs.Typing.{TypeFrame, type_effect, applied}
use Rattle.jvm_type_inference.specs.declared.frame.Frame.{Frame}
use Rattle.jvm_type_inference.specs.Actions.{Enters}
use Rattle.jvm_type_inference.specs.Blocks.{before_in, AreBlocks, AreSpread}
use Rattle.jvm_type_inference.specs.Frames.{type_frame, frame_at, IsSized}
use Rattle.jvm_type_inference.specs.Flow.{AreFormed, AreAnalyzed, IsBehind, SpreadTo}
use Rattle.jvm_type_inference.specs.Inferred.{AreInferred}
use Rattle.jvm_type_inference.proofs.FlowLaws.{Slots}

module _ (program : Program) (method : LinkedMethod) (before : List (Option ℕ)) where
  pub spread-begins : (frames : Slots) → AreFormed method.locals method.stack frames → SpreadTo program method before 0 frames frames
  spread-begins frames formed = record {
    size = refl;
    later = λ n h. refl;
    leaders = λ n h. refl;
    go_on = λ n x line f b h. absurd (omega (arith, h));
    back = λ n x b h. absurd (omega (arith, h));
    sized = λ n f e. (formed.each n f e).sized;
  }

  -- a block begins at the next offset, or there is no instruction
  pub spread-stays : (at : ℕ) (frames spread : Slots) → before_in before at ≡ None → SpreadTo program method before at frames spread → SpreadTo program method before (suc at) frames spread
  spread-stays at frames spread none s = record {
    size = s.size;
    later = λ n h. s.later n (omega (arith, h));
    leaders = s.leaders;
    go_on = λ n x line f b h into l is enters.
        ⊎_elim
        (λ here. absurd (none-some x (sym none ∙ (ap (before_in before) (sym here) ∙ into))))
        (λ there. s.go_on n x line f b (omega (arith, there, h)) into l is enters)
        (cases_eq n at);
    back = λ n x b h into is.
        ⊎_elim
        (λ here. absurd (none-some x (sym none ∙ (ap (before_in before) (sym here) ∙ into))))
        (λ there. s.back n x b (omega (arith, there, h)) into is)
        (cases_eq n at);
    sized = s.sized;
  }

  -- the next offset is inside a block
  module _ (blocks : AreBlocks method before) (at x : ℕ) (frames spread : Slots) (b : Option Frame) (inside : at < length spread) (into : before_in before at ≡ Some x) (behind : IsBehind program method x (frame_at spread x) b) (sized : IfSome b (IsSized method.locals method.stack)) (s : SpreadTo program method before at frames spread) where
    abbrev after : Slots
    after = set spread at b

    here-is : (n : ℕ) → n ≡ at → get_or after n None ≡ b
    here-is n here = ap (λ k. get_or after k None) here ∙ get_or-set_same spread at b None inside

    there-is : (n : ℕ) → (n ≡ at → ⊥) → get_or after n None ≡ get_or spread n None
    there-is n there = get_or-set_other spread at n b None there

    order : (n z : ℕ) → before_in before n ≡ Some z → z < n
    order n z e = (blocks.inside n z e).order

    below-is : (n z : ℕ) → n ≤ at → before_in before n ≡ Some z → frame_at after z ≡ frame_at spread z
    below-is n z most e = let less = order n z e in ap (option_map type_frame) (there-is z (λ q. omega (arith, q, less, most)))

    same-before : (n z : ℕ) → n ≡ at → before_in before n ≡ Some z → x ≡ z
    same-before n z here e = same_Some x z (sym into ∙ (ap (before_in before) (sym here) ∙ e))

    sized-some : (o : Option Frame) → IfSome o (IsSized method.locals method.stack) → (f : Frame) → o ≡ Some f → IsSized method.locals method.stack f
    sized-some None all f e = absurd (none-some f e)
    sized-some (Some g) all f e = subst (IsSized method.locals method.stack) (same_Some g f e) all

    pub spread-more : SpreadTo program method before (suc at) frames after
    spread-more = record {
      size = length-set spread at b ∙ s.size;
      later = λ n h. there-is n (λ q. omega (arith, q, h)) ∙ s.later n (omega (arith, h));
      leaders = λ n none. there-is n (λ q. none-some x (sym none ∙ (ap (before_in before) q ∙ into))) ∙ s.leaders n none;
      go_on = λ n z line f c h e l is enters.
          let was : frame_at spread z ≡ Some f = sym (below-is n z (omega (arith, h)) e) ∙ is in
          ⊎_elim
          (λ here.
          let same = same-before n z here e in
          ap (option_map type_frame) (here-is n here) ∙ behind.goes line f c (ap (line_in method.lines) same ∙ l) (ap (frame_at spread) same ∙ was) enters)
          (λ there. ap (option_map type_frame) (there-is n there) ∙ s.go_on n z line f c (omega (arith, there, h)) e l was enters)
          (cases_eq n at);
      back = λ n z c h e is.
          ⊎_elim
          (λ here.
          let same = same-before n z here e in
          let r = behind.back c (sym (ap (option_map type_frame) (here-is n here)) ∙ is) in
          (r.0, r.1, ap (line_in method.lines) (sym same) ∙ r.2, below-is n z (omega (arith, h)) e ∙ (ap (frame_at spread) (sym same) ∙ r.3), r.4))
          (λ there.
          let r = s.back n z c (omega (arith, there, h)) e (sym (ap (option_map type_frame) (there-is n there)) ∙ is) in
          (r.0, r.1, r.2, below-is n z (omega (arith, h)) e ∙ r.3, r.4))
          (cases_eq n at);
      sized = λ n f e.
          ⊎_elim
          (λ here. sized-some b sized f (sym (here-is n here) ∙ e))
          (λ there. s.sized n f (sym (there-is n there) ∙ e))
          (cases_eq n at);
    }

  pub all-spread : AreBlocks method before → (count : ℕ) (frames spread : Slots) → ((y : ℕ) → count ≤ y → line_in method.lines y ≡ None) → SpreadTo program method before count frames spread → AreSpread program method before count (frame_at frames) (frame_at spread)
  all-spread blocks count frames spread ends s = record {
    leaders = λ n none. ap (option_map type_frame) (s.leaders n none);
    go_on = record { each = λ n x line f b h into l is enters. s.go_on n x line f b (within n x into) into l is enters };
    back = λ n x b into is.
        let less = within n x into in
        let r = s.back n x b less into is in
        (omega (arith, less), r.0, r.1, r.2, r.3, r.4);
  }
    where
      within : (n x : ℕ) → before_in before n ≡ Some x → n < count
      within n x into =
          let i = blocks.inside n x into in
          ⊎_elim (λ less. less) (λ more. absurd (none-some i.there (sym (ends n more) ∙ i.there_is))) (cases_lt n count)

  pub inferred : AreBlocks method before → (count : ℕ) (frames spread : Slots) → ((y : ℕ) → count ≤ y → line_in method.lines y ≡ None) → count ≤ 2 ^ 32 → AreAnalyzed program method before count frames → SpreadTo program method before count frames spread → AreInferred program method spread
  inferred blocks count frames spread ends few a s =
      let least = a.least (frame_at spread) (all-spread blocks count frames spread ends s) in
      record {
        least = least;
        formed = record {
          each = λ at f e. record {
            sized = s.sized at f e;
            operands = (least.typing 0).operands at (type_frame f) (ap (option_map type_frame) e);
          };
        };
        few = let size = s.size in let as_many = a.size in omega (arith, size, as_many, few);
      }
