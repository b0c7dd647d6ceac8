use Rattle.std.proofs.Common.{◌≡◌, ◌+◌, ◌-◌, arith, ap, ◌∙◌, sym, refl}
use Rattle.int_region.specs.Arrays.{array_at, zeros}
use Rattle.int_region.proofs.ArrayLemmas.{array_at-last}
use Rattle.int_region.proofs.KeptLemmas.{arrays_of, laid, laid_length, used_of, contents_of-added, IsKept-added}
use Rattle.int_region.proofs.region.Region.array.Goals as goal

pub returns-then-len-end-clause-full : goal.returns-then-len-end-clause-full
returns-then-len-end-clause-full c =
    let s = c.self.inside in
    rw (← c.self.view_is) ((λ _. omega (arith, s.words.ok.0, used_of s.words.items s.used c.self.invariant)), (λ _. refl))

pub invariant_of-self : goal.invariant_of-self
invariant_of-self c =
    let s = c.self.inside in
    let end = s.used + c.args.len + 2 in
    let wide : end - s.used ≡ c.args.len + 2 = omega arith in
    let till : end ≡ s.used + (c.args.len + 2) = omega arith in
    let words = laid s.words c.deref_mut.result.now c.spell.new.room s.used (end - s.used) c.args.kind c.args.len c.deref_mut.ensures.value c.spell.ensures wide (omega arith) in
    IsKept-added s.words.items _ s.used end c.args.kind c.args.len _ words (laid_length s.words _) till (omega (arith, s.words.ok.0)) c.requires c.self.invariant

pub returns-clause-place : goal.returns-clause-place
returns-clause-place c = rw (← c.self.view_is) (sym (used_of c.self.inside.words.items c.self.inside.used c.self.invariant))

pub returns-clause-added : goal.returns-clause-added
returns-clause-added c =
    let s = c.self.inside in
    let end = s.used + c.args.len + 2 in
    let wide : end - s.used ≡ c.args.len + 2 = omega arith in
    let till : end ≡ s.used + (c.args.len + 2) = omega arith in
    let words = laid s.words c.deref_mut.result.now c.spell.new.room s.used (end - s.used) c.args.kind c.args.len c.deref_mut.ensures.value c.spell.ensures wide (omega arith) in
    rw (← c.self.view_is)
    (contents_of-added s.words.items _ s.used end c.args.kind c.args.len _ words (laid_length s.words _) till c.self.invariant)

pub returns-clause-full : goal.returns-clause-full
returns-clause-full c =
    let s = c.self.inside in
    rw (← c.self.view_is) ((λ e. cc), (λ h. absurd (omega (arith, s.words.ok.0, used_of s.words.items s.used c.self.invariant, h))))

pub returns-clause-sound : goal.returns-clause-sound
returns-clause-sound c =
    let s = c.self.inside in
    let end = s.used + c.args.len + 2 in
    let wide : end - s.used ≡ c.args.len + 2 = omega arith in
    let till : end ≡ s.used + (c.args.len + 2) = omega arith in
    let words = laid s.words c.deref_mut.result.now c.spell.new.room s.used (end - s.used) c.args.kind c.args.len c.deref_mut.ensures.value c.spell.ensures wide (omega arith) in
    (IsKept-added s.words.items _ s.used end c.args.kind c.args.len _ words (laid_length s.words _) till (omega (arith, s.words.ok.0)) c.requires c.self.invariant).sound

pub returns-clause-made : goal.returns-clause-made
returns-clause-made c =
    let s = c.self.inside in
    let end = s.used + c.args.len + 2 in
    let wide : end - s.used ≡ c.args.len + 2 = omega arith in
    let till : end ≡ s.used + (c.args.len + 2) = omega arith in
    let words = laid s.words c.deref_mut.result.now c.spell.new.room s.used (end - s.used) c.args.kind c.args.len c.deref_mut.ensures.value c.spell.ensures wide (omega arith) in
    ap (λ r. array_at r.arrays s.used) (contents_of-added s.words.items _ s.used end c.args.kind c.args.len _ words (laid_length s.words _) till c.self.invariant)
    ∙ array_at-last (arrays_of s.words.items s.used) (zeros c.args.kind c.args.len) s.used (used_of s.words.items s.used c.self.invariant)
