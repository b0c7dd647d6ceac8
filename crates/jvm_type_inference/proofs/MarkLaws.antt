-- The basic blocks of a method are found.
use Rattle.std.proofs.Common.{◌≡◌, ℕ, zero, suc, ◌+◌, ◌<◌, ◌≤◌, Bool, true, false, List, [], ◌∷◌, length, get_or, set, take, replicate, refl, sym, ap, subst, ◌∙◌, Option, Some, None, arith, ⊎_elim}
use Rattle.std.specs.Prelude.{All, IsSome, is_some, if◌then◌else◌}
use Rattle.std.proofs.lemmas.Bool.{cases_eq, cases_lt, true≢false, false≢true}
use Rattle.std.proofs.lemmas.List.{get_or-set_same, get_or-set_other, get_or_past, length-set, length-replicate}
use Rattle.std.proofs.lemmas.List.Elements.{All-more}
use Rattle.std.proofs.lemmas.Option.{same_Some, none-some}
use Rattle.jvm_definition.specs.declared.linked_line.LinkedLine.{LinkedLine}
use Rattle.jvm_definition.specs.declared.linked_method.LinkedMethod.{LinkedMethod}
use Rattle.jvm_definition.specs.Program.{line_in, successors}
use Rattle.jvm_type_inference.specs.Blocks.{before_in, IsInside, AreBlocks}
use Rattle.jvm_type_inference.specs.Marks.{leads, IsLatest, IsMarked, AreMarked, Leads, IsLeader, GoesTo}
use Rattle.jvm_type_inference.proofs.CallLaws.{some-there}
use Rattle.jvm_type_inference.proofs.TableLaws.{none-of}

-- ---- blocks begin at more offsets

pub leads-nothing : (leaders : List Bool) (before : List (Option ℕ)) → Leads leaders before leaders before
leads-nothing leaders before = record {
  size = refl;
  as_many = refl;
  stays = λ n h. h;
  same = λ n h. refl;
  apart = λ a n h. a n h;
  clears = λ n h. h;
}

pub leads-more : (leaders : List Bool) (before : List (Option ℕ)) (then' : List Bool) (more : List (Option ℕ)) (after : List Bool) (later : List (Option ℕ)) → Leads leaders before then' more → Leads then' more after later → Leads leaders before after later
leads-more leaders before then' more after later p q = record {
  size = q.size ∙ p.size;
  as_many = q.as_many ∙ p.as_many;
  stays = λ n h. p.stays n (q.stays n h);
  same = λ n h. q.same n h ∙ p.same n (q.stays n h);
  apart = λ a n h. q.apart (p.apart a) n h;
  clears = λ n h. q.clears n (p.clears n h);
}

not-false : (b : Bool) → (b ≡ false → ⊥) → b ≡ true
not-false true h = refl
not-false false h = absurd (h refl)

pub leader-stays : (leaders : List Bool) (before : List (Option ℕ)) (after : List Bool) (later : List (Option ℕ)) (n : ℕ) → Leads leaders before after later → IsLeader leaders n → IsLeader after n
leader-stays leaders before after later n p is less = not-false (leads after n) (λ h. true≢false (sym (is (omega (arith, less, p.size))) ∙ p.stays n h))

module _ (leaders : List Bool) (before : List (Option ℕ)) (size : length leaders ≡ length before) (at : ℕ) (inside : at < length leaders) where
  pub leads-one : Leads leaders before (set leaders at true) (set before at None)
  leads-one = record {
    size = length-set leaders at true;
    as_many = length-set before at None;
    stays = λ n h. ⊎_elim (λ here. absurd (true≢false (sym (led n here) ∙ h))) (λ there. sym (get_or-set_other leaders at n true false there) ∙ h) (cases_eq n at);
    same = λ n h. ⊎_elim (λ here. absurd (true≢false (sym (led n here) ∙ h))) (λ there. get_or-set_other before at n None None there) (cases_eq n at);
    apart = λ a n h. ⊎_elim (λ here. cleared n here) (λ there. get_or-set_other before at n None None there ∙ a n (sym (get_or-set_other leaders at n true false there) ∙ h)) (cases_eq n at);
    clears = λ n h. ⊎_elim (λ here. cleared n here) (λ there. get_or-set_other before at n None None there ∙ h) (cases_eq n at);
  }
    where
      led : (n : ℕ) → n ≡ at → leads (set leaders at true) n ≡ true
      led n here = ap (leads (set leaders at true)) here ∙ get_or-set_same leaders at true false inside

      cleared : (n : ℕ) → n ≡ at → before_in (set before at None) n ≡ None
      cleared n here = ap (before_in (set before at None)) here ∙ get_or-set_same before at None None (omega (arith, inside, size))

  pub one-leads : IsLeader (set leaders at true) at
  one-leads less = get_or-set_same leaders at true false inside

pub none-leads : (leaders : List Bool) (at : ℕ) → length leaders ≤ at → IsLeader leaders at
none-leads leaders at past less = absurd (omega (arith, past, less))

pub more-lead : (leaders : List Bool) (before : List (Option ℕ)) (after : List Bool) (later : List (Option ℕ)) (targets : List ℕ) (i to : ℕ) → i < length targets → to ≡ get_or targets i 0 → Leads leaders before after later → All (IsLeader leaders) (take i targets) → IsLeader after to → All (IsLeader after) (take (i + 1) targets)
more-lead leaders before after later targets i to inside is p all one =
    All-more (IsLeader after) targets i 0 inside
    (λ k d h. leader-stays leaders before after later (get_or (take i targets) k d) p (all k d h))
    (subst (IsLeader after) is one)

-- ---- the next instruction is found

module _ (method : LinkedMethod) where
  -- nothing is marked yet
  pub nothing-marked : (count : ℕ) (leaders : List Bool) (before : List (Option ℕ)) → leaders ≡ replicate count false → before ≡ replicate count None → AreMarked method leaders before None 0
  nothing-marked count leaders before l b = record {
    size = ap length l ∙ (length-replicate count false ∙ (sym (length-replicate {A = Option ℕ} count None) ∙ sym (ap length b)));
    apart = λ n h. none n;
    fresh = λ n h. none n;
    inside = λ n x e. absurd (none-some x (sym (none n) ∙ e));
    others = λ y line h. absurd (omega (arith, h));
    is_latest = record { there = λ x e. absurd (none-some x e); alone = λ y h. absurd (omega (arith, h)) };
  }
    where
      none : (n : ℕ) → before_in before n ≡ None
      none n = ap (λ b. before_in b n) b ∙ none-of count n None

  -- no instruction is at the next offset
  pub next-none : (leaders : List Bool) (before : List (Option ℕ)) (latest : Option ℕ) (at : ℕ) → line_in method.lines at ≡ None → AreMarked method leaders before latest at → AreMarked method leaders before latest (suc at)
  next-none leaders before latest at none m = record {
    size = m.size;
    apart = m.apart;
    fresh = λ n h. m.fresh n (omega (arith, h));
    inside = m.inside;
    others = λ y line h l other. ⊎_elim
        (λ here. absurd (none-some line (sym none ∙ (ap (line_in method.lines) (sym here) ∙ l))))
        (λ there. m.others y line (omega (arith, there, h)) l other)
        (cases_eq y at);
    is_latest = record {
      there = λ x e. let t = m.is_latest.there x e in let less = t.0 in (omega (arith, less), t.1);
      alone = λ y h behind. ⊎_elim
          (λ here. ap (line_in method.lines) here ∙ none)
          (λ there. m.is_latest.alone y (omega (arith, there, h)) behind)
          (cases_eq y at);
    };
  }

  new-latest : (latest : Option ℕ) (at : ℕ) → IsSome (line_in method.lines at) → IsLatest method (Some at) (suc at)
  new-latest latest at there = record {
    there = λ x e. let same : at ≡ x = same_Some at x e in (omega (arith, same), subst (λ z. IsSome (line_in method.lines z)) same there);
    alone = λ y h behind. let less = behind at refl in absurd (omega (arith, less, h));
  }

  -- one is, and there was none before
  pub first-marked : (leaders : List Bool) (before : List (Option ℕ)) (latest : Option ℕ) (at : ℕ) → latest ≡ None → IsSome (line_in method.lines at) → AreMarked method leaders before latest at → AreMarked method leaders before (Some at) (suc at)
  first-marked leaders before latest at e there m = record {
    size = m.size;
    apart = m.apart;
    fresh = λ n h. m.fresh n (omega (arith, h));
    inside = m.inside;
    others = λ y line h l other. absurd (none-some line (sym (m.is_latest.alone y (before-at y h other) (λ x is. absurd (none-some x (sym e ∙ is)))) ∙ l));
    is_latest = new-latest latest at there;
  }
    where
      before-at : (y : ℕ) → y < suc at → (Some at ≡ Some y → ⊥) → y < at
      before-at y h other = ⊎_elim (λ here. absurd (other (ap Some (sym here)))) (λ there. omega (arith, there, h)) (cases_eq y at)

  module _ (leaders : List Bool) (before : List (Option ℕ)) (x at : ℕ) (line : LinkedLine) (l : line_in method.lines x ≡ Some line) (m : AreMarked method leaders before (Some x) at) where
    before-at : (y : ℕ) → y < suc at → (Some at ≡ Some y → ⊥) → y < at
    before-at y h other = ⊎_elim (λ here. absurd (other (ap Some (sym here)))) (λ there. omega (arith, there, h)) (cases_eq y at)

    -- where an instruction goes is marked once that of the latest one is
    marked-by : (after : List Bool) (later : List (Option ℕ)) → ((y n : ℕ) → IsMarked leaders before y n → IsMarked after later y n) → All (IsMarked after later x) (successors line) → (y : ℕ) (line' : LinkedLine) → y < suc at → line_in method.lines y ≡ Some line' → (Some at ≡ Some y → ⊥) → All (IsMarked after later y) (successors line')
    marked-by after later keeps new y line' h l' other =
        ⊎_elim
        (λ here.
        let same : line ≡ line' = same_Some line line' (sym l ∙ (ap (line_in method.lines) (sym here) ∙ l')) in
        subst (λ z. All (IsMarked after later y) (successors z)) same (subst (λ z. All (IsMarked after later z) (successors line)) (sym here) new))
        (λ there k d i.
        keeps y (get_or (successors line') k d)
        (m.others y line' (before-at y h other) l' (λ q. there (sym (same_Some x y q))) k d i))
        (cases_eq y x)

    module _ (after : List Bool) (later : List (Option ℕ)) (p : Leads leaders before after later) where
      kept : (y n : ℕ) → IsMarked leaders before y n → IsMarked after later y n
      kept y n is led less = p.same n led ∙ is (p.stays n led) (omega (arith, less, p.as_many))

      still-inside : (n z : ℕ) → before_in later n ≡ Some z → IsInside method z n
      still-inside n z e = by-led (leads after n) refl
        where
          by-led : (b : Bool) → leads after n ≡ b → IsInside method z n
          by-led true led = absurd (none-some z (sym (p.apart m.apart n led) ∙ e))
          by-led false led = m.inside n z (sym (p.same n led) ∙ e)

      all-marked : All (IsLeader after) (successors line) → All (IsMarked after later x) (successors line)
      all-marked all k d i led less = absurd (true≢false (sym (all k d i (omega (arith, less, p.size, p.as_many, m.size))) ∙ led))

      -- it goes elsewhere
      pub led-marked : IsSome (line_in method.lines at) → All (IsLeader after) (successors line) → AreMarked method after later (Some at) (suc at)
      led-marked there all = record {
        size = p.size ∙ (m.size ∙ sym p.as_many);
        apart = p.apart m.apart;
        fresh = λ n h. p.clears n (m.fresh n (omega (arith, h)));
        inside = still-inside;
        others = marked-by after later kept (all-marked all);
        is_latest = new-latest (Some x) at there;
      }

      -- and there is no other
      pub all-blocks : ((y : ℕ) → at ≤ y → line_in method.lines y ≡ None) → All (IsLeader after) (successors line) → AreBlocks method later
      all-blocks ends all = record {
        inside = still-inside;
        others = λ y line' z l' k d i e.
            let n = get_or (successors line') k d in
            let less : y < at = ⊎_elim (λ less. less) (λ more. absurd (none-some line' (sym (ends y more) ∙ l'))) (cases_lt y at) in
            let marked : IsMarked after later y n = marked-by after later kept (all-marked all) y line' (omega (arith, less)) l' (λ q. let same = same_Some at y q in absurd (omega (arith, same, less))) k d i in
            by-led y z n marked e (leads after n) refl;
      }
        where
          by-led : (y z n : ℕ) → IsMarked after later y n → before_in later n ≡ Some z → (b : Bool) → leads after n ≡ b → z ≡ y
          by-led y z n marked e true led = absurd (none-some z (sym (p.apart m.apart n led) ∙ e))
          by-led y z n marked e false led =
              let within : n < length later = ⊎_elim (λ less. less) (λ past. absurd (none-some z (sym (get_or_past later n None past) ∙ e))) (cases_lt n (length later)) in
              same_Some z y (sym e ∙ marked led within)

    module _ (there : IsSome (line_in method.lines at)) (inside : at < length before) (targets : List ℕ) (are : targets ≡ successors line) (g : GoesTo line targets at) where
      goes-on : successors line ≡ at ∷ []
      goes-on = sym are ∙ g.goes

      is-inside : IsInside method x at
      is-inside =
          let t = some-there (line_in method.lines at) there in
          record {
            line = line;
            is = l;
            next = g.next;
            goes = goes-on;
            order = (m.is_latest.there x refl).0;
            there = t.0;
            there_is = t.1;
            alone = λ y h less. m.is_latest.alone y less (λ z e. let same = same_Some x z e in omega (arith, same, h));
          }

      one-marked : (P : ℕ → Type 0) → P at → All P (successors line)
      one-marked P one = subst (λ xs. All P xs) (sym goes-on) (all-at P one)
        where
          all-at : (P : ℕ → Type 0) → P at → All P (at ∷ [])
          all-at P p = λ k d h. subst P (here k d h) p
            where
              here : (k d : ℕ) → k < 1 → at ≡ get_or (at ∷ []) k d
              here zero d h = refl
              here (suc k) d h = absurd (omega (arith, h))

      -- it goes on to the next one, where a block begins
      pub stays-marked : leads leaders at ≡ true → AreMarked method leaders before (Some at) (suc at)
      stays-marked led = record {
        size = m.size;
        apart = m.apart;
        fresh = λ n h. m.fresh n (omega (arith, h));
        inside = m.inside;
        others = marked-by leaders before (λ y n h. h) (one-marked (IsMarked leaders before x) (λ not less. absurd (true≢false (sym led ∙ not))));
        is_latest = new-latest (Some x) at there;
      }

      -- it goes on to the next one inside a block
      pub goes-marked : leads leaders at ≡ false → AreMarked method leaders (set before at (Some x)) (Some at) (suc at)
      goes-marked led = record {
        size = m.size ∙ sym (length-set before at (Some x));
        apart = λ n h. ⊎_elim
            (λ here. absurd (true≢false (sym h ∙ (ap (leads leaders) here ∙ led))))
            (λ other. elsewhere n other ∙ m.apart n h)
            (cases_eq n at);
        fresh = λ n h. elsewhere n (λ here. omega (arith, here, h)) ∙ m.fresh n (omega (arith, h));
        inside = λ n z e. ⊎_elim
            (λ here.
            let same : x ≡ z = same_Some x z (sym (put n here) ∙ e) in
            subst (λ y. IsInside method y n) same (subst (λ y. IsInside method x y) (sym here) is-inside))
            (λ other. m.inside n z (sym (elsewhere n other) ∙ e))
            (cases_eq n at);
        others = marked-by leaders (set before at (Some x)) keeps (one-marked (IsMarked leaders (set before at (Some x)) x) (λ not less. put at refl));
        is_latest = new-latest (Some x) at there;
      }
        where
          put : (n : ℕ) → n ≡ at → before_in (set before at (Some x)) n ≡ Some x
          put n here = ap (before_in (set before at (Some x))) here ∙ get_or-set_same before at (Some x) None inside

          elsewhere : (n : ℕ) → (n ≡ at → ⊥) → before_in (set before at (Some x)) n ≡ before_in before n
          elsewhere n other = get_or-set_other before at n (Some x) None other

          keeps : (y n : ℕ) → IsMarked leaders before y n → IsMarked leaders (set before at (Some x)) y n
          keeps y n is not less = ⊎_elim
              (λ here.
              let old : before_in before n ≡ Some y = is not (omega (arith, less, length-set before at (Some x))) in
              absurd (none-some y (sym (m.fresh n (omega (arith, here))) ∙ old)))
              (λ other. elsewhere n other ∙ is not (omega (arith, less, length-set before at (Some x))))
              (cases_eq n at)

      pub put-marked : (after : List Bool) (later : List (Option ℕ)) → after ≡ leaders → later ≡ (if leads leaders at then before else set before at (Some x)) → AreMarked method after later (Some at) (suc at)
      put-marked after later same put =
          subst (λ b. AreMarked method after b (Some at) (suc at)) (sym put)
          (subst (λ a. AreMarked method a (if leads leaders at then before else set before at (Some x)) (Some at) (suc at)) (sym same) (by-led (leads leaders at) refl))
        where
          by-led : (b : Bool) → leads leaders at ≡ b → AreMarked method leaders (if b then before else set before at (Some x)) (Some at) (suc at)
          by-led true led = stays-marked led
          by-led false led = goes-marked led

  -- there was no instruction
  pub no-blocks : (leaders : List Bool) (before : List (Option ℕ)) (latest : Option ℕ) → ((y : ℕ) → length before ≤ y → line_in method.lines y ≡ None) → latest ≡ None → AreMarked method leaders before latest (length before) → AreBlocks method before
  no-blocks leaders before latest ends e m = record {
    inside = m.inside;
    others = λ y line z l. absurd (none-some line (sym (none y) ∙ l));
  }
    where
      none : (y : ℕ) → line_in method.lines y ≡ None
      none y = ⊎_elim (λ less. m.is_latest.alone y less (λ x is. absurd (none-some x (sym e ∙ is)))) (λ more. ends y more) (cases_lt y (length before))
