-- The frames that are listed for pruned code have a table, and fit their method.
use Rattle.std.proofs.Common.{◌≡◌, ℕ, zero, suc, ◌<◌, ◌≤◌, Bool, true, false, eqb, List, [], ◌∷◌, length, Option, Some, None, refl, sym, ap, subst, ◌∙◌, arith, get_or}
use Rattle.std.specs.Prelude.{if◌then◌else◌, nat_le, option_map, map, is_some}
use Rattle.std.proofs.lemmas.Bool.{and_from, le-leb, false≢true}
use Rattle.std.proofs.lemmas.Option.{same_Some, none-some}
use Rattle.class_definition.specs.declared.entry.Entry.{Entry}
use Rattle.jvm_definition.specs.declared.kind.Kind.{Kind}
use Rattle.jvm_definition.specs.declared.kind.Kind.TheVariants as kinds
use Rattle.jvm_definition.specs.declared.instruction.Instruction.{Instruction}
use Rattle.jvm_definition.specs.declared.linked_line.LinkedLine.{LinkedLine}
use Rattle.jvm_definition.specs.declared.linked_method.LinkedMethod.{LinkedMethod}
use Rattle.jvm_definition.specs.Program.{Program, line_in, LaidFrom}
use Rattle.jvm_definition.specs.Typing.{Frames, is_long_kind, no_top, slots_of, given_by, type_effect}
use Rattle.jvm_type_inference.specs.declared.frame.Frame.{Frame}
use Rattle.jvm_type_inference.specs.Frames.{type_frame, IsFormed}
use Rattle.jvm_type_inference.specs.Reached.{Reached}
use Rattle.jvm_type_inference.proofs.LeastLaws.{is-some}
use Rattle.type_verifier.specs.Typings.{listed_frames, AllFormed, IsListed}
use Rattle.stackmap_table.specs.Shortest.{has_no_long, before_others, trimmed_locals, trimmed_frame, AreTabled, AllWithin, IsTableOf}
use Rattle.stackmap_table.proofs.WrittenLaws.{tables-listed}
use Rattle.frame_maps.specs.Framed.{HasLine, Framed}
use Rattle.frame_maps.specs.Checked.{IsTyped}
use Rattle.frame_maps.proofs.FramedLaws.{here, there, stands}
use Rattle.stackmap_prune.specs.Listing.{must_list, frame_in, listed_frame, listing, listing_of}
use Rattle.stackmap_prune.specs.Pruned.{IsPruned}
use Rattle.stackmap_prune.proofs.SearchLaws.{frames-are}
use Rattle.stackmap_prune.proofs.ListingLaws.{is-listing}
use Rattle.stackmap_prune.proofs.LeastFacts.{locals-short, stack-within, stack-length}
use Rattle.jvm_type_inference.proofs.CallLaws.{some-there}
use Rattle.stackmap_prune.proofs.PrunedLaws.{listing-framed, typed-line}

-- ---- frames that fit

pub record Fits (locals stack : ℕ) (f : Frame) : Type 0 where
  pub short : has_no_long f.locals ≡ true
  pub few : length f.locals ≤ locals
  pub typed : no_top f.stack ≡ true
  pub room : slots_of f.stack ≤ stack

-- of a line whether it is near, and has room for a return where it is not reached
record IsGood (reached : List (ℕ × Frame)) (gives : Bool) (stack : ℕ) (l : LinkedLine) : Type 0 where
  near : l.at < 65535
  room : frame_in reached l.at ≡ None → slots_of (given_by gives) ≤ stack

abbrev AllGood : List (ℕ × Frame) → Bool → ℕ → List LinkedLine → Type 0
AllGood reached gives stack [] = Unit {0}
AllGood reached gives stack (l ∷ lines) = IsGood reached gives stack l × AllGood reached gives stack lines

all-good : (reached : List (ℕ × Frame)) (gives : Bool) (stack start : ℕ) (lines : List LinkedLine) → LaidFrom start lines → ((at : ℕ) (l : LinkedLine) → line_in lines at ≡ Some l → l.at ≡ at → IsGood reached gives stack l) → AllGood reached gives stack lines
all-good reached gives stack start [] laid h = tt
all-good reached gives stack start (l ∷ lines) laid h = (
  h l.at l (here l lines l.at refl) refl,
  all-good reached gives stack l.next lines laid.2 (λ at k e is. let s = stands l.next lines at k laid.2 e in h at k (there l lines at (λ same. omega (arith, same, laid.1, s.behind)) ∙ e) is),
)

given-typed : (gives : Bool) → no_top (given_by gives) ≡ true
given-typed true = refl
given-typed false = refl

module _ (must : ℕ → Bool) (reached : List (ℕ × Frame)) (gives : Bool) (locals stack : ℕ) (fit : (at : ℕ) (f : Frame) → frame_in reached at ≡ Some f → Fits locals stack f) where
  -- local variables that fit
  abbrev FitLocals : List Kind → Type 0
  FitLocals ks = (has_no_long ks ≡ true) × (length ks ≤ locals)

  frame-fits : (l : LinkedLine) (before : List Kind) → FitLocals before → IsGood reached gives stack l → Fits locals stack (listed_frame (frame_in reached l.at) gives before)
  frame-fits l before h g = by-case (frame_in reached l.at) refl
    where
      by-case : (o : Option Frame) → frame_in reached l.at ≡ o → Fits locals stack (listed_frame o gives before)
      by-case None e = record { short = h.0; few = h.1; typed = given-typed gives; room = g.room e }
      by-case (Some f) e = fit l.at f e

  module _ (few-locals : locals ≤ 65535) (few-stack : stack ≤ 65535) where
    listing-tabled : (start : ℕ) (before : List Kind) (lines : List LinkedLine) → LaidFrom start lines → FitLocals before → AllGood reached gives stack lines → AreTabled start (listing must reached gives before lines)
    listing-tabled start before [] laid h g = tt
    listing-tabled start before (l ∷ lines) laid h g =
        let k = frame-fits l before h g.0 in
        by-must (must l.at) (listing-tabled l.next (listed_frame (frame_in reached l.at) gives before).locals lines laid.2 (k.short, k.few) g.1) (listing-tabled l.next before lines laid.2 h g.1)
      where
        weaker : (a b : ℕ) (xs : List (ℕ × Frame)) → a ≤ b → AreTabled b xs → AreTabled a xs
        weaker a b [] less t = tt
        weaker a b (x ∷ xs) less t = (record { rises = omega (arith, less, t.0.rises); near = t.0.near; locals = t.0.locals; few_locals = t.0.few_locals; operands = t.0.operands; few_operands = t.0.few_operands }, t.1)

        by-must : (b : Bool) → AreTabled l.next (listing must reached gives (listed_frame (frame_in reached l.at) gives before).locals lines) → AreTabled l.next (listing must reached gives before lines) → AreTabled start (if b then (l.at, listed_frame (frame_in reached l.at) gives before) ∷ listing must reached gives (listed_frame (frame_in reached l.at) gives before).locals lines else listing must reached gives before lines)
        by-must true one other =
            let k = frame-fits l before h g.0 in (
              record {
                rises = omega (arith, laid.0);
                near = g.0.near;
                locals = k.short;
                few_locals = omega (arith, k.few, few-locals);
                operands = k.typed;
                few_operands = omega (arith, stack-length (listed_frame (frame_in reached l.at) gives before).stack, k.room, few-stack);
              },
              weaker (suc l.at) l.next _ (omega (arith, laid.1)) one,
            )
        by-must false one other = weaker start l.next _ (omega (arith, laid.0, laid.1)) other

  within-of : (method : LinkedMethod) → method.locals ≡ locals → method.stack ≡ stack → (before : List Kind) (lines : List LinkedLine) → FitLocals before → AllGood reached gives stack lines → AllWithin method (listing must reached gives before lines)
  within-of method same-locals same-stack before [] h g = tt
  within-of method same-locals same-stack before (l ∷ lines) h g =
      let k = frame-fits l before h g.0 in
      by-must (must l.at) (within-of method same-locals same-stack (listed_frame (frame_in reached l.at) gives before).locals lines (k.short, k.few) g.1) (within-of method same-locals same-stack before lines h g.1)
    where
      by-must : (b : Bool) → AllWithin method (listing must reached gives (listed_frame (frame_in reached l.at) gives before).locals lines) → AllWithin method (listing must reached gives before lines) → AllWithin method (if b then (l.at, listed_frame (frame_in reached l.at) gives before) ∷ listing must reached gives (listed_frame (frame_in reached l.at) gives before).locals lines else listing must reached gives before lines)
      by-must true one other =
          let f = listed_frame (frame_in reached l.at) gives before in
          let k = frame-fits l before h g.0 in (
            and_from (nat_le (length f.locals) method.locals) (nat_le (slots_of f.stack) method.stack)
                (le-leb (length f.locals) method.locals (omega (arith, k.few, same-locals)))
                (le-leb (slots_of f.stack) method.stack (omega (arith, k.room, same-stack))),
            one,
          )
      by-must false one other = other

-- ---- frames without what is at their ends

trimmed-get : (ks : List Kind) (i : ℕ) → get_or (trimmed_locals ks) i kinds.Top ≡ get_or ks i kinds.Top
trimmed-get [] i = refl
trimmed-get (k ∷ ks) i = first k (trimmed_locals ks) i ∙ behind (λ n. trimmed-get ks n) i
  where
    first : (o : Kind) (others : List Kind) (n : ℕ) → get_or (before_others o others) n kinds.Top ≡ get_or (o ∷ others) n kinds.Top
    first kinds.Top [] zero = refl
    first kinds.Top [] (suc n) = refl
    first kinds.Top (x ∷ xs) n = refl
    first kinds.Int others n = refl
    first kinds.Long others n = refl
    first kinds.Null others n = refl
    first kinds.Ints others n = refl
    first kinds.Pages others n = refl
    first kinds.Text others n = refl

    behind : ((n : ℕ) → get_or (trimmed_locals ks) n kinds.Top ≡ get_or ks n kinds.Top) → (n : ℕ) → get_or (k ∷ trimmed_locals ks) n kinds.Top ≡ get_or (k ∷ ks) n kinds.Top
    behind others zero = refl
    behind others (suc n) = others n

trimmed-same : (l : ℕ × Frame) → type_frame (trimmed_frame l).1 ≡ type_frame l.1
trimmed-same l = λ j. record { locals = λ i. trimmed-get l.1.locals i j; stack = l.1.stack }

trimmed-at : (listed : List (ℕ × Frame)) (at : ℕ) → listed_frames (map trimmed_frame listed) at ≡ listed_frames listed at
trimmed-at [] at = refl
trimmed-at (l ∷ listed) at =
    ap (λ f. if eqb l.0 at then Some f else listed_frames (map trimmed_frame listed) at) (trimmed-same l)
    ∙ ap (λ o. if eqb l.0 at then Some (type_frame l.1) else o) (trimmed-at listed at)

-- ---- a method with its table

short-list : (ks : List Kind) → ((i : ℕ) → is_long_kind (get_or ks i kinds.Top) ≡ false) → has_no_long ks ≡ true
short-list [] h = refl
short-list (k ∷ ks) h = by-kind k (h 0) (short-list ks (λ i. h (suc i)))
  where
    by-kind : (o : Kind) → is_long_kind o ≡ false → has_no_long ks ≡ true → has_no_long (o ∷ ks) ≡ true
    by-kind kinds.Long e s = absurd (false≢true (sym e))
    by-kind kinds.Top e s = s
    by-kind kinds.Int e s = s
    by-kind kinds.Null e s = s
    by-kind kinds.Ints e s = s
    by-kind kinds.Pages e s = s
    by-kind kinds.Text e s = s

long-none : (ks : List Kind) (i : ℕ) → has_no_long ks ≡ true → is_long_kind (get_or ks i kinds.Top) ≡ false
long-none [] i h = refl
long-none (k ∷ ks) i h = by-kind (λ n e. long-none ks n e) k h i
  where
    by-kind : ((n : ℕ) → has_no_long ks ≡ true → is_long_kind (get_or ks n kinds.Top) ≡ false) → (o : Kind) → has_no_long (o ∷ ks) ≡ true → (n : ℕ) → is_long_kind (get_or (o ∷ ks) n kinds.Top) ≡ false
    by-kind others kinds.Long e n = absurd (false≢true e)
    by-kind others kinds.Top e zero = refl
    by-kind others kinds.Top e (suc n) = others n e
    by-kind others kinds.Int e zero = refl
    by-kind others kinds.Int e (suc n) = others n e
    by-kind others kinds.Null e zero = refl
    by-kind others kinds.Null e (suc n) = others n e
    by-kind others kinds.Ints e zero = refl
    by-kind others kinds.Ints e (suc n) = others n e
    by-kind others kinds.Pages e zero = refl
    by-kind others kinds.Pages e (suc n) = others n e
    by-kind others kinds.Text e zero = refl
    by-kind others kinds.Text e (suc n) = others n e

formed-at : (locals stack : ℕ) (listed : List (ℕ × Frame)) (at : ℕ) (f : Frame) → AllFormed locals stack listed → frame_in listed at ≡ Some f → IsFormed locals stack f
formed-at locals stack [] at f h e = absurd (none-some f e)
formed-at locals stack (l ∷ listed) at f h e = by-place (eqb l.0 at) (λ k. formed-at locals stack listed at f h.1 k) e
  where
    by-place : (b : Bool) → (frame_in listed at ≡ Some f → IsFormed locals stack f) → (if b then Some l.1 else frame_in listed at) ≡ Some f → IsFormed locals stack f
    by-place true others k = subst (IsFormed locals stack) (same_Some l.1 f k) h.0
    by-place false others k = others k

-- what holds of a method that was pruned, and of its program
pub record IsReady (program after : Program) (method pruned : LinkedMethod) (reached : List (ℕ × Frame)) : Type 0 where
  pub listed : IsListed program method reached
  pub laid : LaidFrom 0 method.lines
  pub is : IsPruned method pruned
  pub effects : (i : Instruction) → type_effect after i ≡ type_effect program i
  pub parameters : has_no_long method.parameters ≡ true
  pub near : (at : ℕ) (l : LinkedLine) → line_in pruned.lines at ≡ Some l → at < 65535
  pub few_locals : pruned.locals ≤ 65535
  pub few_stack : pruned.stack ≤ 65535

module _ (program after : Program) (method pruned : LinkedMethod) (reached : List (ℕ × Frame)) (r : IsReady program after method pruned reached) where
  abbrev frames : Frames
  frames = listed_frames reached

  reached-fits : (at : ℕ) (f : Frame) → frame_in reached at ≡ Some f → Fits pruned.locals pruned.stack f
  reached-fits at f e =
      let there : frames at ≡ Some (type_frame f) = frames-are reached at ∙ ap (option_map type_frame) e in
      let formed = formed-at method.locals method.stack reached at f r.listed.formed e in
      record {
        short = short-list f.locals (λ i. locals-short program method frames r.listed.least (λ k. long-none method.parameters k r.parameters) at (type_frame f) i there);
        few = omega (arith, formed.sized.locals_fit, r.is.locals);
        typed = formed.operands;
        room = omega (arith, stack-within program method frames r.listed.least at (type_frame f) there, r.is.stack);
      }

  goods : AllGood reached pruned.gives_int pruned.stack pruned.lines
  goods = all-good reached pruned.gives_int pruned.stack 0 pruned.lines r.is.laid (λ at l e is. record {
    near = let n = r.near at l e in omega (arith, n, is);
    room = λ none. subst (λ b. slots_of (given_by b) ≤ pruned.stack) (sym r.is.gives_int) (r.is.room at (is-some (line_in pruned.lines at) l e) (λ h.
        let some = (r.listed.reached at).1 h in
        false≢true (sym (ap is_some (frames-are reached at ∙ ap (option_map type_frame) (ap (frame_in reached) (sym is) ∙ none))) ∙ some)));
  })

  first-locals : (has_no_long pruned.parameters ≡ true) × (length pruned.parameters ≤ pruned.locals)
  first-locals = (
    ap has_no_long r.is.parameters ∙ r.parameters,
    omega (arith, (r.listed.least.typing 0).parameters, ap length r.is.parameters, r.is.locals),
  )

  pub ready-tabled : AreTabled 0 (listing_of pruned reached)
  ready-tabled = listing-tabled (must_list pruned.lines) reached pruned.gives_int pruned.locals pruned.stack reached-fits r.few_locals r.few_stack 0 pruned.parameters pruned.lines r.is.laid first-locals goods

  pub ready-within : AllWithin pruned (listing_of pruned reached)
  ready-within = within-of (must_list pruned.lines) reached pruned.gives_int pruned.locals pruned.stack reached-fits pruned refl refl pruned.parameters pruned.lines first-locals goods

  pub ready-typed : (pool : List Entry) (table : List ℕ) → IsTableOf pool pruned.parameters (listing_of pruned reached) table → IsTyped after pool pruned table
  ready-typed pool table t = record {
    listed = map trimmed_frame (listing_of pruned reached);
    is = tables-listed pool pruned (listing_of pruned reached) table ready-tabled ready-within t;
    framed = subst (Framed after pruned) (λ j at. sym (trimmed-at (listing_of pruned reached) at) j)
        (listing-framed program after method pruned frames r.listed.least r.laid r.is r.effects (listed_frames (listing_of pruned reached)) (is-listing method pruned reached r.is r.listed.reached));
  }

  pub ready-framed : Framed after pruned (listed_frames (listing_of pruned reached))
  ready-framed = listing-framed program after method pruned frames r.listed.least r.laid r.is r.effects (listed_frames (listing_of pruned reached)) (is-listing method pruned reached r.is r.listed.reached)

  pub ready-lined : (at : ℕ) → Reached method at → HasLine method at
  ready-lined at h =
      let f = some-there (frames at) ((r.listed.reached at).1 h) in
      let l = typed-line program after method pruned frames r.listed.least r.laid r.is r.effects at f.0 f.1 in
      is-some (line_in method.lines at) l.0 l.1
