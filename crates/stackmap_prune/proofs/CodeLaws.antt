-- Pruned lines are the lines of a code.
use Rattle.std.proofs.Common.{◌≡◌, ℕ, zero, suc, ◌+◌, ◌<◌, Bool, true, false, eqb, ◌||◌, List, [], ◌∷◌, ◌++◌, length, Option, Some, None, refl, sym, ap, subst, ◌∙◌, arith, append_assoc, append-nil, lit<}
use Rattle.std.specs.Prelude.{if◌then◌else◌, not}
use Rattle.std.specs.List.{list_all}
use Rattle.std.proofs.lemmas.Bool.{and_parts, and_from, eqb-true, false≢true}
use Rattle.jvm_definition.specs.declared.return_name.ReturnName.{ReturnName}
use Rattle.class_definition.specs.declared.code_fault.CodeFault.{CodeFault}
use Rattle.class_definition.specs.declared.line.Line.{Line}
use Rattle.class_definition.specs.declared.op.Op.{Op}
use Rattle.class_definition.specs.declared.op.Op.TheVariants.{Give, TableSwitch, LookupSwitch}
use Rattle.class_definition.specs.Instructions.{instruction}
use Rattle.class_definition.specs.Targets.{bad_target}
use Rattle.class_definition.specs.Code.{targets_of, is_line, line_target_fault}
use Rattle.class_definition.specs.Sizes.{size_at}
use Rattle.jvm_code.specs.Writing.{AreLaid, AreCode}
use Rattle.stackmap_prune.specs.Code.{returns_at, pruned_line, pruned_lines, has_dead, KeepsTargets}

-- ---- laid out one after the other

give-fits : (at : ℕ) (name : ReturnName) → (instruction at).fits (Give name) ≡ true
give-fits at name = refl

returns-laid : (name : ReturnName) (at n : ℕ) (rest : List Line) → AreLaid (at + n) rest → AreLaid at (returns_at name at n ++ rest)
returns-laid name at zero rest h = let e : at + 0 ≡ at = omega arith in subst (λ a. AreLaid a rest) e h
returns-laid name at (suc n) rest h =
    let e : at + suc n ≡ suc at + n = omega arith in
    let next : suc at ≡ at + 1 = omega arith in
    (refl, give-fits at name, subst (λ a. AreLaid a (returns_at name (suc at) n ++ rest)) next (returns-laid name (suc at) n rest (subst (λ a. AreLaid a rest) e h)))

pub pruned-laid : (kept : ℕ → Bool) (name : ReturnName) (at : ℕ) (lines : List Line) → AreLaid at lines → AreLaid at (pruned_lines kept name lines)
pruned-laid kept name at [] laid = laid
pruned-laid kept name at (l ∷ lines) laid = by-test (kept l.at) (pruned-laid kept name (at + size_at at l.op) lines laid.2)
  where
    by-test : (b : Bool) → AreLaid (at + size_at at l.op) (pruned_lines kept name lines) → AreLaid at ((if b then l ∷ [] else returns_at name l.at (size_at l.at l.op)) ++ pruned_lines kept name lines)
    by-test true others = (laid.0, laid.1, others)
    by-test false others = subst (λ a. AreLaid at (returns_at name a (size_at a l.op) ++ pruned_lines kept name lines)) (sym laid.0) (returns-laid name at (size_at at l.op) (pruned_lines kept name lines) others)

size-some : (at : ℕ) (op : Op) → 0 < size_at at op
size-some at (TableSwitch s) = omega arith
size-some at (LookupSwitch s) = omega arith
size-some at _ = lit< tt

returns-some : (name : ReturnName) (at n : ℕ) (rest : List Line) → 0 < n → 0 < length (returns_at name at n ++ rest)
returns-some name at zero rest h = absurd (omega (arith, h))
returns-some name at (suc n) rest h = omega arith

pub pruned-some : (kept : ℕ → Bool) (name : ReturnName) (lines : List Line) → 0 < length lines → 0 < length (pruned_lines kept name lines)
pruned-some kept name [] h = h
pruned-some kept name (l ∷ lines) h = by-test (kept l.at)
  where
    by-test : (b : Bool) → 0 < length ((if b then l ∷ [] else returns_at name l.at (size_at l.at l.op)) ++ pruned_lines kept name lines)
    by-test true = omega arith
    by-test false = returns-some name l.at (size_at l.at l.op) (pruned_lines kept name lines) (size-some l.at l.op)

-- ---- targets

abbrev pub AllTargets : List Line → List Line → Type 0
AllTargets all [] = Unit {0}
AllTargets all (l ∷ lines) = (list_all (is_line all) (targets_of l.op) ≡ true) × AllTargets all lines

abbrev fault-by : List Line → Line → List Line → Bool → Option CodeFault
fault-by all l others b = if b then line_target_fault all others else Some (record { at = l.at; kind = bad_target })

pub targets-known : (all lines : List Line) → line_target_fault all lines ≡ None → AllTargets all lines
targets-known all [] e = tt
targets-known all (l ∷ lines) e = by-test (list_all (is_line all) (targets_of l.op)) refl (λ k. targets-known all lines k) e
  where
    by-test : (b : Bool) → list_all (is_line all) (targets_of l.op) ≡ b → (line_target_fault all lines ≡ None → AllTargets all lines) → fault-by all l lines b ≡ None → AllTargets all (l ∷ lines)
    by-test true h others k = (h, others k)
    by-test false h others k = absurd cc

pub targets-sound : (all lines : List Line) → AllTargets all lines → line_target_fault all lines ≡ None
targets-sound all [] h = refl
targets-sound all (l ∷ lines) h = ap (fault-by all l lines) h.0 ∙ targets-sound all lines h.1

targets-append : (all xs ys : List Line) → AllTargets all xs → AllTargets all ys → AllTargets all (xs ++ ys)
targets-append all [] ys h k = k
targets-append all (x ∷ xs) ys h k = (h.0, targets-append all xs ys h.1 k)

returns-targets : (all : List Line) (name : ReturnName) (at n : ℕ) → AllTargets all (returns_at name at n)
returns-targets all name at zero = tt
returns-targets all name at (suc n) = (refl, returns-targets all name (suc at) n)

or-left : (a b : Bool) → a ≡ true → (a || b) ≡ true
or-left true b e = refl
or-left false b e = absurd (false≢true e)

or-right : (a b : Bool) → b ≡ true → (a || b) ≡ true
or-right true b e = refl
or-right false b e = e

line-behind : (xs ys : List Line) (t : ℕ) → is_line ys t ≡ true → is_line (xs ++ ys) t ≡ true
line-behind [] ys t e = e
line-behind (x ∷ xs) ys t e = or-right (eqb x.at t) (is_line (xs ++ ys) t) (line-behind xs ys t e)

pub line-stays : (kept : ℕ → Bool) (name : ReturnName) (lines : List Line) (t : ℕ) → kept t ≡ true → is_line lines t ≡ true → is_line (pruned_lines kept name lines) t ≡ true
line-stays kept name [] t k e = e
line-stays kept name (l ∷ lines) t k e = by-place (eqb l.at t) refl (λ h. line-stays kept name lines t k h) e
  where
    kept-first : kept l.at ≡ true → (eqb l.at t) ≡ true → is_line (pruned_line kept name l ++ pruned_lines kept name lines) t ≡ true
    kept-first h same = ap (λ b. is_line ((if b then l ∷ [] else returns_at name l.at (size_at l.at l.op)) ++ pruned_lines kept name lines) t) h ∙ or-left (eqb l.at t) (is_line (pruned_lines kept name lines) t) same

    by-place : (b : Bool) → eqb l.at t ≡ b → (is_line lines t ≡ true → is_line (pruned_lines kept name lines) t ≡ true) → (b || is_line lines t) ≡ true → is_line (pruned_line kept name l ++ pruned_lines kept name lines) t ≡ true
    by-place true same others h = kept-first (ap kept (eqb-true l.at t same) ∙ k) same
    by-place false other others h = line-behind (pruned_line kept name l) (pruned_lines kept name lines) t (others h)

all-stay : (kept : ℕ → Bool) (name : ReturnName) (lines : List Line) (ts : List ℕ) → list_all kept ts ≡ true → list_all (is_line lines) ts ≡ true → list_all (is_line (pruned_lines kept name lines)) ts ≡ true
all-stay kept name lines [] h k = refl
all-stay kept name lines (t ∷ ts) h k =
    let p = and_parts (kept t) (list_all kept ts) h in
    let q = and_parts (is_line lines t) (list_all (is_line lines) ts) k in
    and_from _ _ (line-stays kept name lines t p.0 q.0) (all-stay kept name lines ts p.1 q.1)

targets-stay : (kept : ℕ → Bool) (name : ReturnName) (all lines : List Line) → AllTargets all lines → KeepsTargets kept lines → AllTargets (pruned_lines kept name all) (pruned_lines kept name lines)
targets-stay kept name all [] h k = tt
targets-stay kept name all (l ∷ lines) h k =
    targets-append (pruned_lines kept name all) (pruned_line kept name l) (pruned_lines kept name lines) (by-test (kept l.at) refl) (targets-stay kept name all lines h.1 k.1)
  where
    by-test : (b : Bool) → kept l.at ≡ b → AllTargets (pruned_lines kept name all) (if b then l ∷ [] else returns_at name l.at (size_at l.at l.op))
    by-test true e = (all-stay kept name all (targets_of l.op) (k.0 e) h.0, tt)
    by-test false e = returns-targets (pruned_lines kept name all) name l.at (size_at l.at l.op)

pub pruned-code : (kept : ℕ → Bool) (name : ReturnName) (lines : List Line) → AreCode lines → KeepsTargets kept lines → AreCode (pruned_lines kept name lines)
pruned-code kept name lines are keeps = (
  pruned-some kept name lines are.0,
  pruned-laid kept name 0 lines are.1,
  targets-sound (pruned_lines kept name lines) (pruned_lines kept name lines) (targets-stay kept name lines lines (targets-known lines lines are.2) keeps),
)

-- ---- one line after the other

pub returns-pushed : (name : ReturnName) (at n : ℕ) → returns_at name at (suc n) ≡ returns_at name at n ++ record { at = at + n; op = Give name } ∷ []
returns-pushed name at zero = let e : at ≡ at + 0 = omega arith in ap (λ (a : ℕ). record { at = a; op = Give name } ∷ []) e
returns-pushed name at (suc n) =
    let e : suc at + n ≡ at + suc n = omega arith in
    ap (λ (ls : List Line). record { at = at; op = Give name } ∷ ls) (returns-pushed name (suc at) n ∙ ap (λ (a : ℕ). returns_at name (suc at) n ++ record { at = a; op = Give name } ∷ []) e)

-- where each line stays, the lines are the same
pub none-dead : (kept : ℕ → Bool) (name : ReturnName) (lines : List Line) → has_dead kept lines ≡ false → pruned_lines kept name lines ≡ lines
none-dead kept name [] e = refl
none-dead kept name (l ∷ lines) e = by-test (kept l.at) e (λ h. none-dead kept name lines h)
  where
    by-test : (b : Bool) → (not b || has_dead kept lines) ≡ false → (has_dead kept lines ≡ false → pruned_lines kept name lines ≡ lines) → (if b then l ∷ [] else returns_at name l.at (size_at l.at l.op)) ++ pruned_lines kept name lines ≡ l ∷ lines
    by-test true h others = ap (λ ls. l ∷ ls) (others h)
    by-test false h others = absurd (false≢true (sym h))

pub prune-begins : (kept : ℕ → Bool) (name : ReturnName) (out left all : List Line) → out ≡ [] → left ≡ all → out ++ pruned_lines kept name left ≡ pruned_lines kept name all
prune-begins kept name out left all e g = λ i. e i ++ pruned_lines kept name (g i)

pub prune-goes : (kept : ℕ → Bool) (name : ReturnName) (out after left rest : List Line) (l : Line) (stays : Bool) (total : List Line) → left ≡ l ∷ rest → stays ≡ kept l.at → after ≡ out ++ (if stays then l ∷ [] else returns_at name l.at (size_at l.at l.op)) → out ++ pruned_lines kept name left ≡ total → after ++ pruned_lines kept name rest ≡ total
prune-goes kept name out after left rest l stays total first is made so_far =
    ap (λ x. x ++ pruned_lines kept name rest) (made ∙ ap (λ b. out ++ (if b then l ∷ [] else returns_at name l.at (size_at l.at l.op))) is)
    ∙ (append_assoc out (pruned_line kept name l) (pruned_lines kept name rest)
    ∙ (ap (λ x. out ++ pruned_lines kept name x) (sym first) ∙ so_far))

pub prune-ends : (kept : ℕ → Bool) (name : ReturnName) (out left : List Line) (total : List Line) → left ≡ [] → out ++ pruned_lines kept name left ≡ total → out ≡ total
prune-ends kept name out left total e so_far = sym (append-nil out) ∙ (ap (λ x. out ++ pruned_lines kept name x) (sym e) ∙ so_far)
