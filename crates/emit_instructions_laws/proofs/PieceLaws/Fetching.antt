-- Registers that are fetched into local variables, and put back from them, one after the other.
use Rattle.std.proofs.Common.{◌≡◌, ℕ, zero, suc, ◌+◌, ◌<◌, ◌≤◌, ◌⊎◌, inl, inr, Bool, true, false, if◌then◌else◌, List, [], ◌∷◌, ◌++◌, IsTrue, refl, ap, sym, ◌∙◌, arith}
use Rattle.std.specs.List.{flat_map, range_with_len}
use Rattle.std.proofs.lemmas.Bool.{cases_eq, eq-eqb, ne_eqb, true≢false}
use Rattle.jvm_definition.specs.declared.value.Value.{Value}
use Rattle.jvm_definition.specs.declared.value.Value.TheVariants.{Int as int}
use Rattle.jvm_definition.specs.declared.local_kind.LocalKind.TheVariants as local_kinds
use Rattle.jvm_definition.specs.Program.{Program}
use Rattle.jvm_definition.specs.Effect.{Workspace, with_local, with_field, pushes, moves_value, wrong}
use Rattle.jvm_definition.specs.declared.instruction.Instruction.TheVariants.{Store}
use Rattle.emit_steps.specs.declared.step.Step.{Step}
use Rattle.emit_steps.specs.declared.step.Step.TheVariants.{Does}
use Rattle.emit_steps.specs.Outcomes.{later, ended, outcome, outcome_from, after_instruction, stays_within}
use Rattle.emit_layout.specs.FieldNumbers.{register_field}
use Rattle.emit_instructions.specs.Access.{put_field}
use Rattle.word_emitter.specs.Pieces.{fetched, put_back}

-- code for each of so many registers that passes a test
abbrev pub each_code : (ℕ → Bool) → (ℕ → List Step) → ℕ → ℕ → List Step
each_code test code a n = flat_map (λ r. if test r then code r else []) (range_with_len a n)

-- no register, or one that is not the last: it is the first, or one of the others
first-or-later : (r a n : ℕ) → a ≤ r → r < a + suc n → (r ≡ a) ⊎ ((a + 1 ≤ r) × (r < a + 1 + n))
first-or-later r a n low high = elim (cases_eq r a) [ inl same ↦ inl same | inr other ↦ inr (omega (arith, other), omega arith) ]

-- the fields of registers hold them
abbrev pub AreInFields : (ℕ → Value) → (ℕ → ℕ) → Type 0
AreInFields fields registers = (r : ℕ) → 0 < r → r < 32 → fields (register_field r) ≡ int (registers r)

module _ (program : Program) (words : ℕ) (test : ℕ → Bool) (registers : ℕ → ℕ) where
  -- ---- into local variables

  -- Code comes to its end, and puts those of so many registers that pass the test into their local variables.
  pub record Fetches (a n : ℕ) (code : List Step) (w : Workspace) : Type 0 where
    pub turns : ℕ
    pub after : Workspace
    pub comes : outcome program words code w ≡ ended turns after
    pub few : turns ≤ n + n
    pub fields_kept : after.fields ≡ w.fields
    pub heap_kept : after.heap ≡ w.heap
    pub operands_kept : after.operands ≡ w.operands
    pub locals_kept : (k : ℕ) → k < a → after.locals k ≡ w.locals k
    pub are_there : (r : ℕ) → a ≤ r → r < a + n → test r ≡ true → after.locals r ≡ int (registers r)

  one-fetched : (a : ℕ) (code : List Step) (w : Workspace) → w.fields (register_field a) ≡ int (registers a)
      → outcome program words (fetched a ++ code) w ≡ later (later (outcome program words code (with_local w a (int (registers a)) w.operands)))
  one-fetched a code w is =
      ap (λ v. after_instruction w (pushes w v w.operands) (outcome_from program words (Does (Store local_kinds.Int a) ∷ code) 0)) is

  fetches-first : (a n : ℕ) (b : Bool) (code : List Step) (w : Workspace) → test a ≡ b → w.fields (register_field a) ≡ int (registers a)
      → ((v : Workspace) → v.fields ≡ w.fields → Fetches (a + 1) n code v) → Fetches a (suc n) ((if b then fetched a else []) ++ code) w
  fetches-first a n true code w is there rest_of =
      let v : Workspace = with_local w a (int (registers a)) w.operands in
      let rest = rest_of v refl in
      record {
        turns = suc (suc rest.turns);
        after = rest.after;
        comes = one-fetched a code w there ∙ ap (λ o. later (later o)) rest.comes;
        few = let some = rest.few in omega (arith, some);
        fields_kept = rest.fields_kept;
        heap_kept = rest.heap_kept;
        operands_kept = rest.operands_kept;
        locals_kept = λ k below. rest.locals_kept k (omega arith) ∙ ap (λ t. if t then int (registers a) else w.locals k)
            (ne_eqb k a (λ same. omega (arith, same)));
        are_there = λ r low high passes. elim (first-or-later r a n low high) [
          | inl same ↦ ap rest.after.locals same ∙ rest.locals_kept a (omega arith) ∙ ap (λ t. if t then int (registers a) else w.locals a)
              (eq-eqb a a refl) ∙ ap (λ k. int (registers k)) (sym same)
          | inr later ↦ rest.are_there r later.0 later.1 passes
        ];
      }
  fetches-first a n false code w is there rest_of =
      let rest = rest_of w refl in
      record {
        turns = rest.turns;
        after = rest.after;
        comes = rest.comes;
        few = let some = rest.few in omega (arith, some);
        fields_kept = rest.fields_kept;
        heap_kept = rest.heap_kept;
        operands_kept = rest.operands_kept;
        locals_kept = λ k below. rest.locals_kept k (omega arith);
        are_there = λ r low high passes. elim (first-or-later r a n low high) [
          | inl same ↦ absurd (true≢false (sym passes ∙ ap test same ∙ is))
          | inr later ↦ rest.are_there r later.0 later.1 passes
        ];
      }

  pub fetches : (n a : ℕ) (w : Workspace) → 0 < a → a + n ≤ 32 → AreInFields w.fields registers → Fetches a n (each_code test fetched a n) w
  fetches zero a w above within there = record {
    turns = 0;
    after = w;
    comes = refl;
    few = omega arith;
    fields_kept = refl;
    heap_kept = refl;
    operands_kept = refl;
    locals_kept = λ k below. refl;
    are_there = λ r low high passes. absurd (omega (arith, low, high));
  }
  fetches (suc n) a w above within there =
      fetches-first a n (test a) (each_code test fetched (a + 1) n) w refl (there a above (omega arith))
      (λ v same. fetches n (a + 1) v (omega arith) (omega arith)
      (λ r low high. ap (λ (fields : ℕ → Value). fields (register_field r)) same ∙ there r low high))

  -- ---- back into fields

  -- Code comes to its end, and puts those of so many registers that pass the test into their fields.
  pub record PutsBack (a n : ℕ) (code : List Step) (w : Workspace) : Type 0 where
    pub turns : ℕ
    pub after : Workspace
    pub comes : outcome program words code w ≡ ended turns after
    pub few : turns ≤ n + n
    pub locals_kept : after.locals ≡ w.locals
    pub heap_kept : after.heap ≡ w.heap
    pub operands_kept : after.operands ≡ w.operands
    pub fields_kept : (f : ℕ) → ((r : ℕ) → a ≤ r → r < a + n → test r ≡ true → f ≡ register_field r → ⊥) → after.fields f ≡ w.fields f
    pub are_there : (r : ℕ) → a ≤ r → r < a + n → test r ≡ true → after.fields (register_field r) ≡ int (registers r)

  one-put : (a : ℕ) (code : List Step) (w : Workspace) → w.locals a ≡ int (registers a)
      → outcome program words (put_back a ++ code) w ≡ later (later (outcome program words code
      (with_field w (register_field a) (int (registers a)) w.operands)))
  one-put a code w is =
      ap (λ v. after_instruction w (if moves_value local_kinds.Int v then pushes w v w.operands else wrong)
      (outcome_from program words (put_field (register_field a) ∷ code) 0)) is

  puts-first : (a n : ℕ) (b : Bool) (code : List Step) (w : Workspace) → 0 < a → test a ≡ b → (b ≡ true → w.locals a ≡ int (registers a))
      → ((v : Workspace) → v.locals ≡ w.locals → PutsBack (a + 1) n code v) → PutsBack a (suc n) ((if b then put_back a else []) ++ code) w
  puts-first a n true code w above is there rest_of =
      let v : Workspace = with_field w (register_field a) (int (registers a)) w.operands in
      let rest = rest_of v refl in
      record {
        turns = suc (suc rest.turns);
        after = rest.after;
        comes = one-put a code w (there refl) ∙ ap (λ o. later (later o)) rest.comes;
        few = let some = rest.few in omega (arith, some);
        locals_kept = rest.locals_kept;
        heap_kept = rest.heap_kept;
        operands_kept = rest.operands_kept;
        fields_kept = λ f other.
            rest.fields_kept f (λ r low high passes same. other r (omega arith) (omega arith) passes same)
            ∙ ap (λ t. if t then int (registers a) else w.fields f)
            (ne_eqb f (register_field a) (λ same. other a (omega arith) (omega arith) is same));
        are_there = λ r low high passes. elim (first-or-later r a n low high) [
          | inl same ↦
              ap (λ k. rest.after.fields (register_field k)) same
              ∙ rest.fields_kept (register_field a) (λ q lower higher put equal. omega (arith, equal, lower, above))
              ∙ ap (λ t. if t then int (registers a) else w.fields (register_field a)) (eq-eqb (register_field a) (register_field a) refl)
              ∙ ap (λ k. int (registers k)) (sym same)
          | inr later ↦ rest.are_there r later.0 later.1 passes
        ];
      }
  puts-first a n false code w above is there rest_of =
      let rest = rest_of w refl in
      record {
        turns = rest.turns;
        after = rest.after;
        comes = rest.comes;
        few = let some = rest.few in omega (arith, some);
        locals_kept = rest.locals_kept;
        heap_kept = rest.heap_kept;
        operands_kept = rest.operands_kept;
        fields_kept = λ f other. rest.fields_kept f (λ r low high passes same. other r (omega arith) (omega arith) passes same);
        are_there = λ r low high passes. elim (first-or-later r a n low high) [
          | inl same ↦ absurd (true≢false (sym passes ∙ ap test same ∙ is))
          | inr later ↦ rest.are_there r later.0 later.1 passes
        ];
      }

  pub puts-back : (n a : ℕ) (w : Workspace) → 0 < a → a + n ≤ 32 → ((r : ℕ) → 0 < r → r < 32 → test r ≡ true → w.locals r ≡ int (registers r))
      → PutsBack a n (each_code test put_back a n) w
  puts-back zero a w above within there = record {
    turns = 0;
    after = w;
    comes = refl;
    few = omega arith;
    locals_kept = refl;
    heap_kept = refl;
    operands_kept = refl;
    fields_kept = λ f other. refl;
    are_there = λ r low high passes. absurd (omega (arith, low, high));
  }
  puts-back (suc n) a w above within there =
      puts-first a n (test a) (each_code test put_back (a + 1) n) w above refl (λ passes. there a above (omega arith) passes)
      (λ v same. puts-back n (a + 1) v (omega arith) (omega arith)
      (λ r low high passes. ap (λ (locals : ℕ → Value). locals r) same ∙ there r low high passes))

-- ---- no branch goes past the code's end

one-within : (b : Bool) (first code : List Step) → IsTrue (stays_within code) → IsTrue (stays_within (first ++ code))
    → IsTrue (stays_within ((if b then first else []) ++ code))
one-within true first code rest both = both
one-within false first code rest both = rest

pub fetched-within : (test : ℕ → Bool) (n a : ℕ) → IsTrue (stays_within (each_code test fetched a n))
fetched-within test zero a = refl
fetched-within test (suc n) a =
    let rest = fetched-within test n (a + 1) in
    one-within (test a) (fetched a) (each_code test fetched (a + 1) n) rest rest
