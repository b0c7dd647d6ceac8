-- The flags of leaders, unit by unit.
use Rattle.std.proofs.Common.{◌≡◌, ℕ, ◌+◌, ◌-◌, ◌*◌, ◌/◌, ◌%◌, ◌^◌, ◌<◌, ◌≤◌, ◌==◌, Bool, true, false, not, ◌&&◌, ◌||◌, List, ◌∷◌, length, get_or, drop, set, replicate, refl, sym, ap, ◌∙◌, inl, inr, arith}
use Rattle.std.specs.Prelude.{IfSome}
use Rattle.std.proofs.lemmas.Bool.{cases_eq, eq-eqb, ne_eqb, or_right}
use Rattle.std.proofs.lemmas.List.{drop_more, drop_all, get_or-replicate, get_or-set_same, get_or-set_other, length-set, length-replicate}
use Rattle.mips_definition.specs.declared.inst.Inst.{Inst}
use Rattle.mips_definition.specs.declared.inst.Inst.TheVariants.{BranchSign, Jump, BranchEqual, BranchZero}
use Rattle.mips_definition.specs.Targets.{extended_imm, jump_target}
use Rattle.delay_slots.specs.declared.unit.Unit.{Unit}
use Rattle.delay_slots.specs.declared.unit.Unit.TheVariants.{Plain, Branch, SlotMissing, SlotIsBranch, Call, Trap}
use Rattle.block_builder.specs.Leaders.{AreLeaders, Marks, direct, inst_target, is_at, is_leader, is_plain, make_leader, words_of}

-- ---- targets are words

branch_aligned : (at extended : ℕ) → at % 4 ≡ 0 → (at + 4 + 4 * extended) % 2 ^ 32 % 4 ≡ 0
branch_aligned at extended aligned = omega arith

jump_aligned : (at index : ℕ) → jump_target at index % 4 ≡ 0
jump_aligned at index = omega arith

inst_aligned : (i : Inst) (at : ℕ) → at % 4 ≡ 0 → IfSome (inst_target i at) (λ t. t % 4 ≡ 0)
inst_aligned (BranchSign name rs imm) at aligned = branch_aligned at (extended_imm imm) aligned
inst_aligned (Jump name index) at aligned = jump_aligned at index
inst_aligned (BranchEqual name rs rt imm) at aligned = branch_aligned at (extended_imm imm) aligned
inst_aligned (BranchZero name rs imm) at aligned = branch_aligned at (extended_imm imm) aligned
inst_aligned _ at aligned = tt

pub direct_aligned : (unit : Unit) (at : ℕ) → at % 4 ≡ 0 → IfSome (direct unit at) (λ t. t % 4 ≡ 0)
direct_aligned (Plain i) at aligned = tt
direct_aligned (Branch i slot) at aligned = inst_aligned i at aligned
direct_aligned (SlotMissing i) at aligned = inst_aligned i at aligned
direct_aligned (SlotIsBranch i word) at aligned = inst_aligned i at aligned
direct_aligned Call at aligned = tt
direct_aligned (Trap kind value) at aligned = tt

-- the address of a word tells its number
pub target_is : (start target k : ℕ) → start % 4 ≡ 0 → target % 4 ≡ 0 → start ≤ target
    → (target == start + 4 * k) ≡ (k == (target - start) / 4)
target_is start target k aligned target_aligned behind =
    elim (cases_eq k ((target - start) / 4)) [
      | inl same ↦
          let there : target ≡ start + 4 * k = omega arith in
          eq-eqb target (start + 4 * k) there ∙ sym (eq-eqb k ((target - start) / 4) same)
      | inr other ↦
          let elsewhere : target ≡ start + 4 * k → ⊥ = λ there. other (omega arith) in
          ne_eqb target (start + 4 * k) elsewhere ∙ sym (ne_eqb k ((target - start) / 4) other)
    ]

pub target_before : (start target k : ℕ) → target < start → (target == start + 4 * k) ≡ false
target_before start target k before = ne_eqb target (start + 4 * k) (λ there. omega arith)

-- ---- marks

or_no : (b : Bool) → (b || false) ≡ b
or_no true = refl
or_no false = refl

-- no word of the range passes the test
pub marks_none : (old : List Bool) (test : ℕ → Bool) → ((k : ℕ) → k < length old → test k ≡ false) → Marks old old test
marks_none old test none = record {
  same_len = refl;
  flags = λ k lt. rw (none k lt) (sym (or_no (get_or old k false)));
}

flag_of_word : (old : List Bool) (word k : ℕ) → k < length old → get_or (set old word true) k false ≡ (get_or old k false || k == word)
flag_of_word old word k lt =
    elim (cases_eq k word) [
      | inl same ↦
          let on : (k == word) ≡ true = eq-eqb k word same in
          let within : word < length old = omega arith in
          rw on (ap (λ i. get_or (set old word true) i false) same ∙ get_or-set_same old word true false within ∙ sym (or_right (get_or old k false) true refl))
      | inr other ↦
          let off : (k == word) ≡ false = ne_eqb k word other in
          rw off (get_or-set_other old word k true false other ∙ sym (or_no (get_or old k false)))
    ]

-- one word passes the test, if the range has it
pub marks_word : (old new : List Bool) (word : ℕ) (test : ℕ → Bool) → new ≡ set old word true → ((k : ℕ) → k < length old → test k ≡ (k == word)) → Marks old new test
marks_word old new word test made one = record {
  same_len = ap length made ∙ length-set old word true;
  flags = λ k lt. ap (λ flags. get_or flags k false) made ∙ flag_of_word old word k lt ∙ ap (λ b. get_or old k false || b) (sym (one k lt));
}

-- ---- unit by unit

-- The flags so far, and what the units from word i on make leaders, are the leaders.
pub record Marked (units : List Unit) (start i : ℕ) (flags : List Bool) : Type 0 where
  pub same_len : length flags ≡ length units
  pub leads : (k : ℕ) → k < length units → (get_or flags k false || make_leader start (drop i units) i k) ≡ is_leader units start k

first_flag : (n k : ℕ) → k < n → get_or (set (replicate n false) 0 true) k false ≡ (k == 0)
first_flag n k lt =
    let within : k < length (replicate n false) = omega (arith, length-replicate n false) in
    flag_of_word (replicate n false) 0 k within ∙ ap (λ b. b || k == 0) (get_or-replicate n k false false lt)

pub marked_first : (units : List Unit) (start : ℕ) (flags : List Bool) → flags ≡ set (replicate (length units) false) 0 true → Marked units start 0 flags
marked_first units start flags made = record {
  same_len = ap length made ∙ length-set (replicate (length units) false) 0 true ∙ length-replicate (length units) false;
  leads = λ k lt. ap (λ flags. get_or flags k false || make_leader start units 0 k) made
      ∙ ap (λ b. b || make_leader start units 0 k) (first_flag (length units) k lt);
}

regroup : (old target behind rest : Bool) → (((old || target) || behind) || rest) ≡ (old || ((target || behind) || rest))
regroup true target behind rest = refl
regroup false target behind rest = refl

pub marked_more : (units : List Unit) (start i : ℕ) (d unit : Unit) (old mid new : List Bool) → i < length units → unit ≡ get_or units i d
    → Marked units start i old → Marks old mid (λ k. is_at (direct unit (start + 4 * i)) (start + 4 * k))
    → Marks mid new (λ k. not (is_plain unit) && k == i + words_of unit) → Marked units start (i + 1) new
marked_more units start i d unit old mid new lt is so target behind = record {
  same_len = behind.same_len ∙ target.same_len ∙ so.same_len;
  leads = λ k within.
      let in_old : k < length old = omega (arith, so.same_len) in
      let in_mid : k < length mid = omega (arith, so.same_len, target.same_len) in
      let a = is_at (direct unit (start + 4 * i)) (start + 4 * k) in
      let b = not (is_plain unit) && k == i + words_of unit in
      let rest = make_leader start (drop (i + 1) units) (i + 1) k in
      let there : unit ∷ drop (i + 1) units ≡ drop i units = ap (λ u. u ∷ drop (i + 1) units) is ∙ sym (drop_more units i d lt) in
      ap (λ f. f || rest) (behind.flags k in_mid ∙ ap (λ f. f || b) (target.flags k in_old))
      ∙ regroup (get_or old k false) a b rest
      ∙ ap (λ us. get_or old k false || make_leader start us i k) there
      ∙ so.leads k within;
}

pub marked_all : (units : List Unit) (start i : ℕ) (flags : List Bool) → length units ≤ i → Marked units start i flags → AreLeaders units start flags
marked_all units start i flags le so = record {
  same_len = so.same_len;
  leads = λ k lt. sym (or_no (get_or flags k false))
      ∙ ap (λ us. get_or flags k false || make_leader start us i k) (sym (drop_all i units le))
      ∙ so.leads k lt;
}
