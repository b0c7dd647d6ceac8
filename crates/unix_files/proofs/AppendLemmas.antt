-- A free block is put behind a chain, with its first bytes.
use Rattle.std.proofs.Common.{◌≡◌, ◌≢◌, ℕ, zero, suc, ◌+◌, ◌*◌, ◌-◌, ◌/◌, ◌%◌, ◌<◌, ◌≤◌, List, length, get_or, set, Some, None, IsTrue, ltb, refl, ap, sym, ◌∙◌, subst, inl, inr, arith, unwrap_or, option_and_then}
use Rattle.std.specs.Option.{IsSome, is_none}
use Rattle.std.proofs.lemmas.Bool.{cases_eq, cases_lt, false≢true, and_parts, ltb-true}
use Rattle.std.proofs.lemmas.List.{get_or-set_same, get_or-set_other, length-replicate, get_or-replicate}
use Rattle.block_pool.specs.Bytes.{zeros}
use Rattle.block_pool.specs.Blocks.{Pool, IsSound, IsUsed, is_free, next_of, block_at, bytes_of, bytes_in, free_count, new_block, with_bytes, with_next}
use Rattle.unix_definition.specs.Files.{blocks_for}
use Rattle.unix_files.specs.Stored.{block_after, IsChain, Changes, blocks_in, block_in, byte_of, file_bytes, begun, marked, overwritten}
use Rattle.unix_files.specs.declared.chain.Chain.{Chain}
use Rattle.unix_files.proofs.ChainLemmas.{block_after-start, block_after-suc, length-marked, marked-other, marked-here}
use Rattle.unix_files.proofs.LaidLemmas.{index-lt}
use Rattle.unix_files.proofs.WriteLemmas.{at-with_block, other-with_block, bytes-put, overwritten-new}
use Rattle.block_pool.proofs.PoolLemmas.{none-from_is_none}

pub free-block : (p : Pool) (b : ℕ) → IsTrue (is_free p b) → (b < length p.blocks) × (block_at p b ≡ None)
free-block p b free =
    let parts = and_parts (ltb b (length p.blocks)) (is_none (block_at p b)) free in
    (ltb-true b (length p.blocks) parts.0, none-from_is_none (block_at p b) parts.1)

none-unused : (p : Pool) (b : ℕ) → block_at p b ≡ None → IsUsed p b → ⊥
none-unused p b none used = false≢true (subst (λ o. IsSome o) none used)

first-bytes : (bs : List ℕ) (i : ℕ) → i < length bs → get_or (overwritten zeros 0 bs) i 0 ≡ get_or bs i 0
first-bytes bs i less =
    let place : i ≡ 0 + i = omega arith in
    ap (λ k. get_or (overwritten zeros 0 bs) k 0) place ∙ overwritten-new zeros bs 0 i (omega arith) less

-- a block that was free begins with these bytes, and the others are as they were
pub record Taken (p q : Pool) (b : ℕ) (bs : List ℕ) : Type 0 where
  pub fresh : block_at p b ≡ None
  pub new : block_at q b ≡ Some (record { bytes = overwritten zeros 0 bs; next = None })
  pub others : (x : ℕ) → x ≢ b → block_at q x ≡ block_at p x

pub taken : (p p1 : Pool) (b : ℕ) (bs : List ℕ) → p1.blocks ≡ set p.blocks b (Some new_block) → IsTrue (is_free p b) → Taken p (with_bytes p1 b (overwritten (bytes_of p1 b) 0 bs)) b bs
taken p p1 b bs is free =
    let none = free-block p b free in
    let here : block_at p1 b ≡ Some new_block = ap (λ l. get_or l b None) is ∙ get_or-set_same p.blocks b (Some new_block) None none.0 in
    let used : IsUsed p1 b = subst (λ o. IsSome o) (sym here) refl in
    record {
      fresh = none.1;
      new = at-with_block p1 b (overwritten (bytes_of p1 b) 0 bs) (next_of p1 b) used ∙ ap (λ o. Some (record { bytes = overwritten (bytes_in o) 0 bs; next = option_and_then (λ k. k.next) o })) here;
      others = λ x other. other-with_block p1 b (overwritten (bytes_of p1 b) 0 bs) (next_of p1 b) x other ∙ (ap (λ l. get_or l x None) is ∙ get_or-set_other p.blocks b x (Some new_block) None other);
    }

module _ (p q : Pool) (c : Chain) (b : ℕ) (bs : List ℕ) (t : Taken p q b bs) (empty : c.size ≡ 0) (some : 0 < length bs) (fits : length bs ≤ 4096) where
  abbrev first_chain : Chain
  first_chain = begun b (length bs)

  one : blocks_in first_chain ≡ 1
  one = omega arith

  only : (k : ℕ) → k < blocks_in first_chain → block_in q first_chain k ≡ b
  only k less = let z : k ≡ 0 = let o = one in omega arith in ap (block_after q b) z ∙ block_after-start q b

  used_new : IsUsed q b
  used_new = subst (λ o. IsSome o) (sym t.new) refl

  pub begun-chain : IsChain q first_chain
  begun-chain = record {
    used = λ k less. subst (λ x. IsUsed q x) (sym (only k less)) used_new;
    once = λ k j kin jin same. let o = one in omega arith;
    last = λ some. let z : blocks_in first_chain - 1 ≡ 0 = let o = one in omega arith in sym (ap (block_after q b) z ∙ block_after-start q b);
    near_within = omega arith;
    near = sym (block_after-start q b);
    marks_all = length-replicate 256 b;
    marks = λ k few less. get_or-replicate 256 k b 0 few ∙ sym (only (256 * k) less);
  }

  pub begun-changes : IsSound q → free_count q + 1 ≡ free_count p → Changes p q c first_chain
  begun-changes sound free = record {
    sound = sound;
    whole = begun-chain;
    source = λ k less. inr (λ used. none-unused p b t.fresh (subst (λ x. IsUsed p x) (only k less) used));
    others = λ x used other. t.others x (λ e. none-unused p b t.fresh (subst (λ y. IsUsed p y) e used));
    free = let none : blocks_in c ≡ 0 = ap blocks_for empty in let o = one in omega arith;
  }

  pub begun-bytes : file_bytes q first_chain ≡ overwritten (file_bytes p c) c.size bs
  begun-bytes =
      bytes-put p q c first_chain c.size bs (omega arith) (omega arith) (λ i less outside. absurd (omega arith))
      (λ i less.
      let place : c.size + i ≡ i = omega arith in
      let index : i / 4096 ≡ 0 = omega arith in
      let rest : i % 4096 ≡ i = omega arith in
      ap (byte_of q first_chain) place
      ∙ (ap (λ k. get_or (bytes_of q (block_after q b k)) (i % 4096) 0) index
      ∙ (ap (λ x. get_or (bytes_of q x) (i % 4096) 0) (block_after-start q b)
      ∙ (ap (λ o. get_or (bytes_in o) (i % 4096) 0) t.new ∙ (ap (λ j. get_or (overwritten zeros 0 bs) j 0) rest ∙ first-bytes bs i less)))))

-- a further block
pub record Appended (p q : Pool) (last b : ℕ) (bs : List ℕ) : Type 0 where
  pub fresh : block_at p b ≡ None
  pub new : block_at q b ≡ Some (record { bytes = overwritten zeros 0 bs; next = None })
  pub end : block_at q last ≡ Some (record { bytes = bytes_of p last; next = Some b })
  pub others : (x : ℕ) → x ≢ b → x ≢ last → block_at q x ≡ block_at p x

pub appended : (p p2 : Pool) (last b : ℕ) (bs : List ℕ) → Taken p p2 b bs → IsUsed p last → Appended p (with_next p2 last (Some b)) last b bs
appended p p2 last b bs t used =
    let apart : last ≢ b = λ e. none-unused p b t.fresh (subst (λ y. IsUsed p y) e used) in
    let before : block_at p2 last ≡ block_at p last = t.others last apart in
    let used2 : IsUsed p2 last = subst (λ o. IsSome o) (sym before) used in
    record {
      fresh = t.fresh;
      new = other-with_block p2 last (bytes_of p2 last) (Some b) b (λ e. apart (sym e)) ∙ t.new;
      end = at-with_block p2 last (bytes_of p2 last) (Some b) used2 ∙ ap (λ o. Some (record { bytes = bytes_in o; next = Some b })) before;
      others = λ x other not_last. other-with_block p2 last (bytes_of p2 last) (Some b) x not_last ∙ t.others x other;
    }

abbrev pub longer : Chain → ℕ → ℕ → Chain
longer c b n = record { first = c.first; last = b; near = b; near_index = c.size / 4096; marks = marked c.marks (c.size / 4096) b; size = c.size + n }

module _ (p q : Pool) (c : Chain) (b : ℕ) (bs : List ℕ) (h : IsChain p c) (a : Appended p q c.last b bs) (some : 0 < c.size) (full : c.size % 4096 ≡ 0) (bytes_some : 0 < length bs) (fits : length bs ≤ 4096) where
  abbrev pub longer_chain : Chain
  longer_chain = longer c b (length bs)

  abbrev old_blocks : ℕ
  old_blocks = blocks_in c

  last-is : c.last ≡ block_in p c (old_blocks - 1)
  last-is = h.last (omega arith)

  not-new : (k : ℕ) → k < old_blocks → block_in p c k ≢ b
  not-new k less e = none-unused p b a.fresh (subst (λ x. IsUsed p x) e (h.used k less))

  not-last : (k : ℕ) → k + 1 < old_blocks → block_in p c k ≢ c.last
  not-last k less e = let same : k ≡ old_blocks - 1 = h.once k (old_blocks - 1) (omega arith) (omega arith) (e ∙ last-is) in absurd (omega arith)

  old-block : (k : ℕ) → k < old_blocks → block_in q longer_chain k ≡ block_in p c k
  old-block zero less = block_after-start q c.first ∙ sym (block_after-start p c.first)
  old-block (suc k) less =
      block_after-suc q c.first k
      ∙ (ap (λ x. unwrap_or (next_of q x) 0) (old-block k (omega arith))
      ∙ (ap (λ o. unwrap_or (option_and_then (λ y. y.next) o) 0) (a.others (block_in p c k) (not-new k (omega arith)) (not-last k (omega arith))) ∙ sym (block_after-suc p c.first k)))

  new-block : block_in q longer_chain old_blocks ≡ b
  new-block =
      let e : old_blocks ≡ suc (old_blocks - 1) = omega arith in
      let before : block_in q longer_chain (old_blocks - 1) ≡ c.last = old-block (old_blocks - 1) (omega arith) ∙ sym last-is in
      ap (block_after q c.first) e
      ∙ (block_after-suc q c.first (old_blocks - 1) ∙ (ap (λ x. unwrap_or (next_of q x) 0) before ∙ ap (λ o. unwrap_or (option_and_then (λ y. y.next) o) 0) a.end))

  one-more : blocks_in longer_chain ≡ old_blocks + 1
  one-more = omega arith

  is-new : (k : ℕ) → k < blocks_in longer_chain → old_blocks ≤ k → block_in q longer_chain k ≡ b
  is-new k less past = let m = one-more in let e : k ≡ old_blocks = omega arith in ap (block_in q longer_chain) e ∙ new-block

  used-old : (x : ℕ) → x ≢ b → IsUsed p x → IsUsed q x
  used-old x other used = elim (cases_eq x c.last) [
    | inl e ↦ subst (λ y. IsUsed q y) (sym e) (subst (λ o. IsSome o) (sym a.end) refl)
    | inr not_last ↦ subst (λ o. IsSome o) (sym (a.others x other not_last)) used
  ]

  bytes-old : (x : ℕ) → x ≢ b → bytes_of q x ≡ bytes_of p x
  bytes-old x other = elim (cases_eq x c.last) [
    | inl e ↦ ap (bytes_of q) e ∙ (ap bytes_in a.end ∙ ap (bytes_of p) (sym e))
    | inr not_last ↦ ap bytes_in (a.others x other not_last)
  ]

  pub longer-chain : IsChain q longer_chain
  longer-chain = record {
    used = λ k less. elim (cases_lt k old_blocks) [
      | inl old ↦ subst (λ x. IsUsed q x) (sym (old-block k old)) (used-old (block_in p c k) (not-new k old) (h.used k old))
      | inr past ↦ subst (λ x. IsUsed q x) (sym (is-new k less past)) (subst (λ o. IsSome o) (sym a.new) refl)
    ];
    once = λ k j kin jin same. elim (cases_lt k old_blocks) [
      | inl old ↦ elim (cases_lt j old_blocks) [
        | inl old' ↦ h.once k j old old' (sym (old-block k old) ∙ (same ∙ old-block j old'))
        | inr past' ↦ absurd (not-new k old (sym (old-block k old) ∙ (same ∙ is-new j jin past')))
      ]
      | inr past ↦ elim (cases_lt j old_blocks) [
        | inl old' ↦ absurd (not-new j old' (sym (old-block j old') ∙ (sym same ∙ is-new k kin past)))
        | inr past' ↦ let m = one-more in omega arith
      ]
    ];
    last = λ _. let e : old_blocks ≡ blocks_in longer_chain - 1 = omega arith in sym (ap (block_in q longer_chain) (sym e) ∙ new-block);
    near_within = omega arith;
    near = let e : c.size / 4096 ≡ old_blocks = omega arith in sym (ap (block_in q longer_chain) e ∙ new-block);
    marks_all = length-marked c.marks (c.size / 4096) b ∙ h.marks_all;
    marks = λ k few less. elim (cases_lt (256 * k) old_blocks) [
      | inl old ↦ let other : 256 * k ≢ c.size / 4096 = λ e. absurd (omega arith) in
          marked-other c.marks (c.size / 4096) b k other ∙ (h.marks k few old ∙ sym (old-block (256 * k) old))
      | inr past ↦ let here : c.size / 4096 ≡ 256 * k = let m = one-more in omega arith in
          marked-here c.marks (c.size / 4096) b k here (let a = h.marks_all in omega arith) ∙ sym (is-new (256 * k) less past)
    ];
  }

  pub longer-changes : IsSound q → free_count q + 1 ≡ free_count p → Changes p q c longer_chain
  longer-changes sound free = record {
    sound = sound;
    whole = longer-chain;
    source = λ k less. elim (cases_lt k old_blocks) [
      | inl old ↦ inl (old, old-block k old)
      | inr past ↦ inr (λ used. none-unused p b a.fresh (subst (λ x. IsUsed p x) (is-new k less past) used))
    ];
    others = λ x used other. a.others x (λ e. none-unused p b a.fresh (subst (λ y. IsUsed p y) e used)) (λ e. other (old_blocks - 1) (omega arith) (sym last-is ∙ sym e));
    free = let m = one-more in omega arith;
  }

  pub longer-bytes : file_bytes q longer_chain ≡ overwritten (file_bytes p c) c.size bs
  longer-bytes =
      bytes-put p q c longer_chain c.size bs (omega arith) (omega arith)
      (λ i less outside.
      let inside : i / 4096 < old_blocks = index-lt i c.size less in
      ap (λ x. get_or (bytes_of q x) (i % 4096) 0) (old-block (i / 4096) inside) ∙ ap (λ l. get_or l (i % 4096) 0) (bytes-old (block_in p c (i / 4096)) (not-new (i / 4096) inside)))
      (λ i less.
      let index : (c.size + i) / 4096 ≡ old_blocks = omega arith in
      let rest : (c.size + i) % 4096 ≡ i = omega arith in
      ap (λ k. get_or (bytes_of q (block_in q longer_chain k)) ((c.size + i) % 4096) 0) index
      ∙ (ap (λ x. get_or (bytes_of q x) ((c.size + i) % 4096) 0) new-block
      ∙ (ap (λ o. get_or (bytes_in o) ((c.size + i) % 4096) 0) a.new ∙ (ap (λ j. get_or (overwritten zeros 0 bs) j 0) rest ∙ first-bytes bs i less))))
