-- A chain loses its last blocks.
use Rattle.std.proofs.Common.{◌≡◌, ◌≢◌, ℕ, ◌+◌, ◌-◌, ◌<◌, ◌≤◌, take, refl, ap, sym, ◌∙◌, subst, inl, arith}
use Rattle.std.proofs.lemmas.List.FromFn.{take-map-range_with_len}
use Rattle.block_pool.specs.Blocks.{Pool, IsSound, IsUsed, block_at, free_count}
use Rattle.unix_definition.specs.Files.{blocks_for}
use Rattle.unix_files.specs.Stored.{block_after, IsChain, Changes, blocks_in, block_in, byte_of, file_bytes}
use Rattle.unix_files.specs.declared.chain.Chain.{Chain}
use Rattle.unix_files.proofs.ChainLemmas.{block_after-start, block_after-add}
use Rattle.unix_files.proofs.LaidLemmas.{KeepsChain, kept-chain, kept-bytes, kept-block}

abbrev pub cut_to : Chain → ℕ → ℕ → Chain
cut_to c last size = record { first = c.first; last = last; near = c.first; near_index = 0; marks = c.marks; size = size }

pub take-bytes : (p : Pool) (c d : Chain) → d.first ≡ c.first → d.size ≤ c.size → file_bytes p d ≡ take d.size (file_bytes p c)
unfolding file_bytes
take-bytes p c d first le = ap (λ f. file_bytes p (record { first = f; last = d.last; near = d.near; near_index = d.near_index; marks = d.marks; size = d.size })) first ∙ sym (take-map-range_with_len (byte_of p c) 0 c.size d.size le)

module _ (p : Pool) (c : Chain) (size : ℕ) (h : IsChain p c) (fewer : blocks_for size < blocks_in c) where
  abbrev pub kept : ℕ
  kept = blocks_for size

  pub released : (k : ℕ) → block_after p (block_in p c kept) k ≡ block_in p c (kept + k)
  released k = block_after-add p c.first kept k

  pub released-used : (k : ℕ) → k < blocks_in c - kept → IsUsed p (block_after p (block_in p c kept) k)
  released-used k less = subst (λ b. IsUsed p b) (sym (released k)) (h.used (kept + k) (omega arith))

  pub released-once : (k j : ℕ) → k < blocks_in c - kept → j < blocks_in c - kept → block_after p (block_in p c kept) k ≡ block_after p (block_in p c kept) j → k ≡ j
  released-once k j kin jin same =
      let e : kept + k ≡ kept + j = h.once (kept + k) (kept + j) (omega arith) (omega arith) (sym (released k) ∙ (same ∙ released j)) in
      omega arith

module _ (p q : Pool) (c : Chain) (size last : ℕ) (h : IsChain p c) (fewer : blocks_for size < blocks_in c) (end : 0 < blocks_for size → last ≡ block_in p c (blocks_for size - 1))
    (others : (b : ℕ) → ((k : ℕ) → k < blocks_in c - blocks_for size → block_after p (block_in p c (blocks_for size)) k ≢ b) → block_at q b ≡ block_at p b) where
  before : IsChain p (cut_to c last size)
  before = record {
    used = λ k less. h.used k (omega arith);
    once = λ k j kin jin. h.once k j (omega arith) (omega arith);
    last = end;
    near_within = omega arith;
    near = sym (block_after-start p c.first);
    marks_all = h.marks_all;
    marks = λ k few less. h.marks k few (omega arith);
  }

  keeps : KeepsChain p q (cut_to c last size)
  keeps = record {
    blocks = λ k less. others (block_in p c k) (λ j more same.
        let e : blocks_for size + j ≡ k = h.once (blocks_for size + j) k (omega arith) (omega arith) (sym (released p c size h fewer j) ∙ same) in
        absurd (omega arith));
  }

  pub cut-changes : IsSound q → free_count q ≡ free_count p + (blocks_in c - blocks_for size) → Changes p q c (cut_to c last size)
  cut-changes sound free = record {
    sound = sound;
    whole = kept-chain p q (cut_to c last size) keeps before;
    source = λ k less. inl (omega arith, kept-block p q (cut_to c last size) keeps k (omega arith));
    others = λ b used other. others b (λ k more same. other (blocks_for size + k) (omega arith) (sym (released p c size h fewer k) ∙ same));
    free = omega arith;
  }

  pub cut-bytes : size ≤ c.size → file_bytes q (cut_to c last size) ≡ take size (file_bytes p c)
  cut-bytes le = kept-bytes p q (cut_to c last size) keeps ∙ take-bytes p c (cut_to c last size) refl le
