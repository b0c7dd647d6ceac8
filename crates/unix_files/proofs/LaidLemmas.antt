-- What stays of all chains where the blocks of one of them change.
use Rattle.std.proofs.Common.{◌≡◌, ◌≢◌, ℕ, zero, suc, ◌+◌, ◌*◌, ◌-◌, ◌/◌, ◌%◌, ◌<◌, ◌≤◌, List, [], ◌∷◌, map, length, get_or, set, replicate, cond, None, refl, ap, sym, ◌∙◌, subst, inl, inr, arith, unwrap_or, option_and_then}
use Rattle.std.specs.List.{range_with_len}
use Rattle.std.specs.Option.{IsSome}
use Rattle.std.specs.Option.{is_none}
use Rattle.std.proofs.Math.ListN.{get_or-map}
use Rattle.std.proofs.Math.Seq.{map-set_same}
use Rattle.std.proofs.lemmas.List.Folds.{sum_by-replicate}
use Rattle.std.proofs.lemmas.Bool.{cases_eq}
use Rattle.std.proofs.lemmas.List.{get_or-set_same, get_or-set_other, length-map, length-replicate}
use Rattle.std.proofs.lemmas.List.FromFn.{length-map-range_with_len, get_or-map-range_with_len}
use Rattle.block_pool.specs.Blocks.{Pool, IsSound, IsUsed, next_of, block_at, bytes_in, free_count, untouched}
use Rattle.unix_definition.specs.Files.{blocks_for}
use Rattle.unix_files.specs.Stored.{Contents, file_at, with_file, IsChain, IsLaid, Changes, blocks_in, block_in, byte_of, file_bytes, chain_at, contents_of, empty_chain, looked_up}
use Rattle.unix_files.specs.declared.chain.Chain.{Chain}
use Rattle.unix_files.proofs.ChainLemmas.{block_after-start, block_after-suc}

-- each block of a chain is as it was
pub record KeepsChain (p q : Pool) (c : Chain) : Type 0 where
  pub blocks : (k : ℕ) → k < blocks_in c → block_at q (block_in p c k) ≡ block_at p (block_in p c k)

pub index-lt : (i n : ℕ) → i < n → i / 4096 < blocks_for n
index-lt i n h = omega arith

pub kept-block : (p q : Pool) (c : Chain) → KeepsChain p q c → (k : ℕ) → k ≤ blocks_in c → block_in q c k ≡ block_in p c k
kept-block p q c keeps zero le = block_after-start q c.first ∙ sym (block_after-start p c.first)
kept-block p q c keeps (suc k) le =
    let before : block_in q c k ≡ block_in p c k = kept-block p q c keeps k (omega arith) in
    block_after-suc q c.first k
    ∙ (ap (λ b. unwrap_or (next_of q b) 0) before
    ∙ (ap (λ o. unwrap_or (option_and_then (λ x. x.next) o) 0) (keeps.blocks k (omega arith)) ∙ sym (block_after-suc p c.first k)))

pub kept-at : (p q : Pool) (c : Chain) → KeepsChain p q c → (k : ℕ) → k < blocks_in c → block_at q (block_in q c k) ≡ block_at p (block_in p c k)
kept-at p q c keeps k less = ap (block_at q) (kept-block p q c keeps k (omega arith)) ∙ keeps.blocks k less

pub kept-chain : (p q : Pool) (c : Chain) → KeepsChain p q c → IsChain p c → IsChain q c
kept-chain p q c keeps h = record {
  used = λ k less. subst (λ o. IsSome o) (sym (kept-at p q c keeps k less)) (h.used k less);
  once = λ k j kin jin same. h.once k j kin jin (sym (kept-block p q c keeps k (omega arith)) ∙ (same ∙ kept-block p q c keeps j (omega arith)));
  last = λ some. h.last some ∙ sym (kept-block p q c keeps (blocks_in c - 1) (omega arith));
  near_within = h.near_within;
  near = h.near ∙ sym (kept-block p q c keeps c.near_index (let w = h.near_within in omega arith));
  marks_all = h.marks_all;
  marks = λ k few less. h.marks k few less ∙ sym (kept-block p q c keeps (256 * k) (omega arith));
}

pub map_range-cong : (f g : ℕ → ℕ) (a n : ℕ) → ((i : ℕ) → a ≤ i → i < a + n → f i ≡ g i) → map f (range_with_len a n) ≡ map g (range_with_len a n)
map_range-cong f g a zero same = refl
map_range-cong f g a (suc n) same =
    let here : f a ≡ g a = same a (omega arith) (omega arith) in
    let rest : map f (range_with_len (a + 1) n) ≡ map g (range_with_len (a + 1) n) = map_range-cong f g (a + 1) n (λ i low high. same i (omega arith) (omega arith)) in
    cc

-- the bytes of a file, from what its chain has at each place
pub file_bytes-cong : (p q : Pool) (c d : Chain) → d.size ≡ c.size → ((i : ℕ) → i < c.size → byte_of q d i ≡ byte_of p c i) → file_bytes q d ≡ file_bytes p c
unfolding file_bytes
file_bytes-cong p q c d size same =
    ap (λ n. map (byte_of q d) (range_with_len 0 n)) size ∙ map_range-cong (byte_of q d) (byte_of p c) 0 c.size (λ i low high. same i (omega arith))

pub length-file_bytes : (p : Pool) (c : Chain) → length (file_bytes p c) ≡ c.size
unfolding file_bytes
length-file_bytes p c = length-map-range_with_len (byte_of p c) 0 c.size

pub get_or-file_bytes : (p : Pool) (c : Chain) (i : ℕ) → i < c.size → get_or (file_bytes p c) i 0 ≡ byte_of p c i
unfolding file_bytes
get_or-file_bytes p c i less = get_or-map-range_with_len (byte_of p c) 0 c.size i i 0 less (omega arith)

pub file_bytes-empty : (p : Pool) → file_bytes p empty_chain ≡ []
unfolding file_bytes
file_bytes-empty p = refl

pub kept-bytes : (p q : Pool) (c : Chain) → KeepsChain p q c → file_bytes q c ≡ file_bytes p c
kept-bytes p q c keeps = file_bytes-cong p q c c refl (λ i less. ap (λ o. get_or (bytes_in o) (i % 4096) 0) (kept-at p q c keeps (i / 4096) (index-lt i c.size less)))

-- a list of chains of which one changes
pub map-set_one : (f g : Chain → List ℕ) (chains : List Chain) (n : ℕ) (d : Chain) → ((m : ℕ) → m ≢ n → m < length chains → g (get_or chains m empty_chain) ≡ f (get_or chains m empty_chain)) → map g (set chains n d) ≡ set (map f chains) n (g d)
map-set_one f g [] n d same = refl
map-set_one f g (c ∷ chains) zero d same = ap (λ l. g d ∷ l) (map-all chains (λ m less. same (suc m) (λ e. absurd (omega arith)) (omega arith))) where
  map-all : (cs : List Chain) → ((m : ℕ) → m < length cs → g (get_or cs m empty_chain) ≡ f (get_or cs m empty_chain)) → map g cs ≡ map f cs
  map-all [] all = refl
  map-all (x ∷ cs) all =
      let here : g x ≡ f x = all 0 (omega arith) in
      let rest : map g cs ≡ map f cs = map-all cs (λ m less. all (suc m) (omega arith)) in
      cc
map-set_one f g (c ∷ chains) (suc n) d same =
    let here : g c ≡ f c = same 0 (λ e. absurd (omega arith)) (omega arith) in
    let rest : map g (set chains n d) ≡ set (map f chains) n (g d) = map-set_one f g chains n d (λ m other less. same (suc m) (λ e. other (omega arith)) (omega arith)) in
    cc

module _ (p q : Pool) (chains : List Chain) (n : ℕ) (d : Chain) where
  abbrev after : List Chain
  after = set chains n d

  at_same : n < length chains → (m : ℕ) → m ≡ n → chain_at after m ≡ d
  at_same within m e = ap (λ k. chain_at after k) e ∙ get_or-set_same chains n d empty_chain within

  at_other : (m : ℕ) → m ≢ n → chain_at after m ≡ chain_at chains m
  at_other m other = get_or-set_other chains n m d empty_chain other

  -- the blocks of the other chains are as they were
  pub keeps-others : IsLaid p chains → Changes p q (chain_at chains n) d → (m : ℕ) → m ≢ n → KeepsChain p q (chain_at chains m)
  keeps-others h change m other = record {
    blocks = λ k less. change.others (block_in p (chain_at chains m) k) ((h.whole m).used k less) (λ j within same. h.apart n m j k (λ e. other (sym e)) within less same);
  }

  -- a block of the changed chain is no block of another one
  fresh-block : IsLaid p chains → Changes p q (chain_at chains n) d → (m k j : ℕ) → m ≢ n → k < blocks_in d → j < blocks_in (chain_at chains m) → block_in q d k ≢ block_in p (chain_at chains m) j
  fresh-block h change m k j other kin jin same = elim (change.source k kin) [
    | inl old ↦ h.apart n m k j (λ e. other (sym e)) old.0 jin (sym old.1 ∙ same)
    | inr free ↦ free (subst (λ b. IsUsed p b) (sym same) ((h.whole m).used j jin))
  ]

  pub IsLaid-set : n < length chains → IsLaid p chains → Changes p q (chain_at chains n) d → IsLaid q after
  IsLaid-set within h change = record {
    sound = change.sound;
    whole = λ m. elim (cases_eq m n) [
      | inl e ↦ subst (λ x. IsChain q x) (sym (at_same within m e)) change.whole
      | inr other ↦ subst (λ x. IsChain q x) (sym (at_other m other)) (kept-chain p q (chain_at chains m) (keeps-others h change m other) (h.whole m))
    ];
    apart = λ m m' k j differ less less' same. elim (cases_eq m n) [
      | inl e ↦
          let other : m' ≢ n = λ e'. differ (e ∙ sym e') in
          let here : chain_at after m ≡ d = at_same within m e in
          let there' : chain_at after m' ≡ chain_at chains m' = at_other m' other in
          let k_in : k < blocks_in d = subst (λ x. k < blocks_in x) here less in
          let j_in : j < blocks_in (chain_at chains m') = subst (λ x. j < blocks_in x) there' less' in
          let eq : block_in q d k ≡ block_in p (chain_at chains m') j =
          ap (λ x. block_in q x k) (sym here) ∙ (same ∙ (ap (λ x. block_in q x j) there' ∙ kept-block p q (chain_at chains m') (keeps-others h change m' other) j (omega arith))) in
          fresh-block h change m' k j other k_in j_in eq
      | inr other ↦ elim (cases_eq m' n) [
        | inl e' ↦
            let here : chain_at after m ≡ chain_at chains m = at_other m other in
            let there' : chain_at after m' ≡ d = at_same within m' e' in
            let k_in : k < blocks_in (chain_at chains m) = subst (λ x. k < blocks_in x) here less in
            let j_in : j < blocks_in d = subst (λ x. j < blocks_in x) there' less' in
            let eq : block_in q d j ≡ block_in p (chain_at chains m) k =
            ap (λ x. block_in q x j) (sym there') ∙ (sym same ∙ (ap (λ x. block_in q x k) here ∙ kept-block p q (chain_at chains m) (keeps-others h change m other) k (omega arith))) in
            fresh-block h change m j k other j_in k_in eq
        | inr other' ↦
            let here : chain_at after m ≡ chain_at chains m = at_other m other in
            let there' : chain_at after m' ≡ chain_at chains m' = at_other m' other' in
            let k_in : k < blocks_in (chain_at chains m) = subst (λ x. k < blocks_in x) here less in
            let j_in : j < blocks_in (chain_at chains m') = subst (λ x. j < blocks_in x) there' less' in
            let eq : block_in p (chain_at chains m) k ≡ block_in p (chain_at chains m') j =
            sym (kept-block p q (chain_at chains m) (keeps-others h change m other) k (omega arith)) ∙ (ap (λ x. block_in q x k) (sym here)
            ∙ (same ∙ (ap (λ x. block_in q x j) there' ∙ kept-block p q (chain_at chains m') (keeps-others h change m' other') j (omega arith)))) in
            h.apart m m' k j differ k_in j_in eq
      ]
    ];
  }

  -- and the bytes of the others are as they were
  pub files-set : ((m : ℕ) → m ≢ n → KeepsChain p q (chain_at chains m)) → map (file_bytes q) after ≡ set (map (file_bytes p) chains) n (file_bytes q d)
  files-set keeps = map-set_one (file_bytes p) (file_bytes q) chains n d (λ m other less. kept-bytes p q (chain_at chains m) (keeps m other))

-- a file as a caller sees it
pub file_at-chain : (p : Pool) (chains : List Chain) (n : ℕ) → file_at (contents_of p chains) n ≡ file_bytes p (chain_at chains n)
file_at-chain p chains n =
    ap (λ e. get_or (map (file_bytes p) chains) n e) (sym (file_bytes-empty p)) ∙ get_or-map (file_bytes p) chains n empty_chain

pub length-file_at : (p : Pool) (chains : List Chain) (n : ℕ) → length (file_at (contents_of p chains) n) ≡ (chain_at chains n).size
length-file_at p chains n = ap length (file_at-chain p chains n) ∙ length-file_bytes p (chain_at chains n)

pub length-files : (p : Pool) (chains : List Chain) → length (contents_of p chains).files ≡ length chains
length-files p chains = length-map chains (file_bytes p)

-- the contents after a change of one file
pub contents-set : (p q : Pool) (chains : List Chain) (n : ℕ) (d : Chain) (bytes : List ℕ) → IsLaid p chains → Changes p q (chain_at chains n) d → file_bytes q d ≡ bytes → contents_of q (set chains n d) ≡ with_file (contents_of p chains) n bytes
contents-set p q chains n d bytes h change is =
    let files : map (file_bytes q) (set chains n d) ≡ set (map (file_bytes p) chains) n bytes = files-set p q chains n d (keeps-others p q chains n d h change) ∙ ap (set (map (file_bytes p) chains) n) is in
    let before : length (file_at (contents_of p chains) n) ≡ (chain_at chains n).size = length-file_at p chains n in
    let after' : length bytes ≡ d.size = ap length (sym is) ∙ length-file_bytes q d in
    let change_free : free_count q + blocks_in d ≡ free_count p + blocks_in (chain_at chains n) = change.free in
    let count : free_count q ≡ free_count p + blocks_for (length (file_at (contents_of p chains) n)) - blocks_for (length bytes) = rw (before, after') (omega arith) in
    rw (files, count) refl

-- a chain that looked up one of its blocks
pub IsChain-looked_up : (p : Pool) (c : Chain) (k : ℕ) → IsChain p c → k < blocks_in c → IsChain p (looked_up p c k)
IsChain-looked_up p c k h within = record { used = h.used; once = h.once; last = h.last; near_within = omega arith; near = refl; marks_all = h.marks_all; marks = h.marks }

pub Changes-looked_up : (p : Pool) (c : Chain) (k : ℕ) → IsSound p → IsChain p c → k < blocks_in c → Changes p p c (looked_up p c k)
Changes-looked_up p c k sound h within = record {
  sound = sound;
  whole = IsChain-looked_up p c k h within;
  source = λ j less. inl (less, refl);
  others = λ b used other. refl;
  free = refl;
}

pub contents-looked_up : (p : Pool) (chains : List Chain) (n k : ℕ) → contents_of p (set chains n (looked_up p (chain_at chains n) k)) ≡ contents_of p chains
unfolding file_bytes
contents-looked_up p chains n k = let e : map (file_bytes p) (set chains n (looked_up p (chain_at chains n) k)) ≡ map (file_bytes p) chains = map-set_same (file_bytes p) chains n (looked_up p (chain_at chains n) k) empty_chain refl in rw e refl

pub IsLaid-looked_up : (p : Pool) (chains : List Chain) (n k : ℕ) → n < length chains → IsLaid p chains → k < blocks_in (chain_at chains n) → IsLaid p (set chains n (looked_up p (chain_at chains n) k))
IsLaid-looked_up p chains n k within h less = IsLaid-set p p chains n (looked_up p (chain_at chains n) k) within h (Changes-looked_up p (chain_at chains n) k h.sound (h.whole n) less)

-- no chain has a block
no_blocks : (k : ℕ) → k < blocks_in empty_chain → ⊥
no_blocks k less = absurd (omega arith)

IsChain-empty : (p : Pool) → IsChain p empty_chain
IsChain-empty p = record {
  used = λ k less. absurd (no_blocks k less);
  once = λ k j less _ _. absurd (no_blocks k less);
  last = λ some. absurd (no_blocks 0 some);
  near_within = omega arith;
  near = sym (block_after-start p 0);
  marks_all = let z : ℕ = 0 in length-replicate 256 z;
  marks = λ k few less. absurd (no_blocks (256 * k) less);
}

pub IsLaid-empty : (p : Pool) (chains : List Chain) → IsSound p → ((n : ℕ) → chain_at chains n ≡ empty_chain) → IsLaid p chains
IsLaid-empty p chains sound empty = record {
  sound = sound;
  whole = λ n. subst (λ x. IsChain p x) (sym (empty n)) (IsChain-empty p);
  apart = λ n m k j differ less _ _. no_blocks k (subst (λ x. k < blocks_in x) (empty n) less);
}

pub empty-replicate : (count n : ℕ) → chain_at (replicate count empty_chain) n ≡ empty_chain
empty-replicate zero n = refl
empty-replicate (suc count) zero = refl
empty-replicate (suc count) (suc n) = empty-replicate count n

pub files-replicate : (p : Pool) (count : ℕ) → map (file_bytes p) (replicate count empty_chain) ≡ replicate {A = List ℕ} count []
files-replicate p zero = refl
files-replicate p (suc count) =
    let here : file_bytes p empty_chain ≡ [] = file_bytes-empty p in
    let rest : map (file_bytes p) (replicate count empty_chain) ≡ replicate {A = List ℕ} count [] = files-replicate p count in
    cc

-- all blocks of a new pool are free
pub free-untouched : (n : ℕ) → free_count (untouched n) ≡ n
free-untouched n = sum_by-replicate (λ o. cond (is_none o) 1 0) n None ∙ omega arith

-- what a caller knows of the files, said of their chains
module _ (p : Pool) (chains : List Chain) (v : Contents) (is : contents_of p chains ≡ v) where
  pub file-within : (n : ℕ) → n < length v.files → n < length chains
  file-within n h = let e : length v.files ≡ length chains = ap (λ x. length x.files) (sym is) ∙ length-files p chains in omega arith

  pub file-size : (n : ℕ) → length (file_at v n) ≡ (chain_at chains n).size
  file-size n = ap (λ x. length (file_at x n)) (sym is) ∙ length-file_at p chains n

  pub file-bytes : (n : ℕ) → file_at v n ≡ file_bytes p (chain_at chains n)
  file-bytes n = ap (λ x. file_at x n) (sym is) ∙ file_at-chain p chains n

  pub file-block : (n at : ℕ) → at < length (file_at v n) → at / 4096 < blocks_in (chain_at chains n)
  file-block n at h = index-lt at (chain_at chains n).size (let e = file-size n in omega arith)

  pub file-byte : (n at : ℕ) → at < length (file_at v n) → get_or (file_at v n) at 0 ≡ byte_of p (chain_at chains n) at
  file-byte n at h = ap (λ l. get_or l at 0) (file-bytes n) ∙ get_or-file_bytes p (chain_at chains n) at (let e = file-size n in omega arith)

  -- a change of one file, as a caller sees it
  pub stored-set : (q : Pool) (n : ℕ) (d : Chain) (f : List ℕ → List ℕ) → IsLaid p chains → Changes p q (chain_at chains n) d → file_bytes q d ≡ f (file_bytes p (chain_at chains n)) → contents_of q (set chains n d) ≡ with_file v n (f (file_at v n))
  stored-set q n d f h change bytes =
      contents-set p q chains n d (f (file_bytes p (chain_at chains n))) h change bytes
      ∙ (ap (λ x. with_file x n (f (file_bytes p (chain_at chains n)))) is ∙ ap (λ l. with_file v n (f l)) (sym (file-bytes n)))
