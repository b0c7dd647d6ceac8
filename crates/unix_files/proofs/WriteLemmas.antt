-- How bytes that are written into a block, and a block that is put behind a chain, change a file.
use Rattle.std.proofs.Common.{◌≡◌, ◌≢◌, ℕ, zero, suc, ◌+◌, ◌*◌, ◌-◌, ◌/◌, ◌%◌, ◌<◌, ◌≤◌, List, ◌++◌, ◌⊎◌, map, length, take, drop, get_or, Option, Some, None, refl, ap, sym, ◌∙◌, subst, inl, inr, arith, unwrap_or, option_and_then}
use Rattle.std.specs.List.{range_with_len}
use Rattle.std.specs.Option.{IsSome}
use Rattle.std.proofs.lemmas.Bool.{cases_eq, cases_lt}
use Rattle.std.proofs.lemmas.List.{get_or-set_same, get_or-set_other, get_or_append_left, get_or-append_right, get_or-take, get_or-drop, length-append, length-take-le, length-drop}
use Rattle.std.proofs.lemmas.List.FromFn.{fill_by_all}
use Rattle.block_pool.specs.Blocks.{Pool, IsSound, IsUsed, next_of, block_at, bytes_of, bytes_in, free_count, with_block, with_bytes}
use Rattle.unix_definition.specs.Files.{blocks_for}
use Rattle.unix_files.specs.Stored.{block_after, IsChain, Changes, blocks_in, block_in, byte_of, file_bytes, overwritten, looked_up}
use Rattle.unix_files.specs.declared.chain.Chain.{Chain}
use Rattle.unix_files.proofs.ChainLemmas.{block_after-start, block_after-suc}
use Rattle.unix_files.proofs.LaidLemmas.{length-file_bytes, get_or-file_bytes, index-lt, IsChain-looked_up}
use Rattle.block_pool.proofs.PoolLemmas.{used-lt-length}

pub at-with_block : (p : Pool) (b : ℕ) (bytes : List ℕ) (next : Option ℕ) → IsUsed p b → block_at (with_block p b bytes next) b ≡ Some (record { bytes = bytes; next = next })
at-with_block p b bytes next used = get_or-set_same p.blocks b (Some (record { bytes = bytes; next = next })) None (used-lt-length p.blocks b used)

pub other-with_block : (p : Pool) (b : ℕ) (bytes : List ℕ) (next : Option ℕ) (x : ℕ) → x ≢ b → block_at (with_block p b bytes next) x ≡ block_at p x
other-with_block p b bytes next x other = get_or-set_other p.blocks b x (Some (record { bytes = bytes; next = next })) None other

-- other bytes change no link, and leave what is in use
pub links-with_bytes : (p : Pool) (b : ℕ) (bytes : List ℕ) → IsUsed p b → (x : ℕ) → next_of (with_bytes p b bytes) x ≡ next_of p x
links-with_bytes p b bytes used x = elim (cases_eq x b) [
  | inl e ↦ ap (λ y. next_of (with_bytes p b bytes) y) e ∙ (ap (λ o. option_and_then (λ k. k.next) o) (at-with_block p b bytes (next_of p b) used) ∙ ap (next_of p) (sym e))
  | inr other ↦ ap (λ o. option_and_then (λ k. k.next) o) (other-with_block p b bytes (next_of p b) x other)
]

pub used-with_block : (p : Pool) (b : ℕ) (bytes : List ℕ) (next : Option ℕ) (x : ℕ) → IsUsed p b → IsUsed p x → IsUsed (with_block p b bytes next) x
used-with_block p b bytes next x used h = elim (cases_eq x b) [
  | inl e ↦ subst (λ y. IsUsed (with_block p b bytes next) y) (sym e) (subst (λ o. IsSome o) (sym (at-with_block p b bytes next used)) refl)
  | inr other ↦ subst (λ o. IsSome o) (sym (other-with_block p b bytes next x other)) h
]

-- chains that go the same way
pub same-blocks : (p q : Pool) → ((x : ℕ) → next_of q x ≡ next_of p x) → (first k : ℕ) → block_after q first k ≡ block_after p first k
same-blocks p q links first zero = block_after-start q first ∙ sym (block_after-start p first)
same-blocks p q links first (suc k) =
    block_after-suc q first k
    ∙ (ap (λ b. unwrap_or (next_of q b) 0) (same-blocks p q links first k) ∙ (ap (λ o. unwrap_or o 0) (links (block_after p first k)) ∙ sym (block_after-suc p first k)))

pub same-chain : (p q : Pool) (c : Chain) → ((x : ℕ) → next_of q x ≡ next_of p x) → ((x : ℕ) → IsUsed p x → IsUsed q x) → IsChain p c → IsChain q c
same-chain p q c links used h = record {
  used = λ k less. subst (λ b. IsUsed q b) (sym (same-blocks p q links c.first k)) (used (block_in p c k) (h.used k less));
  once = λ k j kin jin same. h.once k j kin jin (sym (same-blocks p q links c.first k) ∙ (same ∙ same-blocks p q links c.first j));
  last = λ some. h.last some ∙ sym (same-blocks p q links c.first (blocks_in c - 1));
  near_within = h.near_within;
  near = h.near ∙ sym (same-blocks p q links c.first c.near_index);
  marks_all = h.marks_all;
  marks = λ k few less. h.marks k few less ∙ sym (same-blocks p q links c.first (256 * k));
}

-- the same blocks with another number of bytes
abbrev pub of_size : Chain → ℕ → Chain
of_size c size = record { first = c.first; last = c.last; near = c.near; near_index = c.near_index; marks = c.marks; size = size }

pub IsChain-of_size : (p : Pool) (c : Chain) (size : ℕ) → blocks_for size ≡ blocks_in c → IsChain p c → IsChain p (of_size c size)
IsChain-of_size p c size same h = record {
  used = λ k less. h.used k (subst (λ n. k < n) same less);
  once = λ k j kin jin. h.once k j (subst (λ n. k < n) same kin) (subst (λ n. j < n) same jin);
  last = λ some. h.last (subst (λ n. 0 < n) same some) ∙ ap (λ n. block_in p c (n - 1)) (sym same);
  near_within = subst (λ n. c.near_index ≤ n - 1) (sym same) h.near_within;
  near = h.near;
  marks_all = h.marks_all;
  marks = λ k few less. h.marks k few (subst (λ n. 256 * k < n) same less);
}

-- Bytes that are overwritten: before those that are new, these, and behind them.
pub overwritten-before : (xs new : List ℕ) (k j : ℕ) → k ≤ length xs → j < k → get_or (overwritten xs k new) j 0 ≡ get_or xs j 0
overwritten-before xs new k j within less =
    let front : length (take k xs) ≡ k = length-take-le k xs within in
    let both : length (take k xs ++ new) ≡ k + length new = length-append (take k xs) new ∙ ap (λ n. n + length new) front in
    get_or_append_left (take k xs ++ new) (drop (k + length new) xs) 0 j (omega arith) ∙ (get_or_append_left (take k xs) new 0 j (omega arith) ∙ get_or-take k xs j 0 less)

pub overwritten-new : (xs new : List ℕ) (k i : ℕ) → k ≤ length xs → i < length new → get_or (overwritten xs k new) (k + i) 0 ≡ get_or new i 0
overwritten-new xs new k i within less =
    let front : length (take k xs) ≡ k = length-take-le k xs within in
    let both : length (take k xs ++ new) ≡ k + length new = length-append (take k xs) new ∙ ap (λ n. n + length new) front in
    let place : k + i - k ≡ i = omega arith in
    get_or_append_left (take k xs ++ new) (drop (k + length new) xs) 0 (k + i) (omega arith) ∙ (get_or-append_right (take k xs) new k (k + i) 0 front (omega arith) ∙ ap (λ n. get_or new n 0) place)

pub overwritten-after : (xs new : List ℕ) (k j : ℕ) → k ≤ length xs → k + length new ≤ j → get_or (overwritten xs k new) j 0 ≡ get_or xs j 0
overwritten-after xs new k j within more =
    let front : length (take k xs) ≡ k = length-take-le k xs within in
    let both : length (take k xs ++ new) ≡ k + length new = length-append (take k xs) new ∙ ap (λ n. n + length new) front in
    let place : k + length new + (j - (k + length new)) ≡ j = omega arith in
    get_or-append_right (take k xs ++ new) (drop (k + length new) xs) (k + length new) j 0 both more ∙ (get_or-drop (k + length new) xs (j - (k + length new)) 0 ∙ ap (λ n. get_or xs n 0) place)

pub length-overwritten : (xs new : List ℕ) (k : ℕ) → k ≤ length xs → length (overwritten xs k new) ≡ length xs + (k + length new - length xs)
length-overwritten xs new k within =
    omega (arith, length-append (take k xs ++ new) (drop (k + length new) xs), length-append (take k xs) new, length-take-le k xs within, length-drop (k + length new) xs)

-- a place is not among the new ones
abbrev pub Outside : ℕ → ℕ → ℕ → Type 0
Outside at n i = (i < at) ⊎ (at + n ≤ i)

-- Bytes of a chain's block are written.
module _ (p : Pool) (c : Chain) (at : ℕ) (new : List ℕ) (sound : IsSound p) (h : IsChain p c) (within : at / 4096 < blocks_in c) (fits : at % 4096 + length new ≤ 4096) where
  abbrev pub written_block : ℕ
  written_block = block_in p c (at / 4096)

  abbrev pub written_bytes : List ℕ
  written_bytes = overwritten (bytes_of p written_block) (at % 4096) new

  abbrev pub written_pool : Pool
  written_pool = with_bytes p written_block written_bytes

  is_used : IsUsed p written_block
  is_used = h.used (at / 4096) within

  inside_block : at % 4096 ≤ length (bytes_of p written_block)
  inside_block = let sized : length (bytes_of p written_block) ≡ 4096 = sound.sized written_block in omega arith

  links : (x : ℕ) → next_of written_pool x ≡ next_of p x
  links = links-with_bytes p written_block written_bytes is_used

  pub written-chain : IsChain written_pool c
  written-chain = same-chain p written_pool c links (λ x used. used-with_block p written_block written_bytes (next_of p written_block) x is_used used) h

  pub written-in : (k : ℕ) → block_in written_pool c k ≡ block_in p c k
  written-in k = same-blocks p written_pool links c.first k

  pub written-byte : (i : ℕ) → i < length new → byte_of written_pool c (at + i) ≡ get_or new i 0
  written-byte i less =
      let index : (at + i) / 4096 ≡ at / 4096 = omega arith in
      let place : (at + i) % 4096 ≡ at % 4096 + i = omega arith in
      ap (λ k. get_or (bytes_of written_pool (block_in written_pool c k)) ((at + i) % 4096) 0) index
      ∙ (ap (λ b. get_or (bytes_of written_pool b) ((at + i) % 4096) 0) (written-in (at / 4096))
      ∙ (ap (λ o. get_or (bytes_in o) ((at + i) % 4096) 0) (at-with_block p written_block written_bytes (next_of p written_block) is_used)
      ∙ (ap (λ j. get_or written_bytes j 0) place ∙ overwritten-new (bytes_of p written_block) new (at % 4096) i inside_block less)))

  same-place : (i : ℕ) → Outside at (length new) i → i / 4096 ≡ at / 4096 → get_or written_bytes (i % 4096) 0 ≡ get_or (bytes_of p written_block) (i % 4096) 0
  same-place i (inl low) index = overwritten-before (bytes_of p written_block) new (at % 4096) (i % 4096) inside_block (omega arith)
  same-place i (inr high) index = overwritten-after (bytes_of p written_block) new (at % 4096) (i % 4096) inside_block (omega arith)

  pub other-byte : (i : ℕ) → Outside at (length new) i → i / 4096 < blocks_in c → byte_of written_pool c i ≡ byte_of p c i
  other-byte i outside inside =
      ap (λ b. get_or (bytes_of written_pool b) (i % 4096) 0) (written-in (i / 4096))
      ∙ elim (cases_eq (block_in p c (i / 4096)) written_block) as (λ _. get_or (bytes_of written_pool (block_in p c (i / 4096))) (i % 4096) 0 ≡ byte_of p c i) [
        | inl e ↦
            let index : i / 4096 ≡ at / 4096 = h.once (i / 4096) (at / 4096) inside within e in
            ap (λ b. get_or (bytes_of written_pool b) (i % 4096) 0) e
            ∙ (ap (λ o. get_or (bytes_in o) (i % 4096) 0) (at-with_block p written_block written_bytes (next_of p written_block) is_used)
            ∙ (same-place i outside index ∙ ap (λ b. get_or (bytes_of p b) (i % 4096) 0) (sym e)))
        | inr apart ↦ ap (λ o. get_or (bytes_in o) (i % 4096) 0) (other-with_block p written_block written_bytes (next_of p written_block) (block_in p c (i / 4096)) apart)
      ]

  pub written-changes : (d : Chain) → d.first ≡ c.first → blocks_in d ≡ blocks_in c → IsSound written_pool → free_count written_pool ≡ free_count p → IsChain written_pool d → Changes p written_pool c d
  written-changes d first same sound' free whole = record {
    sound = sound';
    whole = whole;
    source = λ k less. inl (subst (λ n. k < n) same less, ap (λ f. block_after written_pool f k) first ∙ same-blocks p written_pool links c.first k);
    others = λ b used other. other-with_block p written_block written_bytes (next_of p written_block) b (λ e. other (at / 4096) within (sym e));
    free = omega arith;
  }

-- the bytes of a file of which some are written, from one that is there on or behind the last one
pub bytes-put : (p q : Pool) (c d : Chain) (at : ℕ) (new : List ℕ) → at ≤ c.size → d.size ≡ c.size + (at + length new - c.size) → ((i : ℕ) → i < c.size → Outside at (length new) i → byte_of q d i ≡ byte_of p c i) → ((i : ℕ) → i < length new → byte_of q d (at + i) ≡ get_or new i 0)
    → file_bytes q d ≡ overwritten (file_bytes p c) at new
unfolding file_bytes
bytes-put p q c d at new within size same fresh =
    let long : length (file_bytes p c) ≡ c.size = length-file_bytes p c in
    let inside : at ≤ length (file_bytes p c) = omega arith in
    let all_long : length (overwritten (file_bytes p c) at new) ≡ d.size = length-overwritten (file_bytes p c) new at inside ∙ (ap (λ n. n + (at + length new - n)) long ∙ sym size) in
    let all : overwritten (file_bytes p c) at new ≡ map (byte_of q d) (range_with_len 0 d.size) = fill_by_all (byte_of q d) (overwritten (file_bytes p c) at new) d.size 0 all_long (λ i less. elim (cases_lt i at) [
      | inl low ↦ overwritten-before (file_bytes p c) new at i inside low ∙ (get_or-file_bytes p c i (omega arith) ∙ sym (same i (omega arith) (inl low)))
      | inr from ↦ elim (cases_lt i (at + length new)) [
        | inl among ↦
            let e : at + (i - at) ≡ i = omega arith in
            ap (λ k. get_or (overwritten (file_bytes p c) at new) k 0) (sym e) ∙ (overwritten-new (file_bytes p c) new at (i - at) inside (omega arith) ∙ (sym (fresh (i - at) (omega arith)) ∙ ap (byte_of q d) e))
        | inr high ↦ overwritten-after (file_bytes p c) new at i inside high ∙ (get_or-file_bytes p c i (omega arith) ∙ sym (same i (omega arith) (inr high)))
      ]
    ]) in
    sym all

-- The chain whose block was looked up and written, as a file.
module _ (p : Pool) (c : Chain) (at : ℕ) (new : List ℕ) (sound : IsSound p) (h : IsChain p c) (within : at / 4096 < blocks_in c) (fits : at % 4096 + length new ≤ 4096) where
  abbrev q : Pool
  q = written_pool p c at new sound h within fits

  abbrev pub size_after : ℕ
  size_after = c.size + (at + length new - c.size)

  abbrev pub found : Chain
  found = looked_up p c (at / 4096)

  size-same : blocks_for size_after ≡ blocks_in c
  size-same = omega arith

  pub chain-written : IsChain q (of_size found size_after)
  chain-written =
      let near : looked_up q c (at / 4096) ≡ found = ap (λ b. record { first = c.first; last = c.last; near = b; near_index = at / 4096; marks = c.marks; size = c.size }) (written-in p c at new sound h within fits (at / 4096)) in
      let whole : IsChain q found = subst (λ x. IsChain q x) near (IsChain-looked_up q c (at / 4096) (written-chain p c at new sound h within fits) within) in
      IsChain-of_size q found size_after size-same whole

  pub changes-written : IsSound q → free_count q ≡ free_count p → Changes p q c (of_size found size_after)
  changes-written sound' free = written-changes p c at new sound h within fits (of_size found size_after) refl size-same sound' free chain-written

  pub bytes-written : at ≤ c.size → file_bytes q (of_size found size_after) ≡ overwritten (file_bytes p c) at new
  bytes-written inside =
      bytes-put p q c (of_size found size_after) at new inside refl (λ i less outside. other-byte p c at new sound h within fits i outside (index-lt i c.size less)) (written-byte p c at new sound h within fits)
