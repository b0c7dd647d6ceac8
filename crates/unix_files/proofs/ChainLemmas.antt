-- Walks along chains of blocks, and what keeps them.
use Rattle.std.proofs.Common.{◌≡◌, ◌≢◌, ℕ, zero, suc, ◌+◌, ◌*◌, ◌-◌, ◌/◌, ◌%◌, ◌<◌, ◌≤◌, List, length, get_or, set, cond, eqb, refl, ap, sym, ◌∙◌, subst, inl, inr, arith, unwrap_or}
use Rattle.std.proofs.lemmas.Bool.{cases_eq, eq-eqb, ne_eqb}
use Rattle.std.proofs.lemmas.List.{get_or-set_same, get_or-set_other, length-set, set_past}
use Rattle.block_pool.specs.Blocks.{Pool, IsUsed, next_of}
use Rattle.unix_files.specs.Stored.{block_after, IsChain, blocks_in, block_in, marked}
use Rattle.unix_files.specs.declared.chain.Chain.{Chain}

pub block_after-start : (p : Pool) (first : ℕ) → block_after p first 0 ≡ first
unfolding block_after
block_after-start p first = refl

pub block_after-suc : (p : Pool) (first k : ℕ) → block_after p first (suc k) ≡ unwrap_or (next_of p (block_after p first k)) 0
unfolding block_after
block_after-suc p first k = refl

pub block_after-next : (p : Pool) (first k : ℕ) → block_after p first (k + 1) ≡ unwrap_or (next_of p (block_after p first k)) 0
block_after-next p first k =
    let e : k + 1 ≡ suc k = omega arith in
    ap (block_after p first) e ∙ block_after-suc p first k

-- a walk from a block of a chain
pub block_after-add : (p : Pool) (first k j : ℕ) → block_after p (block_after p first k) j ≡ block_after p first (k + j)
block_after-add p first k zero =
    let e : k ≡ k + 0 = omega arith in
    block_after-start p (block_after p first k) ∙ ap (block_after p first) e
block_after-add p first k (suc j) =
    let e : suc (k + j) ≡ k + suc j = omega arith in
    block_after-suc p (block_after p first k) j
    ∙ ap (λ b. unwrap_or (next_of p b) 0) (block_after-add p first k j)
    ∙ sym (block_after-suc p first (k + j))
    ∙ ap (block_after p first) e

pub near-walk : (p : Pool) (c : Chain) (k : ℕ) → IsChain p c → c.near_index ≤ k → block_after p c.near (k - c.near_index) ≡ block_in p c k
near-walk p c k h le =
    let e : c.near_index + (k - c.near_index) ≡ k = omega arith in
    ap (λ b. block_after p b (k - c.near_index)) h.near
    ∙ block_after-add p c.first c.near_index (k - c.near_index)
    ∙ ap (block_after p c.first) e

pub near-used : (p : Pool) (c : Chain) (index : ℕ) → IsChain p c → c.near_index ≤ index → index < blocks_in c → (k : ℕ) → k < index - c.near_index → IsUsed p (block_after p c.near k)
near-used p c index h le within k less =
    let e : block_after p c.near k ≡ block_in p c (c.near_index + k) =
    ap (λ b. block_after p b k) h.near ∙ block_after-add p c.first c.near_index k in
    subst (λ b. IsUsed p b) (sym e) (h.used (c.near_index + k) (omega arith))

-- a walk from a mark
pub mark-walk : (p : Pool) (c : Chain) (m index : ℕ) → IsChain p c → m < 256 → 256 * m ≤ index → index < blocks_in c → block_after p (get_or c.marks m 0) (index - m * 256) ≡ block_in p c index
mark-walk p c m index h few le within =
    let e : 256 * m + (index - m * 256) ≡ index = omega arith in
    ap (λ b. block_after p b (index - m * 256)) (h.marks m few (omega arith))
    ∙ block_after-add p c.first (256 * m) (index - m * 256)
    ∙ ap (block_after p c.first) e

pub mark-used : (p : Pool) (c : Chain) (m index : ℕ) → IsChain p c → m < 256 → 256 * m ≤ index → index < blocks_in c → (k : ℕ) → k < index - m * 256 → IsUsed p (block_after p (get_or c.marks m 0) k)
mark-used p c m index h few le within k less =
    let e : block_after p (get_or c.marks m 0) k ≡ block_in p c (256 * m + k) =
    ap (λ b. block_after p b k) (h.marks m few (omega arith)) ∙ block_after-add p c.first (256 * m) k in
    subst (λ b. IsUsed p b) (sym e) (h.used (256 * m + k) (omega arith))

-- the marks with one more
pub marked-kept : (marks : List ℕ) (index b : ℕ) → index % 256 ≢ 0 → marked marks index b ≡ marks
marked-kept marks index b other = ap (λ t. cond t (set marks (index / 256) b) marks) (ne_eqb (index % 256) 0 other)

pub marked-set : (marks : List ℕ) (index b : ℕ) → index % 256 ≡ 0 → marked marks index b ≡ set marks (index / 256) b
marked-set marks index b is = ap (λ t. cond t (set marks (index / 256) b) marks) (eq-eqb (index % 256) 0 is)

-- there are no marks of later blocks
pub marked-past : (marks : List ℕ) (index b : ℕ) → length marks ≤ index / 256 → marked marks index b ≡ marks
marked-past marks index b past = elim (cases_eq (index % 256) 0) [
  | inl is ↦ marked-set marks index b is ∙ set_past marks (index / 256) b past
  | inr other ↦ marked-kept marks index b other
]

pub length-marked : (marks : List ℕ) (index b : ℕ) → length (marked marks index b) ≡ length marks
length-marked marks index b = elim (cases_eq (index % 256) 0) [
  | inl is ↦ ap length (marked-set marks index b is) ∙ length-set marks (index / 256) b
  | inr other ↦ ap length (marked-kept marks index b other)
]

pub marked-other : (marks : List ℕ) (index b k : ℕ) → 256 * k ≢ index → get_or (marked marks index b) k 0 ≡ get_or marks k 0
marked-other marks index b k other = elim (cases_eq (index % 256) 0) [
  | inl is ↦
      let apart : k ≢ index / 256 = λ e. other (omega arith) in
      ap (λ l. get_or l k 0) (marked-set marks index b is) ∙ get_or-set_other marks (index / 256) k b 0 apart
  | inr kept ↦ ap (λ l. get_or l k 0) (marked-kept marks index b kept)
]

pub marked-here : (marks : List ℕ) (index b k : ℕ) → index ≡ 256 * k → k < length marks → get_or (marked marks index b) k 0 ≡ b
marked-here marks index b k is within =
    let place : index / 256 ≡ k = omega arith in
    ap (λ l. get_or l k 0) (marked-set marks index b (omega arith)) ∙ (ap (λ i. get_or (set marks i b) k 0) place ∙ get_or-set_same marks k b 0 within)
