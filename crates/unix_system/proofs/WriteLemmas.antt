-- A file that is written in pieces.
use Rattle.std.proofs.Common.{◌≡◌, ℕ, zero, suc, ◌+◌, ◌-◌, ◌<◌, ◌≤◌, List, [], ◌∷◌, ◌++◌, length, take, drop, replicate, get_or, set, Option, None, Some, is_some, true, false, pos, refl, ap, sym, ◌∙◌, subst, arith, append_assoc, append-nil}
use Rattle.std.specs.Option.{IsSome}
use Rattle.std.proofs.lemmas.Bool.{false≢true, lt-ltb, le-ltb}
use Rattle.std.proofs.lemmas.List.{get_or-set_same, set-set, length-append, length-replicate, length-take, length-drop, drop-drop}
use Rattle.std.proofs.Math.Seq.{take-append_seam, drop-append-add}
use Rattle.unix_definition.specs.Files.{Node, GuestFiles, blocks_for, node_at, node_name, node_bytes, bytes_at, with_node, with_bytes, has_blocks, resized, written}
use Rattle.unix_definition.specs.System.{System, system_with_tables}
use Rattle.unix_definition.specs.Errors.{too_large, no_space}
use Rattle.unix_definition.specs.Asked.{call_refused, value_only}
use Rattle.unix_definition.specs.Calls.{file_written, description_placed}
use Rattle.unix_definition.specs.declared.description.Description.{Description}

with_bytes-of : (f : GuestFiles) (n : ℕ) (b : List ℕ) (o : Option Node) → IsSome o → (elim o [ None ↦ f | Some node ↦ with_node f n (Some (record { name = node.name; bytes = b })) ]) ≡ with_node f n (Some (record { name = node_name o; bytes = b }))
with_bytes-of f n b None h = absurd (false≢true h)
with_bytes-of f n b (Some node) h = refl

with_bytes-at : (f : GuestFiles) (n : ℕ) (b : List ℕ) (o : Option Node) → is_some o ≡ false → (elim o [ None ↦ f | Some node ↦ with_node f n (Some (record { name = node.name; bytes = b })) ]) ≡ f
with_bytes-at f n b None h = refl
with_bytes-at f n b (Some node) h = absurd (false≢true (sym h))

pub with_bytes-none : (f : GuestFiles) (n : ℕ) (b : List ℕ) → is_some (node_at f n) ≡ false → with_bytes f n b ≡ f
with_bytes-none f n b none = with_bytes-at f n b (node_at f n) none

within : (nodes : List (Option Node)) (n : ℕ) → IsSome (get_or nodes n None) → n < length nodes
within [] n h = absurd (false≢true h)
within (x ∷ nodes) zero h = omega arith
within (x ∷ nodes) (suc n) h = omega (arith, within nodes n h)

pub with_bytes-some : (f : GuestFiles) (n : ℕ) (b : List ℕ) → IsSome (node_at f n) → with_bytes f n b ≡ with_node f n (Some (record { name = node_name (node_at f n); bytes = b }))
with_bytes-some f n b some = with_bytes-of f n b (node_at f n) some

pub node-with_bytes : (f : GuestFiles) (n : ℕ) (b : List ℕ) → IsSome (node_at f n) → node_at (with_bytes f n b) n ≡ Some (record { name = node_name (node_at f n); bytes = b })
node-with_bytes f n b some =
    let none : Option Node = None in
    ap (λ g. node_at g n) (with_bytes-some f n b some) ∙ get_or-set_same f.nodes n (Some (record { name = node_name (node_at f n); bytes = b })) none (within f.nodes n some)

pub bytes-with_bytes : (f : GuestFiles) (n : ℕ) (b : List ℕ) → IsSome (node_at f n) → bytes_at (with_bytes f n b) n ≡ b
bytes-with_bytes f n b some = ap node_bytes (node-with_bytes f n b some)

pub free-with_bytes : (f : GuestFiles) (n : ℕ) (b : List ℕ) → IsSome (node_at f n) → (with_bytes f n b).free ≡ f.free + blocks_for (length (bytes_at f n)) - blocks_for (length b)
free-with_bytes f n b some = ap (λ g. g.free) (with_bytes-some f n b some)

pub with_bytes-again : (f : GuestFiles) (n : ℕ) (a b : List ℕ) → IsSome (node_at f n) → blocks_for (length a) ≤ blocks_for (length (bytes_at f n)) + f.free → with_bytes (with_bytes f n a) n b ≡ with_bytes f n b
with_bytes-again f n a b some room =
    let node = node-with_bytes f n a some in
    let some' : IsSome (node_at (with_bytes f n a) n) = subst (λ o. IsSome o) (sym node) refl in
    let first : Option Node = Some (record { name = node_name (node_at f n); bytes = a }) in
    let last : Option Node = Some (record { name = node_name (node_at f n); bytes = b }) in
    let nodes : set (set f.nodes n first) n last ≡ set f.nodes n last = set-set f.nodes n first last in
    let inner : with_bytes f n a ≡ with_node f n first = with_bytes-some f n a some in
    let name : node_name (node_at (with_bytes f n a) n) ≡ node_name (node_at f n) = ap node_name node in
    let same : length (bytes_at (with_node f n first) n) ≡ length a = ap (λ g. length (bytes_at g n)) (sym inner) ∙ ap length (bytes-with_bytes f n a some) in
    let free : (with_node f n first).free + blocks_for (length (bytes_at (with_node f n first) n)) - blocks_for (length b) ≡ f.free + blocks_for (length (bytes_at f n)) - blocks_for (length b) = rw same (omega arith) in
    with_bytes-some (with_bytes f n a) n b some'
    ∙ (ap (λ m. with_node (with_bytes f n a) n (Some (record { name = m; bytes = b }))) name
    ∙ (ap (λ g. with_node g n last) inner ∙ (rw (nodes, free) refl ∙ sym (with_bytes-some f n b some))))

pub stored-again : (f s t : GuestFiles) (n : ℕ) (a : List ℕ) (g : List ℕ → List ℕ) → IsSome (node_at f n) → blocks_for (length a) ≤ blocks_for (length (bytes_at f n)) + f.free → s ≡ with_bytes f n a → t ≡ with_bytes s n (g (bytes_at s n)) → t ≡ with_bytes f n (g a)
stored-again f s t n a g some room before after =
    after
    ∙ (ap (λ x. with_bytes x n (g (bytes_at x n))) before
    ∙ (ap (λ l. with_bytes (with_bytes f n a) n (g l)) (bytes-with_bytes f n a some) ∙ with_bytes-again f n a (g a) some room))

pub length-resized : (file : List ℕ) (size : ℕ) → length (resized file size) ≡ size
length-resized file size = let z : ℕ = 0 in omega (arith, length-append (take size file) (replicate (size - length file) z), length-take size file, length-replicate (size - length file) z)

pub length-written : (file : List ℕ) (place : ℕ) (xs : List ℕ) → length (written file place xs) ≡ place + length xs + (length file - (place + length xs))
length-written file place xs = omega (arith, length-append (resized file place ++ xs) (drop (place + length xs) file), length-append (resized file place) xs, length-resized file place, length-drop (place + length xs) file)

-- a write and then another right behind it are one write
pub written-more : (file xs ys : List ℕ) (place : ℕ) → written (written file place xs) (place + length xs) ys ≡ written file place (xs ++ ys)
written-more file xs ys place =
    let front : List ℕ = resized file place ++ xs in
    let behind : List ℕ = drop (place + length xs) file in
    let long : length front ≡ place + length xs = length-append (resized file place) xs ∙ ap (λ n. n + length xs) (length-resized file place) in
    let none : length front - length (front ++ behind) ≡ 0 = omega (arith, length-append front behind) in
    let start : resized (front ++ behind) (length front) ≡ front = ap (λ k. take (length front) (front ++ behind) ++ replicate k 0) none ∙ (append-nil (take (length front) (front ++ behind)) ∙ take-append_seam front behind) in
    let ends : place + length xs + length ys ≡ place + length (xs ++ ys) = omega (arith, length-append xs ys) in
    ap (λ k. written (front ++ behind) k ys) (sym long)
    ∙ (ap (λ l. l ++ ys ++ drop (length front + length ys) (front ++ behind)) start
    ∙ (ap (λ l. front ++ ys ++ l) (drop-append-add front behind (length ys) ∙ (drop-drop (length ys) (place + length xs) file ∙ ap (λ k. drop k file) ends))
    ∙ ap (λ l. l ++ drop (place + length (xs ++ ys)) file) (append_assoc (resized file place) xs ys)))

-- the answers to a write of a file, by its tests
module _ (s : System) (d : ℕ) (k : Description) (n : ℕ) (bs : List ℕ) (place : ℕ) where
  pub too-large : 0x7FFFFFFF < place + length bs → file_written s d k n bs place ≡ call_refused s too_large
  too-large h = rw (lt-ltb 0x7FFFFFFF (place + length bs) h) refl

  size-is : length (written (bytes_at s.files n) place bs) ≡ place + length bs + (length (bytes_at s.files n) - (place + length bs))
  size-is = length-written (bytes_at s.files n) place bs

  pub no-space : place + length bs ≤ 0x7FFFFFFF → has_blocks s.files n (place + length bs + (length (bytes_at s.files n) - (place + length bs))) ≡ false → file_written s d k n bs place ≡ call_refused s no_space
  no-space small none = rw (le-ltb 0x7FFFFFFF (place + length bs) small, ap (has_blocks s.files n) size-is ∙ none) refl

  pub has-written : place + length bs ≤ 0x7FFFFFFF → has_blocks s.files n (place + length bs + (length (bytes_at s.files n) - (place + length bs))) ≡ true
      → file_written s d k n bs place ≡ (value_only (pos (length bs)), system_with_tables s (with_bytes s.files n (written (bytes_at s.files n) place bs)) (description_placed s.opened d k (place + length bs)))
  has-written small room = rw (le-ltb 0x7FFFFFFF (place + length bs) small, ap (has_blocks s.files n) size-is ∙ room) refl
