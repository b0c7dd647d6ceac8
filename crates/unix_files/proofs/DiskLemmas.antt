-- The table of entries and the store, seen as files.
use Rattle.std.proofs.Common.{◌≡◌, ℕ, zero, suc, ◌+◌, ◌-◌, ◌<◌, ◌≤◌, Bool, not, cond, ltb, List, [], ◌∷◌, ◌++◌, length, take, drop, replicate, get_or, set, Option, None, Some, is_some, refl, ap, sym, ◌∙◌, subst, inl, inr, arith, append-nil}
use Rattle.std.specs.Option.{IsSome, is_none}
use Rattle.std.specs.List.{position, prefix_len}
use Rattle.std.proofs.lemmas.Bool.{cases_lt, cases_eq, false≢true}
use Rattle.std.proofs.lemmas.List.{get_or_past, set_past, set-get_or, length-set, get_or-set_other, drop_all, take_all}
use Rattle.unix_definition.specs.Files.{Node, GuestFiles, blocks_for, node_at, node_bytes, bytes_at, node_name, node_has_name, with_node, with_bytes, resized, written}
use Rattle.unix_files.specs.Stored.{Contents, file_at, with_file, overwritten}
use Rattle.unix_files.specs.Kept.{node_of, nodes_of, files_of, entry_at, entry_name, entry_has_name, IsKeptDisk}
use Rattle.unix_files.specs.declared.disk.Entry.{Entry}
use Rattle.unix_files.proofs.FileLemmas.{length-zeros_behind}

get_or-nodes_of : (es : List (Option Entry)) (fs : List (List ℕ)) (n : ℕ) → get_or (nodes_of es fs) n None ≡ node_of (get_or es n None) (get_or fs n [])
get_or-nodes_of [] fs n = refl
get_or-nodes_of (e ∷ es) [] zero = refl
get_or-nodes_of (e ∷ es) [] (suc n) = get_or-nodes_of es [] n
get_or-nodes_of (e ∷ es) (f ∷ fs) zero = refl
get_or-nodes_of (e ∷ es) (f ∷ fs) (suc n) = get_or-nodes_of es fs n

nodes_of-set : (es : List (Option Entry)) (fs : List (List ℕ)) (n : ℕ) (e : Option Entry) (b : List ℕ) → n < length fs → nodes_of (set es n e) (set fs n b) ≡ set (nodes_of es fs) n (node_of e b)
nodes_of-set [] fs n e b h = refl
nodes_of-set (d ∷ es) [] n e b h = absurd (omega arith)
nodes_of-set (d ∷ es) (f ∷ fs) zero e b h = refl
nodes_of-set (d ∷ es) (f ∷ fs) (suc n) e b h = ap (λ l. node_of d f ∷ l) (nodes_of-set es fs n e b (omega arith))

length-nodes_of : (es : List (Option Entry)) (fs : List (List ℕ)) → length (nodes_of es fs) ≡ length es
length-nodes_of [] fs = refl
length-nodes_of (e ∷ es) [] = ap suc (length-nodes_of es [])
length-nodes_of (e ∷ es) (f ∷ fs) = ap suc (length-nodes_of es fs)

prefix_len-nodes_of : (p : Option Node → Bool) (q : Option Entry → Bool) → ((e : Option Entry) (b : List ℕ) → p (node_of e b) ≡ q e) → (es : List (Option Entry)) (fs : List (List ℕ)) → prefix_len p (nodes_of es fs) ≡ prefix_len q es
prefix_len-nodes_of p q same [] fs = refl
prefix_len-nodes_of p q same (e ∷ es) [] = ap (λ t. cond t (1 + prefix_len p (nodes_of es [])) 0) (same e []) ∙ ap (λ n. cond (q e) (1 + n) 0) (prefix_len-nodes_of p q same es [])
prefix_len-nodes_of p q same (e ∷ es) (f ∷ fs) = ap (λ t. cond t (1 + prefix_len p (nodes_of es fs)) 0) (same e f) ∙ ap (λ n. cond (q e) (1 + n) 0) (prefix_len-nodes_of p q same es fs)

pub position-nodes_of : (p : Option Node → Bool) (q : Option Entry → Bool) → ((e : Option Entry) (b : List ℕ) → p (node_of e b) ≡ q e) → (es : List (Option Entry)) (fs : List (List ℕ)) → position p (nodes_of es fs) ≡ position q es
position-nodes_of p q same es fs =
    let first : prefix_len (λ x. not (p x)) (nodes_of es fs) ≡ prefix_len (λ x. not (q x)) es = prefix_len-nodes_of (λ x. not (p x)) (λ x. not (q x)) (λ e b. ap not (same e b)) es fs in
    ap (λ k. cond (ltb k (length (nodes_of es fs))) (Some k) None) first ∙ ap (λ m. cond (ltb (prefix_len (λ x. not (q x)) es) m) (Some (prefix_len (λ x. not (q x)) es)) None) (length-nodes_of es fs)

pub has_name-node_of : (name : List ℕ) (e : Option Entry) (b : List ℕ) → node_has_name name (node_of e b) ≡ entry_has_name name e
has_name-node_of name None b = refl
has_name-node_of name (Some e) b = refl

pub is_none-node_of : (e : Option Entry) (b : List ℕ) → is_none (node_of e b) ≡ is_none e
is_none-node_of None b = refl
is_none-node_of (Some e) b = refl

name_of-node_of : (e : Option Entry) (b : List ℕ) → node_name (node_of e b) ≡ entry_name e
name_of-node_of None b = refl
name_of-node_of (Some e) b = refl

is_some-node_of : (e : Option Entry) (b : List ℕ) → is_some (node_of e b) ≡ is_some e
is_some-node_of None b = refl
is_some-node_of (Some e) b = refl

bytes_of-node_of : (e : Option Entry) (b : List ℕ) → (e ≡ None → b ≡ []) → node_bytes (node_of e b) ≡ b
bytes_of-node_of None b h = sym (h refl)
bytes_of-node_of (Some e) b h = refl

entry-within : (es : List (Option Entry)) (n : ℕ) → IsSome (get_or es n None) → n < length es
entry-within [] n h = absurd (false≢true h)
entry-within (e ∷ es) zero h = omega arith
entry-within (e ∷ es) (suc n) h = omega (arith, entry-within es n h)

node-some : (e : Option Entry) (b : List ℕ) → IsSome (node_of e b) → IsSome e
node-some None b h = absurd (false≢true h)
node-some (Some e) b h = refl

node_of-some : (e : Option Entry) (b : List ℕ) → IsSome e → node_of e b ≡ Some (record { name = entry_name e; bytes = b })
node_of-some None b h = absurd (false≢true h)
node_of-some (Some e) b h = refl

with_bytes-some : (f : GuestFiles) (n : ℕ) (b : List ℕ) (o : Option Node) → IsSome o → with_node f n (Some (record { name = node_name o; bytes = b })) ≡ (elim o [ None ↦ f | Some node ↦ with_node f n (Some (record { name = node.name; bytes = b })) ])
with_bytes-some f n b None h = absurd (false≢true h)
with_bytes-some f n b (Some node) h = refl

module _ (es : List (Option Entry)) (store : Contents) (v : GuestFiles) (is : files_of es store ≡ v) where
  node-is : (n : ℕ) → node_at v n ≡ node_of (entry_at es n) (file_at store n)
  node-is n = ap (λ f. node_at f n) (sym is) ∙ get_or-nodes_of es store.files n

  pub name-is : (n : ℕ) → node_name (node_at v n) ≡ entry_name (entry_at es n)
  name-is n = ap node_name (node-is n) ∙ name_of-node_of (entry_at es n) (file_at store n)

  pub bytes-is : IsKeptDisk es store → (n : ℕ) → bytes_at v n ≡ file_at store n
  bytes-is h n = ap node_bytes (node-is n) ∙ bytes_of-node_of (entry_at es n) (file_at store n) (h.unused n)

  pub entry-there : (n : ℕ) → IsSome (node_at v n) → IsSome (entry_at es n)
  entry-there n h = node-some (entry_at es n) (file_at store n) (subst (λ o. IsSome o) (node-is n) h)

  pub within : IsKeptDisk es store → (n : ℕ) → IsSome (node_at v n) → n < 256
  within h n some = let w = entry-within es n (entry-there n some) in let all = h.entries_all in omega arith

  pub there-is : (n : ℕ) → is_some (node_at v n) ≡ is_some (entry_at es n)
  there-is n = ap is_some (node-is n) ∙ is_some-node_of (entry_at es n) (file_at store n)

  -- past the end there is no file
  pub none-past : IsKeptDisk es store → (n : ℕ) → 256 ≤ n → node_at v n ≡ None
  none-past h n past =
      let all = h.entries_all in
      let none : Option Entry = None in
      node-is n ∙ ap (λ e. node_of e (file_at store n)) (get_or_past es n none (omega arith))

  pub same-past : IsKeptDisk es store → (n : ℕ) → 256 ≤ n → v ≡ with_node v n None
  same-past h n past =
      let count : length v.nodes ≡ 256 = ap (λ f. length f.nodes) (sym is) ∙ (length-nodes_of es store.files ∙ h.entries_all) in
      let node : Option Node = None in
      let nodes : set v.nodes n node ≡ v.nodes = set_past v.nodes n node (omega arith) in
      let none = none-past h n past in
      let free : v.free + blocks_for (length (bytes_at v n)) - blocks_for (length (node_bytes None)) ≡ v.free = rw none (omega arith) in
      sym (rw (nodes, free) refl)

  pub free-is : store.free ≡ v.free
  free-is = ap (λ f. f.free) is

  pub within-files : IsKeptDisk es store → (n : ℕ) → IsSome (node_at v n) → n < length store.files
  within-files h n some = let w = within h n some in let all = h.files_all in omega arith

  pub room-is : IsKeptDisk es store → (n size : ℕ) → blocks_for size ≤ blocks_for (length (bytes_at v n)) + v.free → blocks_for size ≤ blocks_for (length (file_at store n)) + store.free
  room-is h n size room = rw (← bytes-is h n, free-is) room

  -- an entry is set
  pub entry-set : IsKeptDisk es store → (n : ℕ) (e : Entry) → n < 256 → files_of (set es n (Some e)) store ≡ with_node v n (Some (record { name = e.name; bytes = bytes_at v n }))
  entry-set h n e less =
      let inside : n < length store.files = let all = h.files_all in omega arith in
      let none : List ℕ = [] in
      let same : nodes_of (set es n (Some e)) store.files ≡ set (nodes_of es store.files) n (node_of (Some e) (file_at store n)) =
      ap (nodes_of (set es n (Some e))) (sym (set-get_or store.files n none)) ∙ nodes_of-set es store.files n (Some e) (file_at store n) inside in
      let bytes = bytes-is h n in
      let nodes : nodes_of (set es n (Some e)) store.files ≡ set v.nodes n (Some (record { name = e.name; bytes = bytes_at v n })) =
      same ∙ (ap (λ l. set l n (node_of (Some e) (file_at store n))) (ap (λ f. f.nodes) is) ∙ ap (λ b. set v.nodes n (Some (record { name = e.name; bytes = b }))) (sym bytes)) in
      let free : store.free ≡ v.free + blocks_for (length (bytes_at v n)) - blocks_for (length (bytes_at v n)) = let f = free-is in omega arith in
      rw (nodes, free) refl

  -- a file is dropped
  pub entry-unset : IsKeptDisk es store → (n : ℕ) → n < 256 → files_of (set es n None) (with_file store n []) ≡ with_node v n None
  entry-unset h n less =
      let inside : n < length store.files = let all = h.files_all in omega arith in
      let nodes : nodes_of (set es n None) (set store.files n []) ≡ set v.nodes n None = nodes_of-set es store.files n None [] inside ∙ ap (λ l. set l n None) (ap (λ f. f.nodes) is) in
      let bytes = bytes-is h n in
      let free : (with_file store n []).free ≡ v.free + blocks_for (length (bytes_at v n)) - blocks_for (length (node_bytes None)) = ap (λ b. store.free + blocks_for (length b) - blocks_for 0) (sym bytes) ∙ ap (λ k. k + blocks_for (length (bytes_at v n)) - blocks_for 0) free-is in
      rw (nodes, free) refl

  -- the bytes of a file are set
  pub bytes-set : IsKeptDisk es store → (n : ℕ) (b : List ℕ) → IsSome (node_at v n) → files_of es (with_file store n b) ≡ with_bytes v n b
  bytes-set h n b some =
      let inside : n < length store.files = let all = h.files_all in let w = within h n some in omega arith in
      let node : node_of (entry_at es n) b ≡ Some (record { name = node_name (node_at v n); bytes = b }) =
      node_of-some (entry_at es n) b (entry-there n some) ∙ ap (λ m. Some (record { name = m; bytes = b })) (sym (name-is n)) in
      let none : Option Entry = None in
      let nodes : nodes_of es (set store.files n b) ≡ set v.nodes n (Some (record { name = node_name (node_at v n); bytes = b })) =
      ap (λ l. nodes_of l (set store.files n b)) (sym (set-get_or es n none))
      ∙ (nodes_of-set es store.files n (entry_at es n) b inside ∙ (ap (λ l. set l n (node_of (entry_at es n) b)) (ap (λ f. f.nodes) is) ∙ ap (set v.nodes n) node)) in
      let bytes = bytes-is h n in
      let free : (with_file store n b).free ≡ v.free + blocks_for (length (bytes_at v n)) - blocks_for (length b) = ap (λ l. store.free + blocks_for (length l) - blocks_for (length b)) (sym bytes) ∙ ap (λ k. k + blocks_for (length (bytes_at v n)) - blocks_for (length b)) free-is in
      let all : files_of es (with_file store n b) ≡ with_node v n (Some (record { name = node_name (node_at v n); bytes = b })) = rw (nodes, free) refl in
      all ∙ with_bytes-some v n b (node_at v n) some

  pub IsKept-bytes : IsKeptDisk es store → (n : ℕ) (b : List ℕ) → IsSome (node_at v n) → IsKeptDisk es (with_file store n b)
  IsKept-bytes h n b some = record {
    entries_all = h.entries_all;
    files_all = length-set store.files n b ∙ h.files_all;
    unused = λ m none. elim (cases_eq m n) [
      | inl e ↦ absurd (false≢true (subst (λ o. IsSome o) (ap (entry_at es) (sym e) ∙ none) (entry-there n some)))
      | inr other ↦ let nil : List ℕ = [] in get_or-set_other store.files n m b nil other ∙ h.unused m none
    ];
  }

pub resized-longer : (file : List ℕ) (size : ℕ) → length file ≤ size → file ++ replicate (size - length file) 0 ≡ resized file size
resized-longer file size le = ap (λ l. l ++ replicate (size - length file) 0) (sym (take_all size file le))

pub resized-shorter : (file : List ℕ) (size : ℕ) → size ≤ length file → take size file ≡ resized file size
resized-shorter file size le = let e : 0 ≡ size - length file = omega arith in sym (append-nil (take size file)) ∙ ap (λ k. take size file ++ replicate k 0) e

pub written-over : (file new : List ℕ) (place : ℕ) → overwritten (file ++ replicate (place - length file) 0) place new ≡ written file place new
written-over file new place = elim (cases_lt place (length file)) [
  | inl less ↦
      let e : place - length file ≡ 0 = omega arith in
      ap (λ k. overwritten (file ++ replicate k 0) place new) e
      ∙ (ap (λ l. overwritten l place new) (append-nil file) ∙ ap (λ l. l ++ new ++ drop (place + length new) file) (resized-shorter file place (omega arith)))
  | inr more ↦
      let long : length (file ++ replicate (place - length file) 0) ≡ place = length-zeros_behind file (place - length file) ∙ (let e : length file + (place - length file) ≡ place = omega arith in e) in
      ap (λ l. l ++ new ++ drop (place + length new) (file ++ replicate (place - length file) 0)) (take_all place (file ++ replicate (place - length file) 0) (omega arith) ∙ resized-longer file place more)
      ∙ ap (λ l. resized file place ++ new ++ l) (drop_all (place + length new) (file ++ replicate (place - length file) 0) (omega arith) ∙ sym (drop_all (place + length new) file (omega arith)))
]

pub nothing-replicate : (k n : ℕ) → get_or (replicate {A = List ℕ} k []) n [] ≡ []
nothing-replicate zero n = refl
nothing-replicate (suc k) zero = refl
nothing-replicate (suc k) (suc n) = nothing-replicate k n
