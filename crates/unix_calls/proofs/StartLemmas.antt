-- Files added before the first call.
use Rattle.std.proofs.Common.{◌≡◌, ℕ, zero, suc, ◌+◌, ◌-◌, ◌<◌, not, cond, ltb, List, [], ◌∷◌, ◌++◌, map, length, replicate, get_or, set, Option, None, Some, refl, ap, sym, ◌∙◌, arith, append-nil, length-append}
use Rattle.std.specs.Option.{is_none}
use Rattle.std.specs.List.{position, prefix_len, sum, fold}
use Rattle.std.proofs.lemmas.Bool.{lt-ltb, le-ltb}
use Rattle.std.proofs.lemmas.List.{map-append, length-map, length-replicate}
use Rattle.std.proofs.Math.Seq.{drop-nil}
use Rattle.unix_definition.specs.Files.{Node, GuestFiles, blocks_for, node_at, node_bytes, bytes_at, free_node, with_node, with_name, with_bytes, written}
use Rattle.unix_definition.specs.Unix.{used_table, found_file, blocks_needed}
use Rattle.std.proofs.lemmas.Option.{none-some}

-- a table of which the first places are used
abbrev used : List Node → ℕ → List (Option Node)
used xs k = map (λ x. Some x) xs ++ replicate {A = Option Node} k None

first-free : (xs : List Node) (k : ℕ) → prefix_len (λ o. not (is_none o)) (used xs k) ≡ length xs
first-free [] zero = refl
first-free [] (suc k) = refl
first-free (x ∷ xs) k = omega (arith, first-free xs k)

length-used : (xs : List Node) (k : ℕ) → length (used xs k) ≡ length xs + k
length-used [] k = let none : Option Node = None in omega (arith, length-replicate k none)
length-used (x ∷ xs) k = omega (arith, length-used xs k)

position-used : (xs : List Node) (k : ℕ) → position is_none (used xs k) ≡ cond (ltb (length xs) (length xs + k)) (Some (length xs)) None
position-used xs k = ap (λ i. cond (ltb i (length (used xs k))) (Some i) None) (first-free xs k) ∙ ap (λ m. cond (ltb (length xs) m) (Some (length xs)) None) (length-used xs k)

free-is : (xs : List Node) (k n : ℕ) → position is_none (used xs k) ≡ Some n → (n ≡ length xs) × (0 < k)
free-is xs zero n h =
    let none : cond (ltb (length xs) (length xs + 0)) (Some (length xs)) None ≡ None = ap (λ t. cond t (Some (length xs)) None) (le-ltb (length xs) (length xs + 0) (omega arith)) in
    let w : None ≡ Some n = sym none ∙ (sym (position-used xs zero) ∙ h) in
    absurd (none-some n w)
free-is xs (suc k) n h =
    let some : cond (ltb (length xs) (length xs + suc k)) (Some (length xs)) None ≡ Some (length xs) = ap (λ t. cond t (Some (length xs)) None) (lt-ltb (length xs) (length xs + suc k) (omega arith)) in
    let w : Some n ≡ Some (length xs) = sym h ∙ (position-used xs (suc k) ∙ some) in
    let e : n ≡ length xs = cc in
    (e, omega arith)

set-next : (xs : List Node) (k : ℕ) (x : Node) → set (used xs (suc k)) (length xs) (Some x) ≡ used (xs ++ x ∷ []) k
set-next [] k x = refl
set-next (y ∷ xs) k x = ap (λ l. Some y ∷ l) (set-next xs k x)

set-last : (xs : List Node) (k : ℕ) (x y : Node) → set (used (xs ++ x ∷ []) k) (length xs) (Some y) ≡ used (xs ++ y ∷ []) k
set-last [] k x y = refl
set-last (z ∷ xs) k x y = ap (λ l. Some z ∷ l) (set-last xs k x y)

get-next : (xs : List Node) (k : ℕ) → get_or (used xs (suc k)) (length xs) None ≡ None
get-next [] k = refl
get-next (y ∷ xs) k = get-next xs k

get-last : (xs : List Node) (k : ℕ) (x : Node) → get_or (used (xs ++ x ∷ []) k) (length xs) None ≡ Some x
get-last [] k x = refl
get-last (y ∷ xs) k x = get-last xs k x

sum-push : (xs : List ℕ) (a y : ℕ) → fold ◌+◌ a (xs ++ y ∷ []) ≡ fold ◌+◌ a xs + y
sum-push [] a y = refl
sum-push (x ∷ xs) a y = sum-push xs (a + x) y

pub needed-more : (files : List (List ℕ × List ℕ)) (name bytes : List ℕ) → blocks_needed (files ++ (name, bytes) ∷ []) ≡ blocks_needed files + blocks_for (length bytes)
needed-more files name bytes =
    let g = λ (f : List ℕ × List ℕ). blocks_for (length f.1) in
    ap sum (map-append g files ((name, bytes) ∷ [])) ∙ sum-push (map g files) 0 (blocks_for (length bytes))

written-new : (bytes : List ℕ) → written [] 0 bytes ≡ bytes
written-new bytes = ap (λ l. bytes ++ l) (drop-nil (0 + length bytes)) ∙ append-nil bytes

-- what a node that is there gets
with-there : (g : GuestFiles) (n : ℕ) (node : Node) (b : List ℕ) → node_at g n ≡ Some node → with_bytes g n b ≡ with_node g n (Some (record { name = node.name; bytes = b }))
with-there g n node b is = ap (λ o. elim o [ None ↦ g | Some x ↦ with_node g n (Some (record { name = x.name; bytes = b })) ]) is

-- one file more, under the lowest number that no file has
module _ (xs : List Node) (k free : ℕ) (name bytes : List ℕ) where
  abbrev f : GuestFiles
  f = record { nodes = used xs (suc k); free = free }

  abbrev first : Node
  first = record { name = Some name; bytes = [] }

  abbrev last : Node
  last = record { name = Some name; bytes = bytes }

  abbrev g : GuestFiles
  g = record { nodes = used (xs ++ first ∷ []) k; free = free }

  named : with_name f (length xs) (Some name) ≡ g
  named =
      let none : bytes_at f (length xs) ≡ [] = ap node_bytes (get-next xs k) in
      let same : free + blocks_for (length (bytes_at f (length xs))) - blocks_for (length (bytes_at f (length xs))) ≡ free = omega arith in
      (λ i. record { nodes = set (used xs (suc k)) (length xs) (Some (record { name = Some name; bytes = none i })); free = same i })
      ∙ ap (λ l. record { nodes = l; free = free }) (set-next xs k first)

  filled : with_bytes g (length xs) (written (bytes_at g (length xs)) 0 bytes) ≡ record { nodes = used (xs ++ last ∷ []) k; free = free - blocks_for (length bytes) }
  filled =
      let there : node_at g (length xs) ≡ Some first = get-last xs k first in
      let none : bytes_at g (length xs) ≡ [] = ap node_bytes there in
      let new : written (bytes_at g (length xs)) 0 bytes ≡ bytes = ap (λ l. written l 0 bytes) none ∙ written-new bytes in
      let left : free + blocks_for (length (bytes_at g (length xs))) - blocks_for (length bytes) ≡ free - blocks_for (length bytes) = (let z : blocks_for (length (bytes_at g (length xs))) ≡ 0 = ap (λ l. blocks_for (length l)) none in omega (arith, z)) in
      ap (with_bytes g (length xs)) new
      ∙ (with-there g (length xs) first bytes there
      ∙ (λ i. record { nodes = set-last xs k first last i; free = left i }))

-- the files of a system as a run begins
abbrev pub start_files : ℕ → List (List ℕ × List ℕ) → GuestFiles
start_files blocks files = record { nodes = used_table 256 (map found_file files); free = blocks - blocks_needed files }

pub start-free : (blocks : ℕ) (files : List (List ℕ × List ℕ)) (n : ℕ) → free_node (start_files blocks files) ≡ Some n → (n ≡ length (map found_file files)) × (0 < 256 - length (map found_file files))
start-free blocks files n h = free-is (map found_file files) (256 - length (map found_file files)) n h

pub start-more : (blocks : ℕ) (files : List (List ℕ × List ℕ)) (name bytes : List ℕ) (n : ℕ) (named filled_files : GuestFiles) → free_node (start_files blocks files) ≡ Some n → named ≡ with_name (start_files blocks files) n (Some name) → filled_files ≡ with_bytes named n (written (bytes_at named n) 0 bytes) → filled_files ≡ start_files blocks (files ++ (name, bytes) ∷ [])
start-more blocks files name bytes n named_files filled_files h first-is last-is =
    let xs : List Node = map found_file files in
    let p = start-free blocks files n h in
    let k : ℕ = 256 - length xs - 1 in
    let free : ℕ = blocks - blocks_needed files in
    let next : 256 - length xs ≡ suc k = omega (arith, p.1) in
    let start : start_files blocks files ≡ record { nodes = used xs (suc k); free = free } = ap (λ m. record { nodes = used xs m; free = free }) next in
    let one : named_files ≡ record { nodes = used (xs ++ (record { name = Some name; bytes = [] }) ∷ []) k; free = free } =
    first-is ∙ (ap (λ m. with_name (start_files blocks files) m (Some name)) p.0 ∙ (ap (λ f. with_name f (length xs) (Some name)) start ∙ named xs k free name bytes)) in
    let two : filled_files ≡ record { nodes = used (xs ++ found_file (name, bytes) ∷ []) k; free = free - blocks_for (length bytes) } =
    last-is ∙ (ap (λ f. with_bytes f n (written (bytes_at f n) 0 bytes)) one ∙ (ap (λ m. with_bytes (record { nodes = used (xs ++ (record { name = Some name; bytes = [] }) ∷ []) k; free = free }) m (written (bytes_at (record { nodes = used (xs ++ (record { name = Some name; bytes = [] }) ∷ []) k; free = free }) m) 0 bytes)) p.0 ∙ filled xs k free name bytes)) in
    let all : xs ++ found_file (name, bytes) ∷ [] ≡ map found_file (files ++ (name, bytes) ∷ []) = sym (map-append found_file files ((name, bytes) ∷ [])) in
    let count : k ≡ 256 - length (map found_file (files ++ (name, bytes) ∷ [])) = omega (arith, p.1, ap length all, length-append xs (found_file (name, bytes) ∷ [])) in
    let left : free - blocks_for (length bytes) ≡ blocks - blocks_needed (files ++ (name, bytes) ∷ []) = omega (arith, needed-more files name bytes) in
    two ∙ (λ i. record { nodes = used (all i) (count i); free = left i })

pub start-some : (blocks : ℕ) (files : List (List ℕ × List ℕ)) → length files < 256 → free_node (start_files blocks files) ≡ Some (length (map found_file files))
start-some blocks files few =
    let xs : List Node = map found_file files in
    position-used xs (256 - length xs) ∙ ap (λ t. cond t (Some (length xs)) None) (lt-ltb (length xs) (length xs + (256 - length xs)) (omega (arith, few, length-map files found_file)))
