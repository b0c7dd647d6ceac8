-- The call by which a program begins.
use Rattle.std.specs.Prelude.{◌≡◌, ℕ, ◌+◌, ◌*◌, ◌≤◌, nat_lt, List, [], ◌∷◌, ◌++◌, length, IsTrue}
use Rattle.std.specs.List.{list_all}
use Rattle.run_definition.specs.declared.order.Order.{Order}
use Rattle.run_definition.specs.Memory.{patched}
use Rattle.unix_definition.specs.declared.heap.Heap.{Heap}
use Rattle.unix_definition.specs.System.{System}
use Rattle.unix_definition.specs.Asked.{words_in_order, addresses, texts_with_zeros}

-- a system with these arguments and this heap
abbrev pub with_args : System → Order → List (List ℕ) → Heap → System
with_args s order args heap = record s { heap = heap; args = args; order = order }

-- the argument block of these arguments
abbrev pub block_of : Order → List (List ℕ) → ℕ → List ℕ
block_of order args place =
    words_in_order order (addresses (place + 4 * (length args + 1)) args ++ 0 ∷ [])
    ++ texts_with_zeros args

-- a block of at most 4,096 bytes was put from a place on
pub record PutsBlock {C : Type 0} (put_at : C → ℕ → ℕ → C) (old new : C) (place : ℕ)
    (block : List ℕ) : Type 0 where
  pub after : new ≡ patched put_at old place block
  pub bytes : IsTrue (list_all (λ x. nat_lt x 256) block)
  pub short : length block ≤ 4096
