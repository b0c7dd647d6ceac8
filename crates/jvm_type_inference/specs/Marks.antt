-- While the basic blocks of a method are found, from the first instruction to the last.
use Rattle.std.specs.Prelude.{◌≡◌, ℕ, suc, ◌<◌, ◌≤◌, Bool, true, false, List, [], ◌∷◌, length, slice_index_or, Option, Some, None, IsSome, All}
use Rattle.jvm_definition.specs.declared.linked_line.LinkedLine.{LinkedLine}
use Rattle.jvm_definition.specs.declared.linked_method.LinkedMethod.{LinkedMethod}
use Rattle.jvm_definition.specs.Program.{line_in, successors}
use Rattle.jvm_type_inference.specs.Blocks.{before_in, IsInside}

-- whether a block is known to begin at an offset
abbrev pub leads : List Bool → ℕ → Bool
leads leaders n = slice_index_or leaders n false

-- the last instruction below an offset
pub record IsLatest (method : LinkedMethod) (latest : Option ℕ) (at : ℕ) : Type 0 where
  pub there : (x : ℕ) → latest ≡ Some x → (x < at) × IsSome (line_in method.lines x)
  pub alone : (y : ℕ) → y < at → ((x : ℕ) → latest ≡ Some x → x < y)
      → line_in method.lines y ≡ None

-- where an instruction goes a block begins, or goes on behind it
abbrev pub IsMarked : List Bool → List (Option ℕ) → ℕ → ℕ → Type 0
IsMarked leaders before y n = leads leaders n ≡ false → n < length before
    → before_in before n ≡ Some y

pub record AreMarked (method : LinkedMethod) (leaders : List Bool) (before : List (Option ℕ))
    (latest : Option ℕ) (at : ℕ) : Type 0 where
  pub size : length leaders ≡ length before
  pub apart : (n : ℕ) → leads leaders n ≡ true → before_in before n ≡ None
  pub fresh : (n : ℕ) → at ≤ n → before_in before n ≡ None
  pub inside : (n x : ℕ) → before_in before n ≡ Some x → IsInside method x n
  pub others : (y : ℕ) (line : LinkedLine) → y < at → line_in method.lines y ≡ Some line
      → (latest ≡ Some y → ⊥) → All (IsMarked leaders before y) (successors line)
  pub is_latest : IsLatest method latest at

-- blocks begin at more offsets
pub record Leads (leaders : List Bool) (before : List (Option ℕ)) (after : List Bool)
    (later : List (Option ℕ)) : Type 0 where
  pub size : length after ≡ length leaders
  pub as_many : length later ≡ length before
  pub stays : (n : ℕ) → leads after n ≡ false → leads leaders n ≡ false
  pub same : (n : ℕ) → leads after n ≡ false → before_in later n ≡ before_in before n
  pub apart : ((n : ℕ) → leads leaders n ≡ true → before_in before n ≡ None) → (n : ℕ)
      → leads after n ≡ true → before_in later n ≡ None
  pub clears : (n : ℕ) → before_in before n ≡ None → before_in later n ≡ None

-- an offset of the code where a block begins
abbrev pub IsLeader : List Bool → ℕ → Type 0
IsLeader leaders n = n < length leaders → leads leaders n ≡ true

-- an instruction goes on to the one at an offset alone
pub record GoesTo (line : LinkedLine) (targets : List ℕ) (at : ℕ) : Type 0 where
  pub next : line.next ≡ at
  pub goes : targets ≡ at ∷ []
