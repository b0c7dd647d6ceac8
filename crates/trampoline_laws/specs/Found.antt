-- The span that has a word of a class.
use Rattle.std.specs.Prelude.{◌≡◌, ℕ, ◌+◌, ◌<◌, ◌≤◌, length}
use Rattle.trampoline_laws.specs.Choosing.{chosen}
use Rattle.trampoline_laws.specs.Classes.{CodeClass, IsClass, address, span_at, span_starts}

-- A word of a class lies in one of its spans, whose method is chosen for the word's address.
pub record FoundSpan (c : CodeClass) (word : ℕ) : Type 0 where
  pub number : ℕ
  pub below : number < length c.spans
  pub begins : (span_at c number).first ≤ word
  pub ends : word < (span_at c number).first + (span_at c number).words
  pub chosen_is : chosen (span_starts c) (address c word) ≡ c.first_method + number

-- It is so for every word of a class.
abbrev pub WordsAreInSpans : Type 0
WordsAreInSpans = (c : CodeClass) (k : ℕ) → IsClass c → k < c.count → FoundSpan c k
