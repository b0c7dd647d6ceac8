-- What the main class is made of.
use Rattle.std.specs.Prelude.{ℕ, ◌+◌, ◌≤◌, ◌<◌, ◌^◌, List, [], ◌∷◌, ◌++◌, map, length, All, Bool, is_some, ⊤}
use Rattle.std.specs.List.{range_with_len}
use Rattle.elf_image_parts.specs.declared.page_run.PageRun.{PageRun}
use Rattle.elf_image_parts.specs.Runs.{IsRun, text_of}
use Rattle.emit_layout.specs.Numbers.{main_methods}
use Rattle.method_splitter.specs.Shares.{share_at, share_count, shared}
use Rattle.emit_methods_laws.specs.Naming.{fields_of}
use Rattle.translate_classes.specs.declared.content.MainClass.{MainClass}

-- numbers that rise, from one on
abbrev pub RiseFrom : ℕ → List ℕ → Type 0
RiseFrom low [] = ⊤
RiseFrom low (n ∷ numbers) = (low ≤ n) × RiseFrom (n + 1) numbers

-- the number behind the last of them
abbrev pub behind : ℕ → List ℕ → ℕ
behind low [] = low
behind low (n ∷ numbers) = behind (n + 1) numbers

-- The code begins somewhere and in few places, there are few classes and few runs of pages, the methods of classes that are called have rising
-- numbers behind those of the main class, and each start is that of a method of the main class or of a class of code.
pub record IsMain (main : MainClass) : Type 0 where
  pub some : 1 ≤ length main.starts.now
  pub few : length main.starts.now ≤ 2048
  pub few_code : length main.code.now ≤ 2048
  pub few_data : length main.data.now ≤ 2048
  pub few_runs : length main.runs.now ≤ 2 ^ 19
  pub runs : All IsRun main.runs.now
  pub rise : RiseFrom main_methods (main.code.now ++ main.data.now)
  pub known : All (λ start. start.method < behind main_methods main.code.now) main.starts.now

-- ---- the meter

-- the program has one
abbrev pub has_meter : MainClass → Bool
has_meter main = is_some main.meter

-- how many fields it has
abbrev pub main_fields : MainClass → ℕ
main_fields main = fields_of (has_meter main)

-- ---- the texts of pages

-- how many runs of pages one text holds
abbrev pub text_runs : ℕ
text_runs = 8000

-- the text of a number
abbrev pub share_text : List PageRun → ℕ → List ℕ
share_text runs k = text_of (shared runs (share_at text_runs (length runs) k))

abbrev pub share_texts : List PageRun → List (List ℕ)
share_texts runs = map (share_text runs) (range_with_len 0 (share_count text_runs (length runs)))
