-- The limits that the definition keeps.
use Rattle.std.proofs.Common.{◌≡◌, ◌≤◌, ◌&&◌, ℕ, Bool, cond, true, false, not, refl, sym, subst, arith, List, [], ◌∷◌, length, codes, Option, Some, None, is_some, option_map, Result, Ok, Err, IfOk}
use Rattle.std.specs.Prelude.{IfSome, option_and_then, ⊤, nat_le}
use Rattle.std.specs.List.{All, list_all}
use Rattle.std.proofs.lemmas.List.Elements.{All-cons, All-nil}
use Rattle.std.proofs.lemmas.Bool.Decides.{nat_tests}
use Rattle.std.specs.Str.Parse.{digits_value}
use Rattle.nv_values.specs.Ranges.{lies_in}
use Rattle.nv_values.specs.Names.{Text}
use Rattle.command_forms.specs.Given.{given_in, value_in}
use Rattle.command_words.specs.Values.{all_different, are_arguments, are_file_names, has_zero, is_file_name, is_symbol_name, is_number_text, names_in, comma_names, number_in, number_or}
use Rattle.command_forms.specs.Forms.{formed_words, has_end, takes_arguments, command_form, before_end, after_end}
use Rattle.command_words.specs.Meaning.{Value, class_named, classes_in, classes_of, entry_in, inputs_in, linked_from, plain_words, symbol_name, arguments_in, class_word, class_steps, command_after, disk_in, guest_steps, input_in, command_made, maker_of, meter_in, method_bytes_in, name_in, name_list_in, pages_in, pipe_bytes_in, region_words_in, session_in, stack_in, heap_in, steps_in}
use Rattle.command_words.specs.Answers.{Reads}
use Rattle.std.specs.Option.{option_map_or}
use Rattle.command_words.specs.declared.named.Named.{Named}
use Rattle.command_words.specs.declared.named_class.NamedClass.{NamedClass}
use Rattle.command_forms.specs.declared.words_error.WordsError.{WordsError}
use Rattle.command_words.specs.Limits.{AreFileNames, AreInputs, ArePages, AreStages, IsFileName, IsSession, IsWithinLimits}
use Rattle.command_words.specs.declared.command.Command.{Command}
use Rattle.command_forms.specs.declared.command_name.CommandName.{CommandName}
use Rattle.command_forms.specs.declared.command_name.CommandName.TheVariants as name
use Rattle.command_forms.proofs.FormWalk.{and_first, and_second}

-- what holds of a first value leads to what holds of the second
through : {A B : Type 0} (o : Option A) (f : A → Option B) (P : A → Type 0) (Q : B → Type 0) → IfSome o P → ((x : A) → P x → IfSome (f x) Q) → IfSome (option_and_then f o) Q
through None f P Q p h = tt
through (Some x) f P Q p h = h x p

mapped : {A B : Type 0} (o : Option A) (f : A → B) (P : A → Type 0) (Q : B → Type 0) → IfSome o P → ((x : A) → P x → Q (f x)) → IfSome (option_map f o) Q
mapped None f P Q p h = tt
mapped (Some x) f P Q p h = h x p

held : {A : Type 0} (o : Option A) (P Q : A → Type 0) → IfSome o P → ((x : A) → P x → Q x) → IfSome o Q
held None P Q p h = tt
held (Some x) P Q p h = h x p

always : {A : Type 0} (o : Option A) → IfSome o (λ _. ⊤)
always None = tt
always (Some x) = tt

if_some : {A : Type 0} (b : Bool) (x : A) (P : A → Type 0) → (b ≡ true → P x) → IfSome (cond b (Some x) None) P
if_some true x P h = h refl
if_some false x P h = tt

in_range : (least most n : ℕ) → lies_in least most n ≡ true → (least ≤ n) × (n ≤ most)
in_range least most n e = grind (arith, nat_tests)

number_limits : (least most : ℕ) (text : Text) → IfSome (number_in least most text) (λ n. (least ≤ n) × (n ≤ most))
number_limits least most text = if_some (is_number_text text && lies_in least most (digits_value 10 text)) (digits_value 10 text) (λ n. (least ≤ n) × (n ≤ most))
    (λ e. in_range least most (digits_value 10 text) (and_second (is_number_text text) (lies_in least most (digits_value 10 text)) e))

option_limits : (least most default : ℕ) (text : Option Text) → least ≤ default → default ≤ most → IfSome (number_or least most default text) (λ n. (least ≤ n) × (n ≤ most))
option_limits least most default None low high = (low, high)
option_limits least most default (Some text) low high = number_limits least most text

pages_limits : (value : Value) → IfSome (pages_in value) ArePages
pages_limits value =
    through (heap_in value) (λ heap. option_map (λ stack. record { heap = heap; stack = stack }) (stack_in value)) (λ n. (0 ≤ n) × (n ≤ 32768)) ArePages (option_limits 0 32768 256 (value (codes "heap")) (omega arith) (omega arith))
    (λ heap h. mapped (stack_in value) (λ stack. record { heap = heap; stack = stack }) (λ n. (1 ≤ n) × (n ≤ 32768)) ArePages (option_limits 1 32768 64 (value (codes "stack")) (omega arith) (omega arith))
    (λ stack s. record { heap = h.1; some_stack = s.0; stack = s.1 }))

file_limits : (name : Text) → is_file_name name ≡ true → IsFileName name
file_limits name e =
    let sizes = in_range 1 255 (length name) (and_first (lies_in 1 255 (length name)) (not (has_zero name)) e) in
    record { some = sizes.0; short = sizes.1; no_zero = negated (has_zero name) (and_second (lies_in 1 255 (length name)) (not (has_zero name)) e) }
  where
    negated : (b : Bool) → not b ≡ true → b ≡ false
    negated true h = sym h
    negated false h = refl

all_from : (p : Text → Bool) (P : Text → Type 0) → ((t : Text) → p t ≡ true → P t) → (ts : List Text) → list_all p ts ≡ true → All P ts
all_from p P h [] e = All-nil P
all_from p P h (t ∷ ts) e = All-cons P t ts (h t (and_first (p t) (list_all p ts) e)) (all_from p P h ts (and_second (p t) (list_all p ts) e))

names_limits : (names : List Text) → are_file_names names ≡ true → AreFileNames names
names_limits names e =
    let both = and_first (nat_le (length names) 64 && list_all is_file_name names) (all_different names) e in
    record {
      few = at_most (length names) (and_first (nat_le (length names) 64) (list_all is_file_name names) both);
      each = all_from is_file_name IsFileName file_limits names (and_second (nat_le (length names) 64) (list_all is_file_name names) both);
      different = and_second (nat_le (length names) 64 && list_all is_file_name names) (all_different names) e;
    }
  where
    at_most : (n : ℕ) → nat_le n 64 ≡ true → n ≤ 64
    at_most n h = grind (arith, nat_tests)

list_limits : (words : List Text) (name : Text) (value : Value) → IfSome (name_list_in words name value) (λ l. AreFileNames l.names)
list_limits words name value = mapped (names_in (value name)) _ AreFileNames (λ l. AreFileNames l.names) (go (value name)) (λ names h. h)
  where
    go : (o : Option Text) → IfSome (names_in o) AreFileNames
    go None = names_limits [] refl
    go (Some text) = if_some (are_file_names (comma_names text)) (comma_names text) AreFileNames (names_limits (comma_names text))

arguments_limits : (arguments : List Text) → IfSome (arguments_in arguments) (λ a. All (λ t. has_zero t ≡ false) a)
arguments_limits arguments = if_some (are_arguments arguments) arguments (λ a. All (λ t. has_zero t ≡ false) a)
    (all_from (λ t. not (has_zero t)) (λ t. has_zero t ≡ false) (λ t e. negated (has_zero t) e) arguments)
  where
    negated : (b : Bool) → not b ≡ true → b ≡ false
    negated true h = sym h
    negated false h = refl

session_limits : (most : ℕ) (words : List Text) (value : Value) (arguments : List Text) → IfSome (session_in most words value arguments) (IsSession most)
session_limits most words value arguments =
    through (steps_in most value) _ (λ n. (0 ≤ n) × (n ≤ most)) (IsSession most) (option_limits 0 most most (value (codes "steps")) (omega arith) (omega arith)) (λ steps s.
    through (disk_in value) _ (λ n. (0 ≤ n) × (n ≤ 65536)) (IsSession most) (option_limits 0 65536 1024 (value (codes "disk")) (omega arith) (omega arith)) (λ disk d.
    through (name_list_in words (codes "with") value) _ (λ l. AreFileNames l.names) (IsSession most) (list_limits words (codes "with") value) (λ with w.
    through (name_list_in words (codes "keep") value) _ (λ l. AreFileNames l.names) (IsSession most) (list_limits words (codes "keep") value) (λ keep k.
    mapped (arguments_in arguments) _ (λ a. All (λ t. has_zero t ≡ false) a) (IsSession most) (arguments_limits arguments) (λ lawful a.
    record { steps = s.1; disk = d.1; with = w; keep = k; arguments = a })))))

symbol_limits : (text : Text) → IfSome (symbol_name text) IsFileName
symbol_limits text = if_some (is_symbol_name text) text IsFileName (file_limits text)

entry_limits : (value : Value) → IfSome (entry_in value) IsFileName
entry_limits value = go (value (codes "entry"))
  where
    go : (o : Option Text) → IfSome (option_map_or symbol_name o (Some (codes "__start"))) IsFileName
    go None = symbol_limits (codes "__start")
    go (Some text) = symbol_limits text

inputs_limits : (inputs : List Named) → IfSome (inputs_in inputs) AreInputs
inputs_limits inputs = if_some (lies_in 1 256 (length inputs)) inputs AreInputs
    (λ e. let bounds = in_range 1 256 (length inputs) e in record { some = bounds.0; few = bounds.1 })

linked_limits : (value : Value) (words : List Named) → IfSome (linked_from value words) IsWithinLimits
linked_limits value [] = tt
linked_limits value (output ∷ inputs) =
    through (inputs_in inputs) _ AreInputs IsWithinLimits (inputs_limits inputs) (λ files f.
    mapped (entry_in value) _ IsFileName IsWithinLimits (entry_limits value) (λ entry e. (f, e)))

-- all words that name classes do so, each one
classes_count : (words : List Named) → IfSome (classes_of words) (λ classes. length classes ≡ length words)
classes_count [] = refl
classes_count (word ∷ others) =
    through (class_named word) _ (λ _. ⊤) (λ classes. length classes ≡ length (word ∷ others)) (always _) (λ class _.
    mapped (classes_of others) _ (λ classes. length classes ≡ length others) (λ classes. length classes ≡ length (word ∷ others)) (classes_count others) (λ classes e. omega (arith, e)))

stages_limits : (words : List Named) → IfSome (classes_in words) AreStages
stages_limits words = go (lies_in 2 8 (length words)) refl
  where
    go : (b : Bool) → lies_in 2 8 (length words) ≡ b → IfSome (cond b (classes_of words) None) AreStages
    go true e =
        let bounds = in_range 2 8 (length words) e in
        held (classes_of words) (λ classes. length classes ≡ length words) AreStages (classes_count words)
        (λ classes count. record { several = omega (arith, count, bounds.0); few = omega (arith, count, bounds.1) })
    go false e = tt

maker_limits : (command : CommandName) (words : List Text) (value : Value) (arguments : List Text) → IfSome (maker_of command words value arguments) IsWithinLimits
maker_limits name.Go words value arguments =
    through (input_in words (codes "IN") value) _ (λ _. ⊤) IsWithinLimits (always _) (λ input _.
    through (name_in value) _ (λ _. ⊤) IsWithinLimits (always _) (λ text _.
    through (pages_in value) _ ArePages IsWithinLimits (pages_limits value) (λ pages p.
    through (method_bytes_in value) _ (λ _. ⊤) IsWithinLimits (always _) (λ bytes _.
    through (meter_in value) _ (λ _. ⊤) IsWithinLimits (always _) (λ meter _.
    mapped (session_in guest_steps words value arguments) _ (IsSession guest_steps) IsWithinLimits (session_limits guest_steps words value arguments) (λ session s. (p, s)))))))
maker_limits name.Translate words value arguments =
    through (input_in words (codes "IN") value) _ (λ _. ⊤) IsWithinLimits (always _) (λ input _.
    through (name_in value) _ (λ _. ⊤) IsWithinLimits (always _) (λ text _.
    through (pages_in value) _ ArePages IsWithinLimits (pages_limits value) (λ pages p.
    through (method_bytes_in value) _ (λ _. ⊤) IsWithinLimits (always _) (λ bytes _.
    mapped (meter_in value) _ (λ _. ⊤) IsWithinLimits (always _) (λ meter _. p)))))
maker_limits name.Interp words value arguments =
    through (input_in words (codes "IN") value) _ (λ _. ⊤) IsWithinLimits (always _) (λ input _.
    through (name_in value) _ (λ _. ⊤) IsWithinLimits (always _) (λ text _.
    through (pages_in value) _ ArePages IsWithinLimits (pages_limits value) (λ pages p.
    mapped (session_in guest_steps words value arguments) _ (IsSession guest_steps) IsWithinLimits (session_limits guest_steps words value arguments) (λ session s. (p, s)))))
maker_limits name.Run words value arguments =
    through (class_word words value) _ (λ _. ⊤) IsWithinLimits (always _) (λ class _.
    through (region_words_in value) _ (λ _. ⊤) IsWithinLimits (always _) (λ region _.
    mapped (session_in class_steps words value arguments) _ (IsSession class_steps) IsWithinLimits (session_limits class_steps words value arguments) (λ session s. s)))
maker_limits name.Verify words value arguments = mapped (class_word words value) _ (λ _. ⊤) IsWithinLimits (always _) (λ class _. tt)
maker_limits name.Frames words value arguments = mapped (class_word words value) _ (λ _. ⊤) IsWithinLimits (always _) (λ class _. tt)
maker_limits name.Check words value arguments = mapped (class_word words value) _ (λ _. ⊤) IsWithinLimits (always _) (λ class _. tt)
maker_limits name.Asm words value arguments =
    through (input_in words (codes "IN") value) _ (λ _. ⊤) IsWithinLimits (always _) (λ input _.
    mapped (value (codes "OUT")) _ (λ _. ⊤) IsWithinLimits (always _) (λ output _. tt))
maker_limits name.List words value arguments = mapped (input_in words (codes "IN") value) _ (λ _. ⊤) IsWithinLimits (always _) (λ input _. tt)
maker_limits name.Make words value arguments =
    through (option_and_then (number_in 1 65536) (value (codes "N"))) _ (λ n. (1 ≤ n) × (n ≤ 65536)) IsWithinLimits
    (through (value (codes "N")) (number_in 1 65536) (λ _. ⊤) (λ n. (1 ≤ n) × (n ≤ 65536)) (always _) (λ text _. number_limits 1 65536 text)) (λ count c.
    mapped (method_bytes_in value) _ (λ _. ⊤) IsWithinLimits (always _) (λ bytes _. c))
maker_limits name.Link words value arguments = linked_limits value (plain_words false 0 words)
maker_limits name.Pipe words value arguments =
    through (classes_in (plain_words false 0 words)) _ AreStages IsWithinLimits (stages_limits (plain_words false 0 words)) (λ classes c.
    through (region_words_in value) _ (λ _. ⊤) IsWithinLimits (always _) (λ region _.
    through (steps_in class_steps value) _ (λ n. (0 ≤ n) × (n ≤ class_steps)) IsWithinLimits (option_limits 0 class_steps class_steps (value (codes "steps")) (omega arith) (omega arith)) (λ steps s.
    through (disk_in value) _ (λ n. (0 ≤ n) × (n ≤ 65536)) IsWithinLimits (option_limits 0 65536 1024 (value (codes "disk")) (omega arith) (omega arith)) (λ disk d.
    mapped (pipe_bytes_in value) _ (λ _. ⊤) IsWithinLimits (always _) (λ bytes _. (c, s.1, d.1))))))

-- a command that words mean is within the limits
pub within_limits : (name : CommandName) (words : List Text) (command : Command) → command_after name words ≡ Some command → IsWithinLimits command
within_limits name words command is = subst (λ o. IfSome o IsWithinLimits) is (go (has_end words && not (takes_arguments name)))
  where
    taken : (b : Bool) → IfSome (cond b (maker_of name (before_end words) (value_in (command_form name) (formed_words name (before_end words))) (after_end words)) None) IsWithinLimits
    taken true = maker_limits name (before_end words) (value_in (command_form name) (formed_words name (before_end words))) (after_end words)
    taken false = tt

    go : (b : Bool) → IfSome (cond b None (command_made (command_form name) (maker_of name) (before_end words) (formed_words name (before_end words)) (after_end words))) IsWithinLimits
    go true = tt
    go false = taken (is_some (given_in (command_form name) (formed_words name (before_end words))))

pub read_within : (name : CommandName) (words : List Text) (r : Result Command WordsError) → Reads (command_after name words) r → IfOk r IsWithinLimits
read_within name words (Ok command) reads = within_limits name words command reads
read_within name words (Err e) reads = tt
