-- How many methods a class has, and what its slots are slots of.
use Rattle.std.proofs.Common.{◌≡◌, ℕ, suc, ◌+◌, ◌-◌, ◌<◌, ◌≤◌, Bool, true, false, List, [], ◌∷◌, ◌++◌, length, map, All, Option, Some, None, refl, ap, arith, lt-ltb, le-leb, length-append}
use Rattle.std.specs.Prelude.{nat_le, nat_lt}
use Rattle.std.specs.List.{AllZip, range_with_len}
use Rattle.std.proofs.lemmas.Bool.{and_from}
use Rattle.std.specs.Option.{option_and_then}
use Rattle.std.proofs.lemmas.List.FromFn.{length-range_with_len, length-map-range_with_len}
use Rattle.std.proofs.lemmas.List.Elements.{All-nil, All-cons, All-map, All-weaker}
use Rattle.elf_image_parts.specs.Pages.{Page}
use Rattle.class_definition.specs.declared.entry.Entry.{Entry}
use Rattle.class_definition.specs.declared.entry.Entry.TheVariants as entries
use Rattle.class_definition.specs.PoolChecks.{entry_at, text_at}
use Rattle.class_definition.specs.PoolEntries.{utf8_of, class_entry_name}
use Rattle.class_definition.specs.declared.class.Class.{Class}
use Rattle.emit_layout.specs.Numbers.{main_methods}
use Rattle.method_splitter.specs.declared.span.Span.{Span}
use Rattle.trampoline.specs.declared.start.Start.{Start}
use Rattle.emit_loading.specs.declared.page_slot.PageSlot.{PageSlot}
use Rattle.emit_assembly.specs.declared.references.References.{References}
use Rattle.emit_assembly.specs.Assembling.{has_method}
use Rattle.emit_classes.specs.Lawful.{is_text, is_class, has_text, has_class}
use Rattle.emit_classes.specs.Named.{IsTextAt, IsClassAt}
use Rattle.emit_methods_laws.specs.Naming.{fields_of}
use Rattle.translate_classes.specs.declared.part.Part.{Part}
use Rattle.translate_classes.specs.Making.{Plan, IsMade, AddsMethods}
use Rattle.translate_classes.specs.Fields.{IsField, AddsFields}
use Rattle.translate_classes.specs.Pages.{IsPageSlot}
use Rattle.translate_classes.specs.Code.{start_at, starts_of}
use Rattle.translate_classes.specs.declared.content.MainClass.{MainClass}
use Rattle.translate_classes.specs.Content.{IsMain, RiseFrom, behind}
use Rattle.translate_classes.proofs.MainClasses.RiseLemmas.{rise-front, rise-back}
use Rattle.translate_classes.proofs.CodeBlocks.ListLemmas.{range-all}

-- ---- members

pub zip-length : {A B : Type 0} (R : A → B → Type 0) (xs : List A) (ys : List B) → AllZip R xs ys → length xs ≡ length ys
zip-length R [] [] all = refl
zip-length R [] (y ∷ ys) all = absurd all
zip-length R (x ∷ xs) [] all = absurd all
zip-length R (x ∷ xs) (y ∷ ys) all = ap (λ n. suc n) (zip-length R xs ys all.1)

pub adds-count : (old new : Class) (plans : List Plan) → AddsMethods old new plans → length new.methods ≡ length old.methods + length plans
adds-count old new plans adds =
    omega (
      arith,
      ap (λ (x : Class). length x.methods) adds.others,
      length-append old.methods adds.added,
      zip-length (IsMade new.pool) adds.added plans adds.made,
    )

pub fields-count : (old new : Class) (count : ℕ) → AddsFields old new count → length new.fields ≡ length old.fields + count
fields-count old new count adds =
    omega (
      arith,
      ap (λ (x : Class). length x.fields) adds.others,
      length-append old.fields adds.added,
      zip-length (IsField new.pool) adds.added (range_with_len 0 count) adds.are,
      length-range_with_len 0 count,
    )

-- with a meter or without, the fields of all programs are there
pub all-fields : (metered : Bool) → 38 ≤ fields_of metered
all-fields true = omega arith
all-fields false = omega arith

pub plans-count : (plan : ℕ → Plan) (count : ℕ) → length (map plan (range_with_len 0 count)) ≡ count
plans-count plan count = length-map-range_with_len plan 0 count

-- ---- slots

text-entry : (e : Option Entry) (text : List ℕ) → option_and_then utf8_of e ≡ Some text → is_text e ≡ true
text-entry None text is = absurd cc
text-entry (Some (entries.Utf8 characters)) text is = refl
text-entry (Some e) text is = absurd cc

class-entry : (f : ℕ → Option (List ℕ)) (e : Option Entry) (name : List ℕ) → option_and_then f (option_and_then class_entry_name e) ≡ Some name
    → is_class e ≡ true
class-entry f None name is = absurd cc
class-entry f (Some (entries.ClassName n)) name is = refl
class-entry f (Some e) name is = absurd cc

pub text-there : (pool : List Entry) (slot : ℕ) (text : List ℕ) → IsTextAt pool slot text → has_text pool slot ≡ true
text-there pool slot text is = text-entry (entry_at pool slot) text is

pub class-there : (pool : List Entry) (slot : ℕ) (name : List ℕ) → IsClassAt pool slot name → has_class pool slot ≡ true
class-there pool slot name is = class-entry (text_at pool) (entry_at pool slot) name is

pub texts-there : (pool : List Entry) (slots : List ℕ) (texts : List (List ℕ)) → AllZip (IsTextAt pool) slots texts
    → All (λ slot. has_text pool slot ≡ true) slots
texts-there pool [] [] all = All-nil (λ slot. has_text pool slot ≡ true)
texts-there pool [] (text ∷ texts) all = absurd all
texts-there pool (slot ∷ slots) [] all = absurd all
texts-there pool (slot ∷ slots) (text ∷ texts) all =
    All-cons (λ s. has_text pool s ≡ true) slot slots (text-there pool slot text all.0) (texts-there pool slots texts all.1)

pub pages-there : (pool : List Entry) (slots : List PageSlot) (pages : List Page) → AllZip (IsPageSlot pool) slots pages
    → All (λ s. has_text pool s.slot ≡ true) slots
pages-there pool [] [] all = All-nil (λ (s : PageSlot). has_text pool s.slot ≡ true)
pages-there pool [] (page ∷ pages) all = absurd all
pages-there pool (slot ∷ slots) [] all = absurd all
pages-there pool (slot ∷ slots) (page ∷ pages) all =
    All-cons (λ (s : PageSlot). has_text pool s.slot ≡ true) slot slots (text-there pool slot.slot _ all.0.text_is)
    (pages-there pool slots pages all.1)

-- ---- methods that are called

pub has-numbered : (r : References) (m : ℕ) → r.first_method ≤ m → m < r.first_method + length r.methods → has_method r m ≡ true
has-numbered r m from below =
    and_from (nat_le r.first_method m) (nat_lt (m - r.first_method) (length r.methods)) (le-leb r.first_method m from)
    (lt-ltb (m - r.first_method) (length r.methods) (omega (arith, from, below)))

-- those of the spans of a class
pub has-starts : (r : References) (part : Part) (spans : List Span) (count : ℕ) → length r.methods ≡ count
    → All (λ (s : Start). has_method r s.method ≡ true) (starts_of part spans r.first_method count)
has-starts r part spans count is =
    let start = start_at part spans r.first_method in
    All-map (λ (s : Start). has_method r s.method ≡ true) start (range_with_len 0 count)
    (All-weaker (λ k. (0 ≤ k) × (k < 0 + count)) (λ k. has_method r (start k).method ≡ true)
    (λ k within. has-numbered r (r.first_method + k) (omega arith) (omega (arith, within.1, is))) (range_with_len 0 count) (range-all 0 count))

-- numbers that rise are below the one behind them
pub rise-low : (low : ℕ) (numbers : List ℕ) → RiseFrom low numbers → low ≤ behind low numbers
rise-low low [] rise = omega arith
rise-low low (n ∷ numbers) rise = omega (arith, rise.0, rise-low (n + 1) numbers rise.1)

pub rise-below : (low : ℕ) (numbers : List ℕ) → RiseFrom low numbers → All (λ n. n < behind low numbers) numbers
rise-below low [] rise = All-nil (λ n. n < low)
rise-below low (n ∷ numbers) rise =
    let last = behind (n + 1) numbers in
    All-cons (λ m. m < last) n numbers (omega (arith, rise-low (n + 1) numbers rise.1)) (rise-below (n + 1) numbers rise.1)

pub behind-joined : (low : ℕ) (xs ys : List ℕ) → behind low (xs ++ ys) ≡ behind (behind low xs) ys
behind-joined low [] ys = refl
behind-joined low (x ∷ xs) ys = behind-joined (x + 1) xs ys

-- those of the classes of data, and those of the starts
module _ (r : References) (main : MainClass) (is : IsMain main) (first : r.first_method ≡ 0)
    (count : length r.methods ≡ behind main_methods (main.code.now ++ main.data.now)) where
  code-before : behind main_methods main.code.now ≤ length r.methods
  code-before =
      omega (
        arith,
        count,
        behind-joined main_methods main.code.now main.data.now,
        rise-low (behind main_methods main.code.now) main.data.now (rise-back main_methods main.code.now main.data.now is.rise),
      )

  pub has-main : (m : ℕ) → m < 24 → has_method r m ≡ true
  has-main m low =
      has-numbered r m (omega (arith, first))
      (omega (arith, low, first, code-before, rise-low main_methods main.code.now (rise-front main_methods main.code.now main.data.now is.rise)))

  pub has-fills : All (λ m. has_method r m ≡ true) main.data.now
  has-fills =
      let low = behind main_methods main.code.now in
      All-weaker (λ n. n < behind low main.data.now) (λ n. has_method r n ≡ true)
      (λ n below. has-numbered r n (omega (arith, first)) (omega (arith, first, below, count, behind-joined main_methods main.code.now main.data.now)))
      main.data.now
      (rise-below low main.data.now (rise-back main_methods main.code.now main.data.now is.rise))

  pub has-places : All (λ (s : Start). has_method r s.method ≡ true) main.starts.now
  has-places =
      All-weaker (λ (s : Start). s.method < behind main_methods main.code.now) (λ (s : Start). has_method r s.method ≡ true)
      (λ s below. has-numbered r s.method (omega (arith, first)) (omega (arith, first, below, code-before))) main.starts.now is.known
