-- The start of the program: its code, and the loader's call, which is answered.
use Rattle.std.proofs.Common.{◌≡◌, ℕ, zero, suc, ◌+◌, ◌*◌, ◌/◌, ◌%◌, ◌<◌, ◌≤◌, ◌==◌, ◌&&◌, ◌||◌, Bool, true, false, nat_lt, nat_le, if◌then◌else◌, List, [], ◌∷◌, length, slice_index, codes, Option, Some, None, refl, sym, ap, ◌∙◌, arith}
use Rattle.std.specs.List.{All, list_any}
use Rattle.std.proofs.lemmas.Bool.{eq-eqb, le-ltb}
use Rattle.std.proofs.lemmas.Bool.Decides.{nat_tests}
use Rattle.run_definition.specs.declared.order.Order.{Order}
use Rattle.run_definition.specs.declared.order.Order.TheVariants.{Big}
use Rattle.run_definition.specs.Answer.{Answer}
use Rattle.run_definition.specs.Memory.{Memory, can_write}
use Rattle.run_definition.specs.Question.{Question, Room, missing, no_text, room_at, there}
use Rattle.run_definition.specs.Run.{run_of}
use Rattle.mips_definition.specs.State.{State, argument_page}
use Rattle.mips_definition.specs.Step.{after_loader, loader_question, order_number, turn}
use Rattle.elf_definition.specs.Area.{area, has_address}
use Rattle.elf_definition.specs.Header.{header_of}
use Rattle.elf_definition.specs.Segments.{live}
use Rattle.elf_definition.specs.declared.segment.Segment.{Segment}
use Rattle.elf_definition.specs.Content.{stored_code_word}
use Rattle.elf_definition.specs.Pages.{heap_page, is_data_page, is_heap_page, is_stack_page, is_writable_page}
use Rattle.elf_definition.specs.Start.{Source, code_at, image_of}
use Rattle.elf_definition.specs.FileFields.{words}
use Rattle.mips_asm.specs.File.{IsFileOf}
use Rattle.mips_asm_laws.proofs.Contents.{entry_read}
use Rattle.mips_asm_laws.proofs.Programs.{program_code}
use Rattle.unix_definition.specs.Calls.{begun_with}
use Rattle.unix_definition.specs.System.{System, with_order}
use Rattle.unix_definition.specs.Unix.{reply, system_start}
use Rattle.elf_definition.specs.Loading.{start_of}
use Rattle.command_translate.proofs.PlainWords.{IsPlain}
use Rattle.command_translate.proofs.TextBytes.{text_alone, text_order, text_segment, text_word}
use Rattle.command_translate.proofs.TextPages.{behind, heap_starts}

-- ---- its code
there_by : (even on : Bool) (w v : ℕ) → even ≡ true → on ≡ true → w ≡ v → ◌≡◌ {A = Option ℕ} (if even && on then Some w else None) (Some v)
there_by true true w v e o is = ap Some is
there_by true false w v e o is = absurd (cc)
there_by false on w v e o is = absurd (cc)

within : (k at : ℕ) → 0x00400000 ≤ at → at < 0x00400000 + 4 * k → (nat_le 0x00400000 at && nat_lt at (0x00400000 + 4 * k) || false) ≡ true
within k at first lt = grind (arith, nat_tests)

abbrev pub made_source : List ℕ → Source
made_source file = record { file = file; heap = 256; stack = 64 }

module _ (ws file : List ℕ) (is : IsFileOf (words ws) [] file) (short : length (words ws) ≤ 1572876) (size : length (words ws) ≡ 4 * length ws)
    (some : 1 ≤ length ws) (plain : All IsPlain ws) where
  in_area : (at : ℕ) → 0x00400000 ≤ at → at < 0x00400000 + 4 * length ws → area file at ≡ true
  unfolding area
  in_area at first lt =
      ap (list_any (has_address at)) (program_code (words ws) [] file (length ws) is (omega (arith, short)) (omega arith) size some)
      ∙ within (length ws) at first lt

  pub code_there : (j at : ℕ) → j < length ws → at ≡ 0x00400000 + 4 * j → (start_of (image_of (made_source file))).code at ≡ Some (slice_index ws j)
  unfolding image_of code_at
  code_there j at lt place =
      let alone = text_alone (words ws) file is (omega (arith, short)) (omega (arith, size, some)) in
      let word : stored_code_word file (live file) at ≡ slice_index ws j =
      ap (λ ss. stored_code_word file ss at) alone ∙ ap (stored_code_word file (text_segment (length (words ws)) ∷ [])) place
      ∙ text_word ws file is (omega (arith, short)) size j lt (plain j 0 lt).0 in
      there_by (at % 4 == 0) (area file at) (stored_code_word file (live file) at) (slice_index ws j)
      (eq-eqb (at % 4) 0 (omega (arith, place))) (in_area at (omega (arith, place)) (omega (arith, place, lt))) word

  -- where it starts, the order of its bytes, and its heap
  pub starts_at : (start_of (image_of (made_source file))).pc ≡ 0x00400000
  unfolding image_of
  starts_at = ap (λ f. (header_of f).e_entry) is.2 ∙ entry_read is.0 (omega (arith, is.1.0)) ∙ is.1.0

  pub in_big_order : (start_of (image_of (made_source file))).order ≡ Big
  unfolding image_of
  in_big_order = text_order (words ws) file is

  pub low_heap : (start_of (image_of (made_source file))).heap_start + (start_of (image_of (made_source file))).heap_bytes ≤ 0x7FFFFFFF
  unfolding image_of
  low_heap =
      let alone = text_alone (words ws) file is (omega (arith, short)) (omega (arith, size, some)) in
      let page : heap_page (live file) ≡ behind (length (words ws)) = ap heap_page alone ∙ heap_starts (length (words ws)) in
      omega (arith, page, short)

-- ---- the loader's call
all_written : (m : Memory) (a n : ℕ) → ((i : ℕ) → i < n → m.writable (a + i) ≡ true) → can_write m a n ≡ true
all_written m a zero on = refl
all_written m a (suc n) on =
    let here : a + 0 ≡ a = omega arith in
    let first : m.writable a ≡ true = ap m.writable (sym here) ∙ on 0 (omega arith) in
    rw first (all_written m (a + 1) n (λ i lt. let next : a + 1 + i ≡ a + (i + 1) = omega arith in ap m.writable next ∙ on (i + 1) (omega (arith, lt))))

-- the argument page may be written
argument_written : (segments : List Segment) (heap stack page : ℕ) → page ≡ 0x7ffff → is_writable_page segments heap stack page ≡ true
unfolding is_writable_page
argument_written segments heap stack page is =
    rw (eq-eqb page 0x7ffff is) (last_true (is_data_page segments page) (is_heap_page segments heap page) (is_stack_page stack page))
  where
    last_true : (a b c : Bool) → (a || b || c || true) ≡ true
    last_true true b c = refl
    last_true false true c = refl
    last_true false false true = refl
    last_true false false false = refl

room_there : (m : Memory) (a n : ℕ) → ((i : ℕ) → i < n → m.writable (a + i) ≡ true) → room_at m (Some (a, n)) ≡ there a n
room_there m a n on = ap (λ t. if t then there a n else missing) (all_written m a n on)

argument_byte : (file : List ℕ) (i : ℕ) → i < 4096 → (start_of (image_of (made_source file))).memory.writable (argument_page + i) ≡ true
unfolding image_of
argument_byte file i lt = argument_written (live file) 256 64 ((argument_page + i) / 4096) (omega (arith, lt))

pub argument_room : (file : List ℕ) → room_at (start_of (image_of (made_source file))).memory (Some (argument_page, 4096)) ≡ there argument_page 4096
argument_room file = room_there (start_of (image_of (made_source file))).memory argument_page 4096 (argument_byte file)

abbrev pub alone : ℕ → System
alone moment = system_start 1024 moment [] (codes "Main" ∷ []) []

abbrev asking : ℕ → ℕ → Order → Room → Question
asking first bytes order room = record {
  number = 0;
  a0 = argument_page;
  a1 = first;
  a2 = bytes;
  a3 = order_number order;
  text = no_text;
  second = no_text;
  room = room;
}

answered_big : (first bytes moment : ℕ) → first + bytes ≤ 0x7FFFFFFF
    → (given : Answer × System) × (reply (alone moment) (asking first bytes Big (there argument_page 4096)) ≡ Some given)
answered_big first bytes moment low = (begun_with (with_order (alone moment) Big) argument_page first bytes, rw (le-ltb 0x7FFFFFFF (first + bytes) low) refl)

pub loader_answered : (s : State) (moment : ℕ) → s.order ≡ Big → s.heap_start + s.heap_bytes ≤ 0x7FFFFFFF
    → room_at s.memory (Some (argument_page, 4096)) ≡ there argument_page 4096
    → (given : Answer × System) × (reply (alone moment) (loader_question s) ≡ Some given)
loader_answered s moment big low room =
    let given = answered_big s.heap_start s.heap_bytes moment low in
    (given.0, (λ i. reply (alone moment) (asking s.heap_start s.heap_bytes (big i) (room i))) ∙ given.1)

pub asked_run : {K : Type 0} (answer : K → Question → Option (Answer × K)) (n : ℕ) (s : State) (k : K) (given : Answer × K)
    → s.begun ≡ false → answer k (loader_question s) ≡ Some given
    → (run_of turn answer (suc n) s k).outcome ≡ (run_of turn answer n (after_loader s given.0) given.1).outcome
asked_run answer n s k given fresh told = rw (run_of, fresh, told) refl
