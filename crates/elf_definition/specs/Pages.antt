-- The pages of 4,096 bytes below 80000000 (hexadecimal), and what each is for.
use Rattle.std.specs.Prelude.{ℕ, zero, suc, ◌+◌, ◌-◌, ◌*◌, ◌/◌, ◌^◌, Bool, ◌&&◌, ◌||◌, ◌==◌, nat_lt, nat_le, max, if◌then◌else◌, List, fold}
use Rattle.std.specs.List.{list_any}
use Rattle.elf_definition.specs.declared.segment.Segment.{Segment}
use Rattle.mips_definition.specs.State.{argument_page}
use Rattle.elf_definition.specs.Check.{meet}
use Rattle.elf_definition.specs.Segments.{segment_end, is_writable}

-- the number of pages below 80000000
abbrev pub pages_below : ℕ
pages_below = 2 ^ 19

-- how many numbers below n pass a test
unfoldable pub count_below : (ℕ → Bool) → ℕ → ℕ
count_below test zero = 0
count_below test (suc n) = count_below test n + (if test n then 1 else 0)

-- a page holds a byte of a segment
abbrev pub is_on_page : ℕ → Segment → Bool
is_on_page page s = meet s.vaddr (segment_end s) (4096 * page) (4096 * page + 4096)

-- a page holds a byte of one of the segments
unfoldable pub is_segment_page : List Segment → ℕ → Bool
is_segment_page segments page = list_any (is_on_page page) segments

-- a page holds a byte of a segment that may be written
unfoldable pub is_data_page : List Segment → ℕ → Bool
is_data_page segments page = list_any (λ s. is_writable s && is_on_page page s) segments

-- the heap begins at the first page past the highest segment
unfoldable pub heap_page : List Segment → ℕ
heap_page segments = fold (λ page s. max page ((segment_end s + 4095) / 4096)) 0 segments

abbrev pub is_heap_page : List Segment → ℕ → ℕ → Bool
is_heap_page segments heap page = nat_le (heap_page segments) page
    && nat_lt page (heap_page segments + heap)

-- the stack ends where the argument page begins, which is the last one
abbrev pub is_stack_page : ℕ → ℕ → Bool
is_stack_page stack n = nat_le (argument_page / 4096 - stack) n && nat_lt n (argument_page / 4096)

-- a page can be read where a segment, the heap, the stack or the argument page covers it
unfoldable pub is_readable_page : List Segment → ℕ → ℕ → ℕ → Bool
is_readable_page segments heap stack page = is_segment_page segments page
    || is_heap_page segments heap page || is_stack_page stack page || page == argument_page / 4096

-- a page can be written where a writable segment, the heap, the stack or the argument page covers it
unfoldable pub is_writable_page : List Segment → ℕ → ℕ → ℕ → Bool
is_writable_page segments heap stack page = is_data_page segments page
    || is_heap_page segments heap page || is_stack_page stack page || page == argument_page / 4096

-- a page belongs to two of segments, heap, stack and argument page
unfoldable pub is_shared : List Segment → ℕ → ℕ → ℕ → Bool
is_shared segments heap stack page =
    (is_segment_page segments page
    && (is_heap_page segments heap page || is_stack_page stack page
    || page == argument_page / 4096))
    || (is_heap_page segments heap page
    && (is_stack_page stack page || page == argument_page / 4096))
    || (is_stack_page stack page && page == argument_page / 4096)

-- the pages of segments, each counted once, and of heap, stack and argument page
unfoldable pub mapped_pages : List Segment → ℕ → ℕ → ℕ
mapped_pages segments heap stack =
    count_below (is_segment_page segments) pages_below + heap + stack + 1
