-- Which pages lie behind segments and heap.
use Rattle.std.proofs.Common.{◌≡◌, ℕ, suc, zero, ◌+◌, ◌-◌, ◌<◌, ◌≤◌, Bool, true, false, ◌&&◌, ◌||◌, ◌==◌, nat_lt, nat_le, max, List, [], ◌∷◌, length, get_or, refl, arith, ◌/◌}
use Rattle.std.specs.List.{All, fold}
use Rattle.std.proofs.lemmas.Bool.Decides.{nat_tests}
use Rattle.elf_definition.specs.declared.segment.Segment.{Segment}
use Rattle.elf_definition.specs.Segments.{segment_end}
use Rattle.mips_definition.specs.State.{argument_page}
use Rattle.elf_definition.specs.Pages.{heap_page, is_segment_page, is_heap_page, is_stack_page, is_readable_page, is_shared}

-- ---- the first page past the highest segment

later : ℕ → Segment → ℕ
later page s = max page ((segment_end s + 4095) / 4096)

no_sooner : (page : ℕ) (segments : List Segment) → page ≤ fold (λ page s. max page ((segment_end s + 4095) / 4096)) page segments
no_sooner page [] = omega arith
no_sooner page (s ∷ rest) = let more = no_sooner (max page ((segment_end s + 4095) / 4096)) rest in grind (arith)

each_behind : (page : ℕ) (segments : List Segment) (k : ℕ) (d : Segment) → k < length segments
    → (segment_end (get_or segments k d) + 4095) / 4096 ≤ fold (λ page s. max page ((segment_end s + 4095) / 4096)) page segments
each_behind page [] k d within = absurd (omega (arith, within))
each_behind page (s ∷ rest) zero d within = let more = no_sooner (max page ((segment_end s + 4095) / 4096)) rest in grind (arith)
each_behind page (s ∷ rest) (suc k) d within = each_behind (max page ((segment_end s + 4095) / 4096)) rest k d (omega (arith, within))

pub all_behind : (segments : List Segment) → All (λ s. (segment_end s + 4095) / 4096 ≤ heap_page segments) segments
unfolding heap_page
all_behind segments = each_behind 0 segments

-- ---- pages that are for nothing

others : (first heap stack page : ℕ) → first + heap ≤ page → page < 0x7ffff - stack
    → ((nat_le first page && nat_lt page (first + heap)) || ((nat_le (0x7ffff - stack) page && nat_lt page 0x7ffff) || (page == 0x7ffff))) ≡ false
others first heap stack page past before = grind (arith, nat_tests)

pub unused : (segments : List Segment) (heap stack page : ℕ) → is_segment_page segments page ≡ false → heap_page segments + heap ≤ page → page < 0x7ffff - stack
    → is_readable_page segments heap stack page ≡ false
unfolding is_readable_page
unused segments heap stack page none past before =
    both (is_segment_page segments page) (is_heap_page segments heap page) (is_stack_page stack page) (page == argument_page / 4096)
    none (others (heap_page segments) heap stack page past before)
  where
    both : (a b c d : Bool) → a ≡ false → (b || (c || d)) ≡ false → (a || b || c || d) ≡ false
    both true b c d e f = absurd (cc)
    both false true c d e f = f
    both false false true d e f = f
    both false false false true e f = f
    both false false false false e f = f

-- a page that is for nothing is not for two things
pub unused_unshared : (segments : List Segment) (heap stack page : ℕ) → is_readable_page segments heap stack page ≡ false → is_shared segments heap stack page ≡ false
unfolding is_readable_page is_shared
unused_unshared segments heap stack page none =
    by_tests (is_segment_page segments page) (is_heap_page segments heap page) (is_stack_page stack page) (page == argument_page / 4096) none
  where
    by_tests : (s h t a : Bool) → (s || h || t || a) ≡ false → ((s && (h || t || a)) || (h && (t || a)) || (t && a)) ≡ false
    by_tests false false false a e = refl
    by_tests false false true false e = refl
    by_tests s h t a e = absurd (cc)
