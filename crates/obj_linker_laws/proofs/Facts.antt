-- What holds of objects that pass the checks of one object.
use Rattle.std.proofs.Common.{◌≡◌, ℕ, ◌+◌, ◌/◌, ◌%◌, ◌≤◌, Bool, true, false, cond, not, ◌&&◌, ◌||◌, ◌==◌, nat_le, nat_lt, List, [], ◌∷◌, length, map, slice_get, Option, Some, None, option_map, option_and_then, ◌⊎◌, refl, sym, ap, ◌∙◌, subst, inl, inr, arith}
use Rattle.std.specs.List.{All, find, range_with_len}
use Rattle.std.specs.Option.{option_map_or}
use Rattle.std.proofs.lemmas.Bool.{cases_Bool}
use Rattle.std.proofs.lemmas.Bool.Decides.{nat_tests}
use Rattle.std.proofs.lemmas.List.Elements.{All-append, All-map, All-nil}
use Rattle.elf_definition.specs.Header.{header_of}
use Rattle.elf_definition.specs.Sections.{has_sections}
use Rattle.obj_reader.specs.declared.relocation.Relocation.{Relocation}
use Rattle.obj_reader.specs.declared.section.Section.{Section}
use Rattle.obj_reader.specs.declared.start.Start.{Start}
use Rattle.obj_reader.specs.Fault.{object_fails_at}
use Rattle.obj_reader.specs.Objects.{next_start, objects_fault_from, header_fault, object_fault, relocation_fault, relocations_from, object_section_fault, sections_from}
use Rattle.obj_reader.specs.Relocations.{relocation_entries_fault, entries_of, is_wrong_relocation, relocation_offset, only_placed, placed_entries, placed_target, relocation, relocations_fault, relocations_of, relocation_target_fault}
use Rattle.obj_reader.specs.Sections.{has_bytes, is_for_placed, is_section_outside, is_placed, is_relocations, is_section, is_with_addends, section_number, section, sections_of, string_table, symbol_table}
use Rattle.obj_reader.specs.Symbols.{symbol_fault, symbols_of}
use Rattle.obj_reader.proofs.FindLemmas.{none_within}
use Rattle.obj_linker.specs.Names.{object_bytes}
use Rattle.obj_linker_laws.proofs.Lists.{all_both, all_flat, and_both, get_left, get_next, get_right, no_place, not_not, or_neither, or_none, or_true}

no_fault_at : (object kind : ℕ) (place : Option ℕ) → object_fails_at object kind place ≡ None → place ≡ None
no_fault_at object kind None none = refl
no_fault_at object kind (Some at) none = absurd (cc)

not_mapped : {X : Type 0} (f : X → ℕ) (o : Option X) → option_map f o ≡ None → o ≡ None
not_mapped f None none = refl
not_mapped f (Some x) none = absurd (cc)

-- ---- sections lie in their objects
-- the bytes of a section that is placed lie in its object
abbrev pub Inside : List (List ℕ) → Section → Type 0
Inside files s = (is_placed s && has_bytes s) ≡ true → s.sh_offset + s.sh_size ≤ length (object_bytes files s.object)

not_below : (len n : ℕ) → nat_lt len n ≡ false → n ≤ len
not_below len n h = grind (arith, nat_tests)

inside_bytes : (len : ℕ) (sections : List Section) (s : Section) → is_section_outside len sections s ≡ false
    → (is_placed s && has_bytes s) ≡ true → s.sh_offset + s.sh_size ≤ len
inside_bytes len sections s out bytes =
    let far = nat_lt len (s.sh_offset + s.sh_size) in
    let others = is_section (symbol_table sections) s || is_section (string_table sections) s || is_relocations s && is_for_placed sections s in
    not_below len (s.sh_offset + s.sh_size) (sym (ap (λ t. (t || is_section (symbol_table sections) s || is_section (string_table sections) s || is_relocations s && is_for_placed sections s) && far) bytes) ∙ out)

passed_sections : (start : Start) (file : List ℕ) → object_fault start file ≡ None → object_section_fault start file ≡ None
unfolding object_fault
passed_sections start file none = (or_none (object_section_fault start file) _ (or_none (header_fault start file) _ none).1).0

none_outside : (start : Start) (file : List ℕ) → object_section_fault start file ≡ None → find (is_section_outside (length file) (sections_of start file)) (sections_of start file) ≡ None
unfolding object_section_fault
none_outside start file none =
    let outside = find (is_section_outside (length file) (sections_of start file)) (sections_of start file) in
    not_mapped section_number outside (no_fault_at start.object 3 (option_map section_number outside) (or_none (object_fails_at start.object 3 (option_map section_number outside)) _ none).0)

their_object : (start : Start) (file : List ℕ) → All (λ (s : Section). s.object ≡ start.object) (sections_of start file)
unfolding sections_of section
their_object start file = by (has_sections (header_of file))
  where
    by : (t : Bool) → All (λ (s : Section). s.object ≡ start.object) (cond t (map (section start file) (range_with_len 0 (header_of file).e_shnum)) [])
    by true = All-map (λ (s : Section). s.object ≡ start.object) (section start file) (range_with_len 0 (header_of file).e_shnum) (λ k d lt. refl)
    by false = All-nil (λ (s : Section). s.object ≡ start.object)

bytes_here : (files : List (List ℕ)) (file : List ℕ) (object : ℕ) → slice_get files object ≡ Some file → file ≡ object_bytes files object
bytes_here files file object h = sym (ap (λ o. option_map_or (λ (f : List ℕ). f) o []) h)

one_inside : (files : List (List ℕ)) (file : List ℕ) (start : Start) → slice_get files start.object ≡ Some file → object_fault start file ≡ None
    → All (Inside files) (sections_of start file)
one_inside files file start here none =
    let sections = sections_of start file in
    let outside = none_outside start file (passed_sections start file none) in
    all_both (λ s. is_section_outside (length file) sections s ≡ false) (λ (s : Section). s.object ≡ start.object) (Inside files) sections
    (λ s out object bytes. subst (λ n. s.sh_offset + s.sh_size ≤ n) (ap length (bytes_here files file start.object here ∙ ap (object_bytes files) (sym object))) (inside_bytes (length file) sections s out bytes))
    (λ k d lt. none_within (is_section_outside (length file) sections) sections k d outside lt)
    (their_object start file)

same_file : (files rest : List (List ℕ)) (file : List ℕ) (start : Start) → ((k : ℕ) → slice_get (file ∷ rest) k ≡ slice_get files (start.object + k))
    → slice_get files start.object ≡ Some file
same_file files rest file start same = ap (slice_get files) (let e : start.object ≡ start.object + 0 = omega arith in e) ∙ sym (same 0)

same_rest : (files rest : List (List ℕ)) (file : List ℕ) (start : Start) → ((k : ℕ) → slice_get (file ∷ rest) k ≡ slice_get files (start.object + k))
    → (k : ℕ) → slice_get rest k ≡ slice_get files ((next_start start file).object + k)
unfolding next_start
same_rest files rest file start same k =
    get_next file rest k ∙ same (k + 1) ∙ ap (slice_get files) (let e : start.object + (k + 1) ≡ start.object + 1 + k = omega arith in e)

pub all_inside : (files rest : List (List ℕ)) (start : Start) → ((k : ℕ) → slice_get rest k ≡ slice_get files (start.object + k))
    → objects_fault_from start rest ≡ None → All (Inside files) (sections_from start rest)
all_inside files [] start same none = All-nil (Inside files)
all_inside files (file ∷ rest) start same none =
    let both = or_none (object_fault start file) (objects_fault_from (next_start start file) rest) none in
    All-append (Inside files) (sections_of start file) (sections_from (next_start start file) rest)
    (one_inside files file start (same_file files rest file start same) both.0)
    (all_inside files rest (next_start start file) (same_rest files rest file start same) both.1)

-- ---- sites lie in their sections
-- a relocation is for an aligned word of a section with bytes that is placed
abbrev pub Sited : List Section → Relocation → Type 0
Sited sections r =
    (s : Section) × (slice_get sections r.section ≡ Some s) × ((is_placed s && has_bytes s) ≡ true) × (r.r_offset % 4 ≡ 0) × (r.r_offset + 4 ≤ s.sh_size)

aligned_from : (n : ℕ) → (n % 4 == 0) ≡ true → n % 4 ≡ 0
aligned_from n h = grind (arith, nat_tests)

right_entry : (limit : ℕ) (target : Section) (r : Relocation) → is_wrong_relocation limit target r ≡ false
    → (has_bytes target ≡ true) × (r.r_offset % 4 ≡ 0) × (r.r_offset + 4 ≤ target.sh_size)
right_entry limit target r h =
    let a = or_neither (nat_le limit r.symbol || not (has_bytes target) || not (r.r_offset % 4 == 0)) (nat_lt target.sh_size (r.r_offset + 4)) h in
    let b = or_neither (nat_le limit r.symbol || not (has_bytes target)) (not (r.r_offset % 4 == 0)) a.0 in
    let d = or_neither (nat_le limit r.symbol) (not (has_bytes target)) b.0 in
    (not_not (has_bytes target) d.1, aligned_from r.r_offset (not_not (r.r_offset % 4 == 0) b.1), not_below target.sh_size (r.r_offset + 4) a.1)

their_section : (start : Start) (file : List ℕ) (s : Section) → All (λ (r : Relocation). r.section ≡ start.section + s.sh_info) (entries_of start file s)
unfolding relocation
their_section start file s =
    All-map (λ (r : Relocation). r.section ≡ start.section + s.sh_info) (relocation start file s) (range_with_len 0 (s.sh_size / 8)) (λ k d lt. refl)

-- the entries of a section for a placed one
sited_entries : (all : List Section) (start : Start) (file : List ℕ) (limit : ℕ) (s target : Section) → relocation_entries_fault start file limit s target ≡ None
    → is_placed target ≡ true → slice_get all (start.section + s.sh_info) ≡ Some target → All (Sited all) (entries_of start file s)
sited_entries all start file limit s target none placed here =
    let entries = entries_of start file s in
    let right = by (is_with_addends s || not (s.sh_size % 8 == 0)) none in
    all_both (λ r. is_wrong_relocation limit target r ≡ false) (λ (r : Relocation). r.section ≡ start.section + s.sh_info) (Sited all) entries
    (λ r wrong is.
    let fine = right_entry limit target r wrong in
    (target, ap (slice_get all) is ∙ here, ap (λ t. t && has_bytes target) placed ∙ fine.0, fine.1, fine.2))
    (λ k d lt. none_within (is_wrong_relocation limit target) entries k d right lt)
    (their_section start file s)
  where
    by : (t : Bool) → cond t (Some s.number) (option_map relocation_offset (find (is_wrong_relocation limit target) (entries_of start file s))) ≡ None
        → find (is_wrong_relocation limit target) (entries_of start file s) ≡ None
    by true h = absurd (cc)
    by false h = not_mapped relocation_offset (find (is_wrong_relocation limit target) (entries_of start file s)) h

-- what a section holds of relocations of a placed one
sited_section : (all : List Section) (start : Start) (file : List ℕ) (limit : ℕ) (s : Section)
    → ((i : ℕ) (t : Section) → slice_get (sections_of start file) i ≡ Some t → slice_get all (start.section + i) ≡ Some t)
    → relocation_target_fault start file limit (sections_of start file) s ≡ None → All (Sited all) (placed_entries start file (sections_of start file) s)
sited_section all start file limit s here none =
    by (cases_Bool (is_relocations s && is_for_placed (sections_of start file) s))
  where
    targeted : (o : Option Section) → o ≡ slice_get (sections_of start file) s.sh_info → is_relocations s ≡ true → option_map_or is_placed o false ≡ true
        → option_map_or (relocation_entries_fault start file limit s) (option_and_then only_placed o) None ≡ None → All (Sited all) (entries_of start file s)
    targeted None at kind placed none = absurd (cc)
    targeted (Some t) at kind placed none =
        sited_entries all start file limit s t
        (ap (λ b. option_map_or (relocation_entries_fault start file limit s) (cond b (Some t) None) None) (sym placed) ∙ none) placed (here s.sh_info t (sym at))

    by : ((is_relocations s && is_for_placed (sections_of start file) s) ≡ true) ⊎ ((is_relocations s && is_for_placed (sections_of start file) s) ≡ false)
        → All (Sited all) (placed_entries start file (sections_of start file) s)
    by (inl on) =
        let both = and_both (is_relocations s) (is_for_placed (sections_of start file) s) on in
        let fault = option_map_or (relocation_entries_fault start file limit s) (placed_target (sections_of start file) s) None in
        let entries_none : fault ≡ None = sym (ap (λ t. cond t fault None) (or_true (is_with_addends s) (is_relocations s) both.0)) ∙ none in
        subst (λ t. All (Sited all) (cond t (entries_of start file s) [])) (sym on)
        (targeted (slice_get (sections_of start file) s.sh_info) refl both.0 both.1 entries_none)
    by (inr off) = subst (λ t. All (Sited all) (cond t (entries_of start file s) [])) (sym off) (All-nil (Sited all))

passed_relocations : (start : Start) (file : List ℕ) → object_fault start file ≡ None → relocation_fault start file ≡ None
unfolding object_fault
passed_relocations start file none =
    let a = or_none (header_fault start file) _ none in
    let b = or_none (object_section_fault start file) _ a.1 in
    let d = or_none (symbol_fault start file) _ b.1 in
    (or_none (relocation_fault start file) None d.1).0

none_wrong : (start : Start) (file : List ℕ) → relocation_fault start file ≡ None → relocations_fault start file ≡ None
unfolding relocation_fault
none_wrong start file none =
    no_fault_at start.object 7 (relocations_fault start file) (or_none (object_fails_at start.object 7 (relocations_fault start file)) _ none).0

one_sited : (all : List Section) (start : Start) (file : List ℕ)
    → ((i : ℕ) (t : Section) → slice_get (sections_of start file) i ≡ Some t → slice_get all (start.section + i) ≡ Some t)
    → relocations_fault start file ≡ None → All (Sited all) (relocations_of start file)
unfolding relocations_of relocations_fault
one_sited all start file here none =
    let sections = sections_of start file in
    let limit = start.symbol + length (symbols_of start file) in
    let none_at = no_place (relocation_target_fault start file limit sections) sections none in
    all_flat (Sited all) (placed_entries start file sections) sections
    (λ k d lt. sited_section all start file limit _ here (none_at k d lt))

their_first : (all : List Section) (start : Start) (file : List ℕ) (rest : List (List ℕ))
    → ((k : ℕ) → slice_get (sections_from start (file ∷ rest)) k ≡ slice_get all (start.section + k))
    → (i : ℕ) (t : Section) → slice_get (sections_of start file) i ≡ Some t → slice_get all (start.section + i) ≡ Some t
their_first all start file rest same i t at =
    sym (same i) ∙ get_left (sections_of start file) (sections_from (next_start start file) rest) i t at

their_rest : (all : List Section) (start : Start) (file : List ℕ) (rest : List (List ℕ))
    → ((k : ℕ) → slice_get (sections_from start (file ∷ rest)) k ≡ slice_get all (start.section + k))
    → (k : ℕ) → slice_get (sections_from (next_start start file) rest) k ≡ slice_get all ((next_start start file).section + k)
unfolding next_start
their_rest all start file rest same k =
    let n = length (sections_of start file) in
    sym (get_right (sections_of start file) (sections_from (next_start start file) rest) k) ∙ same (n + k)
    ∙ ap (slice_get all) (let e : start.section + (n + k) ≡ start.section + n + k = omega arith in e)

pub all_sited : (all : List Section) (rest : List (List ℕ)) (start : Start)
    → ((k : ℕ) → slice_get (sections_from start rest) k ≡ slice_get all (start.section + k))
    → objects_fault_from start rest ≡ None → All (Sited all) (relocations_from start rest)
all_sited all [] start same none = All-nil (Sited all)
all_sited all (file ∷ rest) start same none =
    let both = or_none (object_fault start file) (objects_fault_from (next_start start file) rest) none in
    All-append (Sited all) (relocations_of start file) (relocations_from (next_start start file) rest)
    (one_sited all start file (their_first all start file rest same) (none_wrong start file (passed_relocations start file both.0)))
    (all_sited all rest (next_start start file) (their_rest all start file rest same) both.1)
