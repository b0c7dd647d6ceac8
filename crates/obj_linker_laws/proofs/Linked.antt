-- What holds of objects that link.
use Rattle.std.proofs.Common.{◌≡◌, ℕ, suc, zero, ◌+◌, ◌-◌, ◌%◌, ◌≤◌, Bool, true, false, cond, ◌&&◌, ◌==◌, List, [], ◌∷◌, drop, slice_get, Option, Some, None, is_none, option_map, unwrap_or, refl, sym, ap, ◌∙◌, subst, inl, inr, arith}
use Rattle.std.specs.List.{All, find}
use Rattle.std.proofs.lemmas.Bool.{cases_Bool, eqb-true}
use Rattle.std.proofs.lemmas.List.Elements.{All-drop, All-head, All-tail}
use Rattle.obj_reader.specs.declared.relocation.Relocation.{Relocation}
use Rattle.obj_reader.specs.declared.section.Section.{Section}
use Rattle.obj_reader.specs.Fault.{object_fails}
use Rattle.obj_reader.specs.Objects.{objects_fault_from, first_start}
use Rattle.obj_reader.specs.Relocations.{is_high, is_low, relocation_offset}
use Rattle.obj_reader.proofs.FindLemmas.{found_passes}
use Rattle.obj_linker.specs.declared.site.Site.{Site}
use Rattle.obj_linker.specs.Layout.{is_too_large, places_of, text_end, text_start}
use Rattle.obj_linker.specs.Link.{objects_fault, meanings_of, names_fault, program_fault}
use Rattle.obj_linker.specs.Pairs.{first_alone, is_low_of, low_of}
use Rattle.obj_linker.specs.Sites.{site_of}
use Rattle.obj_linker.specs.Whole.{relocation_fault_of}
use Rattle.obj_linker_laws.specs.Held.{byte_place, low_offset, relocations_in, sections_in, sites_in, symbols_in}
use Rattle.obj_linker_laws.proofs.Facts.{Inside, Sited, all_inside, all_sited}
use Rattle.obj_linker_laws.proofs.Lists.{and_both, or_none}
use Rattle.obj_linker_laws.proofs.Sites.{site_at}

pub passed_objects : (files : List (List ℕ)) (entry : List ℕ) → objects_fault files entry ≡ None → objects_fault_from first_start files ≡ None
unfolding objects_fault
passed_objects files entry none = (or_none (objects_fault_from first_start files) _ none).0

passed_program : (files : List (List ℕ)) (entry : List ℕ) → objects_fault files entry ≡ None
    → program_fault files (sections_in files) (symbols_in files) (relocations_in files) entry ≡ None
unfolding objects_fault
passed_program files entry none =
    let rest = or_none (objects_fault_from first_start files) _ none in
    let last = or_none (names_fault files (sections_in files) (symbols_in files) (relocations_in files)) _ rest.1 in
    (or_none (program_fault files (sections_in files) (symbols_in files) (relocations_in files) entry) None last.1).0

no_fail : (kind : ℕ) (t : Bool) → object_fails 0 kind 0 t ≡ None → t ≡ false
no_fail kind true h = absurd (cc)
no_fail kind false h = refl

pub not_large : (files : List (List ℕ)) (entry : List ℕ) → objects_fault files entry ≡ None → is_too_large (sections_in files) ≡ false
unfolding program_fault
not_large files entry none = by (passed_program files entry none)
  where
    by : program_fault files (sections_in files) (symbols_in files) (relocations_in files) entry ≡ None → is_too_large (sections_in files) ≡ false
    by h = no_fail 12 (is_too_large (sections_in files)) (or_none (object_fails 0 12 0 (is_too_large (sections_in files))) _ h).0

pub inside_objects : (files : List (List ℕ)) (entry : List ℕ) → objects_fault files entry ≡ None → All (Inside files) (sections_in files)
inside_objects files entry none =
    all_inside files files first_start (λ k. ap (slice_get files) (let e : k ≡ 0 + k = omega arith in e)) (passed_objects files entry none)

pub sited : (files : List (List ℕ)) (entry : List ℕ) → objects_fault files entry ≡ None → All (Sited (sections_in files)) (relocations_in files)
sited files entry none =
    all_sited (sections_in files) files first_start (λ k. ap (slice_get (sections_in files)) (let e : k ≡ 0 + k = omega arith in e)) (passed_objects files entry none)

-- what is there is one thing
pub the_one : {X : Type 0} (o : Option X) (x y : X) → o ≡ Some x → o ≡ Some y → x ≡ y
the_one o x y a b = let e : Some x ≡ Some y = sym a ∙ b in cc

-- the site of a relocation
site_of_it : (files : List (List ℕ)) (j : ℕ) (r : Relocation) (site : Site) → slice_get (relocations_in files) j ≡ Some r → slice_get (sites_in files) j ≡ Some site
    → site
    ≡ site_of (symbols_in files) (meanings_of files (symbols_in files)) (places_of (sections_in files)) (text_end (sections_in files) - text_start)
    (r, low_of r (drop (j + 1) (relocations_in files)))
site_of_it files j r site at here =
    the_one (slice_get (sites_in files) j) site _ here (site_at files (sections_in files) (symbols_in files) (relocations_in files) j r at)

pub site_is : (files : List (List ℕ)) (j : ℕ) (r : Relocation) (site : Site) → slice_get (relocations_in files) j ≡ Some r → slice_get (sites_in files) j ≡ Some site
    → site.at ≡ byte_place (sections_in files) r.section r.r_offset
site_is files j r site at here = ap (λ (s : Site). s.at) (site_of_it files j r site at here)

pub low_is : (files : List (List ℕ)) (j : ℕ) (r : Relocation) (site : Site) → slice_get (relocations_in files) j ≡ Some r → slice_get (sites_in files) j ≡ Some site
    → site.low_at ≡ byte_place (sections_in files) r.section (low_offset files j r)
low_is files j r site at here = ap (λ (s : Site). s.low_at) (site_of_it files j r site at here)

-- ---- upper halves go with lower ones
passed_names : (files : List (List ℕ)) (entry : List ℕ) → objects_fault files entry ≡ None → first_alone (relocations_in files) ≡ None
unfolding objects_fault names_fault
passed_names files entry none =
    let rest = or_none (objects_fault_from first_start files) _ none in
    let names = or_none (names_fault files (sections_in files) (symbols_in files) (relocations_in files)) _ rest.1 in
    no_fault (first_alone (relocations_in files)) (or_none (relocation_fault_of 9 (first_alone (relocations_in files))) _ names.0).0
  where
    no_fault : (o : Option Relocation) → relocation_fault_of 9 o ≡ None → o ≡ None
    no_fault None h = refl
    no_fault (Some r) h = absurd (cc)

not_alone : (rs : List Relocation) (j : ℕ) (r : Relocation) → first_alone rs ≡ None → slice_get rs j ≡ Some r
    → (is_high r && is_none (low_of r (drop (j + 1) rs))) ≡ false
not_alone [] j r none at = absurd (cc)
not_alone (x ∷ rs) zero r none at =
    let same : x ≡ r = cc in
    ap (λ (y : Relocation). is_high y && is_none (low_of y rs)) (sym same) ∙ here (is_high x && is_none (low_of x rs)) none
  where
    here : (t : Bool) → cond t (Some x) (first_alone rs) ≡ None → t ≡ false
    here true h = absurd (cc)
    here false h = refl
not_alone (x ∷ rs) (suc j) r none at =
    ap (λ n. is_high r && is_none (low_of r (drop n (x ∷ rs)))) (let e : suc j + 1 ≡ suc (j + 1) = omega arith in e)
    ∙ not_alone rs j r (later (is_high x && is_none (low_of x rs)) none) at
  where
    later : (t : Bool) → cond t (Some x) (first_alone rs) ≡ None → first_alone rs ≡ None
    later true h = absurd (cc)
    later false h = h

-- what is found among elements that all are something is that too
found_is : {X : Type 0} (P : X → Type 0) (p : X → Bool) (xs : List X) (x : X) → All P xs → find p xs ≡ Some x → P x
found_is P p [] x all found = absurd (cc)
found_is P p (y ∷ xs) x all found =
    elim (cases_Bool (p y)) [
      | inl on ↦ subst P (the_one (cond (p y) (Some y) (find p xs)) y x (ap (λ t. cond t (Some y) (find p xs)) on) found) (All-head P y xs all)
      | inr off ↦ found_is P p xs x (All-tail P y xs all) (sym (ap (λ t. cond t (Some y) (find p xs)) off) ∙ found)
    ]

-- the lower half that goes with an upper one is an aligned word of the same section
pub low_within : (files : List (List ℕ)) (entry : List ℕ) (j : ℕ) (r : Relocation) (s : Section) → objects_fault files entry ≡ None
    → slice_get (relocations_in files) j ≡ Some r → slice_get (sections_in files) r.section ≡ Some s → is_high r ≡ true
    → (low_offset files j r % 4 ≡ 0) × (low_offset files j r + 4 ≤ s.sh_size)
low_within files entry j r s none at in_s high =
    by (find (is_low_of r.section r.symbol) later) refl
    (sym (ap (λ t. t && is_none (low_of r later)) high) ∙ not_alone (relocations_in files) j r (passed_names files entry none) at)
  where
    later : List Relocation
    later = drop (j + 1) (relocations_in files)

    the_section : (q : Relocation) → is_low_of r.section r.symbol q ≡ true → q.section ≡ r.section
    the_section q h = eqb-true q.section r.section (and_both (q.section == r.section) (q.symbol == r.symbol) (and_both (is_low q) _ h).1).0

    low : (o : Option Relocation) → find (is_low_of r.section r.symbol) later ≡ o → low_of r later ≡ option_map relocation_offset o
    low o e = ap (λ t. cond t (option_map relocation_offset (find (is_low_of r.section r.symbol) later)) None) high ∙ ap (option_map relocation_offset) e

    by : (o : Option Relocation) → find (is_low_of r.section r.symbol) later ≡ o → is_none (low_of r later) ≡ false
        → (low_offset files j r % 4 ≡ 0) × (low_offset files j r + 4 ≤ s.sh_size)
    by None e some = absurd (let h : true ≡ false = sym (ap (λ o. is_none o) (low None e)) ∙ some in cc)
    by (Some q) e some =
        let is = found_is (Sited (sections_in files)) (is_low_of r.section r.symbol) later q
        (All-drop (Sited (sections_in files)) (j + 1) (relocations_in files) (sited files entry none)) e in
        let passes = found_passes (is_low_of r.section r.symbol) later q e in
        let there : is.0 ≡ s = the_one (slice_get (sections_in files) r.section) is.0 s (ap (slice_get (sections_in files)) (sym (the_section q passes)) ∙ is.1) in_s in
        let offset : low_offset files j r ≡ q.r_offset = ap (λ o. unwrap_or o 0) (low (Some q) e) in (
          ap (λ n. n % 4) offset ∙ is.3,
          omega (arith, offset, is.4, ap (λ (t : Section). t.sh_size) there),
        )
