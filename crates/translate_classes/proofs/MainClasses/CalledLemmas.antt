-- The methods that the main class names, while its pool grows and while more slots are put behind others.
use Rattle.std.proofs.Common.{◌≡◌, ℕ, ◌+◌, ◌<◌, ◌≤◌, List, [], ◌∷◌, ◌++◌, length, codes, slice_index_or, ap, sym, ◌∙◌, arith, subst, inl, inr, append_assoc}
use Rattle.std.proofs.lemmas.Bool.{cases_lt}
use Rattle.std.proofs.lemmas.List.{append-nil, get_or_append_left, get_or-append-add, length-append}
use Rattle.class_definition.specs.declared.entry.Entry.{Entry}
use Rattle.class_definition.specs.declared.entry.Entry.TheVariants.{MethodRef}
use Rattle.emit_layout.specs.Helpers.{helper_name, helper_descriptor}
use Rattle.emit_assembly.specs.Assembling.{Extends}
use Rattle.emit_classes.specs.Named.{IsMethodAt}
use Rattle.emit_classes.proofs.Made.{class-later}
use Rattle.translate_classes.specs.Named.{AreHelpers}
use Rattle.translate_classes.proofs.ProgramNames.NamedLemmas.{member-later}
use Rattle.translate_classes.specs.Making.{nothing}
use Rattle.translate_classes.specs.declared.content.MainClass.{MainClass}
use Rattle.translate_classes.specs.declared.other_class.OtherClass.{OtherClass}
use Rattle.translate_classes.specs.declared.other_class.OtherClass.TheVariants.{Code, Data}
use Rattle.translate_classes.specs.Called.{slot_of, pages_descriptor, BeginsWith, AreOwnMethods, class_name, method_name, IsOther, AreOthers, AreMainMethods}

pub begins-itself : (slots : List ℕ) → BeginsWith slots slots
begins-itself slots = record { more = []; joined = sym (append-nil slots) }

pub begins-more : (front slots : List ℕ) (slot : ℕ) → BeginsWith front slots → BeginsWith front (slots ++ slot ∷ [])
begins-more front slots slot begins = record {
  more = begins.more ++ slot ∷ [];
  joined = ap (λ l. l ++ slot ∷ []) begins.joined ∙ append_assoc front begins.more (slot ∷ []);
}

pub begins-further : (front slots all : List ℕ) → BeginsWith front slots → BeginsWith slots all → BeginsWith front all
begins-further front slots all first second = record {
  more = first.more ++ second.more;
  joined = second.joined ∙ ap (λ l. l ++ second.more) first.joined ∙ append_assoc front first.more second.more;
}

pub begins-length : (front all : List ℕ) → BeginsWith front all → length front ≤ length all
begins-length front all begins = omega (arith, ap length begins.joined, length-append front begins.more)

-- a slot keeps its place
same-slot : (front all : List ℕ) → BeginsWith front all → (number : ℕ) → number < length front → slot_of all number ≡ slot_of front number
same-slot front all begins number less =
    ap (λ l. slot_of l number) begins.joined ∙ get_or_append_left front begins.more 0 number less

module _ (front all : List ℕ) (begins : BeginsWith front all) (pool : List Entry) where
  method-behind : (number class : ℕ) (name descriptor : List ℕ) → number < length front → IsMethodAt pool (slot_of front number) class name descriptor
      → IsMethodAt pool (slot_of all number) class name descriptor
  method-behind number class name descriptor less is =
      subst (λ s. IsMethodAt pool s class name descriptor) (sym (same-slot front all begins number less)) is

  pub own-behind : (own : ℕ) → 24 ≤ length front → AreOwnMethods pool own front → AreOwnMethods pool own all
  own-behind own enough are = record {
    helpers = λ k less. method-behind k own (helper_name k) (helper_descriptor k) (omega (arith, less, enough)) (are.helpers k less);
    choose = method-behind 21 own _ _ (omega (arith, enough)) are.choose;
    pages = method-behind 22 own _ _ (omega (arith, enough)) are.pages;
    missing = method-behind 23 own _ _ (omega (arith, enough)) are.missing;
  }

  pub other-behind : (main : List ℕ) (kind : OtherClass) (i number : ℕ) → IsOther pool main kind i front number → IsOther pool main kind i all number
  other-behind main kind i number is = record {
    within = omega (arith, is.within, begins-length front all begins);
    owner = is.owner;
    owner_is = is.owner_is;
    method_is = method-behind number is.owner (method_name kind) nothing is.within is.method_is;
  }

  pub others-behind : (main : List ℕ) (kind : OtherClass) (numbers : List ℕ) (count : ℕ) → AreOthers pool main kind numbers front count
      → AreOthers pool main kind numbers all count
  others-behind main kind numbers count are = λ i less. other-behind main kind i (slice_index_or numbers i 0) (are i less)

-- ---- the slots of the main class's own methods

pub four-pushed : (slots : List ℕ) (a b c d : ℕ) → (((slots ++ a ∷ []) ++ b ∷ []) ++ c ∷ []) ++ d ∷ [] ≡ slots ++ a ∷ b ∷ c ∷ d ∷ []
four-pushed slots a b c d = simp append_assoc

pub own-made : (pool : List Entry) (own : ℕ) (helpers : List ℕ) (none choose pages missing : ℕ) → AreHelpers pool own helpers 20
    → IsMethodAt pool choose own (codes "choose") nothing → IsMethodAt pool pages own (codes "pages") pages_descriptor
    → IsMethodAt pool missing own (codes "missing") nothing
    → AreOwnMethods pool own (helpers ++ none ∷ choose ∷ pages ∷ missing ∷ [])
own-made pool own helpers none choose pages missing are choose_is pages_is missing_is =
    let last = none ∷ choose ∷ pages ∷ missing ∷ [] in
    let at : (n : ℕ) → slot_of (helpers ++ last) (20 + n) ≡ slot_of last n =
    λ n. ap (λ m. slot_of (helpers ++ last) (m + n)) (sym are.count_is) ∙ get_or-append-add helpers last n 0 in
    record {
      helpers = λ k less.
          subst (λ s. IsMethodAt pool s own (helper_name k) (helper_descriptor k))
          (sym (get_or_append_left helpers last 0 k (omega (arith, less, are.count_is)))) (are.each k less);
      choose = subst (λ s. IsMethodAt pool s own (codes "choose") nothing) (sym (at 1)) choose_is;
      pages = subst (λ s. IsMethodAt pool s own (codes "pages") pages_descriptor) (sym (at 2)) pages_is;
      missing = subst (λ s. IsMethodAt pool s own (codes "missing") nothing) (sym (at 3)) missing_is;
    }

-- ---- while the pool grows

module _ (old new : List Entry) (kept : Extends old new) where
  pub own-later : (own : ℕ) (slots : List ℕ) → AreOwnMethods old own slots → AreOwnMethods new own slots
  own-later own slots are = record {
    helpers = λ k less. member-later old new kept MethodRef (slot_of slots k) own (helper_name k) (helper_descriptor k) (are.helpers k less);
    choose = member-later old new kept MethodRef (slot_of slots 21) own _ _ are.choose;
    pages = member-later old new kept MethodRef (slot_of slots 22) own _ _ are.pages;
    missing = member-later old new kept MethodRef (slot_of slots 23) own _ _ are.missing;
  }

  pub other-later : (main : List ℕ) (kind : OtherClass) (i : ℕ) (slots : List ℕ) (number : ℕ) → IsOther old main kind i slots number
      → IsOther new main kind i slots number
  other-later main kind i slots number is = record {
    within = is.within;
    owner = is.owner;
    owner_is = class-later old new is.owner (class_name kind main i) kept is.owner_is;
    method_is = member-later old new kept MethodRef (slot_of slots number) is.owner (method_name kind) nothing is.method_is;
  }

  pub others-later : (main : List ℕ) (kind : OtherClass) (numbers slots : List ℕ) (count : ℕ) → AreOthers old main kind numbers slots count
      → AreOthers new main kind numbers slots count
  others-later main kind numbers slots count are = λ i less. other-later main kind i slots (slice_index_or numbers i 0) (are i less)

  pub methods-later : (name : List ℕ) (own : ℕ) (main : MainClass) (slots : List ℕ) → AreMainMethods old name own main slots
      → AreMainMethods new name own main slots
  methods-later name own main slots are = record {
    own_are = own-later own slots are.own_are;
    code_are = others-later name Code main.code.now slots (length main.code.now) are.code_are;
    data_are = others-later name Data main.data.now slots (length main.data.now) are.data_are;
  }

  -- the method of one class more
  pub others-more : (main : List ℕ) (kind : OtherClass) (numbers front all : List ℕ) (k : ℕ) → BeginsWith front all
      → AreOthers old main kind numbers front k → IsOther new main kind k all (slice_index_or numbers k 0)
      → AreOthers new main kind numbers all (k + 1)
  others-more main kind numbers front all k begins are is = λ i less. elim (cases_lt i k) [
    | inl before ↦
        others-behind front all begins new main kind numbers k (others-later main kind numbers front k are) i before
    | inr not_before ↦
        let last : k ≡ i = omega (arith, less, not_before) in
        subst (λ n. IsOther new main kind n all (slice_index_or numbers n 0)) last is
  ]
