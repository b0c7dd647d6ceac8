-- What a class of data names it still names while its pool grows.
use Rattle.std.proofs.Common.{ℕ, ◌+◌, ◌<◌, List, [], ◌∷◌, ◌++◌, map, take, length, get_or, sym, subst}
use Rattle.std.proofs.lemmas.List.{map_more}
use Rattle.std.proofs.lemmas.Slice.Zip.{all_zipped_more}
use Rattle.std.specs.List.{AllZip}
use Rattle.elf_image_parts.specs.Pages.{Page}
use Rattle.class_definition.specs.declared.entry.Entry.{Entry}
use Rattle.class_definition.specs.declared.entry.Entry.TheVariants.{MethodRef}
use Rattle.emit_loading.specs.declared.page_slot.PageSlot.{PageSlot}
use Rattle.emit_assembly.specs.Assembling.{Extends}
use Rattle.emit_classes.proofs.Made.{text-later, class-later}
use Rattle.translate_classes.proofs.ClassMaking.ZipLemmas.{zip-through}
use Rattle.translate_classes.proofs.ProgramNames.NamedLemmas.{member-later, names-later}
use Rattle.translate_classes.specs.declared.names.Names.{Names}
use Rattle.translate_classes.specs.declared.page_data.PageData.{PageData}
use Rattle.translate_classes.specs.Pages.{page_of, IsPageSlot}
use Rattle.translate_classes.specs.DataNaming.{AreDataNames}

slot-later : (old new : List Entry) → Extends old new → (slot : PageSlot) (page : Page) → IsPageSlot old slot page → IsPageSlot new slot page
slot-later old new kept slot page is =
    record { page_is = is.page_is; text_is = text-later old new slot.slot _ kept is.text_is }

pub slots-later : (old new : List Entry) → Extends old new → (slots : List PageSlot) (pages : List Page) → AllZip (IsPageSlot old) slots pages
    → AllZip (IsPageSlot new) slots pages
slots-later old new kept slots pages are = zip-through (IsPageSlot old) (IsPageSlot new) (slot-later old new kept) slots pages are

-- the slot of one page more
pub slots-more : (old new : List Entry) → Extends old new → (slots : List PageSlot) (pages : List PageData) (k : ℕ) (d : PageData) (slot : PageSlot)
    → k < length pages → AllZip (IsPageSlot old) slots (map page_of (take k pages)) → IsPageSlot new slot (page_of (get_or pages k d))
    → AllZip (IsPageSlot new) (slots ++ slot ∷ []) (map page_of (take (k + 1) pages))
slots-more old new kept slots pages k d slot less are is =
    subst (AllZip (IsPageSlot new) (slots ++ slot ∷ [])) (sym (map_more page_of pages k d less))
    (all_zipped_more (IsPageSlot new) slots (map page_of (take k pages)) slot (page_of (get_or pages k d))
    (slots-later old new kept slots (map page_of (take k pages)) are) is)

pub data-names-later : (old new : List Entry) → Extends old new → (name main : List ℕ) (pages : List Page) (names : Names) (own words : ℕ)
    (texts : List PageSlot)
    → AreDataNames old name main pages names own words texts → AreDataNames new name main pages names own words texts
data-names-later old new kept name main pages names own words texts are = record {
  names_are = names-later 38 old new kept main names are.names_are;
  own_is = class-later old new own name kept are.own_is;
  words_is = member-later old new kept MethodRef words own _ _ are.words_is;
  texts_are = slots-later old new kept texts pages are.texts_are;
}
