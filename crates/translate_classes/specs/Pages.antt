-- The pages of a class of data.
use Rattle.std.specs.Prelude.{◌≡◌, List}
use Rattle.elf_image_parts.specs.Pages.{Page}
use Rattle.class_definition.specs.declared.entry.Entry.{Entry}
use Rattle.emit_loading.specs.declared.page_slot.PageSlot.{PageSlot}
use Rattle.data_strings.specs.Texts.{page_text}
use Rattle.emit_classes.specs.Named.{IsTextAt}
use Rattle.translate_classes.specs.declared.page_data.PageData.{PageData}

abbrev pub page_of : PageData → Page
page_of p = record { number = p.page; words = p.words.now }

-- the slot of the text of a page's words
pub record IsPageSlot (pool : List Entry) (slot : PageSlot) (page : Page) : Type 0 where
  pub page_is : slot.page ≡ page.number
  pub text_is : IsTextAt pool slot.slot (page_text page.words)
