-- The program that the classes of a translation are, method by method.
use Rattle.std.specs.Prelude.{◌≡◌, ℕ, ◌+◌, ◌<◌, ◌≤◌, List, [], ◌∷◌, ◌++◌, map, length, slice_get, is_some, Option, Some, None}
use Rattle.std.specs.List.{AllZip}
use Rattle.nv_values.specs.Names.{Text}
use Rattle.elf_definition.specs.Start.{Source}
use Rattle.elf_image_parts.specs.Pages.{Page}
use Rattle.jvm_definition.specs.declared.linked_method.LinkedMethod.{LinkedMethod}
use Rattle.jvm_definition.specs.Program.{Program}
use Rattle.class_definition.specs.declared.class.Class.{Class}
use Rattle.class_definition.specs.ClassFile.{Spells}
use Rattle.class_definition.specs.LinkFault.{twice_fault}
use Rattle.class_definition.specs.Linking.{program_of, parameters_of, gives_int, descriptor_kind}
use Rattle.emit_steps.specs.Placing.{laid}
use Rattle.emit_layout.specs.Fields.{field_descriptor}
use Rattle.emit_layout.specs.Numbers.{run_number}
use Rattle.emit_loading.specs.declared.page_slot.PageSlot.{PageSlot}
use Rattle.data_strings.specs.Texts.{page_text}
use Rattle.emit_assembly.specs.declared.references.References.{References}
use Rattle.emit_methods_laws.specs.Naming.{fields_of}
use Rattle.translate_classes.specs.Making.{Plan}
use Rattle.translate_classes.specs.declared.content.MainClass.{MainClass}
use Rattle.translate_classes.specs.Content.{share_texts}
use Rattle.translate_classes.specs.Main.{main_plans}
use Rattle.translate_classes.specs.Code as codes
use Rattle.translate_classes.specs.Data.{words_plan, fill_plan}
use Rattle.translate_program.specs.declared.named_file.NamedFile.{NamedFile}
use Rattle.translate_program.specs.Classes.{Placed, AreCodeClasses, run_of, starts_of, spans_of}
use Rattle.translate_program.specs.Blocks.{blocks_of}
use Rattle.translate_program.specs.DataFiles.{class_count, filled_pages, pages_of_class, class_number, first_method}
use Rattle.translate_program.specs.declared.built.Built.{Built}
use Rattle.translate_program.specs.MainFile.{IsContent}
use Rattle.translate_program.specs.Translation.{code_methods, fills_behind}

-- A method of a program is made by a plan.
pub record IsPlanned (program : Program) (number : ℕ) (p : Plan) : Type 0 where
  pub method : LinkedMethod
  pub there : program.method number ≡ Some method
  -- its lines are the plan's code, laid down from offset 0
  pub lines_are : method.lines ≡ laid 0 p.code
  -- it takes and gives what the plan's descriptor says
  pub parameters_are : method.parameters ≡ parameters_of p.descriptor
  pub gives_is : method.gives_int ≡ gives_int p.descriptor
  -- it has room for 16 operands, and as many local variables as the plan
  pub stack_is : method.stack ≡ 16
  pub locals_are : method.locals ≡ p.locals

-- The methods of a program from a number on are made by these plans.
abbrev pub ArePlanned : Program → ℕ → List Plan → Type 0
ArePlanned program first plans = (k : ℕ) (p : Plan) → slice_get plans k ≡ Some p
    → IsPlanned program (first + k) p

-- A text of a class of a program spells the words of a page.
pub record SpellsPage (program : Program) (class : ℕ) (slot : PageSlot) (page : Page) : Type 0 where
  pub page_is : slot.page ≡ page.number
  pub text_is : program.characters class slot.slot ≡ page_text page.words

-- The methods of a class of code.
pub record HasCodeClass (program : Program) (c : Placed) : Type 0 where
  -- the tables by which its spans and its method `run` are written
  pub spans_by : References
  pub run_by : References
  -- one method for each span, and behind them the one that chooses among them
  pub planned : ArePlanned program c.first_method
      (codes.span_plans c.part c.spans spans_by (length c.spans)
      ++ codes.run_plan c.part c.spans c.first_method run_by ∷ [])

-- The methods of a class of data, by its number among these, and its texts.
pub record HasDataClass (program : Program) (code_classes methods : ℕ) (pages : List Page) (k : ℕ)
    : Type 0 where
  -- the table by which they are written
  pub by : References
  -- its texts, each of which spells the words of one of its pages
  pub texts : List PageSlot
  pub texts_are : AllZip (SpellsPage program (class_number code_classes k)) texts
      (pages_of_class pages k)
  -- the method that puts words, and the one that fills the pages
  pub planned : ArePlanned program (first_method methods k)
      (words_plan by ∷ fill_plan texts (class_number code_classes k) (first_method methods k) by
      ∷ [])

-- The files of a translation spell classes, in which no name stands twice. In the program that these are, each field and each method is what it
-- was planned to be, and has its number, and there are no others. The layout has the spans of the classes of code, and their blocks. The classes keep
-- a meter, or none.
pub record IsLinkedBy (meter : Option ℕ) (source : Source) (name : Text) (method_bytes : ℕ)
    (built : Built) : Type 0 where
  -- the classes of code, of which there is one at least, with their words, spans and first methods
  pub code : List Placed
  pub some : 1 ≤ length code
  pub code_is : AreCodeClasses (is_some meter) source method_bytes code
  -- the layout tells these spans, and their blocks
  pub spans_are : built.layout.spans.items ≡ spans_of code
  pub blocks_are : built.layout.blocks.items ≡ blocks_of 0 code
  -- what the main class is made of
  pub main : MainClass
  pub content : IsContent meter source (starts_of code) (map run_of code)
      (fills_behind source code) main
  -- the classes that the files spell, in which no name stands twice
  pub classes : List Class
  pub spelled : AllZip (λ (f : NamedFile) (c : Class). Spells f.bytes.items c)
      built.files.items classes
  pub distinct : twice_fault [] 0 classes ≡ None
  -- the fields of the main class, 38 and with a meter one more, are the program's, and it begins with the method `run`
  pub fields_are : (f : ℕ) → f < fields_of (is_some meter) → (program_of classes).field f
      ≡ Some (descriptor_kind (field_descriptor f))
  pub no_more_fields : (f : ℕ) → fields_of (is_some meter) ≤ f
      → (program_of classes).field f ≡ None
  pub first_is : (program_of classes).first ≡ run_number
  -- the texts of the main class, which tell the runs of pages
  pub texts : List ℕ
  pub texts_are : AllZip (λ (slot : ℕ) (characters : List ℕ). (program_of classes).characters 0 slot
      ≡ characters) texts (share_texts main.runs.now)
  -- the methods of the main class come first, then those of each class of code, then those of each
  -- class of data, and there are no more
  pub main_by : References
  pub main_planned : ArePlanned (program_of classes) 0 (main_plans main texts main_by)
  pub code_has : (i : ℕ) (c : Placed) → slice_get code i ≡ Some c
      → HasCodeClass (program_of classes) c
  pub data_has : (k : ℕ) → k < class_count (filled_pages source)
      → HasDataClass (program_of classes) (length code) (code_methods code) (filled_pages source) k
  pub no_more_methods : (m : ℕ)
      → first_method (code_methods code) (class_count (filled_pages source)) ≤ m
      → (program_of classes).method m ≡ None

-- those of a translation without a meter
abbrev pub IsLinked : Source → Text → ℕ → Built → Type 0
IsLinked = IsLinkedBy None
