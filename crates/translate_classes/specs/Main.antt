-- The main class: the helper methods, and behind them the methods that begin the program, choose a class of code, make pages, and end the
-- run outside all code.
use Rattle.std.specs.Prelude.{ℕ, Bool, List, [], ◌∷◌, ◌++◌, map, codes}
use Rattle.std.specs.List.{range_with_len, AllZip}
use Rattle.run_definition.specs.declared.order.Order.{Order}
use Rattle.class_definition.specs.declared.class.Class.{Class}
use Rattle.class_definition.specs.ClassFile.{Spells}
use Rattle.emit_layout.specs.Helpers.{helper_name, helper_descriptor}
use Rattle.emit_layout.specs.Numbers.{choose_number, pages_number, missing_number}
use Rattle.mem_helpers.specs.Methods.{helper_code}
use Rattle.trampoline.specs.Choosers.{main_chooser, missing_method}
use Rattle.emit_loading.specs.Pages.{pages_code}
use Rattle.emit_loading.specs.Starting.{run_code}
use Rattle.emit_assembly.specs.declared.references.References.{References}
use Rattle.emit_classes.specs.Named.{IsClassAt}
use Rattle.emit_classes.specs.Mentioned.{Mentions}
use Rattle.translate_classes.specs.Making.{Plan, IsMade, nothing}
use Rattle.translate_classes.specs.declared.names.Names.{Names}
use Rattle.translate_classes.specs.Tables.{references_of}
use Rattle.translate_classes.specs.declared.content.MainClass.{MainClass}
use Rattle.translate_classes.specs.Content.{has_meter, main_fields}
use Rattle.translate_classes.specs.Fields.{AreFields}
use Rattle.translate_classes.specs.Called.{pages_descriptor}
use Rattle.translate_classes.specs.MainMentioned.{main_mentions}
use Rattle.translate_classes.specs.MainNaming.{AreMainNames}

-- ---- the helper methods

abbrev pub helper_plan : Order → References → ℕ → Plan
helper_plan order references number = record {
  name = helper_name number;
  descriptor = helper_descriptor number;
  locals = 4;
  references = references;
  code = helper_code order number;
}

abbrev pub helper_plans : Order → References → ℕ → List Plan
helper_plans order references count = map (helper_plan order references) (range_with_len 0 count)

-- ---- the other methods

-- the texts of pages are those of the main class, which is the first of the program
abbrev pub run_plan : MainClass → List ℕ → References → Plan
run_plan main texts references = record {
  name = codes "run";
  descriptor = nothing;
  locals = 0;
  references = references;
  code = run_code main.meter main.beginning texts 0 pages_number main.data.now choose_number;
}

abbrev pub choose_plan : MainClass → References → Plan
choose_plan main references = record {
  name = codes "choose";
  descriptor = nothing;
  locals = 1;
  references = references;
  code = main_chooser main.starts.now missing_number;
}

abbrev pub pages_plan : References → Plan
pages_plan references =
    record {
      name = codes "pages";
      descriptor = pages_descriptor;
      locals = 5;
      references = references;
      code = pages_code;
    }

-- by whether the program has a meter
abbrev pub missing_plan : Bool → References → Plan
missing_plan metered references =
    record {
      name = codes "missing";
      descriptor = nothing;
      locals = 1;
      references = references;
      code = missing_method metered;
    }

abbrev pub other_plans : MainClass → List ℕ → References → List Plan
other_plans main texts references =
    run_plan main texts references ∷ choose_plan main references ∷ pages_plan references
    ∷ missing_plan (has_meter main) references ∷ []

abbrev pub main_plans : MainClass → List ℕ → References → List Plan
main_plans main texts references = helper_plans main.beginning.order references 20
    ++ other_plans main texts references

-- ---- the class

-- The main class of a name: its fields, what it names, and its methods.
pub record IsMainClass (name : List ℕ) (main : MainClass) (bytes : List ℕ) : Type 0 where
  pub class : Class
  pub spells : Spells bytes class
  pub named : IsClassAt class.pool class.this_class name
  pub fields_are : AreFields class.pool class.fields (main_fields main)
  pub names : Names
  pub slots : List ℕ
  pub texts : List ℕ
  pub names_are : AreMainNames class.pool name main names slots texts
  pub mentions : Mentions class.pool (main_mentions name main)
  pub methods : AllZip (IsMade class.pool) class.methods
      (main_plans main texts (references_of names 0 slots))
