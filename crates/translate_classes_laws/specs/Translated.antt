-- The names of the classes of a translation, and the names and descriptors of their members.
use Rattle.std.specs.Prelude.{ℕ, Bool, List, [], ◌∷◌, ◌++◌, map, codes}
use Rattle.std.specs.List.{range_with_len}
use Rattle.class_definition.specs.MemberNames.{Signature, signature}
use Rattle.emit_layout.specs.ClassNames.{code_class_name, data_class_name, span_name}
use Rattle.emit_layout.specs.Fields.{field_name, field_descriptor}
use Rattle.emit_layout.specs.Helpers.{helper_name, helper_descriptor}
use Rattle.emit_methods_laws.specs.Naming.{fields_of}
use Rattle.translate_classes.specs.Making.{nothing}
use Rattle.translate_classes_laws.specs.Planned.{numbered}

-- the main class, so many classes of code, and so many of data
abbrev pub class_names : List ℕ → ℕ → ℕ → List (List ℕ)
class_names main code_classes data_classes =
    main ∷ (map (code_class_name main) (range_with_len 0 code_classes)
    ++ map (data_class_name main) (range_with_len 0 data_classes))

-- the fields of the main class, by whether the program has a meter
abbrev pub fields_of_main : Bool → List Signature
fields_of_main metered =
    map (numbered field_name field_descriptor) (range_with_len 0 (fields_of metered))

-- its helper methods, and the others by their numbers
abbrev pub methods_of_main : List Signature
methods_of_main =
    map (numbered helper_name helper_descriptor) (range_with_len 0 20)
    ++ (signature (codes "run") nothing
    ∷ signature (codes "choose") nothing
    ∷ signature (codes "pages") (codes "(Ljava/lang/String;)V")
    ∷ signature (codes "missing") nothing
    ∷ [])

-- the methods of a class of code: those of so many spans, and the one that chooses among them
abbrev pub methods_of_code : ℕ → List Signature
methods_of_code spans = map (numbered span_name (λ k. nothing)) (range_with_len 0 spans)
    ++ signature (codes "run") nothing ∷ []

-- the methods of a class of data
abbrev pub methods_of_data : List Signature
methods_of_data = signature (codes "words") (codes "([ILjava/lang/String;)V")
    ∷ signature (codes "fill") nothing ∷ []
