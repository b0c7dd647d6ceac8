-- The methods and fields of the main class are what they were planned to be.
use Rattle.std.proofs.Common.{◌≡◌, ℕ, zero, suc, ◌+◌, ◌-◌, ◌<◌, ◌≤◌, ◌==◌, ◌||◌, Bool, true, false, List, [], ◌∷◌, map, length, get_or, Some, None, refl, sym, ap, subst, ◌∙◌, slice_get, ◌⊎◌, inl, inr, arith}
use Rattle.std.specs.Prelude.{codes, slice_index, unwrap_or}
use Rattle.std.specs.List.{All, AllZip, list_any, range_with_len}
use Rattle.std.proofs.lemmas.Bool.{or_cases, or_left, or_right, eq-eqb, eqb-true, lt-ltb, ltb-true}
use Rattle.std.proofs.lemmas.Option.{slice_get_past}
use Rattle.jvm_definition.specs.declared.kind.Kind.{Kind}
use Rattle.class_definition.specs.NameGrammar.{same_text}
use Rattle.class_definition.specs.declared.class.Class.{Class}
use Rattle.class_definition.specs.declared.member.Member.{Member}
use Rattle.class_definition.specs.MemberNames.{Signature, signature, reference_to, host_name, fields_of, methods_of, field_number, method_number}
use Rattle.class_definition.specs.LinkFault.{run_signature, twice_fault}
use Rattle.class_definition.specs.Linking.{gives_int, descriptor_kind, field_kind, program_of}
use Rattle.emit_layout.specs.ClassNames.{code_class_name, data_class_name}
use Rattle.emit_layout.specs.Fields.{field_name, field_descriptor}
use Rattle.emit_layout.specs.Helpers.{helper_name, helper_descriptor}
use Rattle.emit_layout.specs.Numbers.{run_number, choose_number, pages_number, missing_number}
use Rattle.mem_helpers.specs.Methods.{helper_code}
use Rattle.trampoline.specs.declared.start.Start.{Start}
use Rattle.emit_assembly.specs.declared.references.References.{References}
use Rattle.emit_assembly.proofs.Pools.{extends-itself}
use Rattle.emit_classes.specs.Named.{IsMethodAt, IsTextAt}
use Rattle.emit_methods_laws.proofs.NamedCode.Steps.{code-more, plain-more}
use Rattle.emit_methods_laws.proofs.NamedCode.Helpers.{helper-well}
use Rattle.emit_methods_laws.proofs.NamedCode.Loading.{pages-well, run-well}
use Rattle.emit_methods_laws.proofs.NamedCode.Choosing.{IsCalled, main-well, missing-well}
use Rattle.translate_classes.specs.Tables.{references_of}
use Rattle.translate_classes.specs.Making.{Plan, nothing}
use Rattle.translate_classes.proofs.ClassMaking.ZipLemmas.{zip-through}
use Rattle.translate_classes.specs.declared.content.MainClass.{MainClass}
use Rattle.translate_classes.specs.Called.{slot_of, pages_descriptor, AreOwnMethods}
use Rattle.translate_classes.specs.Content.{has_meter, main_fields, share_texts}
use Rattle.translate_classes.specs.Fields.{IsField}
use Rattle.translate_classes.specs.Main.{IsMainClass, helper_plan, helper_plans, run_plan, choose_plan, pages_plan, missing_plan, other_plans, main_plans}
use Rattle.translate_classes_laws.specs.Planned.{numbered}
use Rattle.translate_classes_laws.specs.Translated.{fields_of_main, methods_of_main}
use Rattle.translate_classes_laws.proofs.LinkedNumbers.Made.{methods-made, fields-made}
use Rattle.translate_classes_laws.proofs.LinkedNumbers.Numbers.{field-number, method-number}
use Rattle.translate_classes_laws.proofs.LinkedNumbers.Programs.{get-front, first-kinds}
use Rattle.translate_classes_laws.specs.Naming.{is_fault, is_helper}
use Rattle.translate_classes_laws.specs.Meaning.{AreCalled, AreMeant, HaveFieldNumbers, HaveMethodNumbers, IsMethodNumber, NamesAreMeant}
use Rattle.translate_classes_laws.proofs.NamedCode.Meant.{numbered-called}
use Rattle.translate_classes_laws.proofs.NamedCode.Known.{code-known}
use Rattle.nv_translate.specs.Linked.{ArePlanned}
use Rattle.nv_translate.proofs.LinkedTranslations.Lists.{mapped-get, mapped-length, mapped-from, range-member, get-either, all-got, zip-mapped}
use Rattle.nv_translate.proofs.LinkedTranslations.Knowing.{HasMain, slot-law, own-is, owner-no-host, methods-numbered, method-at}
use Rattle.nv_translate.proofs.LinkedTranslations.Planned.{Knows, are-planned, text-is}

-- ---- the methods that it calls

abbrev pub has_number : List ℕ → ℕ → Bool
has_number numbers m = list_any (λ n. n == m) numbers

number-at : (numbers : List ℕ) (m : ℕ) → has_number numbers m ≡ true → (i : ℕ) × (i < length numbers) × (get_or numbers i 0 ≡ m)
number-at [] m e = absurd cc
number-at (n ∷ numbers) m e = elim (or_cases (n == m) (has_number numbers m) e) [
  | inl here ↦ (0, omega arith, eqb-true n m here)
  | inr behind ↦ let rest = number-at numbers m behind in let within = rest.1 in (suc rest.0, omega (arith, within), rest.2)
]

pub number-there : (numbers : List ℕ) (k m : ℕ) → slice_get numbers k ≡ Some m → has_number numbers m ≡ true
number-there [] k m e = absurd cc
number-there (n ∷ numbers) zero m e = or_left (n == m) (has_number numbers m) (eq-eqb n m cc)
number-there (n ∷ numbers) (suc k) m e = or_right (n == m) (has_number numbers m) (number-there numbers k m e)

-- helpers, methods of its own, and those of the other classes
abbrev others_called : MainClass → ℕ → Bool
others_called main m = has_number main.code.now m || has_number main.data.now m

abbrev own_called : ℕ → Bool
own_called m = m == choose_number || m == pages_number || m == missing_number

abbrev calls : MainClass → ℕ → Bool
calls main m = is_helper m || (own_called m || others_called main m)

own-calls : (main : MainClass) (m : ℕ) → own_called m ≡ true → calls main m ≡ true
own-calls main m is = or_right (is_helper m) (own_called m || others_called main m) (or_left (own_called m) (others_called main m) is)

other-calls : (main : MainClass) (m : ℕ) → others_called main m ≡ true → calls main m ≡ true
other-calls main m is = or_right (is_helper m) (own_called m || others_called main m) (or_right (own_called m) (others_called main m) is)

code-calls : (main : MainClass) (m : ℕ) → has_number main.code.now m ≡ true → calls main m ≡ true
code-calls main m is = other-calls main m (or_left (has_number main.code.now m) (has_number main.data.now m) is)

data-calls : (main : MainClass) (m : ℕ) → has_number main.data.now m ≡ true → calls main m ≡ true
data-calls main m is = other-calls main m (or_right (has_number main.code.now m) (has_number main.data.now m) is)

fault-calls : (main : MainClass) (m : ℕ) → is_fault m ≡ true → calls main m ≡ true
fault-calls main m is = or_left (is_helper m) (own_called m || others_called main m) (elim (or_cases (m == 18) (m == 19) is) [
  | inl first ↦ let one = eqb-true m 18 first in lt-ltb m 20 (omega (arith, one))
  | inr second ↦ let one = eqb-true m 19 second in lt-ltb m 20 (omega (arith, one))
])

-- a method of another class has a number
pub record HasNumber (classes : List Class) (owner method : List ℕ) (number : ℕ) : Type 0 where
  pub no_host : same_text owner host_name ≡ false
  pub number_is : method_number classes (reference_to owner (signature method nothing)) ≡ Some number

-- so it is with all that the main class calls
pub record HasOthers (classes : List Class) (name : List ℕ) (main : MainClass) : Type 0 where
  pub runs : (i : ℕ) → i < length main.code.now → HasNumber classes (code_class_name name i) (codes "run") (get_or main.code.now i 0)
  pub fills : (i : ℕ) → i < length main.data.now → HasNumber classes (data_class_name name i) (codes "fill") (get_or main.data.now i 0)

module _ (name : List ℕ) (main : MainClass) (bytes : List ℕ) (is : IsMainClass name main bytes) where
  abbrev by : References
  by = references_of is.names 0 is.slots

  pub main-methods-are : methods_of is.class ≡ methods_of_main
  main-methods-are = methods-made is.class is.class.methods (main_plans main is.texts by) is.methods

  pub main-fields-are : fields_of is.class ≡ fields_of_main (has_meter main)
  main-fields-are = fields-made is.class field_name field_descriptor is.class.fields (range_with_len 0 (main_fields main)) is.fields_are

  main-method : (k : ℕ) (s : Signature) → slice_get methods_of_main k ≡ Some s → slice_get (methods_of is.class) k ≡ Some s
  main-method k s at = ap (λ (ms : List Signature). slice_get ms k) main-methods-are ∙ at

  abbrev helper_signature : ℕ → Signature
  helper_signature = numbered helper_name helper_descriptor

  abbrev other_signatures : List Signature
  other_signatures =
      signature (codes "run") nothing ∷ signature (codes "choose") nothing ∷ signature (codes "pages") (codes "(Ljava/lang/String;)V")
      ∷ signature (codes "missing") nothing ∷ []

  helper-method : (k : ℕ) → k < 20 → slice_get (methods_of is.class) k ≡ Some (helper_signature k)
  helper-method k below =
      main-method k (helper_signature k)
      (get-front (map helper_signature (range_with_len 0 20)) other_signatures k (helper_signature k) (mapped-get helper_signature 20 k below))

  -- ---- as the first class of a program

  module _ (others : List Class) (once : twice_fault [] 0 (is.class ∷ others) ≡ None) where
    abbrev classes : List Class
    classes = is.class ∷ others

    fields-numbered : HaveFieldNumbers (main_fields main) classes name
    fields-numbered f below =
        let s = numbered field_name field_descriptor f in
        let at = ap (λ (fs : List Signature). slice_get fs f) main-fields-are ∙ mapped-get (numbered field_name field_descriptor) (main_fields main) f below in
        let none : 0 + f ≡ f = omega arith in
        subst (λ x. field_number classes (reference_to x s) ≡ Some f) (own-is is.class name is.named)
        (field-number classes 0 f is.class s once refl at ∙ ap (λ n. Some n) none)

    helpers-numbered : HaveMethodNumbers classes name helper_name helper_descriptor 0 20
    helpers-numbered = methods-numbered classes once 0 is.class refl name is.named helper_name helper_descriptor 0 20 refl helper-method

    pub has-main : HasMain (main_fields main) classes name
    has-main = record {
      no_host = owner-no-host classes once 0 is.class refl name is.named;
      fields = fields-numbered;
      helpers = helpers-numbered;
    }

    -- ---- fields

    abbrev kind_at : ℕ → Kind
    kind_at k = descriptor_kind (field_descriptor k)

    kinds-are : map (field_kind is.class) is.class.fields ≡ map kind_at (range_with_len 0 (main_fields main))
    kinds-are =
        zip-mapped (field_kind is.class) kind_at is.class.fields (range_with_len 0 (main_fields main))
        (zip-through (IsField is.class.pool) (λ f k. field_kind is.class f ≡ kind_at k)
        (λ (f : Member) k named. ap descriptor_kind (text-is is.class f.desc (field_descriptor k) named.descriptor_is)) is.class.fields (range_with_len 0 (main_fields main))
        is.fields_are)

    pub fields-are : All (λ (d : Class). d.fields ≡ []) others → (f : ℕ) → f < main_fields main → (program_of classes).field f ≡ Some (kind_at f)
    fields-are none f below =
        ap (λ (ks : List Kind). slice_get ks f) (first-kinds is.class others none ∙ kinds-are) ∙ mapped-get kind_at (main_fields main) f below

    pub no-more-fields : All (λ (d : Class). d.fields ≡ []) others → (f : ℕ) → main_fields main ≤ f → (program_of classes).field f ≡ None
    no-more-fields none f above =
        ap (λ (ks : List Kind). slice_get ks f) (first-kinds is.class others none ∙ kinds-are)
        ∙ slice_get_past (map kind_at (range_with_len 0 (main_fields main))) f
        (let long = mapped-length kind_at (main_fields main) in omega (arith, above, long))

    pub first-is : (program_of classes).first ≡ run_number
    first-is =
        ap (λ o. unwrap_or o 0)
        (method-number classes 0 run_number is.class run_signature once refl (main-method run_number run_signature refl))

    -- ---- texts

    pub texts-are : AllZip (λ (slot : ℕ) (characters : List ℕ). (program_of classes).characters 0 slot ≡ characters) is.texts (share_texts main.runs.now)
    texts-are =
        zip-through (IsTextAt is.class.pool) (λ slot characters. (program_of classes).characters 0 slot ≡ characters)
        (λ slot characters at. text-is is.class slot characters at) is.texts (share_texts main.runs.now) is.names_are.texts_are

    -- ---- methods that are called

    own-number : (k : ℕ) (own descriptor : List ℕ) → IsMethodAt is.class.pool (slot_of is.slots k) is.names.main own descriptor
        → slice_get (methods_of is.class) k ≡ Some (signature own descriptor) → IsMethodNumber classes is.class.pool (slot_of is.slots k) k
    own-number k own descriptor at there =
        let none : 0 + k ≡ k = omega arith in
        record {
          class = is.names.main;
          owner = name;
          name = own;
          descriptor = descriptor;
          owner_is = is.names_are.names_are.main_is;
          no_host = has-main.no_host;
          method_is = at;
          number_is = method-at classes once 0 is.class refl name is.named k (signature own descriptor) there ∙ ap (λ n. Some n) none;
        }

    abbrev HasSlot : ℕ → Type 0
    HasSlot m = IsMethodNumber classes is.class.pool (slot_of is.slots m) m

    abbrev own_are : AreOwnMethods is.class.pool is.names.main is.slots
    own_are = is.names_are.methods_are.own_are

    helper-number : (m : ℕ) → is_helper m ≡ true → HasSlot m
    helper-number m helper =
        let below = ltb-true m 20 helper in
        own-number m (helper_name m) (helper_descriptor m) (own_are.helpers m below) (helper-method m below)

    choose-number : HasSlot 21
    choose-number = own-number 21 (codes "choose") nothing own_are.choose (main-method 21 (signature (codes "choose") nothing) refl)

    pages-number : HasSlot 22
    pages-number = own-number 22 (codes "pages") pages_descriptor own_are.pages (main-method 22 (signature (codes "pages") pages_descriptor) refl)

    missing-number : HasSlot 23
    missing-number = own-number 23 (codes "missing") nothing own_are.missing (main-method 23 (signature (codes "missing") nothing) refl)

    own-numbers : (m : ℕ) → own_called m ≡ true → HasSlot m
    own-numbers m own = elim (or_cases (m == choose_number || m == pages_number) (m == missing_number) own) [
      | inl first ↦ elim (or_cases (m == choose_number) (m == pages_number) first) [
        | inl choose ↦ subst HasSlot (sym (eqb-true m choose_number choose)) choose-number
        | inr pages ↦ subst HasSlot (sym (eqb-true m pages_number pages)) pages-number
      ]
      | inr missing ↦ subst HasSlot (sym (eqb-true m missing_number missing)) missing-number
    ]

    module _ (law : NamesAreMeant) (has : HasOthers classes name main) where
      code-number : (m : ℕ) → has_number main.code.now m ≡ true → HasSlot m
      code-number m code =
          let found = number-at main.code.now m code in
          let other = is.names_are.methods_are.code_are found.0 found.1 in
          let numbered = has.runs found.0 found.1 in
          subst HasSlot found.2 (record {
            class = other.owner;
            owner = code_class_name name found.0;
            name = codes "run";
            descriptor = nothing;
            owner_is = other.owner_is;
            no_host = numbered.no_host;
            method_is = other.method_is;
            number_is = numbered.number_is;
          })

      data-number : (m : ℕ) → has_number main.data.now m ≡ true → HasSlot m
      data-number m data_is =
          let found = number-at main.data.now m data_is in
          let other = is.names_are.methods_are.data_are found.0 found.1 in
          let numbered = has.fills found.0 found.1 in
          subst HasSlot found.2 (record {
            class = other.owner;
            owner = data_class_name name found.0;
            name = codes "fill";
            descriptor = nothing;
            owner_is = other.owner_is;
            no_host = numbered.no_host;
            method_is = other.method_is;
            number_is = numbered.number_is;
          })

      numbers : (m : ℕ) → calls main m ≡ true → HasSlot m
      numbers m called = elim (or_cases (is_helper m) (own_called m || others_called main m) called) [
        | inl helper ↦ helper-number m helper
        | inr others_are ↦ elim (or_cases (own_called m) (others_called main m) others_are) [
          | inl own ↦ own-numbers m own
          | inr other ↦ elim (or_cases (has_number main.code.now m) (has_number main.data.now m) other) [
            | inl code ↦ code-number m code
            | inr data_is ↦ data-number m data_is
          ]
        ]
      ]

      are-called : AreCalled by classes 0 is.class (calls main)
      are-called =
          numbered-called slot-law by classes 0 is.class is.class.pool (extends-itself is.class.pool) (calls main)
          (λ m called. let same : m ≡ m - 0 = omega arith in
          subst (λ k. IsMethodNumber classes is.class.pool (slice_index is.slots k) m) same (numbers m called))

      meant : AreMeant (main_fields main) by classes 0 is.class
      meant =
          law (main_fields main) classes 0 is.class is.class.pool name is.names 0 is.slots (extends-itself is.class.pool) is.names_are.names_are fields-numbered

      -- ---- what the code names

      abbrev KnowsPlan : Plan → Type 0
      KnowsPlan = Knows classes 0 is.class refl

      helper-knows : (k : ℕ) → k < 20 → KnowsPlan (helper_plan main.beginning.order by k)
      helper-knows k below =
          let gives = gives_int (helper_descriptor k) in
          let code = helper_code main.beginning.order k in
          code-known (main_fields main) by classes 0 is.class (calls main) gives meant are-called code
          (plain-more (has_meter main) (calls main) 0 gives code
          (code-more is_fault (calls main) 0 gives (fault-calls main) code (helper-well main.beginning.order 0 k below)))

      run-knows : KnowsPlan (run_plan main is.texts by)
      run-knows =
          code-known (main_fields main) by classes 0 is.class (calls main) false meant are-called (run_plan main is.texts by).code
          (run-well (calls main) 0 main.meter main.beginning is.texts pages_number main.data.now choose_number
          (own-calls main pages_number refl)
          (all-got (λ m. calls main m ≡ true) main.data.now (λ k m e. data-calls main m (number-there main.data.now k m e)))
          (own-calls main choose_number refl))

      module _ (started : (k : ℕ) (s : Start) → slice_get main.starts.now k ≡ Some s → (has_number main.code.now s.method ≡ true) ⊎ (s.method ≡ missing_number)) where
        start-called : (k : ℕ) (s : Start) → slice_get main.starts.now k ≡ Some s → IsCalled (calls main) 0 s
        start-called k s e = elim (started k s e) [
          | inl code ↦ code-calls main s.method code
          | inr missing ↦ subst (λ m. calls main m ≡ true) (sym missing) (own-calls main missing_number refl)
        ]

        choose-knows : KnowsPlan (choose_plan main by)
        choose-knows =
            code-known (main_fields main) by classes 0 is.class (calls main) false meant are-called (choose_plan main by).code
            (plain-more (has_meter main) (calls main) 0 false (choose_plan main by).code
            (main-well (calls main) 0 main.starts.now missing_number (all-got (IsCalled (calls main) 0) main.starts.now start-called)
            (own-calls main missing_number refl)))

        pages-knows : KnowsPlan (pages_plan by)
        pages-knows =
            code-known (main_fields main) by classes 0 is.class (calls main) false meant are-called (pages_plan by).code
            (plain-more (has_meter main) (calls main) 0 false (pages_plan by).code (pages-well (calls main) 0))

        missing-knows : KnowsPlan (missing_plan (has_meter main) by)
        missing-knows =
            code-known (main_fields main) by classes 0 is.class (calls main) false meant are-called (missing_plan (has_meter main) by).code (missing-well (calls main) 0 (has_meter main))

        others-know : (k : ℕ) (p : Plan) → slice_get (other_plans main is.texts by) k ≡ Some p → KnowsPlan p
        others-know zero p e = let one : run_plan main is.texts by ≡ p = cc in subst KnowsPlan one run-knows
        others-know (suc zero) p e = let one : choose_plan main by ≡ p = cc in subst KnowsPlan one choose-knows
        others-know (suc (suc zero)) p e = let one : pages_plan by ≡ p = cc in subst KnowsPlan one pages-knows
        others-know (suc (suc (suc zero))) p e = let one : missing_plan (has_meter main) by ≡ p = cc in subst KnowsPlan one missing-knows
        others-know (suc (suc (suc (suc k)))) p e = absurd cc

        knows : (k : ℕ) (p : Plan) → slice_get (main_plans main is.texts by) k ≡ Some p → KnowsPlan p
        knows k p e = elim (get-either (helper_plans main.beginning.order by 20) (other_plans main is.texts by) k p e) [
          | inl front ↦ let from = mapped-from (helper_plan main.beginning.order by) (range_with_len 0 20) k p front in
              subst KnowsPlan from.2 (helper-knows from.0 (range-member 20 k from.0 from.1))
          | inr behind ↦ others-know behind.0 p behind.2
        ]

        pub main-planned : ArePlanned (program_of classes) 0 (main_plans main is.texts by)
        main-planned = are-planned classes 0 is.class refl 0 (main_plans main is.texts by) is.methods refl knows
