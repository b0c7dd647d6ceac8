-- What the classes of a translation name passes a test if each part of it does.
use Rattle.std.proofs.Common.{◌≡◌, ℕ, ◌+◌, ◌<◌, ◌≤◌, true, List, [], ◌∷◌, ◌++◌, length, refl, arith}
use Rattle.std.specs.Prelude.{codes, Bool}
use Rattle.std.specs.List.{list_all}
use Rattle.class_definition.specs.MemberNames.{object_name}
use Rattle.emit_layout.specs.Fields.{field_name, field_descriptor}
use Rattle.emit_classes.specs.Mentioned.{Mention, OfClass, field_mention, method_mention}
use Rattle.translate_classes.specs.Making.{nothing}
use Rattle.translate_classes.specs.Mentioned.{field_mentions, helper_mentions, host_mentions, string_mentions, names_mentions}
use Rattle.translate_classes.specs.declared.content.MainClass.{MainClass}
use Rattle.translate_classes.specs.declared.other_class.OtherClass.{OtherClass}
use Rattle.translate_classes.specs.declared.other_class.OtherClass.TheVariants.{Code, Data}
use Rattle.translate_classes.specs.Called.{pages_descriptor, class_name, method_name}
use Rattle.translate_classes.specs.Content.{main_fields}
use Rattle.translate_classes.specs.MainMentioned.{own_mentions, other_mention, other_mentions, called_mentions, main_mentions}
use Rattle.translate_classes.specs.CodeNaming.{span_mentions, code_mentions}
use Rattle.translate_classes.specs.DataNaming.{words_descriptor, data_mentions}
use Rattle.nv_translate.proofs.AcceptedTranslations.Passing.{pass-more, pass-joined, pass-range, pass-ranges}

module _ (test : Mention → Bool) (main : List ℕ) where
  abbrev pub Pass : List Mention → Type 0
  Pass names = list_all test names ≡ true

  one : (m : Mention) → test m ≡ true → Pass (m ∷ [])
  one m is = pass-more test m [] is refl

  two : (m n : Mention) → test m ≡ true → test n ≡ true → Pass (m ∷ n ∷ [])
  two m n is also = pass-more test m (n ∷ []) is (one n also)

  pub three : (m n o : Mention) → test m ≡ true → test n ≡ true → test o ≡ true → Pass (m ∷ n ∷ o ∷ [])
  three m n o is also third = pass-more test m (n ∷ o ∷ []) is (two n o also third)

  -- what every class names, of so many fields
  pub record NamesPass (fields : ℕ) : Type 0 where
    pub class : test (OfClass main) ≡ true
    pub object : test (OfClass object_name) ≡ true
    pub each_field : (k : ℕ) → k < fields → test (field_mention main (field_name k) (field_descriptor k)) ≡ true
    pub host : Pass host_mentions
    pub string : Pass string_mentions
    pub ints : test (OfClass (codes "[I")) ≡ true
    pub helpers : Pass (helper_mentions main 20)

  fields-pass : (fields count : ℕ) → NamesPass fields → count ≤ fields → Pass (field_mentions main count)
  fields-pass fields count all few =
      pass-range test (λ k. field_mention main (field_name k) (field_descriptor k)) 0 count (λ k below. all.each_field k (omega (arith, below, few)))

  -- those that name as many fields, or fewer
  pub names-pass : (fields count : ℕ) → NamesPass fields → count ≤ fields → Pass (names_mentions count main)
  names-pass bound count all few =
      let ints : Mention = OfClass (codes "[I") in
      let first : List Mention = OfClass main ∷ [] in
      let fields = field_mentions main count in
      pass-joined test (first ++ fields ++ host_mentions ++ string_mentions) (ints ∷ [])
      (pass-joined test (first ++ fields ++ host_mentions) string_mentions
      (pass-joined test (first ++ fields) host_mentions
      (pass-joined test first fields (one (OfClass main) all.class) (fields-pass bound count all few)) all.host) all.string)
      (one ints all.ints)

  pub code-pass : (fields count : ℕ) → NamesPass fields → count ≤ fields → (own : List ℕ) (spans : ℕ) → test (OfClass own) ≡ true → Pass (span_mentions own spans)
      → Pass (code_mentions count own main spans)
  code-pass fields count all few own spans is methods =
      let itself : List Mention = OfClass own ∷ [] in
      let names = names_mentions count main in
      let helpers = helper_mentions main 20 in
      pass-joined test (OfClass own ∷ OfClass object_name ∷ []) (names ++ helpers ++ itself ++ span_mentions own spans)
      (two (OfClass own) (OfClass object_name) is all.object)
      (pass-joined test (names ++ helpers ++ itself) (span_mentions own spans)
      (pass-joined test (names ++ helpers) itself (pass-joined test names helpers (names-pass fields count all few) all.helpers) (one (OfClass own) is)) methods)

  pub data-pass : (fields : ℕ) → NamesPass fields → 38 ≤ fields → (own : List ℕ) → test (OfClass own) ≡ true → test (method_mention own (codes "words") words_descriptor) ≡ true
      → Pass (data_mentions own main)
  data-pass fields all few own is words =
      let itself : List Mention = OfClass own ∷ [] in
      let names = names_mentions 38 main in
      let last : Mention = method_mention own (codes "words") words_descriptor in
      pass-joined test (OfClass own ∷ OfClass object_name ∷ []) (itself ++ names ++ last ∷ [])
      (two (OfClass own) (OfClass object_name) is all.object)
      (pass-joined test (itself ++ names) (last ∷ []) (pass-joined test itself names (one (OfClass own) is) (names-pass fields 38 all few)) (one last words))

  -- its own methods that the main class calls
  pub own-pass : (fields : ℕ) → NamesPass fields → test (method_mention main (codes "choose") nothing) ≡ true
      → test (method_mention main (codes "pages") pages_descriptor) ≡ true → test (method_mention main (codes "missing") nothing) ≡ true
      → Pass (own_mentions main)
  own-pass fields all choose pages missing =
      pass-joined test (helper_mentions main 20)
      (method_mention main (codes "choose") nothing ∷ method_mention main (codes "pages") pages_descriptor ∷ method_mention main (codes "missing") nothing ∷ [])
      all.helpers
      (three (method_mention main (codes "choose") nothing) (method_mention main (codes "pages") pages_descriptor) (method_mention main (codes "missing") nothing)
      choose pages missing)

  -- a class of a kind, with its method
  pub record OtherPasses (kind : OtherClass) (i : ℕ) : Type 0 where
    pub class : test (OfClass (class_name kind main i)) ≡ true
    pub method : test (method_mention (class_name kind main i) (method_name kind) nothing) ≡ true

  others-pass : (kind : OtherClass) (count : ℕ) → ((i : ℕ) → i < 0 + count → OtherPasses kind i) → Pass (other_mentions main kind count)
  others-pass kind count each =
      pass-ranges test (other_mention main kind) 0 count (λ i below.
      let is = each i below in
      two (OfClass (class_name kind main i)) (method_mention (class_name kind main i) (method_name kind) nothing) is.class is.method)

  pub main-pass : (m : MainClass) → NamesPass (main_fields m) → Pass (own_mentions main) → ((i : ℕ) → i < 0 + length m.code.now → OtherPasses Code i)
      → ((i : ℕ) → i < 0 + length m.data.now → OtherPasses Data i) → Pass (main_mentions main m)
  main-pass m all own code data_are =
      let codes_are = other_mentions main Code (length m.code.now) in
      let datas = other_mentions main Data (length m.data.now) in
      pass-joined test (OfClass main ∷ OfClass object_name ∷ []) (names_mentions (main_fields m) main ++ called_mentions main m)
      (two (OfClass main) (OfClass object_name) all.class all.object)
      (pass-joined test (names_mentions (main_fields m) main) (called_mentions main m) (names-pass (main_fields m) (main_fields m) all (omega arith))
      (pass-joined test (own_mentions main ++ codes_are) datas (pass-joined test (own_mentions main) codes_are own (others-pass Code (length m.code.now) code))
      (others-pass Data (length m.data.now) data_are)))
