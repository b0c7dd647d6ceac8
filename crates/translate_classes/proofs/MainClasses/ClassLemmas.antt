-- Which classes the main class asks for, in order.
use Rattle.std.proofs.Common.{◌≡◌, ℕ, List, [], ◌∷◌, ◌++◌, map, length, codes, refl, ap, ◌∙◌}
use Rattle.std.specs.List.{flat_map, range_with_len}
use Rattle.std.proofs.lemmas.Grind.{flat_map-append}
use Rattle.class_definition.specs.MemberNames.{object_name, string_name, host_name}
use Rattle.emit_layout.specs.Fields.{field_name, field_descriptor}
use Rattle.emit_layout.specs.Helpers.{helper_name, helper_descriptor}
use Rattle.emit_classes.specs.declared.member_kind.MemberKind.{MemberKind}
use Rattle.emit_classes.specs.declared.member_kind.MemberKind.TheVariants.{Field, Method}
use Rattle.emit_classes.specs.Mentioned.{Mention, OfClass, member_mention, method_mention, class_mention, classes_among}
use Rattle.translate_classes.specs.Making.{nothing}
use Rattle.translate_classes.specs.Mentioned.{field_mentions, helper_mentions, host_mentions, string_mentions, names_mentions}
use Rattle.translate_classes.specs.declared.content.MainClass.{MainClass}
use Rattle.translate_classes.specs.declared.other_class.OtherClass.{OtherClass}
use Rattle.translate_classes.specs.declared.other_class.OtherClass.TheVariants.{Code, Data}
use Rattle.translate_classes.specs.Content.{main_fields}
use Rattle.translate_classes.specs.Called.{class_name, pages_descriptor}
use Rattle.translate_classes.specs.MainMentioned.{own_mentions, other_mention, other_mentions, called_mentions, main_mentions}

joined : (xs ys : List Mention) → classes_among (xs ++ ys) ≡ classes_among xs ++ classes_among ys
joined xs ys = flat_map-append class_mention xs ys

members-none : (kind : MemberKind) (name descriptor : ℕ → List ℕ) (owner : List ℕ) (ks : List ℕ)
    → classes_among (map (λ k. member_mention kind owner (name k) (descriptor k)) ks) ≡ []
members-none kind name descriptor owner [] = refl
members-none kind name descriptor owner (k ∷ ks) = members-none kind name descriptor owner ks

own-none : (name : List ℕ) → classes_among (own_mentions name) ≡ []
own-none name =
    let last = method_mention name (codes "choose") nothing
    ∷ method_mention name (codes "pages") pages_descriptor
    ∷ method_mention name (codes "missing") nothing
    ∷ [] in
    joined (helper_mentions name 20) last
    ∙ ap (λ l. l ++ classes_among last) (members-none Method helper_name helper_descriptor name (range_with_len 0 20))

-- one for each class of a kind
each-other : (name : List ℕ) (kind : OtherClass) (ks : List ℕ)
    → classes_among (flat_map (other_mention name kind) ks) ≡ map (class_name kind name) ks
each-other name kind [] = refl
each-other name kind (k ∷ ks) = ap (λ l. class_name kind name k ∷ l) (each-other name kind ks)

in-parts : (name : List ℕ) (fields x y z : List Mention) → classes_among fields ≡ []
    → classes_among ((((OfClass name ∷ fields) ++ x) ++ y) ++ z)
    ≡ (((name ∷ []) ++ classes_among x) ++ classes_among y) ++ classes_among z
in-parts name fields x y z none =
    let front = OfClass name ∷ fields in
    joined ((front ++ x) ++ y) z
    ∙ ap (λ l. l ++ classes_among z)
    (joined (front ++ x) y
    ∙ ap (λ l. l ++ classes_among y) (joined front x ∙ ap (λ l. (name ∷ l) ++ classes_among x) none))

names-classes : (fields : ℕ) (name : List ℕ) → classes_among (names_mentions fields name) ≡ name ∷ host_name ∷ string_name ∷ codes "[I" ∷ []
names-classes fields name =
    in-parts name (field_mentions name fields) host_mentions string_mentions (OfClass (codes "[I") ∷ [])
    (members-none Field field_name field_descriptor name (range_with_len 0 fields))

called-classes : (name : List ℕ) (main : MainClass) → classes_among (called_mentions name main)
    ≡ map (class_name Code name) (range_with_len 0 (length main.code.now)) ++ map (class_name Data name) (range_with_len 0 (length main.data.now))
called-classes name main =
    let code = other_mentions name Code (length main.code.now) in
    let datas = other_mentions name Data (length main.data.now) in
    let first = each-other name Code (range_with_len 0 (length main.code.now)) in
    let second = each-other name Data (range_with_len 0 (length main.data.now)) in
    joined (own_mentions name ++ code) datas
    ∙ ap (λ l. l ++ classes_among datas) (joined (own_mentions name) code ∙ ap (λ l. l ++ classes_among code) (own-none name))
    ∙ (λ i. first i ++ second i)

-- itself and the class above it, what every class names, and the classes of code and of data
pub main-classes : (name : List ℕ) (main : MainClass) → classes_among (main_mentions name main)
    ≡ name ∷ object_name ∷ name ∷ host_name ∷ string_name ∷ codes "[I"
    ∷ (map (class_name Code name) (range_with_len 0 (length main.code.now)) ++ map (class_name Data name) (range_with_len 0 (length main.data.now)))
main-classes name main =
    let all = names-classes (main_fields main) name in
    let more = called-classes name main in
    ap (λ l. name ∷ object_name ∷ l) (joined (names_mentions (main_fields main) name) (called_mentions name main) ∙ (λ i. all i ++ more i))
