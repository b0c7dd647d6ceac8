-- Values and operands further on: what is not a place is the same.
use Rattle.std.proofs.Common.{◌≡◌, ℕ, ◌&&◌, Bool, true, false, not, if◌then◌else◌, List, [], ◌∷◌, ◌++◌, map, length, drop, slice_get, Option, Some, None, option_map, refl, sym, ap, ◌∙◌}
use Rattle.std.proofs.lemmas.List.{map-append, drop-map}
use Rattle.std.proofs.lemmas.Option.{slice_get-map}
use Rattle.jvm_definition.specs.declared.constant.Constant.{Constant}
use Rattle.jvm_definition.specs.declared.constant.Constant.TheVariants as constants
use Rattle.jvm_definition.specs.declared.local_kind.LocalKind.{LocalKind}
use Rattle.jvm_definition.specs.declared.local_kind.LocalKind.TheVariants as local_kinds
use Rattle.jvm_definition.specs.declared.value.Value.{Value}
use Rattle.jvm_definition.specs.declared.value.Value.TheVariants.{Array as array}
use Rattle.jvm_definition.specs.Values.{reference_value, is_int, is_long_value, is_null, is_text_reference}
use Rattle.jvm_definition.specs.Shuffles.{Shuffle, fits_longs, item_before, picked, shuffled}
use Rattle.jvm_definition.specs.Effect.{constant_value, is_reference, moves_value}
use Rattle.jvm_run_laws.specs.Relocation.{relocated_place, relocated_value}

module _ (by : ℕ) where
  -- ---- one value

  pub same_is_int : (v : Value) → is_int (relocated_value by v) ≡ is_int v
  same_is_int (array p) = refl
  same_is_int _ = refl

  pub same_is_long : (v : Value) → is_long_value (relocated_value by v) ≡ is_long_value v
  same_is_long (array p) = refl
  same_is_long _ = refl

  pub same_is_null : (v : Value) → is_null (relocated_value by v) ≡ is_null v
  same_is_null (array p) = refl
  same_is_null _ = refl

  pub same_is_text : (v : Value) → is_text_reference (relocated_value by v) ≡ is_text_reference v
  same_is_text (array p) = refl
  same_is_text _ = refl

  same_is_reference : (v : Value) → is_reference (relocated_value by v) ≡ is_reference v
  same_is_reference (array p) = refl
  same_is_reference _ = refl

  pub same_moves : (kind : LocalKind) (v : Value) → moves_value kind (relocated_value by v) ≡ moves_value kind v
  same_moves local_kinds.Int v = same_is_int v
  same_moves local_kinds.Reference v = same_is_reference v

  pub far_constant : (c : Constant) → constant_value c ≡ relocated_value by (constant_value c)
  far_constant constants.Null = refl
  far_constant _ = refl

  pub far_reference : (place : Option ℕ) → reference_value (relocated_place by place) ≡ relocated_value by (reference_value place)
  far_reference None = refl
  far_reference (Some p) = refl

  pub far_choice : (b : Bool) (u v : Value) → (if b then relocated_value by u else relocated_value by v) ≡ relocated_value by (if b then u else v)
  far_choice true u v = refl
  far_choice false u v = refl

  -- ---- instructions that move operands

  same_fits : (longs : List Bool) (operands : List Value) → fits_longs is_long_value longs (map (relocated_value by) operands) ≡ fits_longs is_long_value longs operands
  same_fits [] operands = refl
  same_fits (l ∷ longs) [] = refl
  same_fits (l ∷ longs) (v ∷ operands) =
      ap (λ b. (if l then b else not b) && fits_longs is_long_value longs (map (relocated_value by) operands)) (same_is_long v)
      ∙ ap (λ b. (if l then is_long_value v else not (is_long_value v)) && b) (same_fits longs operands)

  far_item : (item : Option Value) (rest : List Value) → item_before (option_map (relocated_value by) item) (map (relocated_value by) rest) ≡ map (relocated_value by) (item_before item rest)
  far_item None rest = refl
  far_item (Some v) rest = refl

  far_picked : (ks : List ℕ) (operands : List Value) → picked ks (map (relocated_value by) operands) ≡ map (relocated_value by) (picked ks operands)
  far_picked [] operands = refl
  far_picked (k ∷ ks) operands =
      ap (λ item. item_before item (picked ks (map (relocated_value by) operands))) (slice_get-map (relocated_value by) operands k)
      ∙ ap (item_before (option_map (relocated_value by) (slice_get operands k))) (far_picked ks operands)
      ∙ far_item (slice_get operands k) (picked ks operands)

  far_given : (f : Shuffle) (operands : List Value) → picked f.given (map (relocated_value by) operands) ++ drop (length f.longs) (map (relocated_value by) operands) ≡ map (relocated_value by) (picked f.given operands ++ drop (length f.longs) operands)
  far_given f operands =
      ap (λ given. given ++ drop (length f.longs) (map (relocated_value by) operands)) (far_picked f.given operands)
      ∙ ap (λ rest. map (relocated_value by) (picked f.given operands) ++ rest) (drop-map (relocated_value by) (length f.longs) operands)
      ∙ sym (map-append (relocated_value by) (picked f.given operands) (drop (length f.longs) operands))

  far_form : (b : Bool) (given far_one : List Value) (others far_others : Option (List Value)) → far_one ≡ map (relocated_value by) given → far_others ≡ option_map (map (relocated_value by)) others → (if b then Some far_one else far_others) ≡ option_map (map (relocated_value by)) (if b then Some given else others)
  far_form true given far_one others far_others h k = ap Some h
  far_form false given far_one others far_others h k = k

  pub far_shuffled : (forms : List Shuffle) (operands : List Value) → shuffled is_long_value forms (map (relocated_value by) operands) ≡ option_map (map (relocated_value by)) (shuffled is_long_value forms operands)
  far_shuffled [] operands = refl
  far_shuffled (f ∷ forms) operands =
      let given : List Value = picked f.given (map (relocated_value by) operands) ++ drop (length f.longs) (map (relocated_value by) operands) in
      ap (λ b. if b then Some given else shuffled is_long_value forms (map (relocated_value by) operands)) (same_fits f.longs operands)
      ∙ far_form (fits_longs is_long_value f.longs operands) (picked f.given operands ++ drop (length f.longs) operands) given (shuffled is_long_value forms operands) (shuffled is_long_value forms (map (relocated_value by) operands)) (far_given f operands) (far_shuffled forms operands)
