-- Labels as a map keeps them.
use Rattle.std.proofs.Common.{◌≡◌, ℕ, Bool, true, false, cond, List, [], ◌∷◌, map, refl, ap, sym, ◌∙◌, Option, Some, None, is_some, bytes_eq, Bor, BTreeMap}
use Rattle.std.specs.BTreeMap as tree
use Rattle.std.specs.Map.{lookup}
use Rattle.std.specs.Cmp.Lexicographic.{slice_cmp}
use Rattle.std.specs.Ordering.{is_eq, nat_cmp}
use Rattle.std.proofs.lemmas.Map.Text.{is_eq-slice_cmp, btree_map_updates_str}
use Rattle.std.proofs.lemmas.Slice.Eq.{bytes_eq-Decides}
use Rattle.asm_lines.specs.Operands.{LabelList, label_address, first_of}
use Rattle.asm_lines.specs.KeptLabels.{kept_labels}

same : (r s : Bool) → (r ≡ true → s ≡ true) → (s ≡ true → r ≡ true) → r ≡ s
same true s f g = sym (f refl)
same false true f g = g refl
same false false f g = refl

pub bytes_eq_sym : (xs ys : List ℕ) → bytes_eq xs ys ≡ bytes_eq ys xs
bytes_eq_sym xs ys =
    same (bytes_eq xs ys) (bytes_eq ys xs)
    (λ h. (bytes_eq-Decides ys xs).1 (sym ((bytes_eq-Decides xs ys).0 h)))
    (λ h. (bytes_eq-Decides xs ys).1 (sym ((bytes_eq-Decides ys xs).0 h)))

found : (es : List (Bor (List ℕ) × ℕ)) (name : List ℕ)
    → lookup (λ k. is_eq (slice_cmp nat_cmp name k.now)) es ≡ label_address (map (λ e. (e.0.now, e.1)) es) name
found [] name = refl
found (e ∷ es) name =
    ap (λ t. cond t (Some e.1) (lookup (λ k. is_eq (slice_cmp nat_cmp name k.now)) es)) (is_eq-slice_cmp name e.0.now ∙ bytes_eq_sym name e.0.now)
    ∙ ap (λ o. cond (bytes_eq e.0.now name) (Some e.1) o) (found es name)

-- a look-up in the map finds the address of the name
pub found_in : (m : BTreeMap (Bor (List ℕ)) ℕ) (name : List ℕ)
    → tree.get_by (λ k. slice_cmp nat_cmp name k.now) m ≡ label_address (kept_labels m) name
found_in m name = found m.entries name

behind_first : (new : List ℕ) (other : List ℕ) (old : Option ℕ) (at : ℕ) → (bytes_eq new other ≡ true → old ≡ None)
    → cond (bytes_eq new other) (Some at) old ≡ first_of old (cond (bytes_eq new other) (Some at) None)
behind_first new other old at h = by (bytes_eq new other) h old
  where
    by : (t : Bool) → (t ≡ true → old ≡ None) → (o : Option ℕ) → cond t (Some at) old ≡ first_of old (cond t (Some at) None)
    by true h o = sym (ap (λ x. first_of x (Some at)) (h refl))
    by false h o = none old
      where
        none : (x : Option ℕ) → x ≡ first_of x None
        none None = refl
        none (Some a) = refl

-- a name that the map does not have is added
pub added : (name : List ℕ) (m n : BTreeMap (Bor (List ℕ)) ℕ) (at : ℕ)
    → tree.UpdatesBy (λ x y. slice_cmp nat_cmp x.now y.now) (λ k. slice_cmp nat_cmp name k.now) m n (Some at)
    → label_address (kept_labels m) name ≡ None
    → (other : List ℕ) → label_address (kept_labels n) other ≡ first_of (label_address (kept_labels m) other) (cond (bytes_eq name other) (Some at) None)
added name m n at h absent other =
    sym (found_in n other) ∙ btree_map_updates_str name m n (Some at) h other
    ∙ ap (λ o. cond (bytes_eq name other) (Some at) o) (found_in m other)
    ∙ behind_first name other (label_address (kept_labels m) other) at
    (λ e. ap (λ x. label_address (kept_labels m) x) (sym ((bytes_eq-Decides name other).0 e)) ∙ absent)

none_of : (o : Option ℕ) → is_some o ≡ false → o ≡ None
none_of None h = refl
none_of (Some a) h = cc

-- the same of a map whose labels are known
pub added_to : (name : List ℕ) (m n : BTreeMap (Bor (List ℕ)) ℕ) (at : ℕ) (labels : LabelList)
    → tree.UpdatesBy (λ x y. slice_cmp nat_cmp x.now y.now) (λ k. slice_cmp nat_cmp name k.now) m n (Some at)
    → kept_labels m ≡ labels → is_some (label_address labels name) ≡ false
    → (other : List ℕ) → label_address (kept_labels n) other ≡ first_of (label_address labels other) (cond (bytes_eq name other) (Some at) None)
added_to name m n at labels h e f other =
    added name m n at h (ap (λ l. label_address l name) e ∙ none_of (label_address labels name) f) other
    ∙ ap (λ l. first_of (label_address l other) (cond (bytes_eq name other) (Some at) None)) e
