-- What the names in classes find, and that classes link.
use Rattle.std.proofs.Common.{◌≡◌, ℕ, zero, suc, ◌≤◌, true, false, cond, ◌||◌, List, [], ◌∷◌, length, None, Some, refl, sym, ap, subst, ◌∙◌, slice_get}
use Rattle.std.specs.Option.{option_or}
use Rattle.std.proofs.lemmas.Bool.{or_left, or_right, le-ltb, true≢false}
use Rattle.class_definition.specs.declared.entry.Entry.{Entry}
use Rattle.class_definition.specs.NameGrammar.{same_text, is_array_name}
use Rattle.class_definition.specs.declared.class.Class.{Class}
use Rattle.class_definition.specs.MemberNames.{Signature, own_name, is_known, has_class, has_signature_name, members_named, methods_of}
use Rattle.class_definition.specs.LinkFault.{other_descriptors, no_run, too_many, at_class, is_known_class, member_fault, named_entry_fault, fault_at_slot, slots_fault, references_fault, run_signature, run_fault, twice_fault, link_fault}
use Rattle.class_names.proofs.NumberLemmas.{same_text-refl}
use Rattle.class_names.proofs.FaultLemmas.{not_twice}
use Rattle.translate_classes_laws.proofs.LinkedNumbers.Signatures.{signature-there}
use Rattle.translate_classes_laws.proofs.LinkedNumbers.Numbers.{is-new, text-other, other-name}

-- ---- classes, and their members by their names

itself : (c d : Class) → d ≡ c → same_text (own_name d) (own_name c) ≡ true
itself c d one = subst (λ (x : Class). same_text (own_name d) (own_name x) ≡ true) one (same_text-refl (own_name d))

has-own : (cs : List Class) (n : ℕ) (d : Class) → slice_get cs n ≡ Some d → has_class cs (own_name d) ≡ true
has-own [] n d there = absurd cc
has-own (c ∷ cs) zero d there = let one : d ≡ c = cc in or_left (same_text (own_name d) (own_name c)) (has_class cs (own_name d)) (itself c d one)
has-own (c ∷ cs) (suc n) d there = or_right (same_text (own_name d) (own_name c)) (has_class cs (own_name d)) (has-own cs n d there)

pub class-found : (cs : List Class) (n : ℕ) (d : Class) → slice_get cs n ≡ Some d → is_known_class cs (own_name d) ≡ true
class-found cs n d there = or_right (is_array_name (own_name d) || is_known (own_name d)) (has_class cs (own_name d)) (has-own cs n d there)

module _ (members : Class → List Signature) (others : List Signature) where
  members-found : (before : List (List ℕ)) (number : ℕ) (cs : List Class) (n : ℕ) (d : Class) → twice_fault before number cs ≡ None → slice_get cs n ≡ Some d
      → members_named members others cs (own_name d) ≡ members d
  members-found before number [] n d once there = absurd cc
  members-found before number (c ∷ cs) zero d once there =
      let one : d ≡ c = cc in
      ap (λ b. cond b (members c) (members_named members others cs (own_name d))) (itself c d one) ∙ ap members (sym one)
  members-found before number (c ∷ cs) (suc n) d once there =
      let p = not_twice before number c cs once in
      ap (λ b. cond b (members c) (members_named members others cs (own_name d))) (other-name before (suc number) c cs p.1 n d there)
      ∙ members-found (own_name c ∷ before) (suc number) cs n d p.1 there

  -- no class has a known name
  pub members-known : (before : List (List ℕ)) (number : ℕ) (cs : List Class) (name : List ℕ) → twice_fault before number cs ≡ None → is_known name ≡ true → members_named members others cs name ≡ others
  members-known before number [] name once known = refl
  members-known before number (c ∷ cs) name once known =
      let p = not_twice before number c cs once in
      let other : same_text name (own_name c) ≡ false =
      text-other name (own_name c) (λ e. true≢false (sym known ∙ ap is_known e ∙ (is-new before c p.0).unknown)) in
      ap (λ b. cond b (members c) (members_named members others cs name)) other ∙ members-known (own_name c ∷ before) (suc number) cs name p.1 known

  pub member-found : (missing : ℕ) (cs : List Class) (n k : ℕ) (d : Class) (s : Signature) → twice_fault [] 0 cs ≡ None → slice_get cs n ≡ Some d → slice_get (members d) k ≡ Some s
      → member_fault missing (members_named members others cs (own_name d)) s ≡ None
  member-found missing cs n k d s once there here =
      ap (λ ss. member_fault missing ss s) (members-found [] 0 cs n d once there)
      ∙ ap (λ b. cond b None (cond (has_signature_name (members d) s.name) (Some other_descriptors) (Some missing))) (signature-there (members d) k s here)

-- ---- all references

slots-found : (classes : List Class) (c : Class) (number slot : ℕ) (entries : List Entry) → ((k : ℕ) (e : Entry) → slice_get entries k ≡ Some e → named_entry_fault classes c e ≡ None)
    → slots_fault classes c number slot entries ≡ None
slots-found classes c number slot [] each = refl
slots-found classes c number slot (e ∷ entries) each =
    ap (λ o. fault_at_slot number slot o (slots_fault classes c number (suc slot) entries)) (each 0 e refl)
    ∙ slots-found classes c number (suc slot) entries (λ k x there. each (suc k) x there)

references-found : (classes : List Class) (number : ℕ) (cs : List Class)
    → ((n k : ℕ) (c : Class) (e : Entry) → slice_get cs n ≡ Some c → slice_get c.pool k ≡ Some e → named_entry_fault classes c e ≡ None)
    → references_fault classes number cs ≡ None
references-found classes number [] each = refl
references-found classes number (c ∷ cs) each =
    ap (λ o. option_or o (references_fault classes (suc number) cs)) (slots-found classes c number 1 c.pool (λ k e there. each 0 k c e refl there))
    ∙ references-found classes (suc number) cs (λ n k d e there here. each (suc n) k d e there here)

-- ---- classes that link

pub links : (c : Class) (others : List Class) (k : ℕ) → length (c ∷ others) ≤ 1024 → twice_fault [] 0 (c ∷ others) ≡ None
    → ((n slot : ℕ) (d : Class) (e : Entry) → slice_get (c ∷ others) n ≡ Some d → slice_get d.pool slot ≡ Some e → named_entry_fault (c ∷ others) d e ≡ None)
    → slice_get (methods_of c) k ≡ Some run_signature → link_fault (c ∷ others) ≡ None
links c others k few once each run =
    let cs : List Class = c ∷ others in
    let runs : run_fault cs ≡ None = ap (λ b. cond b None (at_class no_run 0)) (signature-there (methods_of c) k run_signature run) in
    ap (λ b. cond b (at_class too_many 1024) (option_or (twice_fault [] 0 cs) (option_or (references_fault cs 0 cs) (run_fault cs)))) (le-ltb 1024 (length cs) few)
    ∙ ap (λ o. option_or o (option_or (references_fault cs 0 cs) (run_fault cs))) once
    ∙ ap (λ o. option_or o (run_fault cs)) (references-found cs 0 cs each) ∙ runs
