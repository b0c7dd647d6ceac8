-- What an insertion into a map of files changes, and files that stay.
use Rattle.std.proofs.Common.{◌≡◌, ◌≢◌, ℕ, List, Bool, true, false, cond, Some, Vec, Global, String, BTreeMap, string_bytes, string_cmp, nat_cmp, bytes_eq, refl, sym, ap, subst, Option, None, option_map, ◌∙◌}
use Rattle.std.specs.BTreeMap as tree
use Rattle.std.specs.Cmp.Lexicographic.{slice_cmp}
use Rattle.std.proofs.lemmas.Map.Text.{btree_map_updates_text}
use Rattle.std.proofs.lemmas.Slice.Eq.{bytes_eq-Decides}
use Rattle.std.proofs.lemmas.Bool.{false_from_ne_true}
use Rattle.nv_outside.specs.MemShelf.{files_in}
use Rattle.nv_outside.specs.Files.{AgreeWith, Files, Finds, SameFiles, SetsFile}

differs : (name other : List ℕ) → other ≢ name → bytes_eq name other ≡ false
differs name other ne = false_from_ne_true _ (λ same. ne (sym ((bytes_eq-Decides name other).0 same)))

same_bytes : (name : List ℕ) → bytes_eq name name ≡ true
same_bytes name = (bytes_eq-Decides name name).1 refl

pub set_by_insert : (m n : BTreeMap (String Global) (Vec ℕ Global)) (name : List ℕ) (v : Vec ℕ Global) → tree.UpdatesBy string_cmp (λ k. slice_cmp nat_cmp name (string_bytes k)) m n (Some v) → SetsFile (Some (files_in m)) (Some (files_in n)) name v.items
set_by_insert m n name v updates = (rw (btree_map_updates_text name m n (Some v) updates name, same_bytes name), λ other ne. rw (btree_map_updates_text name m n (Some v) updates other, differs name other ne))

pub same_then_same : (a b c : Option Files) → SameFiles a b → SameFiles b c → SameFiles a c
same_then_same None b c p q = tt
same_then_same (Some a) None c p q = absurd p
same_then_same (Some a) (Some b) None p q = absurd q
same_then_same (Some a) (Some b) (Some c) p q = λ name. q name ∙ p name

-- ---- files that agree with those that are told

-- those that are told, or else others
abbrev pub told_or : Option Files → Files → Files
told_or None others = others
told_or (Some told) others = told

pub told_agree : (told : Option Files) (others : Files) → AgreeWith told (told_or told others)
told_agree None others = tt
told_agree (Some told) others = refl

-- they have what was found
pub told_has : (told : Option Files) (name : List ℕ) (found : Option (Vec ℕ Global)) → Finds told name found
    → told_or told (λ other. option_map (λ v. v.items) found) name ≡ option_map (λ v. v.items) found
told_has None name found finds = refl
told_has (Some told) name found finds = sym finds

pub agree_before : (told now : Option Files) (files : Files) → SameFiles told now → AgreeWith now files → AgreeWith told files
agree_before None now files same agree = tt
agree_before (Some told) None files same agree = absurd same
agree_before (Some told) (Some now) files same agree = agree ∙ (λ i name. same name i)

-- files but for one
abbrev pub files_with : Files → List ℕ → Option (List ℕ) → Files
files_with files name found other = cond (bytes_eq name other) found (files other)

pub with-same : (files : Files) (name : List ℕ) (found : Option (List ℕ)) → files_with files name found name ≡ found
with-same files name found = ap (λ b. cond b found (files name)) (same_bytes name)

pub with-other : (files : Files) (name : List ℕ) (found : Option (List ℕ)) (other : List ℕ) → other ≢ name
    → files_with files name found other ≡ files other
with-other files name found other ne = ap (λ b. cond b found (files other)) (differs name other ne)

-- with what the others have there they are the others
with-own : (files others : Files) (name : List ℕ) → files ≡ others → (other : List ℕ) → files_with files name (others name) other ≡ others other
with-own files others name is other = by (bytes_eq name other) refl
  where
    by : (b : Bool) → bytes_eq name other ≡ b → cond b (others name) (files other) ≡ others other
    by true e = ap others ((bytes_eq-Decides name other).0 e)
    by false e = ap (λ f. f other) is

pub agree_with : (told : Option Files) (files others : Files) (name : List ℕ) → AgreeWith told files → AgreeWith told others
    → AgreeWith told (files_with files name (others name))
agree_with None files others name agree also = tt
agree_with (Some told) files others name agree also = (λ i other. with-own files others name (agree ∙ sym also) other i) ∙ also

-- a file is found, where nothing had changed before
pub agree_found : (told now : Option Files) (files : Files) (name : List ℕ) (found : Option (Vec ℕ Global)) → AgreeWith told files
    → SameFiles told now → Finds now name found → AgreeWith told (files_with files name (option_map (λ v. v.items) found))
agree_found told now files name found agree same finds =
    let others : Files = told_or now (λ other. option_map (λ v. v.items) found) in
    subst (λ f. AgreeWith told (files_with files name f)) (told_has now name found finds)
    (agree_with told files others name agree (agree_before told now others same (told_agree now (λ other. option_map (λ v. v.items) found))))
