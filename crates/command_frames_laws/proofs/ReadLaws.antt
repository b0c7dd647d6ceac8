-- The classes of a set of files of bytes keep the rules of the format, and each class of a set has a file.
use Rattle.std.proofs.Common.{◌≡◌, ℕ, zero, suc, inl, inr, List, [], ◌∷◌, ◌++◌, length, Some, Result, Ok, Err, IfOk, refl, sym, subst}
use Rattle.std.specs.List.{AllByRecursion}
use Rattle.nv_outside.specs.Files.{Files}
use Rattle.class_definition.specs.declared.miss.Miss.{Miss}
use Rattle.class_definition.specs.Kinds.{trailing}
use Rattle.class_definition.specs.Format.{whole}
use Rattle.class_definition.specs.Spelling.{IsBytes}
use Rattle.class_definition.specs.declared.class.Class.{Class}
use Rattle.class_definition.specs.ClassFile as file
use Rattle.class_definition_laws.proofs.ClassLaws as plain_laws
use Rattle.class_definition.specs.declared.framed_class.FramedClass.{FramedClass}
use Rattle.class_definition.specs.FramedClassFile as framed
use Rattle.class_definition_laws.proofs.FramedClassLaws as framed_laws
use Rattle.class_sets.specs.ClassSets.{file_of, names_asked}
use Rattle.class_sets.specs.ClassSets as plain
use Rattle.class_sets.specs.Waiting.{last_of}
use Rattle.class_sets.specs.declared.members.Members.{Members}
use Rattle.class_sets.specs.declared.named_set.NamedSet.TheVariants.{Classes}
use Rattle.class_sets.specs.declared.version.Version.{Version}
use Rattle.class_sets.specs.declared.version.Version.TheVariants.{V48, V51}
use Rattle.class_sets.specs.NamedSets.{named_class_in, named_class_or_fault, named_grown, named_set, no_members, with_member, without_tables}
use Rattle.class_sets.specs.NamedKept.{AreKept, IsKept}
use Rattle.class_sets.proofs.NamedSetLemmas.{kept_more, kept_none}
use Rattle.command_frames_laws.specs.StoredSets.{HoldBytes}
use Rattle.command_frames_laws.proofs.NextLaws.{Names, next-file}
use Rattle.command_frames_laws.proofs.GrowthLaws.{GoesWith, Turn, ended, turn}

-- ---- one class

plain-kept : (bytes : List ℕ) → IsBytes bytes → IfOk (named_class_in V48 bytes) (IsKept V48)
plain-kept bytes are = by-read (whole file.class trailing bytes) refl
  where
    by-read : (r : Result Class Miss) → whole file.class trailing bytes ≡ r → IfOk (without_tables (plain.class_or_fault (length bytes) r)) (IsKept V48)
    by-read (Ok c) is = (plain_laws.read_spelled bytes c are is).fits
    by-read (Err miss) is = tt

framed-kept : (bytes : List ℕ) → IsBytes bytes → IfOk (named_class_in V51 bytes) (IsKept V51)
framed-kept bytes are = by-read (whole framed.framed_class trailing bytes) refl
  where
    by-read : (r : Result FramedClass Miss) → whole framed.framed_class trailing bytes ≡ r → IfOk (named_class_or_fault (length bytes) r) (IsKept V51)
    by-read (Ok c) is = (framed_laws.read_spelled bytes c are is).fits
    by-read (Err miss) is = tt

class-kept : (v : Version) (bytes : List ℕ) → IsBytes bytes → IfOk (named_class_in v bytes) (IsKept v)
class-kept V48 bytes are = plain-kept bytes are
class-kept V51 bytes are = framed-kept bytes are

-- ---- what holds of the members of a set holds as it grows

module _ (v : Version) (files : Files) (P : Members → Names → Type 0)
    (more : (n : ℕ) (m all : Members) (asked waiting : Names) → (g : GoesWith v files n m asked waiting all) → P m asked → P (with_member m (last_of g.found.asked) g.class) g.found.asked) where
  abbrev pub Holds : Members → Type 0
  Holds all = (asked : Names) × P all asked

  holds-zero : (m all : Members) (asked waiting : Names) → named_grown v files zero m asked waiting ≡ Classes all → P m asked → Holds all
  unfolding named_grown
  holds-zero m all asked waiting e p = (asked, subst (λ x. P x asked) (sym (ended m all m.classes e).0) p)

  pub holds-grown : (n : ℕ) (m all : Members) (asked waiting : Names) → named_grown v files n m asked waiting ≡ Classes all → P m asked → Holds all
  holds-grown zero m all asked waiting e p = holds-zero m all asked waiting e p
  holds-grown (suc n) m all asked waiting e p = by-turn (λ x a w h q. holds-grown n x all a w h q) (turn v files n m all asked waiting e)
    where
      by-turn : ((x : Members) (a w : Names) → named_grown v files n x a w ≡ Classes all → P x a → Holds all) → Turn v files n m asked waiting all → Holds all
      by-turn others (inl none) = (asked, subst (λ x. P x asked) (sym (ended m all m.classes none.1).0) p)
      by-turn others (inr g) =
          others (with_member m (last_of g.found.asked) g.class) g.found.asked (g.found.waiting ++ names_asked g.class.class) g.grows (more n m all asked waiting g p)

-- ---- they keep the rules

pub members-kept : (v : Version) (files : Files) (name : List ℕ) (members : Members) → HoldBytes files → named_set v files name ≡ Classes members → AreKept v members
members-kept v files name members are is =
    (holds-grown v files (λ m asked. AreKept v m)
    (λ n m all asked waiting g kept.
    let bytes = g.found.bytes in
    let held = next-file files asked waiting g.found g.is in
    kept_more v m (with_member m (last_of g.found.asked) g.class) (last_of g.found.asked) g.class (named_class_in v bytes) kept
    (class-kept v bytes (are (file_of (last_of g.found.asked)) bytes held)) g.read refl)
    1025 no_members members [] (name ∷ []) is (kept_none v no_members refl)).1

-- ---- each has a file

abbrev pub HasFile : Files → List ℕ → Type 0
HasFile files name = (bytes : List ℕ) × (files (file_of name) ≡ Some bytes)

abbrev HaveFiles : Files → Members → Type 0
HaveFiles files m = AllByRecursion (HasFile files) m.names

pub push : (P : List ℕ → Type 0) (names : Names) (name : List ℕ) → AllByRecursion P names → P name → AllByRecursion P (names ++ name ∷ [])
push P [] name all p = (p, tt)
push P (n ∷ names) name all p = (all.0, push P names name all.1 p)

pub members-have-files : (v : Version) (files : Files) (name : List ℕ) (members : Members) → named_set v files name ≡ Classes members → AllByRecursion (HasFile files) members.names
members-have-files v files name members is =
    (holds-grown v files (λ m asked. HaveFiles files m)
    (λ n m all asked waiting g have.
    push (HasFile files) m.names (last_of g.found.asked) have (g.found.bytes, next-file files asked waiting g.found g.is))
    1025 no_members members [] (name ∷ []) is tt).1
