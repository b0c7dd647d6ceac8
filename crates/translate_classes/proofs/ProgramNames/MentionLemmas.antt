-- What a pool names while members of a class in a slot are put in.
use Rattle.std.proofs.Common.{ℕ, ◌+◌, List, [], ◌∷◌, ◌++◌, map, sym, subst, arith}
use Rattle.std.specs.List.{range_with_len}
use Rattle.std.proofs.lemmas.List.{append-nil}
use Rattle.std.proofs.lemmas.List.FromFn.{map-range_with_len_more}
use Rattle.class_definition.specs.declared.entry.Entry.{Entry}
use Rattle.emit_assembly.specs.Assembling.{Extends}
use Rattle.emit_classes.specs.declared.member_kind.MemberKind.{MemberKind}
use Rattle.emit_classes.specs.Named.{IsClassAt}
use Rattle.emit_classes.specs.Mentioned.{Mention, member_mention, mentioned, Mentions, MentionsOf}
use Rattle.emit_classes.proofs.Made.{class-later}
use Rattle.emit_classes.proofs.Mentions.{mentions-itself, mentions-after}
use Rattle.translate_classes.specs.Mentioned.{member_mentions}

-- nothing yet
pub mentions-none : (pool : List Entry) → Mentions pool (mentioned pool ++ [])
mentions-none pool = subst (Mentions pool) (sym (append-nil (mentioned pool))) (mentions-itself pool)

-- one member more
pub mentions-next : (kind : MemberKind) (name descriptor : ℕ → List ℕ) (old mid new : List Entry) (class count : ℕ) → Extends old mid
    → MentionsOf old mid class (λ owner. member_mentions kind name descriptor owner count)
    → MentionsOf mid new class (λ owner. member_mention kind owner (name count) (descriptor count) ∷ [])
    → MentionsOf old new class (λ owner. member_mentions kind name descriptor owner (count + 1))
mentions-next kind name descriptor old mid new class count x before one owner of =
    let put : ℕ → Mention = λ k. member_mention kind owner (name k) (descriptor k) in
    subst (λ (more : List Mention). Mentions new (mentioned old ++ more)) (sym (map-range_with_len_more put 0 count count (omega arith)))
    (mentions-after old mid new (map put (range_with_len 0 count)) (put count ∷ []) (before owner of)
    (one owner (class-later old mid class owner x of)))

-- a class, and two members of it
pub mentions-two : (old first second third : List Entry) (slot : ℕ) (name : List ℕ) (c : Mention) (x y : List ℕ → List Mention)
    → Extends first second → Mentions first (mentioned old ++ c ∷ []) → IsClassAt first slot name
    → MentionsOf first second slot x → MentionsOf second third slot y
    → Mentions third (mentioned old ++ ((c ∷ x name) ++ y name))
mentions-two old first second third slot name c x y kept put is one other =
    mentions-after old second third (c ∷ x name) (y name) (mentions-after old first second (c ∷ []) (x name) put (one name is))
    (other name (class-later first second slot name kept is))

-- a class, members of it, and more
pub mentions-all : (old first second third fourth fifth : List Entry) (slot : ℕ) (name : List ℕ) (c : Mention) (x : List ℕ → List Mention)
    (y z w : List Mention) → Mentions first (mentioned old ++ c ∷ []) → IsClassAt first slot name → MentionsOf first second slot x
    → Mentions third (mentioned second ++ y) → Mentions fourth (mentioned third ++ z) → Mentions fifth (mentioned fourth ++ w)
    → Mentions fifth (mentioned old ++ ((((c ∷ x name) ++ y) ++ z) ++ w))
mentions-all old first second third fourth fifth slot name c x y z w put is one two three four =
    let a : Mentions second (mentioned old ++ (c ∷ x name)) = mentions-after old first second (c ∷ []) (x name) put (one name is) in
    let b = mentions-after old second third (c ∷ x name) y a two in
    let d = mentions-after old third fourth ((c ∷ x name) ++ y) z b three in
    mentions-after old fourth fifth (((c ∷ x name) ++ y) ++ z) w d four
