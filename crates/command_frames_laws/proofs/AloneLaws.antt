-- Classes that link, of which each was loaded by its own name, ask for no others.
use Rattle.std.proofs.Common.{◌≡◌, ◌∙◌, ℕ, suc, Bool, true, false, cond, ltb, ◌||◌, List, [], ◌∷◌, ◌++◌, length, Option, Some, None, refl, sym, subst}
use Rattle.std.specs.Prelude.{not, filter, flat_map, option_to_list, unwrap_or}
use Rattle.std.specs.List.{AllZip}
use Rattle.std.specs.Option.{option_or}
use Rattle.std.proofs.lemmas.Bool.{false≢true}
use Rattle.std.proofs.lemmas.List.Elements.{All-from_recursion}
use Rattle.std.proofs.lemmas.Option.{none-some}
use Rattle.std.proofs.lemmas.Slice.Eq.{bytes_eq-Decides}
use Rattle.nv_outside.specs.Files.{Files}
use Rattle.class_definition.specs.declared.link_fault.LinkFault.{LinkFault}
use Rattle.class_definition.specs.declared.entry.Entry.{Entry}
use Rattle.class_definition.specs.declared.entry.Entry.TheVariants.{Utf8, Integer, Long, LongRest, ClassName, Text, FieldRef, MethodRef, NameAnd}
use Rattle.class_definition.specs.NameGrammar.{is_array_name, same_text}
use Rattle.class_definition.specs.PoolChecks.{text_at}
use Rattle.class_definition.specs.declared.class.Class.{Class}
use Rattle.class_definition.specs.MemberNames.{has_class, is_known, own_name}
use Rattle.class_definition.specs.LinkFault.{at_class, named_entry_fault, fault_at_slot, is_known_class, link_fault, no_class, references_fault, run_fault, slots_fault, too_many, twice_fault}
use Rattle.class_sets.specs.ClassSets.{asked_in, has_file, names_asked}
use Rattle.class_sets.specs.NamedSets.{named_set}
use Rattle.class_sets.specs.declared.members.Members.{Members}
use Rattle.class_sets.specs.declared.named_set.NamedSet.TheVariants.{Classes}
use Rattle.class_sets.specs.declared.version.Version.{Version}
use Rattle.command_frames_laws.specs.StoredSets.{AreStored, GetsNone, IsFile, IsOwnName}
use Rattle.command_frames_laws.proofs.NextLaws.{AllOf, Names}
use Rattle.command_frames_laws.proofs.GrowthLaws.{all-join}
use Rattle.command_frames_laws.proofs.ReadLaws.{HasFile, members-have-files}

-- ---- references are there

references-none : (cs : List Class) → link_fault cs ≡ None → references_fault cs 0 cs ≡ None
references-none cs none = by (ltb 1024 (length cs)) (twice_fault [] 0 cs) (references_fault cs 0 cs) (run_fault cs) none
  where
    by : (b : Bool) (o q r : Option LinkFault) → cond b (at_class too_many 1024) (option_or o (option_or q r)) ≡ None → q ≡ None
    by true o q r e = absurd cc
    by false (Some f) q r e = absurd cc
    by false None (Some f) r e = absurd cc
    by false None None r e = refl

-- ---- what is asked for

module _ (files : Files) where
  -- the class of a name has a file
  named-there : (names : Names) (cs : List Class) → AllZip IsOwnName names cs → AllOf (HasFile files) names → (name : List ℕ) → has_class cs name ≡ true → HasFile files name
  named-there [] [] own have name e = absurd (false≢true e)
  named-there [] (c ∷ cs) own have name e = absurd own
  named-there (n ∷ names) [] own have name e = absurd own
  named-there (n ∷ names) (c ∷ cs) own have name e = by-test (named-there names cs own.1 have.1 name) (same_text name (own_name c)) refl e
    where
      by-test : (has_class cs name ≡ true → HasFile files name) → (b : Bool) → same_text name (own_name c) ≡ b → (b || has_class cs name) ≡ true → HasFile files name
      by-test others true is h = subst (HasFile files) (sym ((bytes_eq-Decides name (own_name c)).0 is ∙ own.0)) have.0
      by-test others false is h = others h

  module _ (cs : List Class) (there : (name : List ℕ) → has_class cs name ≡ true → HasFile files name) where
    text-asks : (o : Option (List ℕ)) → cond (is_known_class cs (unwrap_or o [])) None (Some no_class) ≡ None → AllOf (HasFile files) (filter has_file (option_to_list o))
    text-asks None e = tt
    text-asks (Some name) e = by-known (is_array_name name || is_known name) e
      where
        by-class : (b : Bool) → has_class cs name ≡ b → cond b None (Some no_class) ≡ None → HasFile files name
        by-class true is h = there name is
        by-class false is h = absurd (none-some no_class (sym h))

        by-known : (b : Bool) → cond (b || has_class cs name) None (Some no_class) ≡ None → AllOf (HasFile files) (cond (not b) (name ∷ []) [])
        by-known true h = tt
        by-known false h = (by-class (has_class cs name) refl h, tt)

    entry-asks : (c : Class) (e : Entry) → named_entry_fault cs c e ≡ None → AllOf (HasFile files) (asked_in c.pool e)
    entry-asks c (ClassName n) h = text-asks (text_at c.pool n) h
    entry-asks c (Utf8 text) h = tt
    entry-asks c (Integer n) h = tt
    entry-asks c (Long n) h = tt
    entry-asks c LongRest h = tt
    entry-asks c (Text n) h = tt
    entry-asks c (FieldRef n m) h = tt
    entry-asks c (MethodRef n m) h = tt
    entry-asks c (NameAnd n m) h = tt

    entries-ask : (c : Class) (number slot : ℕ) (es : List Entry) → slots_fault cs c number slot es ≡ None → AllOf (HasFile files) (flat_map (asked_in c.pool) es)
    entries-ask c number slot [] h = tt
    entries-ask c number slot (e ∷ es) h = by-fault (entries-ask c number (suc slot) es) (named_entry_fault cs c e) refl h
      where
        by-fault : (slots_fault cs c number (suc slot) es ≡ None → AllOf (HasFile files) (flat_map (asked_in c.pool) es)) → (o : Option ℕ) → named_entry_fault cs c e ≡ o → fault_at_slot number slot o (slots_fault cs c number (suc slot) es) ≡ None → AllOf (HasFile files) (asked_in c.pool e ++ flat_map (asked_in c.pool) es)
        by-fault others None is k = all-join (HasFile files) (asked_in c.pool e) (flat_map (asked_in c.pool) es) (entry-asks c e is) (others k)
        by-fault others (Some kind) is k = absurd cc

    classes-ask : (number : ℕ) (xs : List Class) → references_fault cs number xs ≡ None → AllOf (HasFile files) (flat_map names_asked xs)
    classes-ask number [] h = tt
    classes-ask number (x ∷ xs) h = by-fault (classes-ask (suc number) xs) (slots_fault cs x number 1 x.pool) refl h
      where
        by-fault : (references_fault cs (suc number) xs ≡ None → AllOf (HasFile files) (flat_map names_asked xs)) → (o : Option LinkFault) → slots_fault cs x number 1 x.pool ≡ o → option_or o (references_fault cs (suc number) xs) ≡ None → AllOf (HasFile files) (names_asked x ++ flat_map names_asked xs)
        by-fault others None is k = all-join (HasFile files) (names_asked x) (flat_map names_asked xs) (entries-ask x number 1 x.pool is) (others k)
        by-fault others (Some fault) is k = absurd cc

-- ---- no other file matters

have-files : (files later : Files) (names : Names) → AllOf (HasFile files) names → AllOf (GetsNone files later) names
have-files files later [] have = tt
have-files files later (n ∷ names) have = ((λ none. absurd (none-some have.0.0 (sym none ∙ have.0.1))), have-files files later names have.1)

pub stored-alone : (v : Version) (files later : Files) (name : List ℕ) (members : Members) (stored : Names) → named_set v files name ≡ Classes members → link_fault members.classes ≡ None → AllZip IsOwnName members.names members.classes → AllZip (IsFile later) members.names stored → AreStored files members stored later
stored-alone v files later name members stored is linked own held =
    let asked = flat_map names_asked members.classes in
    let there = named-there files members.names members.classes own (members-have-files v files name members is) in
    record {
      held = held;
      others = All-from_recursion (GetsNone files later) asked
          (have-files files later asked (classes-ask files members.classes there 0 members.classes (references-none members.classes linked)));
    }
