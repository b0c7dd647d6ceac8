-- What a read of the code gave, from what its parts gave.
use Rattle.std.proofs.Common.{◌≡◌, ◌==◌, ◌≤◌, ℕ, zero, suc, ℤ, pos, Bool, true, false, nat_lt, IsTrue, List, [], ◌∷◌, ◌++◌, length, take, drop, Option, refl, ap, sym, ◌∙◌, subst, append_assoc, append-nil, drop-drop, arith, if◌then◌else◌}
use Rattle.std.proofs.lemmas.Bool.{and_from, and_parts}
use Rattle.std.proofs.lemmas.List.{length-append, length-take, take-append-drop}
use Rattle.std.proofs.lemmas.List.Folds.{list_all-append}
use Rattle.std.proofs.Math.Seq.{drop-append_seam}
use Rattle.std.specs.Prelude.{Result, Ok, Err, IfOk, OnErr}
use Rattle.nv_outside.specs.declared.failed.Failed.{Failed}
use Rattle.unix_definition.specs.Errors.{bad_descriptor}
use Rattle.unix_definition.specs.declared.description.Description.{Description}
use Rattle.unix_definition.specs.declared.target.Target.{Target}
use Rattle.unix_definition.specs.declared.target.Target.TheVariants.{File, Input, Output, ErrorOutput}
use Rattle.run_definition.specs.declared.order.Order.TheVariants.{Big}
use Rattle.run_definition.specs.Question.{Room, there}
use Rattle.run_definition.specs.Memory.{patched}
use Rattle.run_definition.specs.Answer.{Answer, fits_room, room_place}
use Rattle.unix_definition.specs.Files.{GuestFiles}
use Rattle.unix_definition.specs.declared.opened.Opened.{Opened}
use Rattle.unix_definition.specs.System.{System, system_with_tables}
use Rattle.unix_definition.specs.Asked.{value_only}
use Rattle.unix_definition.specs.Calls.{first_line, input_read, read_target}
use Rattle.unix_system.specs.Serving.{Gives}
use Rattle.unix_system.proofs.RoomLemmas.{fits-there}
use Rattle.unix_calls.specs.Drawing.{AreBytes, ReadsLine, ReadsSome, known}
use Rattle.unix_calls.specs.Stages.{IsRear}
use Rattle.unix_calls.specs.Reading.{Inputs, inputs, with_input, Reads, ReadsPart, ReadGives}
use Rattle.unix_calls.proofs.DrawLemmas.{consumes-nothing}

pub given-is : (given : Answer × System) (value : ℤ) (patch : List ℕ) (last : System) → given.0.value ≡ value → given.0.patch ≡ patch → given.1 ≡ last → given ≡ (record { value = value; patch = patch }, last)
given-is given value patch last p q r = λ i. (record { value = p i; patch = q i }, r i)

pub some_system : ℕ → GuestFiles → Opened → System
some_system limit files opened = record {
  files = files;
  opened = opened;
  console = record { rest = []; output = []; error_output = [] };
  heap = record { begun = false; start = 0; end = 0; program_break = 0 };
  args = [];
  moment = 0;
  order = Big;
  most = limit;
}

module _ {C : Type 0} (put_at : C → ℕ → ℕ → C) (does : System → Answer × System) (limit : ℕ) (files : GuestFiles) (opened : Opened) (ahead : List ℕ) where
  pub reads-quiet : (room : Room) (c : C) (rest : Option (List ℕ)) (files_new : GuestFiles) (opened_new : Opened) (value : ℤ) → ((s : System) (r : List ℕ) → does (with_input s limit files opened r) ≡ (value_only value, with_input s limit files_new opened_new r)) → Reads put_at does room c c (inputs limit files opened ahead rest) (inputs limit files_new opened_new ahead rest) value
  reads-quiet room c rest files_new opened_new value h = record {
    got = [];
    patch = [];
    consumed = consumes-nothing rest;
    fits = refl;
    after = refl;
    is = λ s. h s (ahead ++ known rest);
  }

  pub reads-file : (room : Room) (c d : C) (rest : Option (List ℕ)) (files_new : GuestFiles) (opened_new : Opened) (value : ℤ) (bs : List ℕ) (given : System → Answer × System) → ((s : System) → does s ≡ given s) → ((s : System) → (given (system_with_tables s files opened)).0.patch ≡ bs) → ((s : System) → Gives put_at c d room value (system_with_tables s files_new opened_new) (given (system_with_tables s files opened))) → Reads put_at does room c d (inputs limit files opened ahead rest) (inputs limit files_new opened_new ahead rest) value
  reads-file room c d rest files_new opened_new value bs given is same gives =
      let some = some_system limit files opened in
      record {
        got = [];
        patch = bs;
        consumed = consumes-nothing rest;
        fits = ap (λ b. fits_room b room) (sym (same some)) ∙ (gives some).fits;
        after = (gives some).patch ∙ ap (λ b. patched put_at c (room_place room) b) (same some);
        is = λ s.
            let t = with_input s limit files opened (ahead ++ known rest) in
            is t ∙ given-is (given t) value bs (with_input s limit files_new opened_new (ahead ++ known rest)) (gives t).value (same t) (gives t).after;
      }

  pub reads-line : (place size most : ℕ) (c d : C) (new : List ℕ) (rest left : Option (List ℕ)) (n : ℕ) (value : ℤ) → most ≤ size → ((s : System) → s.most ≡ limit → does s ≡ input_read s (take most (first_line s.console.rest))) → ReadsLine put_at c d place most ahead new rest left n → value ≡ pos n → Reads put_at does (there place size) c d (inputs limit files opened ahead rest) (inputs limit files opened new left) value
  reads-line place size most c d new rest left n value within is line v =
      let all : List ℕ = ahead ++ (line.drawn.got ++ known left) in
      let behind : List ℕ = new ++ known left in
      let splits : all ≡ line.bytes ++ behind = sym (append_assoc ahead line.drawn.got (known left)) ∙ (ap (λ z. z ++ known left) line.drawn.is ∙ append_assoc line.bytes new (known left)) in
      let taken : take most (first_line all) ≡ line.bytes = ap (λ z. take most (first_line z)) (splits ∙ sym (append_assoc line.bytes new (known left))) ∙ line.line in
      let left_over : drop (length line.bytes) all ≡ behind = ap (drop (length line.bytes)) splits ∙ drop-append_seam line.bytes behind in
      let count : pos (length (take most (first_line all))) ≡ value = ap (λ b. pos (length b)) taken ∙ (ap pos line.all ∙ sym v) in
      record {
        got = line.drawn.got;
        patch = line.bytes;
        consumed = line.drawn.consumed;
        fits = let short = line.copied.short in fits-there line.bytes place size line.copied.small (omega arith);
        after = line.copied.after;
        is = λ s.
            is (with_input s limit files opened all) refl
            ∙ given-is (input_read (with_input s limit files opened all) (take most (first_line all))) value line.bytes (with_input s limit files opened behind) count taken
            (ap (with_input s limit files opened) (ap (λ b. drop (length b) all) taken ∙ left_over));
      }

small-first : (xs : List ℕ) → AreBytes xs → AreBytes (first_line xs)
small-first [] small = refl
small-first (x ∷ xs) small = by (x == 0x0A) (small-first xs both.1)
  where
    both : (IsTrue (nat_lt x 256)) × AreBytes xs
    both = and_parts _ _ small

    by : (b : Bool) → AreBytes (first_line xs) → AreBytes (if b then x ∷ [] else x ∷ first_line xs)
    by true more = and_from _ _ both.0 refl
    by false more = and_from _ _ both.0 more

small-taken : (xs : List ℕ) (most : ℕ) → AreBytes xs → AreBytes (take most xs)
small-taken [] zero small = refl
small-taken [] (suc most) small = refl
small-taken (x ∷ xs) zero small = refl
small-taken (x ∷ xs) (suc most) small =
    let both : (IsTrue (nat_lt x 256)) × AreBytes xs = and_parts _ _ small in
    and_from _ _ both.0 (small-taken xs most both.1)

-- bytes of the first line are bytes
small-line : (xs : List ℕ) (most : ℕ) → AreBytes xs → AreBytes (take most (first_line xs))
small-line xs most small = small-taken (first_line xs) most (small-first xs small)

pub reads-some : {C : Type 0} (put_at : C → ℕ → ℕ → C) (does : System → Answer × System) (limit : ℕ) (files : GuestFiles) (opened : Opened) (ahead : List ℕ) (place size most : ℕ) (c d : C) (new : List ℕ) (rest left : Option (List ℕ))
    → most ≤ size → ((s : System) → s.most ≡ limit → does s ≡ input_read s (take most (first_line s.console.rest))) → ReadsSome put_at c d place most ahead new rest left
    → ReadsPart put_at does (there place size) c d (inputs limit files opened ahead rest) (inputs limit files opened new left)
reads-some put_at does limit files opened ahead place size most c d new rest left within is some = record {
  got = some.drawn.got;
  patch = some.bytes;
  consumed = some.drawn.consumed;
  fits = let short = some.copied.short in fits-there some.bytes place size some.copied.small (omega arith);
  after = some.copied.after;
  files = refl;
  opened = refl;
  none = some.none;
  reads = λ s behind small.
      let all : List ℕ = ahead ++ (some.drawn.got ++ behind) in
      let drawn : ahead ++ some.drawn.got ≡ some.bytes = some.drawn.is ∙ (ap (λ z. some.bytes ++ z) some.none ∙ append-nil some.bytes) in
      let splits : all ≡ some.bytes ++ behind = sym (append_assoc ahead some.drawn.got behind) ∙ ap (λ z. z ++ behind) drawn in
      let more : List ℕ = (some.front behind).0 in
      let line : List ℕ = take most (first_line all) in
      let line-is : line ≡ some.bytes ++ more = ap (λ z. take most (first_line z)) splits ∙ (some.front behind).1 in
      let bytes : AreBytes all = subst AreBytes (sym splits) (list_all-append (λ x. nat_lt x 256) some.bytes behind ∙ and_from _ _ some.copied.small small) in
      let short : length line ≤ most = omega (arith, length-take most (first_line all)) in
      let left_over : drop (length line) all ≡ drop (length more) behind =
      (λ i. drop (length (line-is i)) (splits i))
      ∙ (ap (λ n. drop n (some.bytes ++ behind)) (length-append some.bytes more)
      ∙ (sym (drop-drop (length more) (length some.bytes) (some.bytes ++ behind)) ∙ ap (drop (length more)) (drop-append_seam some.bytes behind))) in
      let t : System = with_input s limit files opened all in
      record {
        fits = subst (λ (g : Answer × System). IsTrue (fits_room g.0.patch (there place size))) (sym (is t refl)) (fits-there line place size (small-line all most bytes) (omega arith));
        leaves = subst (λ (g : Answer × System). IsRear g.1.console.rest behind) (sym (is t refl)) (
          take (length more) behind,
          sym (take-append-drop (length more) behind) ∙ ap (λ z. take (length more) behind ++ z) (sym left_over),
        );
      };
}

-- what cannot be read
pub not-readable : (s : System) (d : ℕ) (description : Description) (n : ℕ) (t : Target) → ((k : ℕ) → t ≡ File k → ⊥) → (t ≡ Input → ⊥) → read_target s d description n t ≡ (value_only bad_descriptor, s)
not-readable s d description n (File k) f i = absurd (f k refl)
not-readable s d description n Input f i = absurd (i refl)
not-readable s d description n Output f i = refl
not-readable s d description n ErrorOutput f i = refl

pub console-given : {C : Type 0} (put_at : C → ℕ → ℕ → C) (does : System → Answer × System) (limit : ℕ) (files : GuestFiles) (opened : Opened) (ahead : List ℕ) (place size most : ℕ) (c d : C) (new : List ℕ) (rest left : Option (List ℕ)) (r : Result ℤ Failed) → most ≤ size → ((s : System) → s.most ≡ limit → does s ≡ input_read s (take most (first_line s.console.rest))) → IfOk r (λ v. (n : ℕ) × ReadsLine put_at c d place most ahead new rest left n × (v ≡ pos n)) → OnErr r (ReadsSome put_at c d place most ahead new rest left) → ReadGives put_at does (there place size) c d (inputs limit files opened ahead rest) (inputs limit files opened new left) r
console-given put_at does limit files opened ahead place size most c d new rest left (Ok v) within is ok err = reads-line put_at does limit files opened ahead place size most c d new rest left ok.0 v within is ok.1 ok.2
console-given put_at does limit files opened ahead place size most c d new rest left (Err e) within is ok err = reads-some put_at does limit files opened ahead place size most c d new rest left within is err

-- one call for another, where they are the same over these files and descriptors
pub reads-by : {C : Type 0} (put_at : C → ℕ → ℕ → C) (does other : System → Answer × System) (room : Room) (c d : C) (limit : ℕ) (files : GuestFiles) (opened : Opened) (ahead : List ℕ) (rest : Option (List ℕ)) (new : Inputs) (r : Result ℤ Failed) → ((s : System) (f : GuestFiles) → does (system_with_tables s f opened) ≡ other (system_with_tables s f opened)) → ReadGives put_at other room c d (inputs limit files opened ahead rest) new r → ReadGives put_at does room c d (inputs limit files opened ahead rest) new r
reads-by put_at does other room c d limit files opened ahead rest new (Ok v) same given = record {
  got = given.got;
  patch = given.patch;
  consumed = given.consumed;
  fits = given.fits;
  after = given.after;
  is = λ s. same (with_input s limit files opened (ahead ++ (given.got ++ known new.rest))) files ∙ given.is s;
}
reads-by put_at does other room c d limit files opened ahead rest new (Err e) same given = record {
  got = given.got;
  patch = given.patch;
  consumed = given.consumed;
  fits = given.fits;
  after = given.after;
  files = given.files;
  opened = given.opened;
  none = given.none;
  reads = λ s behind small.
      let t : System = with_input s limit files opened (ahead ++ (given.got ++ behind)) in
      let r = given.reads s behind small in
      record {
        fits = subst (λ (g : Answer × System). IsTrue (fits_room g.0.patch room)) (sym (same t files)) r.fits;
        leaves = subst (λ (g : Answer × System). IsRear g.1.console.rest behind) (sym (same t files)) r.leaves;
      };
}

pub reads-by-room : {C : Type 0} (put_at : C → ℕ → ℕ → C) (does other : System → Answer × System) (room given_room : Room) (c d : C) (old new : Inputs) (r : Result ℤ Failed) → ((s : System) → does s ≡ other s) → room ≡ given_room → ReadGives put_at other given_room c d old new r → ReadGives put_at does room c d old new r
reads-by-room put_at does other room given_room c d old new (Ok v) same is given =
    let g = subst (λ (k : Room). Reads put_at other k c d old new v) (sym is) given in
    record { got = g.got; patch = g.patch; consumed = g.consumed; fits = g.fits; after = g.after; is = λ s. same _ ∙ g.is s }
reads-by-room put_at does other room given_room c d old new (Err e) same is given =
    let p = subst (λ (k : Room). ReadsPart put_at other k c d old new) (sym is) given in
    record {
      got = p.got;
      patch = p.patch;
      consumed = p.consumed;
      fits = p.fits;
      after = p.after;
      files = p.files;
      opened = p.opened;
      none = p.none;
      reads = λ s behind small.
          let t : System = with_input s old.most old.files old.opened (old.ahead ++ (p.got ++ behind)) in
          let r = p.reads s behind small in
          record {
            fits = subst (λ (g : Answer × System). IsTrue (fits_room g.0.patch room)) (sym (same t)) r.fits;
            leaves = subst (λ (g : Answer × System). IsRear g.1.console.rest behind) (sym (same t)) r.leaves;
          };
    }
