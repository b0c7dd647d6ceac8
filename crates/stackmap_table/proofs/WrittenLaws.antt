-- The shortest frames are written one after the other, and read back.
use Rattle.std.proofs.Common.{◌≡◌, ℕ, suc, ◌+◌, ◌^◌, ◌<◌, ◌≤◌, true, eqb, List, [], ◌∷◌, ◌++◌, length, Option, Some, None, refl, sym, ap, subst, ◌∙◌, arith, append_assoc}
use Rattle.std.specs.Prelude.{flat_map, map, option_map, option_and_then, nat_le, IfSome, IfNone}
use Rattle.std.specs.Int.{w16}
use Rattle.std.proofs.lemmas.Bool.{and_parts, and_from, eq-eqb, lt-ltb, le-leb, leb-true}
use Rattle.std.proofs.lemmas.List.{append-nil}
use Rattle.class_definition.specs.Format.{number_format, chain_spelling, chain_fits}
use Rattle.class_definition.specs.Spelling.{SpellsBy}
use Rattle.class_format.proofs.Parts.{whole_back}
use Rattle.class_definition.specs.declared.entry.Entry.{Entry}
use Rattle.jvm_definition.specs.declared.kind.Kind.{Kind}
use Rattle.jvm_definition.specs.declared.linked_method.LinkedMethod.{LinkedMethod}
use Rattle.jvm_type_inference.specs.declared.frame.Frame.{Frame}
use Rattle.stackmap_table.specs.declared.table_frame.TableFrame.{TableFrame}
use Rattle.stackmap_table.specs.declared.table_frame.TableFrame.TheVariants.{Same, SameWithOperand, SameWithOperandExtended, Chop, SameExtended, Append, Full}
use Rattle.stackmap_table.specs.Tables.{bad_table, frame, frame_table}
use Rattle.stackmap_table.specs.Meaning.{delta_of, frame_offset, frame_operands, is_frame_within, frame_at_offset, then_frames, frames_after, frames_of, frames_of_table}
use Rattle.stackmap_table.specs.Last.{start_of}
use Rattle.stackmap_table.specs.Shortest.{GivesShortest, trimmed_locals, trimmed_frame, AreShortest, AreTabled, AllWithin, spelling, IsTableOf}
use Rattle.stackmap_table.specs.Written.{half, frame_bytes, table_bytes, IsShort, AppendsNext, AppendsShortest}
use Rattle.stackmap_table.proofs.SizeLaws.{Fitting, frame-sized}
use Rattle.stackmap_table.proofs.TableLaws.{table_law}
use Rattle.stackmap_table.proofs.TrimLaws.{trimmed-length}

-- ---- frames that can be spelled have room

pub short-of : (pool : List Entry) (g : TableFrame) → (frame pool).fits g ≡ true → IsShort g
short-of pool g e = by-form g (frame-sized pool g e).fitting
  where
    by-form : (f : TableFrame) → Fitting pool f → IsShort f
    by-form (Same d) h = h
    by-form (SameWithOperand d t) h = h.0
    by-form (SameWithOperandExtended d t) h = tt
    by-form (Chop d n) h = h.1
    by-form (SameExtended d) h = tt
    by-form (Append d types) h = h.1
    by-form (Full d ls os) h = (omega (arith, h.2), omega (arith, h.3))

abbrev pub AllSpelled : List Entry → List TableFrame → Type 0
AllSpelled pool [] = Unit {0}
AllSpelled pool (f ∷ frames) = ((frame pool).fits f ≡ true) × AllSpelled pool frames

pub shortest-fit : (pool : List Entry) (last : Option ℕ) (before : List Kind) (listed : List (ℕ × Frame)) (frames : List TableFrame) → AreShortest pool last before listed frames → AllSpelled pool frames
shortest-fit pool last before [] [] s = tt
shortest-fit pool last before [] (f ∷ frames) s = absurd s
shortest-fit pool last before (l ∷ listed) [] s = absurd s
shortest-fit pool last before (l ∷ listed) (f ∷ frames) s = (s.0.gives.fits, shortest-fit pool (Some l.0) (trimmed_locals l.1.locals) listed frames s.2)

pub shortest-count : (pool : List Entry) (last : Option ℕ) (before : List Kind) (listed : List (ℕ × Frame)) (frames : List TableFrame) → AreShortest pool last before listed frames → length frames ≡ length listed
shortest-count pool last before [] [] s = refl
shortest-count pool last before [] (f ∷ frames) s = absurd s
shortest-count pool last before (l ∷ listed) [] s = absurd s
shortest-count pool last before (l ∷ listed) (f ∷ frames) s = ap suc (shortest-count pool (Some l.0) (trimmed_locals l.1.locals) listed frames s.2)

-- ---- the bytes of all of them

abbrev spelling_of : List Entry → List TableFrame → List ℕ
spelling_of pool frames = chain_spelling {S = Unit {0}} (λ _ _. frame pool) (λ s _. s) tt frames

frames-spelled : (pool : List Entry) (frames : List TableFrame) → AllSpelled pool frames → spelling_of pool frames ≡ flat_map frame_bytes frames
frames-spelled pool [] h = refl
frames-spelled pool (f ∷ frames) h =
    ap (λ x. x ++ spelling_of pool frames) (frame-sized pool f h.0).bytes ∙ ap (λ x. frame_bytes f ++ x) (frames-spelled pool frames h.1)

frames-fit : (pool : List Entry) (frames : List TableFrame) → AllSpelled pool frames → chain_fits {S = Unit {0}} (λ _ _. frame pool) (λ s _. s) tt frames ≡ true
frames-fit pool [] h = refl
frames-fit pool (f ∷ frames) h = and_from ((frame pool).fits f) _ h.0 (frames-fit pool frames h.1)

table-spelled : (pool : List Entry) (frames : List TableFrame) → AllSpelled pool frames → (frame_table pool).spell frames ≡ table_bytes frames
table-spelled pool frames h = ap (λ x. half (length frames) ++ x) (frames-spelled pool frames h)

table-fits : (pool : List Entry) (frames : List TableFrame) → AllSpelled pool frames → length frames ≤ 65535 → (frame_table pool).fits frames ≡ true
table-fits pool frames h few =
    and_from ((number_format bad_table w16).fits (length frames)) _ (lt-ltb (length frames) (2 ^ 16) (omega (arith, few)))
    (and_from (eqb (length frames) (length frames)) _ (eq-eqb (length frames) (length frames) refl) (frames-fit pool frames h))

pub no-frames-table : (pool : List Entry) (parameters : List Kind) (listed : List (ℕ × Frame)) (bytes : List ℕ) → length listed ≡ 0 → bytes ≡ [] → IsTableOf pool parameters listed bytes
no-frames-table pool parameters [] bytes none e = record { frames = []; shortest = tt; spelled = e }
no-frames-table pool parameters (l ∷ listed) bytes none e = absurd (omega (arith, none))

pub some-frames-table : (pool : List Entry) (parameters : List Kind) (listed : List (ℕ × Frame)) (head bytes : List ℕ) → (length listed ≡ 0 → ⊥) → head ≡ half (length listed) → AppendsShortest pool parameters listed head bytes → IsTableOf pool parameters listed bytes
some-frames-table pool parameters listed head bytes some e a = record {
  frames = a.frames;
  shortest = a.shortest;
  spelled = by-frames a.frames a.shortest a.written;
}
  where
    by-frames : (frames : List TableFrame) → AreShortest pool None parameters listed frames → bytes ≡ head ++ flat_map frame_bytes frames → bytes ≡ spelling pool frames
    by-frames [] s w = absurd (some (sym (shortest-count pool None parameters listed [] s)))
    by-frames (f ∷ frames) s w =
        w ∙ (ap (λ x. x ++ flat_map frame_bytes (f ∷ frames)) (e ∙ ap half (sym (shortest-count pool None parameters listed (f ∷ frames) s)))
        ∙ sym (table-spelled pool (f ∷ frames) (shortest-fit pool None parameters listed (f ∷ frames) s)))

-- ---- one after the other

pub record IsWriting (pool : List Entry) (parameters : List Kind) (listed : List (ℕ × Frame)) (old : List ℕ) (last : Option ℕ) (before : List Kind) (rest : List (ℕ × Frame)) (bytes : List ℕ) : Type 0 where
  pub frames : List TableFrame
  pub goes : (more : List TableFrame) → AreShortest pool last before rest more → AreShortest pool None parameters listed (frames ++ more)
  pub written : bytes ≡ old ++ flat_map frame_bytes frames
  pub tabled : AreTabled (start_of last) rest

pub first-writing : (pool : List Entry) (parameters : List Kind) (listed : List (ℕ × Frame)) (old : List ℕ) → AreTabled 0 listed → IsWriting pool parameters listed old None parameters listed old
first-writing pool parameters listed old t = record { frames = []; goes = λ more s. s; written = sym (append-nil old); tabled = t }

flat-map-pushed : (frames : List TableFrame) (f : TableFrame) → flat_map frame_bytes (frames ++ f ∷ []) ≡ flat_map frame_bytes frames ++ frame_bytes f
flat-map-pushed [] f = append-nil (frame_bytes f)
flat-map-pushed (g ∷ frames) f = ap (λ x. frame_bytes g ++ x) (flat-map-pushed frames f) ∙ sym (append_assoc (frame_bytes g) (flat_map frame_bytes frames) (frame_bytes f))

module _ (pool : List Entry) (parameters : List Kind) (listed : List (ℕ × Frame)) (old : List ℕ) (last : Option ℕ) (before : List Kind) (rest others : List (ℕ × Frame)) (l : ℕ × Frame) (bytes : List ℕ) (front : rest ≡ l ∷ others) (w : IsWriting pool parameters listed old last before rest bytes) where
  pub next-tabled : AreTabled (start_of last) (l ∷ others)
  next-tabled = subst (AreTabled (start_of last)) front w.tabled

  pub next-writing : (locals : List Kind) (after : List ℕ) → locals ≡ trimmed_locals l.1.locals → AppendsNext pool before last l locals bytes after → IsWriting pool parameters listed old (Some l.0) locals others after
  next-writing locals after e a = let delta = a.delta in let f = a.frame in let g = a.gives in let at = a.offset in let is = a.written in record {
    frames = w.frames ++ f ∷ [];
    goes = λ more s. subst (AreShortest pool None parameters listed) (sym (append_assoc w.frames (f ∷ []) more)) (w.goes (f ∷ more) (rw (front) (
      subst (λ d. GivesShortest pool before d (trimmed_locals l.1.locals) l.1.stack f) (sym g.gives.rises) (subst (λ ls. GivesShortest pool before delta ls l.1.stack f) e g),
      at,
      subst (λ ls. AreShortest pool (Some l.0) ls others more) e s,
    )));
    written = is ∙ (ap (λ x. x ++ frame_bytes f) w.written ∙ (append_assoc old (flat_map frame_bytes w.frames) (frame_bytes f) ∙ ap (λ x. old ++ x) (sym (flat-map-pushed w.frames f))));
    tabled = next-tabled.1;
  }

pub all-written : (pool : List Entry) (parameters : List Kind) (listed : List (ℕ × Frame)) (old : List ℕ) (last : Option ℕ) (before : List Kind) (rest : List (ℕ × Frame)) (bytes : List ℕ) → length rest ≡ 0 → IsWriting pool parameters listed old last before rest bytes → AppendsShortest pool parameters listed old bytes
all-written pool parameters listed old last before [] bytes none w = record {
  frames = w.frames;
  shortest = subst (AreShortest pool None parameters listed) (append-nil w.frames) (w.goes [] tt);
  written = w.written;
}
all-written pool parameters listed old last before (l ∷ rest) bytes none w = absurd (omega (arith, none))

pub rises-behind : (last : Option ℕ) (l : ℕ × Frame) → start_of last ≤ l.0 → IfSome last (λ k. k < l.0)
rises-behind None l h = tt
rises-behind (Some k) l h = omega (arith, h)

pub offset-behind : (last : Option ℕ) (f : TableFrame) (delta at : ℕ) → delta_of f ≡ delta → IfNone last (delta ≡ at) → IfSome last (λ k. k + delta + 1 ≡ at) → frame_offset last f ≡ at
offset-behind None f delta at e first later = e ∙ first
offset-behind (Some k) f delta at e first later = omega (arith, e, later)

-- ---- and read back

pub tabled-count : (start : ℕ) (listed : List (ℕ × Frame)) → start ≤ 65535 → AreTabled start listed → length listed + start ≤ 65535
tabled-count start [] h t = omega (arith, h)
tabled-count start (l ∷ listed) h t = omega (arith, t.0.rises, t.0.near, tabled-count (suc l.0) listed (omega (arith, t.0.near)) t.1)

trimmed-within : (locals stack : ℕ) (ls os : List Kind) → is_frame_within locals stack ls os ≡ true → is_frame_within locals stack (trimmed_locals ls) os ≡ true
trimmed-within locals stack ls os h =
    let p = and_parts (nat_le (length ls) locals) _ h in
    and_from (nat_le (length (trimmed_locals ls)) locals) _ (le-leb (length (trimmed_locals ls)) locals (omega (arith, trimmed-length ls, leb-true (length ls) locals p.0))) p.1

listed-from : (pool : List Entry) (method : LinkedMethod) (last : Option ℕ) (before : List Kind) (listed : List (ℕ × Frame)) (frames : List TableFrame) → AllWithin method listed → AreShortest pool last before listed frames → frames_after pool method.locals method.stack last before frames ≡ Some (map trimmed_frame listed)
listed-from pool method last before [] [] w s = refl
listed-from pool method last before [] (f ∷ frames) w s = absurd s
listed-from pool method last before (l ∷ listed) [] w s = absurd s
listed-from pool method last before (l ∷ listed) (f ∷ frames) w s =
    let g = s.0.gives in
    let ls = trimmed_locals l.1.locals in
    let others = listed-from pool method (Some l.0) ls listed frames w.1 s.2 in
    ap (option_and_then (λ (ks : List Kind). then_frames (is_frame_within method.locals method.stack ks (frame_operands pool f)) (frame_at_offset (frame_offset last f) ks (frame_operands pool f)) (frames_after pool method.locals method.stack (Some (frame_offset last f)) ks frames))) g.has_locals
    ∙ (ap (λ os. then_frames (is_frame_within method.locals method.stack ls os) (frame_at_offset (frame_offset last f) ls os) (frames_after pool method.locals method.stack (Some (frame_offset last f)) ls frames)) g.has_operands
    ∙ (ap (λ at. then_frames (is_frame_within method.locals method.stack ls l.1.stack) (frame_at_offset at ls l.1.stack) (frames_after pool method.locals method.stack (Some at) ls frames)) s.1
    ∙ (ap (λ b. then_frames b (frame_at_offset l.0 ls l.1.stack) (frames_after pool method.locals method.stack (Some l.0) ls frames)) (trimmed-within method.locals method.stack l.1.locals l.1.stack w.0)
    ∙ ap (option_map (λ fs. frame_at_offset l.0 ls l.1.stack ∷ fs)) others)))

pub tables-listed : (pool : List Entry) (method : LinkedMethod) (listed : List (ℕ × Frame)) (bytes : List ℕ) → AreTabled 0 listed → AllWithin method listed → IsTableOf pool method.parameters listed bytes → frames_of pool method bytes ≡ Some (map trimmed_frame listed)
tables-listed pool method listed bytes t w i = ap (frames_of pool method) i.spelled ∙ by-frames i.frames i.shortest
  where
    by-frames : (frames : List TableFrame) → AreShortest pool None method.parameters listed frames → frames_of pool method (spelling pool frames) ≡ Some (map trimmed_frame listed)
    by-frames [] s = listed-from pool method None method.parameters listed [] w s
    by-frames (f ∷ frames) s =
        let fit = shortest-fit pool None method.parameters listed (f ∷ frames) s in
        let few : length (f ∷ frames) ≤ 65535 = omega (arith, shortest-count pool None method.parameters listed (f ∷ frames) s, tabled-count 0 listed (omega arith) t) in
        let spells : SpellsBy (frame_table pool) ((frame_table pool).spell (f ∷ frames)) (f ∷ frames) = record { fits = table-fits pool (f ∷ frames) fit few; spelled = refl } in
        ap (frames_of_table pool method) (whole_back (frame_table pool) bad_table ((frame_table pool).spell (f ∷ frames)) (f ∷ frames) (table_law pool) spells)
        ∙ listed-from pool method None method.parameters listed (f ∷ frames) w s
