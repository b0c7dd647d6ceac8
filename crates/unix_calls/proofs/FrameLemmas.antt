-- A call knows the console by three lists: the rest of input, of which only a read takes something, and what was written before, at whose
-- end only a write puts something. So it does the same where these are others.
use Rattle.std.proofs.Common.{zero, suc, sym, ap, ◌∙◌, ◌≡◌, ◌⊎◌, inl, inr, ℕ, ◌+◌, ◌==◌, min, nat_lt, nat_le, ℤ, pos, negsuc, ◌+ℤ◌, Bool, true, false, not, ◌&&◌, ◌||◌, List, [], ◌++◌, length, take, drop, Option, Some, None, refl, append_assoc, append-nil, if◌then◌else◌}
use Rattle.run_definition.specs.Words.{signed_of}
use Rattle.run_definition.specs.Question.{Question, AskedText, no_text, unreadable, too_long, bytes, Room}
use Rattle.unix_definition.specs.Files.{node_named, free_node, bytes_at, has_blocks, written}
use Rattle.unix_definition.specs.declared.description.Description.{Description}
use Rattle.unix_definition.specs.declared.target.Target.{Target}
use Rattle.unix_definition.specs.declared.target.Target.TheVariants.{File, Input, Output, ErrorOutput}
use Rattle.unix_definition.specs.System.{System, with_console}
use Rattle.unix_definition.specs.Opened.{number_at, numbered_at, free_descriptor, free_places, node_of}
use Rattle.unix_definition.specs.Asked.{value_only, call_refused, path_error, bytes_of_text, has_room, access, creates, is_exclusive, with_bytes_of}
use Rattle.unix_definition.specs.Calls.{first_line, begin, open_file, create_file, open_present, close, read, read_target, write, write_target, write_place, file_written, lseek, seek_to, seek_base, file_place, break_at, fstat, unlink, dup, ftruncate, rename, isatty}
use Rattle.unix_definition.specs.Unix.{unix, reply, fitting_answer}
use Rattle.run_definition.specs.Answer.{Answer, answer_fits}
use Rattle.run_definition.specs.Turn.{Turn, moves, ends, leaves, asks}
use Rattle.run_definition.specs.Run.{Run, asking, run_of}
use Rattle.nv_events.proofs.RunLaws.{given, turned, run_of-suc}
use Rattle.unix_calls.specs.Playing.{behind, run_behind}

abbrev pub Same : System → System → Type 0
Same s t = (t.console.output ≡ s.console.output) × (t.console.error_output ≡ s.console.error_output)

-- a change of the lists: of the rest of input, of output and of error output
pub record Change : Type 0 where
  pub rest : List ℕ → List ℕ
  pub output : List ℕ → List ℕ
  pub error_output : List ℕ → List ℕ

abbrev pub changed : Change → System → System
changed f s = with_console s (record { rest = f.rest s.console.rest; output = f.output s.console.output; error_output = f.error_output s.console.error_output })

-- what is written at the end stands at the end
pub record KeepsEnds (f : Change) : Type 0 where
  pub output : (xs ys : List ℕ) → f.output xs ++ ys ≡ f.output (xs ++ ys)
  pub error_output : (xs ys : List ℕ) → f.error_output xs ++ ys ≡ f.error_output (xs ++ ys)

-- a read of at most so many bytes of input takes the same
pub record ReadsSame (f : Change) (s : System) (n : ℕ) : Type 0 where
  pub line : take (min n s.most) (first_line (f.rest s.console.rest)) ≡ take (min n s.most) (first_line s.console.rest)
  pub left : drop (length (take (min n s.most) (first_line s.console.rest))) (f.rest s.console.rest) ≡ f.rest (drop (length (take (min n s.most) (first_line s.console.rest))) s.console.rest)

-- x is y changed, and y wrote at the end of output, and wrote nothing or puts no bytes into memory
pub record Framed (f : Change) (s : System) (x y : Answer × System) : Type 0 where
  pub frame : x ≡ (y.0, changed f y.1)
  pub writes : (y.0.patch ≡ []) ⊎ Same s y.1
  pub wrote : List ℕ
  pub grows : y.1.console.output ≡ s.console.output ++ wrote
  pub same_most : y.1.most ≡ s.most

module _ (f : Change) (keeps : KeepsEnds f) (s : System) where
  abbrev other : System
  other = changed f s

  quiet : (a : Answer) (t : System) → Same s t → t.most ≡ s.most → Framed f s (a, changed f t) (a, t)
  quiet a t same most = record { frame = refl; writes = inr same; wrote = []; grows = same.0 ∙ sym (append-nil s.console.output); same_most = most }

  refuses : (z : ℤ) → Framed f s (call_refused other z) (call_refused s z)
  refuses z = record { frame = refl; writes = inr (refl, refl); wrote = []; grows = sym (append-nil s.console.output); same_most = refl }

  framed-test : (c : Bool) {x1 x2 y1 y2 : Answer × System} → (c ≡ true → Framed f s x1 y1) → (c ≡ false → Framed f s x2 y2) → Framed f s (if c then x1 else x2) (if c then y1 else y2)
  framed-test true p q = p refl
  framed-test false p q = q refl

  framed-found : {A : Type 0} (o : Option A) {x y : Answer × System} {g h : A → Answer × System} → Framed f s x y → ((a : A) → o ≡ Some a → Framed f s (g a) (h a)) → Framed f s (elim o [ None ↦ x | Some a ↦ g a ]) (elim o [ None ↦ y | Some a ↦ h a ])
  framed-found None p q = p
  framed-found (Some a) p q = q a refl

  framed-if : (c : Bool) {x1 x2 y1 y2 : Answer × System} → Framed f s x1 y1 → Framed f s x2 y2 → Framed f s (if c then x1 else x2) (if c then y1 else y2)
  framed-if c p q = framed-test c (λ is. p) (λ is. q)

  framed-option : {A : Type 0} (o : Option A) {x y : Answer × System} {g h : A → Answer × System} → Framed f s x y → ((a : A) → Framed f s (g a) (h a)) → Framed f s (elim o [ None ↦ x | Some a ↦ g a ]) (elim o [ None ↦ y | Some a ↦ h a ])
  framed-option o p q = framed-found o p (λ a is. q a)

  framed-path : (o : Option ℤ) {x y : Answer × System} → Framed f s x y → Framed f s (elim o [ Some z ↦ call_refused other z | None ↦ x ]) (elim o [ Some z ↦ call_refused s z | None ↦ y ])
  framed-path None p = p
  framed-path (Some z) p = refuses z

  begin-framed : (a0 a1 a2 a3 : ℕ) (room : Room) → Framed f s (begin other a0 a1 a2 a3 room) (begin s a0 a1 a2 a3 room)
  begin-framed a0 a1 a2 a3 room =
      framed-if s.heap.begun (refuses _) (framed-if (nat_lt 0x7FFFFFFF (a1 + a2)) (refuses _) (framed-if (nat_lt 1 a3) (refuses _) (framed-if (not (has_room room 4096)) (refuses _) (quiet _ _ (refl, refl) refl))))

  create-framed : (name : List ℕ) (flags : ℕ) → Framed f s (create_file other name flags) (create_file s name flags)
  create-framed name flags =
      framed-if (not (creates flags)) (refuses _) (framed-option (free_places s.opened) (refuses _) (λ free. framed-option (free_node s.files) (refuses _) (λ n. quiet _ _ (refl, refl) refl)))

  present-framed : (n flags : ℕ) → Framed f s (open_present other n flags) (open_present s n flags)
  present-framed n flags =
      framed-if (creates flags && is_exclusive flags) (refuses _) (framed-option (free_places s.opened) (refuses _) (λ free. quiet _ _ (refl, refl) refl))

  open-framed : (path : AskedText) (flags : ℕ) → Framed f s (open_file other path flags) (open_file s path flags)
  open-framed path flags =
      framed-path (path_error path) (framed-if (access flags == 3) (refuses _) (framed-option (node_named s.files (bytes_of_text path)) (create-framed (bytes_of_text path) flags) (λ n. present-framed n flags)))

  close-framed : (fd : ℕ) → Framed f s (close other fd) (close s fd)
  close-framed fd = framed-option (number_at s.opened fd) (refuses _) (λ d. quiet _ _ (refl, refl) refl)

  read-target : (d : ℕ) (description : Description) (n : ℕ) (t : Target) → (t ≡ Input → ReadsSame f s n) → Framed f s (read_target other d description n t) (read_target s d description n t)
  read-target d description n (File k) reads = quiet _ _ (refl, refl) refl
  read-target d description n Input reads =
      let same = reads refl in
      let taken = take (min n s.most) (first_line s.console.rest) in
      record {
        frame =
            (λ i. (record { value = pos (length (same.line i)); patch = same.line i }, with_console other (record other.console { rest = drop (length (same.line i)) other.console.rest })))
            ∙ ap (λ r. (record { value = pos (length taken); patch = taken }, with_console other (record other.console { rest = r }))) same.left;
        writes = inr (refl, refl);
        wrote = [];
        grows = sym (append-nil s.console.output);
        same_most = refl;
      }
  read-target d description n Output reads = refuses _
  read-target d description n ErrorOutput reads = refuses _

  read-framed : (fd n : ℕ) (room : Room) → ((found : ℕ × Description) → numbered_at s.opened fd ≡ Some found → (n == 0) ≡ false → found.1.target ≡ Input → ReadsSame f s n) → Framed f s (read other fd n room) (read s fd n room)
  read-framed fd n room reads =
      framed-found (numbered_at s.opened fd) (refuses _)
      (λ found there. framed-if (not found.1.may_read) (refuses _)
      (framed-if (nat_le 0x80000000 n) (refuses _)
      (framed-test (n == 0) (λ is. quiet _ _ (refl, refl) refl)
      (λ some. framed-if (not (has_room room n)) (refuses _) (read-target found.0 found.1 n found.1.target (reads found there some))))))

  file-written : (d : ℕ) (description : Description) (k : ℕ) (bs : List ℕ) (place : ℕ) → Framed f s (file_written other d description k bs place) (file_written s d description k bs place)
  file-written d description k bs place =
      framed-if (nat_lt 0x7FFFFFFF (place + length bs)) (refuses _) (framed-if (not (has_blocks s.files k (length (written (bytes_at s.files k) place bs)))) (refuses _) (quiet _ _ (refl, refl) refl))

  write-target : (d : ℕ) (description : Description) (bs : List ℕ) (t : Target) → Framed f s (write_target other d description bs t) (write_target s d description bs t)
  write-target d description bs (File k) = file-written d description k bs (write_place s.files k description)
  write-target d description bs Input = refuses _
  write-target d description bs Output = record {
    frame = λ i. (value_only (pos (length bs)), with_console other (record other.console { output = keeps.output s.console.output bs i }));
    writes = inl refl;
    wrote = bs;
    grows = refl;
    same_most = refl;
  }
  write-target d description bs ErrorOutput = record {
    frame = λ i. (value_only (pos (length bs)), with_console other (record other.console { error_output = keeps.error_output s.console.error_output bs i }));
    writes = inl refl;
    wrote = [];
    grows = sym (append-nil s.console.output);
    same_most = refl;
  }

  write-bytes : (d : ℕ) (description : Description) (text : AskedText) → Framed f s (with_bytes_of other text (λ bs. write_target other d description bs description.target)) (with_bytes_of s text (λ bs. write_target s d description bs description.target))
  write-bytes d description no_text = refuses _
  write-bytes d description unreadable = refuses _
  write-bytes d description too_long = refuses _
  write-bytes d description (bytes bs) = write-target d description bs description.target

  write-framed : (fd n : ℕ) (text : AskedText) → Framed f s (write other fd n text) (write s fd n text)
  write-framed fd n text =
      framed-option (numbered_at s.opened fd) (refuses _) (λ found. framed-if (not found.1.may_write) (refuses _) (framed-if (nat_le 0x80000000 n) (refuses _) (framed-if (n == 0) (quiet _ _ (refl, refl) refl) (write-bytes found.0 found.1 text))))

  seek-framed : (d : ℕ) (description : Description) (o : Option ℕ) → Framed f s (seek_to other d description o) (seek_to s d description o)
  seek-framed d description None = refuses _
  seek-framed d description (Some place) = quiet _ _ (refl, refl) refl

  lseek-framed : (fd offset whence : ℕ) → Framed f s (lseek other fd offset whence) (lseek s fd offset whence)
  lseek-framed fd offset whence =
      framed-option (numbered_at s.opened fd) (refuses _) (λ found. framed-option (node_of found.1.target) (refuses _) (λ k. framed-if (nat_lt 2 whence) (refuses _) (seek-framed found.0 found.1 (file_place (pos (seek_base s.files k found.1 whence) +ℤ signed_of offset)))))

  break-framed : (z : ℤ) → Framed f s (break_at other z) (break_at s z)
  break-framed (pos place) = framed-if (nat_lt place s.heap.start || nat_lt s.heap.end place) (refuses _) (quiet _ _ (refl, refl) refl)
  break-framed (negsuc n) = refuses _

  fstat-framed : (fd : ℕ) (room : Room) → Framed f s (fstat other fd room) (fstat s fd room)
  fstat-framed fd room = framed-option (numbered_at s.opened fd) (refuses _) (λ found. framed-if (not (has_room room 16)) (refuses _) (quiet _ _ (refl, refl) refl))

  unlink-framed : (path : AskedText) → Framed f s (unlink other path) (unlink s path)
  unlink-framed path = framed-path (path_error path) (framed-option (node_named s.files (bytes_of_text path)) (refuses _) (λ n. quiet _ _ (refl, refl) refl))

  dup-framed : (fd : ℕ) → Framed f s (dup other fd) (dup s fd)
  dup-framed fd = framed-option (number_at s.opened fd) (refuses _) (λ d. framed-option (free_descriptor s.opened) (refuses _) (λ lowest. quiet _ _ (refl, refl) refl))

  ftruncate-framed : (fd size : ℕ) → Framed f s (ftruncate other fd size) (ftruncate s fd size)
  ftruncate-framed fd size =
      framed-option (numbered_at s.opened fd) (refuses _) (λ found. framed-if (not found.1.may_write) (refuses _) (framed-option (node_of found.1.target) (refuses _) (λ k. framed-if (nat_le 0x80000000 size) (refuses _) (framed-if (not (has_blocks s.files k size)) (refuses _) (quiet _ _ (refl, refl) refl)))))

  rename-framed : (old new : AskedText) → Framed f s (rename other old new) (rename s old new)
  rename-framed old new =
      framed-path (path_error old) (framed-path (path_error new) (framed-option (node_named s.files (bytes_of_text old)) (refuses _) (λ n. quiet _ _ (refl, refl) refl)))

  isatty-framed : (fd : ℕ) → Framed f s (isatty other fd) (isatty s fd)
  isatty-framed fd = framed-option (numbered_at s.opened fd) (refuses _) (λ found. quiet _ _ (refl, refl) refl)

  pub call-framed : (q : Question) → ((found : ℕ × Description) → (q.number == 4) ≡ true → numbered_at s.opened q.a0 ≡ Some found → (q.a2 == 0) ≡ false → found.1.target ≡ Input → ReadsSame f s q.a2) → Framed f s (unix other q) (unix s q)
  call-framed q reads =
      framed-if (q.number == 0) (begin-framed q.a0 q.a1 q.a2 q.a3 q.room)
      (framed-if (q.number == 2) (open-framed q.text q.a1)
      (framed-if (q.number == 3) (close-framed q.a0)
      (framed-test (q.number == 4) (λ is. read-framed q.a0 q.a2 q.room (λ found. reads found is))
      (λ is. framed-if (q.number == 5) (write-framed q.a0 q.a2 q.text)
      (framed-if (q.number == 6) (lseek-framed q.a0 q.a1 q.a2)
      (framed-if (q.number == 7) (break-framed (pos s.heap.program_break +ℤ signed_of q.a0))
      (framed-if (q.number == 8) (fstat-framed q.a0 q.room)
      (framed-if (q.number == 9) (unlink-framed q.text)
      (framed-if (q.number == 10) (dup-framed q.a0)
      (framed-if (q.number == 11) (ftruncate-framed q.a0 q.a1)
      (framed-if (q.number == 12) (quiet _ _ (refl, refl) refl)
      (framed-if (q.number == 13) (quiet _ _ (refl, refl) refl)
      (framed-if (q.number == 14) (rename-framed q.text q.second)
      (framed-if (q.number == 15) (isatty-framed q.a0) (refuses _)))))))))))))))

-- ---- what was written before a call stays in front

abbrev pub in_front : List ℕ → List ℕ → Change
in_front b e = record { rest = λ xs. xs; output = λ xs. b ++ xs; error_output = λ xs. e ++ xs }

pub unix-framed : (b e : List ℕ) (s : System) (q : Question) → Framed (in_front b e) s (unix (behind b e s) q) (unix s q)
unix-framed b e s q = call-framed (in_front b e) (record { output = append_assoc b; error_output = append_assoc e }) s q (λ found call there some is. record { line = refl; left = refl })

module _ {S : Type 0} (b e : List ℕ) (go : S → System → Run S System) (h : (t : S) (l : System) → go t (behind b e l) ≡ run_behind b e (go t l)) where
  given-behind : (f : Bool) (y : Answer × System) (q : Question) (next : Answer → S) (s : S) (k : System) → given (if f then Some (y.0, behind b e y.1) else None) q next s (behind b e k) go ≡ run_behind b e (given (if f then Some y else None) q next s k go)
  given-behind true y q next s k = ap (asking q) (h (next y.0) y.1)
  given-behind false y q next s k = refl

  turned-behind : (x : Turn S) (s : S) (k : System) → turned reply x s (behind b e k) go ≡ run_behind b e (turned reply x s k go)
  turned-behind (moves t) s k = h t k
  turned-behind (ends end) s k = refl
  turned-behind (leaves q end) s k = refl
  turned-behind (asks q next) s k =
      ap (λ z. given (fitting_answer q z) q next s (behind b e k) go) (unix-framed b e k q).frame
      ∙ given-behind (answer_fits (unix k q).0 q) (unix k q) q next s k

-- a run behind what was written before it
pub run-behind : {S : Type 0} (turn : S → Turn S) (n : ℕ) (s : S) (k : System) (b e : List ℕ) → run_of turn reply n s (behind b e k) ≡ run_behind b e (run_of turn reply n s k)
run-behind turn zero s k b e = refl
run-behind turn (suc n) s k b e =
    run_of-suc turn reply n s (behind b e k)
    ∙ (turned-behind b e (run_of turn reply n) (λ t l. run-behind turn n t l b e) (turn s) s k
    ∙ ap (run_behind b e) (sym (run_of-suc turn reply n s k)))
