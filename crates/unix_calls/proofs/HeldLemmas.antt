-- From the parts that a call works on to all that is held.
use Rattle.std.proofs.Common.{◌≡◌, ◌⊎◌, inl, inr, ℕ, ◌+◌, nat_lt, ℤ, pos, length, Bool, true, false, not, List, [], Option, Some, None, refl, ap, sym, ◌∙◌, subst, append-nil, if◌then◌else◌}
use Rattle.std.specs.Prelude.{Result, Ok, Err, is_err}
use Rattle.nv_outside.specs.declared.failed.Failed.{Failed}
use Rattle.nv_outside.specs.Faults.{CountsFailure, Rises}
use Rattle.nv_outside.specs.Seen.{FailsIn, Seen}
use Rattle.run_definition.specs.declared.io_fault.IoFault.TheVariants.{ReadFault, WriteFault}
use Rattle.run_definition.specs.Memory.{patched}
use Rattle.run_definition.specs.Question.{Room}
use Rattle.run_definition.specs.Answer.{Answer, fits_room, room_place}
use Rattle.run_definition.specs.declared.io_fault.IoFault.{IoFault}
use Rattle.unix_definition.specs.Files.{GuestFiles}
use Rattle.unix_definition.specs.declared.opened.Opened.{Opened}
use Rattle.unix_definition.specs.declared.heap.Heap.{Heap}
use Rattle.unix_definition.specs.declared.description.Description.{Description}
use Rattle.run_definition.specs.declared.order.Order.{Order}
use Rattle.unix_definition.specs.System.{Console, System, system_with_heap, with_order}
use Rattle.unix_definition.specs.Asked.{value_only, call_refused, order_of_number, words_in_order, has_room}
use Rattle.unix_definition.specs.Opened.{numbered_at, node_of}
use Rattle.unix_definition.specs.Errors.{bad_descriptor, bad_address, invalid}
use Rattle.unix_definition.specs.Calls.{begin, fstat, file_words, argument_block}
use Rattle.unix_system.specs.Serving.{Gives}
use Rattle.unix_calls.specs.Held.{Held, system_of, with_parts}
use Rattle.unix_calls.proofs.HeldForms.{with_tables_held, with_input_held}
use Rattle.unix_calls.specs.Drawing.{known}
use Rattle.unix_calls.specs.Serving.{AsFault, OneFails, Parts, Serves, parts, written_by}
use Rattle.unix_calls.specs.Reading.{Inputs, inputs, Reads, ReadsPart, ReadGives, Outputs, outputs, Writes, WritesPart, WriteGives}
use Rattle.unix_calls.proofs.DrawLemmas.{consumes-nothing}
use Rattle.unix_calls.proofs.ReadGiven.{given-is}
use Rattle.nv_outside.proofs.SeenLemmas.{takes-nothing}

module _ {C : Type 0} (put_at : C → ℕ → ℕ → C) (does : System → Answer × System) (number : ℕ) (room : Room) (v u : Held) (same : v ≡ u) (input out err : Seen (List ℕ)) where
  -- a call that puts a patch, and changes files, descriptors and heap
  puts-at : (c d : C) (w : Held) (value : ℤ) (patch : List ℕ) → fits_room patch room ≡ true → d ≡ patched put_at c (room_place room) patch → ((r before error_before : List ℕ) → does (system_of v r before error_before) ≡ (record { value = value; patch = patch }, system_of w r before error_before)) → Serves put_at does number room (parts v input out err) (parts w input out err) c d (Ok value)
  puts-at c d w value patch fits after is = (
    patch,
    record {
      got = [];
      output = [];
      error_output = [];
      fits = fits;
      consumed = consumes-nothing input.told;
      sound = refl;
      wrote = takes-nothing out;
      wrote_error = takes-nothing err;
      is = λ before error_before. is (known input.told) before error_before ∙ (λ i. (record { value = value; patch = patch }, system_of w (known input.told) (sym (append-nil before) i) (sym (append-nil error_before) i)));
    },
    after,
  )

  pub serves-quiet : (c : C) (files : GuestFiles) (opened : Opened) (heap : Heap) (value : ℤ) → ((s : System) → does (with_parts s v.files v.opened v.heap v.moment) ≡ (value_only value, with_parts s files opened heap v.moment)) → Serves put_at does number room (parts u input out err) (parts (with_tables_held v files opened heap) input out err) c c (Ok value)
  serves-quiet c files opened heap value h =
      subst (λ (x : Held). Serves put_at does number room (parts x input out err) (parts (with_tables_held v files opened heap) input out err) c c (Ok value)) same
      (puts-at c c (with_tables_held v files opened heap) value [] refl refl (λ r before error_before. h (system_of v r before error_before)))

  pub serves-given : (c d : C) (w : Held) (value : ℤ) (given : System → Answer × System) → ((s : System) → does s ≡ given s) → ((r before error_before : List ℕ) → (given (system_of v r before error_before)).0.patch ≡ (given (system_of v [] [] [])).0.patch) → ((r before error_before : List ℕ) → Gives put_at c d room value (system_of w r before error_before) (given (system_of v r before error_before))) → Serves put_at does number room (parts u input out err) (parts w input out err) c d (Ok value)
  serves-given c d w value given is one gives =
      let patch = (given (system_of v [] [] [])).0.patch in
      subst (λ (x : Held). Serves put_at does number room (parts x input out err) (parts w input out err) c d (Ok value)) same
      (puts-at c d w value patch (gives [] [] []).fits (gives [] [] []).patch
      (λ r before error_before. is (system_of v r before error_before) ∙ given-is (given (system_of v r before error_before)) value patch (system_of w r before error_before) (gives r before error_before).value (one r before error_before) (gives r before error_before).after))

  abbrev pub read-parts : Inputs → ℕ → Parts
  read-parts new faults = parts (with_input_held v new.files new.opened new.ahead) (record { told = new.rest; faults = faults }) out err

  serves-read : (c d : C) (new : Inputs) (faults : ℕ) (value : ℤ) → faults ≡ input.faults → Reads put_at does room c d (inputs v.most v.files v.opened v.ahead input.told) new value
      → Serves put_at does number room (parts u input out err) (read-parts new faults) c d (Ok value)
  serves-read c d new faults value sound r =
      let w = with_input_held v new.files new.opened new.ahead in
      subst (λ (x : Held). Serves put_at does number room (parts x input out err) (read-parts new faults) c d (Ok value)) same (
        r.patch,
        record {
          got = r.got;
          output = [];
          error_output = [];
          fits = r.fits;
          consumed = r.consumed;
          sound = sound;
          wrote = takes-nothing out;
          wrote_error = takes-nothing err;
          is = λ before error_before. r.is (system_of v [] before error_before) ∙ (λ i. (record { value = value; patch = r.patch }, system_of w (known new.rest) (sym (append-nil before) i) (sym (append-nil error_before) i)));
        },
        r.after,
      )

  fails-read : (c d : C) (new : Inputs) (faults : ℕ) → number ≡ 4 → Rises input.faults faults → ReadsPart put_at does room c d (inputs v.most v.files v.opened v.ahead input.told) new
      → Serves put_at does number room (parts u input out err) (read-parts new faults) c d (Err ReadFault)
  fails-read c d new faults call rises r =
      subst (λ (x : Held). Serves put_at does number room (parts x input out err) (read-parts new faults) c d (Err ReadFault)) same (
        record {
          call = call;
          got = r.got;
          consumed = r.consumed;
          reads = λ behind before error_before small. r.reads (system_of v [] before error_before) behind small;
          rises = rises;
          out = refl;
          err = refl;
          same = λ i. with_input_held v (r.files i) (r.opened i) (r.none i);
        },
        (r.patch, r.fits, r.after),
      )

  -- a read, where its failure is a fault
  pub read-given : (c d : C) (new : Inputs) (faults : ℕ) (r : Result ℤ Failed) (q : Result ℤ IoFault) → number ≡ 4 → AsFault ReadFault r q
      → CountsFailure (is_err r) input.faults faults → ReadGives put_at does room c d (inputs v.most v.files v.opened v.ahead input.told) new r
      → Serves put_at does number room (parts u input out err) (read-parts new faults) c d q
  read-given c d new faults (Ok value) q call is count given =
      subst (λ (x : Result ℤ IoFault). Serves put_at does number room (parts u input out err) (read-parts new faults) c d x) (sym is)
      (serves-read c d new faults value (count.stays refl) given)
  read-given c d new faults (Err e) q call is count given =
      subst (λ (x : Result ℤ IoFault). Serves put_at does number room (parts u input out err) (read-parts new faults) c d x) (sym is)
      (fails-read c d new faults call (record { never_falls = count.never_falls; rose = count.rises refl }) given)

  abbrev pub write-parts : Outputs → Parts
  write-parts new = parts (with_tables_held v new.files new.opened v.heap) input new.out new.err

  serves-write : (c : C) (new : Outputs) (value : ℤ) → Writes does (outputs v.files v.opened out err) new value
      → Serves put_at does number room (parts u input out err) (write-parts new) c c (Ok value)
  serves-write c new value r =
      subst (λ (x : Held). Serves put_at does number room (parts x input out err) (write-parts new) c c (Ok value)) same (
        [],
        record {
          got = [];
          output = r.output;
          error_output = r.error_output;
          fits = refl;
          consumed = consumes-nothing input.told;
          sound = refl;
          wrote = r.wrote;
          wrote_error = r.wrote_error;
          is = λ before error_before. r.is (system_of v (known input.told) before error_before);
        },
        refl,
      )

  one-fails : (new : Outputs) (w : Held) (written : Console) (output error_output : List ℕ) → written.output ≡ output → written.error_output ≡ error_output
      → (FailsIn out new.out output × (new.err ≡ err)) ⊎ ((new.out ≡ out) × FailsIn err new.err error_output)
      → OneFails written (parts v input out err) (parts w input new.out new.err)
  one-fails new w written output error_output is is_error (inl h) = inl (subst (FailsIn out new.out) (sym is) h.0, h.1)
  one-fails new w written output error_output is is_error (inr h) = inr (h.0, subst (FailsIn err new.err) (sym is_error) h.1)

  fails-write : (c : C) (new : Outputs) → number ≡ 5 → WritesPart does (outputs v.files v.opened out err) new
      → Serves put_at does number room (parts u input out err) (write-parts new) c c (Err WriteFault)
  fails-write c new call r =
      let w = with_tables_held v new.files new.opened v.heap in
      let wrote = r.is (system_of v (known input.told) [] []) in
      subst (λ (x : Held). Serves put_at does number room (parts x input out err) (write-parts new) c c (Err WriteFault)) same (
        record {
          call = call;
          input = refl;
          sinks = one-fails new w (written_by does v (known input.told)) r.output r.error_output (ap (λ k. k.output) wrote) (ap (λ k. k.error_output) wrote) r.sinks;
          same = λ i. with_tables_held v (r.files i) (r.opened i) v.heap;
        },
        ([], refl, refl),
      )

  -- a write, where its failure is a fault
  pub write-given : (c : C) (new : Outputs) (r : Result ℤ Failed) (q : Result ℤ IoFault) → number ≡ 5 → AsFault WriteFault r q
      → WriteGives does (outputs v.files v.opened out err) new r → Serves put_at does number room (parts u input out err) (write-parts new) c c q
  write-given c new (Ok value) q call is given =
      subst (λ (x : Result ℤ IoFault). Serves put_at does number room (parts u input out err) (write-parts new) c c x) (sym is) (serves-write c new value given)
  write-given c new (Err e) q call is given =
      subst (λ (x : Result ℤ IoFault). Serves put_at does number room (parts u input out err) (write-parts new) c c x) (sym is) (fails-write c new call given)

-- the patch of a call does not depend on the console
begin-choice : (a b o c : Bool) (x : Answer) (s t s_new t_new : System) → (if a then call_refused s invalid else if b then call_refused s invalid else if o then call_refused s invalid else if not c then call_refused s bad_address else (x, s_new)).0.patch ≡ (if a then call_refused t invalid else if b then call_refused t invalid else if o then call_refused t invalid else if not c then call_refused t bad_address else (x, t_new)).0.patch
begin-choice true b o c x s t s_new t_new = refl
begin-choice false true o c x s t s_new t_new = refl
begin-choice false false true c x s t s_new t_new = refl
begin-choice false false false true x s t s_new t_new = refl
begin-choice false false false false x s t s_new t_new = refl

pub begin-patch : (v : Held) (r before error_before : List ℕ) (a0 a1 a2 a3 : ℕ) (room : Room) → (begin (system_of v r before error_before) a0 a1 a2 a3 room).0.patch ≡ (begin (system_of v [] [] []) a0 a1 a2 a3 room).0.patch
begin-patch v r before error_before a0 a1 a2 a3 room =
    let s = with_order (system_of v r before error_before) (order_of_number a3) in
    let t = with_order (system_of v [] [] []) (order_of_number a3) in
    let heap : Heap = record { begun = true; start = a1; end = a1 + a2; program_break = a1 } in
    begin-choice v.heap.begun (nat_lt 0x7FFFFFFF (a1 + a2)) (nat_lt 1 a3) (has_room room 4096) (record { value = pos (length v.args); patch = argument_block s a0 }) (system_of v r before error_before) (system_of v [] [] []) (system_with_heap s heap) (system_with_heap t heap)

abbrev fstat_of : Option (ℕ × Description) → Bool → Order → GuestFiles → System → Answer × System
fstat_of o w order files s = elim o [
  | None ↦ call_refused s bad_descriptor
  | Some found ↦ if not w then call_refused s bad_address else (record { value = pos 0; patch = words_in_order order (file_words files (node_of found.1.target)) }, s)
]

fstat-choice : (o : Option (ℕ × Description)) (w : Bool) (order : Order) (files : GuestFiles) (s t : System) → (fstat_of o w order files s).0.patch ≡ (fstat_of o w order files t).0.patch
fstat-choice None w order files s t = refl
fstat-choice (Some found) true order files s t = refl
fstat-choice (Some found) false order files s t = refl

pub fstat-patch : (v : Held) (r before error_before : List ℕ) (fd : ℕ) (room : Room) → (fstat (system_of v r before error_before) fd room).0.patch ≡ (fstat (system_of v [] [] []) fd room).0.patch
fstat-patch v r before error_before fd room = fstat-choice (numbered_at v.opened fd) (has_room room 16) v.order v.files (system_of v r before error_before) (system_of v [] [] [])
