-- What a write of the code gave, from what its parts gave.
use Rattle.std.proofs.Common.{◌≡◌, ℕ, ℤ, pos, List, [], ◌++◌, length, inl, inr, refl, ap, sym, ◌∙◌, append-nil}
use Rattle.nv_outside.specs.Seen.{FailsIn, Seen, Takes}
use Rattle.run_definition.specs.Answer.{Answer}
use Rattle.unix_definition.specs.Files.{GuestFiles}
use Rattle.unix_definition.specs.declared.opened.Opened.{Opened}
use Rattle.unix_definition.specs.System.{System, system_with_tables, with_console}
use Rattle.unix_definition.specs.Asked.{value_only}
use Rattle.unix_definition.specs.Calls.{with_output}
use Rattle.std.specs.Prelude.{Result, Ok, Err, IfOk, OnOk, OnErr}
use Rattle.nv_outside.specs.declared.failed.Failed.{Failed}
use Rattle.unix_calls.specs.Reading.{Outputs, outputs, with_written, Writes, WritesPart, WriteGives}
use Rattle.nv_outside.proofs.SeenLemmas.{takes-nothing}

written-nothing : (s : System) → s ≡ with_written s [] []
written-nothing s = λ i. with_console s (record { rest = s.console.rest; output = sym (append-nil s.console.output) i; error_output = sym (append-nil s.console.error_output) i })

written-output : (s : System) (bs : List ℕ) → with_output s (s.console.output ++ bs) s.console.error_output ≡ with_written s bs []
written-output s bs = λ i. with_console s (record { rest = s.console.rest; output = s.console.output ++ bs; error_output = sym (append-nil s.console.error_output) i })

written-error : (s : System) (bs : List ℕ) → with_output s s.console.output (s.console.error_output ++ bs) ≡ with_written s [] bs
written-error s bs = λ i. with_console s (record { rest = s.console.rest; output = sym (append-nil s.console.output) i; error_output = s.console.error_output ++ bs })

module _ (does : System → Answer × System) (files : GuestFiles) (opened : Opened) where
  pub writes-quiet : (out err : Seen (List ℕ)) (files_new : GuestFiles) (opened_new : Opened) (value : ℤ) → ((s : System) → does (system_with_tables s files opened) ≡ (value_only value, system_with_tables s files_new opened_new)) → Writes does (outputs files opened out err) (outputs files_new opened_new out err) value
  writes-quiet out err files_new opened_new value h = record {
    output = [];
    error_output = [];
    wrote = takes-nothing out;
    wrote_error = takes-nothing err;
    is = λ s. h s ∙ ap (λ t. (value_only value, t)) (written-nothing (system_with_tables s files_new opened_new));
  }

  pub writes-output : (out out_new err : Seen (List ℕ)) (bs : List ℕ) (value : ℤ) → ((s : System) → does s ≡ (value_only (pos (length bs)), with_output s (s.console.output ++ bs) s.console.error_output)) → value ≡ pos (length bs) → Takes out out_new bs → Writes does (outputs files opened out err) (outputs files opened out_new err) value
  writes-output out out_new err bs value h v gained = record {
    output = bs;
    error_output = [];
    wrote = gained;
    wrote_error = takes-nothing err;
    is = λ s. h (system_with_tables s files opened) ∙ (ap (λ z. (value_only z, with_output (system_with_tables s files opened) (s.console.output ++ bs) s.console.error_output)) (sym v) ∙ ap (λ t. (value_only value, t)) (written-output (system_with_tables s files opened) bs));
  }

  pub writes-error : (out err err_new : Seen (List ℕ)) (bs : List ℕ) (value : ℤ) → ((s : System) → does s ≡ (value_only (pos (length bs)), with_output s s.console.output (s.console.error_output ++ bs))) → value ≡ pos (length bs) → Takes err err_new bs → Writes does (outputs files opened out err) (outputs files opened out err_new) value
  writes-error out err err_new bs value h v gained = record {
    output = [];
    error_output = bs;
    wrote = takes-nothing out;
    wrote_error = gained;
    is = λ s. h (system_with_tables s files opened) ∙ (ap (λ z. (value_only z, with_output (system_with_tables s files opened) s.console.output (s.console.error_output ++ bs))) (sym v) ∙ ap (λ t. (value_only value, t)) (written-error (system_with_tables s files opened) bs));
  }

  pub output-part : (out out_new err : Seen (List ℕ)) (bs : List ℕ) → ((s : System) → does s ≡ (value_only (pos (length bs)), with_output s (s.console.output ++ bs) s.console.error_output)) → FailsIn out out_new bs → WritesPart does (outputs files opened out err) (outputs files opened out_new err)
  output-part out out_new err bs h gained = record {
    output = bs;
    error_output = [];
    sinks = inl (gained, refl);
    files = refl;
    opened = refl;
    is = λ s. ap (λ g. g.1.console) (h (system_with_tables s files opened)) ∙ ap (λ t. t.console) (written-output (system_with_tables s files opened) bs);
  }

  pub error-part : (out err err_new : Seen (List ℕ)) (bs : List ℕ) → ((s : System) → does s ≡ (value_only (pos (length bs)), with_output s s.console.output (s.console.error_output ++ bs))) → FailsIn err err_new bs → WritesPart does (outputs files opened out err) (outputs files opened out err_new)
  error-part out err err_new bs h gained = record {
    output = [];
    error_output = bs;
    sinks = inr (refl, gained);
    files = refl;
    opened = refl;
    is = λ s. ap (λ g. g.1.console) (h (system_with_tables s files opened)) ∙ ap (λ t. t.console) (written-error (system_with_tables s files opened) bs);
  }

pub writes-by : (does other : System → Answer × System) (files : GuestFiles) (opened : Opened) (out err : Seen (List ℕ)) (new : Outputs) (r : Result ℤ Failed) → ((s : System) (f : GuestFiles) → does (system_with_tables s f opened) ≡ other (system_with_tables s f opened)) → WriteGives other (outputs files opened out err) new r → WriteGives does (outputs files opened out err) new r
writes-by does other files opened out err new (Ok v) same given = record {
  output = given.output;
  error_output = given.error_output;
  wrote = given.wrote;
  wrote_error = given.wrote_error;
  is = λ s. same s files ∙ given.is s;
}
writes-by does other files opened out err new (Err e) same given = record {
  output = given.output;
  error_output = given.error_output;
  sinks = given.sinks;
  files = given.files;
  opened = given.opened;
  is = λ s. ap (λ g. g.1.console) (same s files) ∙ given.is s;
}

pub output-given : (does : System → Answer × System) (files : GuestFiles) (opened : Opened) (out out_new err : Seen (List ℕ)) (bs : List ℕ) (r : Result ℤ Failed) → ((s : System) → does s ≡ (value_only (pos (length bs)), with_output s (s.console.output ++ bs) s.console.error_output)) → IfOk r (λ v. v ≡ pos (length bs)) → OnOk r (Takes out out_new bs) → OnErr r (FailsIn out out_new bs) → WriteGives does (outputs files opened out err) (outputs files opened out_new err) r
output-given does files opened out out_new err bs (Ok v) h value ok bad = writes-output does files opened out out_new err bs v h value ok
output-given does files opened out out_new err bs (Err e) h value ok bad = output-part does files opened out out_new err bs h bad

pub error-given : (does : System → Answer × System) (files : GuestFiles) (opened : Opened) (out err err_new : Seen (List ℕ)) (bs : List ℕ) (r : Result ℤ Failed) → ((s : System) → does s ≡ (value_only (pos (length bs)), with_output s s.console.output (s.console.error_output ++ bs))) → IfOk r (λ v. v ≡ pos (length bs)) → OnOk r (Takes err err_new bs) → OnErr r (FailsIn err err_new bs) → WriteGives does (outputs files opened out err) (outputs files opened out err_new) r
error-given does files opened out err err_new bs (Ok v) h value ok bad = writes-error does files opened out err err_new bs v h value ok
error-given does files opened out err err_new bs (Err e) h value ok bad = error-part does files opened out err err_new bs h bad
