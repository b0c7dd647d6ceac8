-- Methods that take no part in loading.
use Rattle.std.proofs.Common.{ℕ, ◌+◌, ◌<◌, ◌≤◌, Bool, List, [], ◌∷◌, arith}
use Rattle.elf_definition.specs.Start.{Source}
use Rattle.emit_layout.specs.Numbers.{main_methods}
use Rattle.translate_program.specs.Classes.{Placed, AreCodeClasses, Follow, methods_behind, run_of}
use Rattle.translate_program.specs.DataFiles.{class_count, filled_pages, first_method}
use Rattle.translate_program.specs.Translation.{code_methods}
use Rattle.nv_translate.specs.Loading.{TakesNoPart}

pub code-takes-no-part : (source : Source) (code : List Placed) (m : ℕ) → main_methods ≤ m → m < code_methods code → TakesNoPart source code m
code-takes-no-part source code m from below = record {
  first = λ e. omega (arith, e, from);
  pages = λ e. omega (arith, e, from);
  words = λ k within e. omega (arith, e, below);
  fills = λ k within e. omega (arith, e, below);
}

pub no-fewer : (number first : ℕ) (code : List Placed) → Follow number first code → first ≤ methods_behind first code
no-fewer number first [] follow = omega arith
no-fewer number first (c ∷ code) follow =
    let rest = no-fewer (number + 1) (run_of c + 1) code follow.2 in
    let here = follow.1 in
    omega (arith, rest, here)

pub behind-takes-no-part : {metered : Bool} (source : Source) (method_bytes : ℕ) (code : List Placed) (m : ℕ) → AreCodeClasses metered source method_bytes code
    → first_method (code_methods code) (class_count (filled_pages source)) ≤ m → TakesNoPart source code m
behind-takes-no-part source method_bytes code m is from =
    let more = no-fewer 0 main_methods code is.placed.follow in
    record {
      first = λ e. omega (arith, e, from, more);
      pages = λ e. omega (arith, e, from, more);
      words = λ k within e. omega (arith, e, from, within);
      fills = λ k within e. omega (arith, e, from, within);
    }
