-- What holds of every command that words mean, besides what its types say.
use Rattle.std.specs.Prelude.{◌≡◌, ◌≤◌, ℕ, true, false, List, length}
use Rattle.std.specs.List.{All}
use Rattle.nv_values.specs.Names.{Text}
use Rattle.command_words.specs.Values.{all_different, has_zero}
use Rattle.command_words.specs.Meaning.{class_steps, guest_steps}
use Rattle.command_words.specs.declared.command.Command.{Command}
use Rattle.command_words.specs.declared.command.Command.TheVariants.{Go, Translate, Interp, Run, Verify, Frames, Check, Asm, List as ListIn, Make, Link, Pipe}
use Rattle.command_words.specs.declared.named.Named.{Named}
use Rattle.command_words.specs.declared.named_class.NamedClass.{NamedClass}
use Rattle.command_words.specs.declared.pages.Pages.{Pages}
use Rattle.command_words.specs.declared.session.Session.{Session}

pub record IsFileName (name : Text) : Type 0 where
  pub some : 1 ≤ length name
  pub short : length name ≤ 255
  pub no_zero : has_zero name ≡ false

pub record AreFileNames (names : List Text) : Type 0 where
  pub few : length names ≤ 64
  pub each : All IsFileName names
  pub different : all_different names ≡ true

pub record ArePages (pages : Pages) : Type 0 where
  pub heap : pages.heap ≤ 32768
  pub some_stack : 1 ≤ pages.stack
  pub stack : pages.stack ≤ 32768

-- a session of at most so many steps
pub record IsSession (most : ℕ) (session : Session) : Type 0 where
  pub steps : session.steps ≤ most
  pub disk : session.disk ≤ 65536
  pub with : AreFileNames session.with.names
  pub keep : AreFileNames session.keep.names
  pub arguments : All (λ a. has_zero a ≡ false) session.arguments

-- files that are linked
pub record AreInputs (inputs : List Named) : Type 0 where
  pub some : 1 ≤ length inputs
  pub few : length inputs ≤ 256

-- classes of a pipeline
pub record AreStages (classes : List NamedClass) : Type 0 where
  pub several : 2 ≤ length classes
  pub few : length classes ≤ 8

abbrev pub IsWithinLimits : Command → Type 0
IsWithinLimits (Go input name pages method_bytes meter session) =
    ArePages pages × IsSession guest_steps session
IsWithinLimits (Translate input name pages method_bytes meter) = ArePages pages
IsWithinLimits (Interp input name pages session) =
    ArePages pages × IsSession guest_steps session
IsWithinLimits (Run class words session) = IsSession class_steps session
IsWithinLimits (Verify class) = Unit {0}
IsWithinLimits (Frames class) = Unit {0}
IsWithinLimits (Check class) = Unit {0}
IsWithinLimits (Asm input output) = Unit {0}
IsWithinLimits (ListIn input) = Unit {0}
IsWithinLimits (Make count method_bytes) = (1 ≤ count) × (count ≤ 65536)
IsWithinLimits (Link output inputs entry) = AreInputs inputs × IsFileName entry
IsWithinLimits (Pipe classes words steps disk bytes) =
    AreStages classes × (steps ≤ class_steps) × (disk ≤ 65536)
