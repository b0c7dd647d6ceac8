-- Code that follows a turn of the guest leaves a field alone of which its paths weigh no write.
use Rattle.std.proofs.Common.{◌≡◌, ℕ, ◌+◌, refl, ◌∙◌}
use Rattle.run_definition.specs.Turn.{Turn, moves, ends, leaves, asks}
use Rattle.mips_definition.specs.State as guest
use Rattle.jvm_definition.specs.declared.instruction.Instruction.{Instruction}
use Rattle.jvm_definition.specs.declared.value.Value.{Value}
use Rattle.jvm_definition.specs.Effect.{Workspace}
use Rattle.jvm_definition.specs.Step.{JvmState}
use Rattle.emit_paths_laws.specs.Classes.{puts}
use Rattle.emit_paths_laws.proofs.Leaving.{path-leaves, turn-answers}
use Rattle.emit_simulation_laws.specs.Sites.{Site, turn_in, stands}
use Rattle.emit_simulation_laws.specs.Following.{ComesToEnd, ComesToTurn, LastTurn, Follows}
use Rattle.emit_metered_laws.specs.Leaving.{Leaving}

module _ (site : Site) (high most f : ℕ) (total : (Instruction → ℕ) → ℕ) (none : total (puts f) ≡ 0) (fields : ℕ → Value) (Arrives : Workspace → guest.State → Type 0) where
  end-leaves : (low least few : ℕ) (x : JvmState) (t : guest.State) → x.fields f ≡ fields f → ComesToEnd site low high least few total (λ w. Arrives w t) x
      → ComesToEnd site low high least few total (λ w. Leaving f fields Arrives w t) x
  end-leaves low least few x t same c = record {
    turns = c.turns;
    after = c.after;
    path = c.path;
    no_sooner = c.no_sooner;
    in_time = c.in_time;
    arrives = (
      c.arrives,
      path-leaves site.program site.words f site.method low high c.turns total x (stands site high c.after) c.path none ∙ same,
    );
  }

  last-leaves : (guest_last : Turn guest.State) (used place : ℕ) (before : JvmState) (t : Turn JvmState) → turn_in site before ≡ t → before.fields f ≡ fields f
      → LastTurn site high most total Arrives guest_last used place t → LastTurn site high most total (Leaving f fields Arrives) guest_last used place t
  last-leaves (ends e) used place before (ends g) is same last = last
  last-leaves (leaves q e) used place before (leaves r g) is same last = last
  last-leaves (asks q next) used place before (asks r then) is same last = (
    last.0,
    record {
      left = last.1.left;
      in_time = last.1.in_time;
      comes = λ a fit.
          end-leaves (place + 1) 0 last.1.left (then a) (next a) (turn-answers f before site.program site.words r then a is ∙ same) (last.1.comes a fit);
    },
  )
  last-leaves (moves g) used place before t is same last = absurd last
  last-leaves (ends e) used place before (moves t) is same last = absurd last
  last-leaves (ends e) used place before (leaves r g) is same last = absurd last
  last-leaves (ends e) used place before (asks r then) is same last = absurd last
  last-leaves (leaves q e) used place before (moves t) is same last = absurd last
  last-leaves (leaves q e) used place before (ends g) is same last = absurd last
  last-leaves (leaves q e) used place before (asks r then) is same last = absurd last
  last-leaves (asks q next) used place before (moves t) is same last = absurd last
  last-leaves (asks q next) used place before (ends g) is same last = absurd last
  last-leaves (asks q next) used place before (leaves r g) is same last = absurd last

  turn-leaves : (low least : ℕ) (x : JvmState) (guest_last : Turn guest.State) → x.fields f ≡ fields f
      → ComesToTurn site low high least most total (LastTurn site high most total Arrives guest_last) x
      → ComesToTurn site low high least most total (LastTurn site high most total (Leaving f fields Arrives) guest_last) x
  turn-leaves low least x guest_last same c = record {
    turns = c.turns;
    before = c.before;
    place = c.place;
    path = c.path;
    is_there = c.is_there;
    below = c.below;
    no_sooner = c.no_sooner;
    in_time = c.in_time;
    last = last-leaves guest_last (c.turns + 1) c.place c.before (turn_in site c.before) refl
        (path-leaves site.program site.words f site.method low c.place c.turns total x c.before c.path none ∙ same) c.last;
  }

  pub follows-leaving : (low least : ℕ) (x : JvmState) (guest_last : Turn guest.State) → x.fields f ≡ fields f
      → Follows site low high least most total Arrives x guest_last → Follows site low high least most total (Leaving f fields Arrives) x guest_last
  follows-leaving low least x (moves t) same c = end-leaves low least most x t same c
  follows-leaving low least x (ends e) same c = turn-leaves low least x (ends e) same c
  follows-leaving low least x (leaves q e) same c = turn-leaves low least x (leaves q e) same c
  follows-leaving low least x (asks q next) same c = turn-leaves low least x (asks q next) same c
