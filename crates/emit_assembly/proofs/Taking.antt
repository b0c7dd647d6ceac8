-- The slots that are taken as code is assembled step by step.
use Rattle.std.proofs.Common.{◌≡◌, ℕ, ◌+◌, ◌≤◌, ◌<◌, List, ◌++◌, length, get_or, drop, All, ap, arith}
use Rattle.class_definition.specs.declared.entry.Entry.{Entry}
use Rattle.jvm_definition.specs.declared.constant.Constant.{Constant}
use Rattle.emit_steps.specs.declared.step.Step.{Step}
use Rattle.emit_assembly.specs.Assembling.{constants_of, pushed_by, slots_beside, slots_of}
use Rattle.emit_assembly.specs.Operations.{AddsConstants, Has, LacksSlots}
use Rattle.emit_assembly.proofs.Counts.{adds-more, lacks-more}
use Rattle.emit_assembly.proofs.Placed.{constants-next}

module _ (code : List Step) (i : ℕ) (s : Step) (old pool new : List Entry) (seen : List Constant) (within : i < length code)
    (is : s ≡ get_or code i s) (has : All (Has pool) seen)
    (few : length pool + slots_beside seen (constants_of (drop i code)) ≤ length old + slots_of code) where
  next : slots_beside seen (constants_of (drop i code)) ≡ slots_beside seen (pushed_by s ++ constants_of (drop (i + 1) code))
  next = ap (slots_beside seen) (constants-next code i s within is)

  pub next-few : AddsConstants pool new (pushed_by s)
      → length new + slots_beside (pushed_by s ++ seen) (constants_of (drop (i + 1) code)) ≤ length old + slots_of code
  next-few adds = let more = adds-more s pool new seen (constants_of (drop (i + 1) code)) has adds in omega (arith, next, few, more)

  pub few-by : AddsConstants pool new (pushed_by s) → length new ≤ length old + slots_of code
  few-by adds = let more = next-few adds in omega (arith, more)

module _ (code : List Step) (i : ℕ) (s : Step) (old pool : List Entry) (seen : List Constant) (within : i < length code)
    (is : s ≡ get_or code i s) (has : All (Has pool) seen)
    (few : length pool + slots_beside seen (constants_of (drop i code)) ≤ length old + slots_of code) where
  pub full-by : LacksSlots pool (pushed_by s) → 65534 < length old + slots_of code
  full-by lacks =
      let more = lacks-more s pool seen (constants_of (drop (i + 1) code)) has lacks in
      let same : slots_beside seen (constants_of (drop i code)) ≡ slots_beside seen (pushed_by s ++ constants_of (drop (i + 1) code)) =
      ap (slots_beside seen) (constants-next code i s within is) in
      omega (arith, same, few, more)
