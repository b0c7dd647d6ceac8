-- What is loaded is a word.
use Rattle.std.proofs.Common.{◌≡◌, ℕ, ◌+◌, ◌/◌, ◌%◌, ◌^◌, ◌-◌, ◌<◌, ◌≤◌, nat_lt, ◌⊎◌, inl, inr, Option, Some, None, unwrap_or, if◌then◌else◌, Bool, true, false, refl, ap, arith}
use Rattle.std.proofs.lemmas.Bool.{cases_lt}
use Rattle.run_definition.specs.Words.{IsWord, lane_of_word}
use Rattle.run_definition.specs.declared.order.Order.{Order}
use Rattle.run_definition.specs.declared.order.Order.TheVariants.{Big, Little}
use Rattle.nv_words.proofs.LaneLemmas.{lane_of_word-lt}
use Rattle.run_definition.specs.Memory.{Memory}
use Rattle.mips_definition.specs.Loads.{loaded_word}
use Rattle.mips_definition.specs.Memory.{byte_at, half_at, merged, left_part, right_part}
use Rattle.mips_definition.specs.declared.names.load_name.LoadName.{LoadName}
use Rattle.mips_definition.specs.declared.names.load_name.LoadName.TheVariants.{Lb, Lh, Lwl, Lw, Lbu, Lhu, Lwr}
use Rattle.jvm_definition.specs.Values.{Heap}
use Rattle.emit_layout.specs.FieldNumbers.{page_count}
use Rattle.emit_simulation_laws.specs.Match.{HoldsMemory}
use Rattle.emit_simulation_laws.proofs.ReadLemmas.{lane-read, unread, high-unread}

-- by the sign
extended-byte : (n : ℕ) → n < 2 ^ 8 → (b : Bool) → IsWord (if b then n else n + (2 ^ 32 - 2 ^ 8))
extended-byte n small true = omega arith
extended-byte n small false = omega arith

extended-half : (n : ℕ) → n < 2 ^ 16 → (b : Bool) → IsWord (if b then n else n + (2 ^ 32 - 2 ^ 16))
extended-half n small true = omega arith
extended-half n small false = omega arith

module _ (heap : Heap) (readable writable : ℕ) (memory : Memory) (h : HoldsMemory heap readable writable memory) where
  by-byte : (a : ℕ) (o : Option ℕ) → memory.byte a ≡ o → unwrap_or o 0 < 2 ^ 8 → byte_at memory a < 2 ^ 8
  by-byte a o e small = let same : byte_at memory a ≡ unwrap_or o 0 = ap (λ x. unwrap_or x 0) e in omega arith

  by-page : (a : ℕ) → a / 4096 < page_count → (o : Option ℕ) → h.readable_pages (a / 4096) ≡ o → byte_at memory a < 2 ^ 8
  by-page a within None e = by-byte a None (unread heap readable writable memory h a e) (omega arith)
  by-page a within (Some p) e =
      let v = (h.whole (a / 4096) p e).words (a / 4 % 1024) in
      by-byte a (Some (lane_of_word v (a % 4))) (lane-read heap readable writable memory h a p within e a refl) (lane_of_word-lt v (a % 4))

  by-height : (a : ℕ) → (a / 4096 < page_count) ⊎ (page_count ≤ a / 4096) → byte_at memory a < 2 ^ 8
  by-height a (inl within) = by-page a within (h.readable_pages (a / 4096)) refl
  by-height a (inr high) = by-byte a None (high-unread heap readable writable memory h a high) (omega arith)

  IsByte : (a : ℕ) → byte_at memory a < 2 ^ 8
  IsByte a = by-height a (cases_lt (a / 4096) page_count)

  lane-small : (old lane : ℕ) (o : Option ℕ) → (elim o [ None ↦ lane_of_word old lane | Some a ↦ byte_at memory a ]) < 2 ^ 8
  lane-small old lane None = lane_of_word-lt old lane
  lane-small old lane (Some a) = IsByte a

  IsWord-merged : (part : ℕ → Option ℕ) (old : ℕ) → IsWord (merged memory part old)
  IsWord-merged part old =
      let a = lane-small old 0 (part 0) in
      let b = lane-small old 1 (part 1) in
      let c = lane-small old 2 (part 2) in
      let d = lane-small old 3 (part 3) in
      omega arith

  module _ (a old : ℕ) where
    half-small : (order : Order) → half_at order memory a < 2 ^ 16
    half-small Big = let first = IsByte a in let second = IsByte (a + 1) in omega arith
    half-small Little = let first = IsByte a in let second = IsByte (a + 1) in omega arith

    pub IsWord-loaded : (order : Order) (name : LoadName) → IsWord (loaded_word name order memory a old)
    IsWord-loaded order Lb = let small = IsByte a in extended-byte (byte_at memory a) small (nat_lt (byte_at memory a) (2 ^ 7))
    IsWord-loaded order Lbu = let small = IsByte a in omega arith
    IsWord-loaded order Lh = extended-half (half_at order memory a) (half-small order) (nat_lt (half_at order memory a) (2 ^ 15))
    IsWord-loaded order Lhu = let small = half-small order in omega arith
    IsWord-loaded Big Lw = let first = IsByte a in let second = IsByte (a + 1) in let third = IsByte (a + 2) in let fourth = IsByte (a + 3) in omega arith
    IsWord-loaded Little Lw = let first = IsByte a in let second = IsByte (a + 1) in let third = IsByte (a + 2) in let fourth = IsByte (a + 3) in omega arith
    IsWord-loaded order Lwl = IsWord-merged (left_part order a) old
    IsWord-loaded order Lwr = IsWord-merged (right_part order a) old
