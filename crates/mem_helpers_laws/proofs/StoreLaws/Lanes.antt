-- Bytes that the guest stores, as lanes of the word of memory there.
use Rattle.std.proofs.Common.{◌≡◌, ℕ, ◌/◌, ◌%◌, ◌^◌, ◌==◌, ◌<◌, if◌then◌else◌, ◌⊎◌, inl, inr, Some, ap, sym, ◌∙◌, arith}
use Rattle.std.proofs.lemmas.Bool.{eq-eqb, ne_eqb, cases_eq}
use Rattle.run_definition.specs.Words.{IsWord, lane_of_word, word_with_lane}
use Rattle.nv_words.proofs.LaneLemmas.{lane_of_word-with_lane}
use Rattle.run_definition.specs.Memory.{Memory}
use Rattle.mips_definition.specs.Memory.{with_byte}
use Rattle.emit_simulation_laws.specs.Memory.{with_word_at}

-- the word of memory with this number
abbrev pub HoldsWord : Memory → ℕ → ℕ → Type 0
HoldsWord m k w = (x : ℕ) → x / 4 ≡ k → m.byte x ≡ Some (lane_of_word w (x % 4))

-- it changes nothing to put the word that is there
pub word-kept : (m : Memory) (k w : ℕ) → HoldsWord m k w → with_word_at m k w ≡ m
word-kept m k w holds = λ i. record m { byte = λ x. byte-is x (cases_eq (x / 4) k) i }
  where
    byte-is : (x : ℕ) → (x / 4 ≡ k) ⊎ (x / 4 ≡ k → ⊥) → (with_word_at m k w).byte x ≡ m.byte x
    byte-is x (inl e) = ap (λ b. if b then Some (lane_of_word w (x % 4)) else m.byte x) (eq-eqb (x / 4) k e) ∙ sym (holds x e)
    byte-is x (inr ne) = ap (λ b. if b then Some (lane_of_word w (x % 4)) else m.byte x) (ne_eqb (x / 4) k ne)

-- a byte that is put into a word that was put is put into that word
module _ (m : Memory) (k u y c : ℕ) (inside : y / 4 ≡ k) (word : IsWord u) (byte : c < 2 ^ 8) where
  abbrev old : ℕ → ℕ
  old x = lane_of_word u (x % 4)

  abbrev new : ℕ → ℕ
  new x = lane_of_word (word_with_lane u (y % 4) c) (x % 4)

  lane : (x : ℕ) → new x ≡ (if x % 4 == y % 4 then c else old x)
  lane x = lane_of_word-with_lane u (y % 4) c (x % 4) word (omega arith) byte (omega arith)

  in-word : (x : ℕ) → x / 4 ≡ k → (x ≡ y) ⊎ (x ≡ y → ⊥) → (if x == y then Some c else Some (old x)) ≡ Some (new x)
  in-word x e (inl same) =
      ap (λ b. if b then Some c else Some (old x)) (eq-eqb x y same)
      ∙ sym (ap Some (lane x ∙ ap (λ b. if b then c else old x) (eq-eqb (x % 4) (y % 4) (ap (λ n. n % 4) same))))
  in-word x e (inr ne) =
      ap (λ b. if b then Some c else Some (old x)) (ne_eqb x y ne)
      ∙ sym (ap Some (lane x ∙ ap (λ b. if b then c else old x) (ne_eqb (x % 4) (y % 4) (λ f. ne (omega arith)))))

  byte-is : (x : ℕ) → (x / 4 ≡ k) ⊎ (x / 4 ≡ k → ⊥) → (with_byte (with_word_at m k u) y c).byte x ≡ (with_word_at m k (word_with_lane u (y % 4) c)).byte x
  byte-is x (inl e) =
      ap (λ b. if x == y then Some c else if b then Some (old x) else m.byte x) (eq-eqb (x / 4) k e)
      ∙ in-word x e (cases_eq x y)
      ∙ sym (ap (λ b. if b then Some (new x) else m.byte x) (eq-eqb (x / 4) k e))
  byte-is x (inr ne) =
      ap (λ b. if b then Some c else if x / 4 == k then Some (old x) else m.byte x) (ne_eqb x y (λ same. ne (ap (λ n. n / 4) same ∙ inside)))
      ∙ ap (λ b. if b then Some (old x) else m.byte x) (ne_eqb (x / 4) k ne)
      ∙ sym (ap (λ b. if b then Some (new x) else m.byte x) (ne_eqb (x / 4) k ne))

  pub lane-put : with_byte (with_word_at m k u) y c ≡ with_word_at m k (word_with_lane u (y % 4) c)
  lane-put = λ i. record m { byte = λ x. byte-is x (cases_eq (x / 4) k) i }
