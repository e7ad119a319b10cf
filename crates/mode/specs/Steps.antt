-- What a mode means: a sealing and an opening step over any cipher, and what the two owe.
use Rattle.std.specs.Prelude.{◌≡◌, ℕ}
use Rattle.block.specs.Block.{IsBlock}
use Rattle.cipher.specs.Meaning.{Meaning, Sound}

-- A step takes a cipher, the register and a block, and gives a block and the next register.
abbrev pub Step : Type 0
Step = Meaning → ℕ → ℕ → ℕ × ℕ

pub record Steps : Type 0 where
  pub sealing : Step
  pub opening : Step

-- Two ciphers agree: a step that reads a cipher only through E and D at blocks cannot tell them apart.
abbrev pub Agree : Meaning → Meaning → Type 0
Agree c d = (b : ℕ) → IsBlock b → (c.E b ≡ d.E b) × (c.D b ≡ d.D b)

-- A step leads from blocks to blocks, and depends on E and D at blocks, the register and the block alone.
pub record StepLawful (step : Step) : Type 0 where
  pub block : (c : Meaning) → Sound c → (r b : ℕ) → IsBlock r → IsBlock b → IsBlock (step c r b).0
  pub register : (c : Meaning) → Sound c → (r b : ℕ) → IsBlock r → IsBlock b → IsBlock (step c r b).1
  pub same : (c d : Meaning) → Sound c → Sound d → Agree c d → (r b : ℕ) → IsBlock r → IsBlock b → step c r b ≡ step d r b

-- The second step undoes the first, with the same next register.
abbrev pub Undoes : Step → Step → Type 0
Undoes back step =
    (c : Meaning) → Sound c → (r b : ℕ) → IsBlock r → IsBlock b → back c r (step c r b).0 ≡ (b, (step c r b).1)

-- What every mode owes.
pub record Lawful (m : Steps) : Type 0 where
  pub sealing_lawful : StepLawful m.sealing
  pub opening_lawful : StepLawful m.opening
  pub open-seal : Undoes m.opening m.sealing
  pub seal-open : Undoes m.sealing m.opening
