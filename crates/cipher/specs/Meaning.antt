-- What a cipher means: two functions on blocks, E that enciphers and D that deciphers.
use Rattle.std.specs.Prelude.{◌≡◌, ℕ}
use Rattle.block.specs.Block.{IsBlock, flip}

pub record Meaning : Type 0 where
  pub E : ℕ → ℕ
  pub D : ℕ → ℕ

-- What every cipher owes: E and D lead from blocks to blocks and undo each other.
pub record Sound (c : Meaning) : Type 0 where
  pub E_block : (b : ℕ) → IsBlock b → IsBlock (c.E b)
  pub D_block : (b : ℕ) → IsBlock b → IsBlock (c.D b)
  pub D-E : (b : ℕ) → IsBlock b → c.D (c.E b) ≡ b
  pub E-D : (b : ℕ) → IsBlock b → c.E (c.D b) ≡ b

-- Two ciphers mean the same if their E agree on every block. (Their D then agree too.)
abbrev pub Same : Meaning → Meaning → Type 0
Same c d = (b : ℕ) → IsBlock b → c.E b ≡ d.E b

-- The second cipher is the complement of the first: complemented blocks have complemented results.
abbrev pub Complement : Meaning → Meaning → Type 0
Complement c d = (b : ℕ) → IsBlock b → d.E (flip b) ≡ flip (c.E b)

-- The inverse of a cipher.
abbrev pub inverse : Meaning → Meaning
inverse c = record { E = c.D; D = c.E }

-- Two ciphers in turn.
abbrev pub in_turn : Meaning → Meaning → Meaning
in_turn c d = record { E = λ b. d.E (c.E b); D = λ b. c.D (d.D b) }
