-- The inverse and two ciphers in turn are sound, and a cipher before its inverse cancels. Assumes nothing.
use mathlib.Core.Path.{ap, sym, ◌∙◌}
use Rattle.cipher.specs.Meaning.{Meaning, Sound, Same, inverse, in_turn}

pub sound-inverse : (c : Meaning) → Sound c → Sound (inverse c)
sound-inverse c s = record { E_block = s.D_block; D_block = s.E_block; D-E = s.E-D; E-D = s.D-E }

pub sound-in_turn : (c d : Meaning) → Sound c → Sound d → Sound (in_turn c d)
sound-in_turn c d s t = record {
  E_block = λ b h. t.E_block (c.E b) (s.E_block b h);
  D_block = λ b h. s.D_block (d.D b) (t.D_block b h);
  D-E = λ b h. ap c.D (t.D-E (c.E b) (s.E_block b h)) ∙ s.D-E b h;
  E-D = λ b h. ap d.E (s.E-D (d.D b) (t.D_block b h)) ∙ t.E-D b h;
}

-- first, the inverse of second, third: where first and second mean the same, only third is left
pub cancel_before : (first second third : Meaning) → Sound first → Sound second → Same first second
    → Same (in_turn (in_turn first (inverse second)) third) third
cancel_before first second third s t same b h = ap third.E (ap second.D (same b h) ∙ t.D-E b h)

-- and where second and third mean the same, only first is left
pub cancel_after : (first second third : Meaning) → Sound first → Sound second → Same second third
    → Same (in_turn (in_turn first (inverse second)) third) first
cancel_after first second third s t same b h =
    sym (same (second.D (first.E b)) (t.D_block (first.E b) (s.E_block b h))) ∙ t.E-D (first.E b) (s.E_block b h)
