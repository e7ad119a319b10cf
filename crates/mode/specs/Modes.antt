-- The five modes. P is plain, C is sealed, R is the register.
use Rattle.std.specs.Prelude.{◌+◌, ◌%◌, ◌^◌, bit_xor}
use Rattle.mode.specs.Steps.{Steps}

-- Electronic codebook: C = E(P), and R stays.
abbrev pub ecb : Steps
ecb = record {
  sealing = λ c R P. (c.E P, R);
  opening = λ c R C. (c.D C, R);
}

-- Cipher block chaining: C = E(P ⊕ R), and R becomes C.
abbrev pub cbc : Steps
cbc = record {
  sealing = λ c R P. (c.E (bit_xor P R), c.E (bit_xor P R));
  opening = λ c R C. (bit_xor (c.D C) R, C);
}

-- Cipher feedback: C = P ⊕ E(R), and R becomes C.
abbrev pub cfb : Steps
cfb = record {
  sealing = λ c R P. (bit_xor P (c.E R), bit_xor P (c.E R));
  opening = λ c R C. (bit_xor C (c.E R), C);
}

-- Output feedback: C = P ⊕ E(R), and R becomes E(R).
abbrev pub ofb : Steps
ofb = record {
  sealing = λ c R P. (bit_xor P (c.E R), c.E R);
  opening = λ c R C. (bit_xor C (c.E R), c.E R);
}

-- Counter: C = P ⊕ E(R), and R becomes R + 1 modulo 2^64.
abbrev pub ctr : Steps
ctr = record {
  sealing = λ c R P. (bit_xor P (c.E R), (R + 1) % 2 ^ 64);
  opening = λ c R C. (bit_xor C (c.E R), (R + 1) % 2 ^ 64);
}

-- The modes that carry a complemented register on: the sealing steps commute with the complement.
pub data Complemented : Steps → Type 0 where
  cbc_is : Complemented cbc
  cfb_is : Complemented cfb
  ofb_is : Complemented ofb
