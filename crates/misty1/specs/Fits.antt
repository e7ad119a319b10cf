-- Words stay words: bounds of the parts of FI and of the other functions. Assumes nothing.
use Rattle.std.specs.Prelude.{◌≡◌, ℕ, ◌+◌, ◌*◌, ◌/◌, ◌%◌, ◌^◌, ◌<◌, bit_and, bit_or, bit_xor}
use Rattle.std.proofs.Common.{ap, ◌∙◌, arith}
use Rattle.std.proofs.lemmas.Nat.{and_mask, xor_lt, or_shifted}
use Rattle.misty1.specs.Functions.{FI}
use Rattle.misty1.specs.Boxes.{S7_below, S9_below}

-- masks
pub low7 : (n : ℕ) → bit_and n 127 ≡ n % 128
low7 n = and_mask n 7

pub low9 : (n : ℕ) → bit_and n 511 ≡ n % 512
low9 n = and_mask n 9

-- R2 and R3 of FI
pub R2_below : (s r ki : ℕ) → s < 2 ^ 7 → ki < 2 ^ 16 → bit_xor (bit_xor s (r % 2 ^ 7)) (ki / 2 ^ 9) < 2 ^ 7
R2_below s r ki hs hk = xor_lt 7 (bit_xor s (r % 2 ^ 7)) (ki / 2 ^ 9) (xor_lt 7 s (r % 2 ^ 7) hs (omega arith)) (omega arith)

pub R3_below : (s r : ℕ) → s < 2 ^ 9 → r < 2 ^ 7 → bit_xor s r < 2 ^ 9
R3_below s r hs hr = xor_lt 9 s r hs (omega arith)

-- seven bits and nine bits, as the code joins them in a word
pub joined : (a b : ℕ) → a < 2 ^ 7 → b < 2 ^ 9 → bit_or (a * 512 % 65536) b ≡ a * 512 + b
joined a b ha hb = let whole : a * 512 % 65536 ≡ a * 512 = omega arith in ap (λ n. bit_or n b) whole ∙ or_shifted a 9 b hb

word : (a b : ℕ) → a < 2 ^ 7 → b < 2 ^ 9 → a * 2 ^ 9 + b < 2 ^ 16
word a b ha hb = omega arith

pub FI_fits : (x ki : ℕ) → ki < 2 ^ 16 → FI x ki < 2 ^ 16
unfolding FI
FI_fits x ki hk = let r2 = R2_below _ _ ki (S7_below (x % 2 ^ 7)) hk in word _ _ r2 (R3_below _ _ (S9_below _) r2)
