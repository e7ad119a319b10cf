-- The words of a key, of its subkey and of a block, as the code computes them. Assumes nothing.
use Rattle.std.proofs.Common.{◌≡◌, ℕ, zero, suc, ◌+◌, ◌-◌, ◌*◌, ◌%◌, ◌^◌, ◌<◌, ◌≤◌, List, get_or, refl, ap, ◌∙◌, ap₂, arith, pow_mono, pow-add}
use lib.Bits.{bit_and, bit_or, and_mask, or_shifted}
use Rattle.misty1.specs.Functions.{FI}
use Rattle.misty1.specs.Schedule.{K', subkey_of}

pub low16 : (n : ℕ) → bit_and n 65535 ≡ n % 65536
low16 n = and_mask n 16

-- K'_{m + 1} stands at the place m
placed : (ks : List ℕ) (m : ℕ) → m < 8 → get_or (subkey_of ks) m 0 ≡ FI (get_or ks m 0) (get_or ks ((m + 1) % 8) 0)
unfolding subkey_of K'
placed ks zero h = refl
placed ks (suc zero) h = refl
placed ks (suc (suc zero)) h = refl
placed ks (suc (suc (suc zero))) h = refl
placed ks (suc (suc (suc (suc zero)))) h = refl
placed ks (suc (suc (suc (suc (suc zero))))) h = refl
placed ks (suc (suc (suc (suc (suc (suc zero)))))) h = refl
placed ks (suc (suc (suc (suc (suc (suc (suc zero))))))) h = refl
placed ks (suc (suc (suc (suc (suc (suc (suc (suc i)))))))) h = absurd (omega arith)

pub subkey_at : (ks : List ℕ) (i : ℕ) → 1 ≤ i → get_or (subkey_of ks) ((i - 1) % 8) 0 ≡ K' ks i
unfolding K'
subkey_at ks i h =
    let next : ((i - 1) % 8 + 1) % 8 ≡ (i + 1 - 1) % 8 = omega arith in
    placed ks ((i - 1) % 8) (omega arith) ∙ ap (λ m. FI (get_or ks ((i - 1) % 8) 0) (get_or ks m 0)) next

-- four words, as the code joins them
pub join_code : (a b c d : ℕ) → a < 2 ^ 16 → b < 2 ^ 16 → c < 2 ^ 16 → d < 2 ^ 16
    → bit_or (bit_or (bit_or (a * 2 ^ 48 % 2 ^ 64) (b * 2 ^ 32 % 2 ^ 64)) (c * 2 ^ 16 % 2 ^ 64)) d ≡ a * 2 ^ 48 + b * 2 ^ 32 + c * 2 ^ 16 + d
join_code a b c d ha hb hc hd =
    let ea : a * 2 ^ 48 % 2 ^ 64 ≡ a * 2 ^ 48 = omega arith in
    let eb : b * 2 ^ 32 % 2 ^ 64 ≡ b * 2 ^ 32 = omega arith in
    let ec : c * 2 ^ 16 % 2 ^ 64 ≡ c * 2 ^ 16 = omega arith in
    let two : bit_or (a * 2 ^ 48 % 2 ^ 64) (b * 2 ^ 32 % 2 ^ 64) ≡ (a * 2 ^ 16 + b) * 2 ^ 32 =
    ap₂ bit_or ea eb ∙ or_shifted a 48 (b * 2 ^ 32) (omega arith) ∙ omega arith in
    let three : bit_or (bit_or (a * 2 ^ 48 % 2 ^ 64) (b * 2 ^ 32 % 2 ^ 64)) (c * 2 ^ 16 % 2 ^ 64) ≡ (a * 2 ^ 32 + b * 2 ^ 16 + c) * 2 ^ 16 =
    ap₂ bit_or two ec ∙ or_shifted (a * 2 ^ 16 + b) 32 (c * 2 ^ 16) (omega arith) ∙ omega arith in
    ap (λ x. bit_or x d) three ∙ or_shifted (a * 2 ^ 32 + b * 2 ^ 16 + c) 16 d hd ∙ omega arith

-- one more byte of a key
pub byte_fits : (n i x : ℕ) → n < 2 ^ (8 * i) → x < 256 → n * 256 + x < 2 ^ (8 * (i + 1))
byte_fits n i x h hx = let e : 8 * i + 8 ≡ 8 * (i + 1) = omega arith in omega (arith, pow-add 2 (8 * i) 8, ap (λ k. 2 ^ k) e)

pub key_fits : (n i : ℕ) → n < 2 ^ (8 * i) → i ≤ 16 → n < 2 ^ 128
key_fits n i h hi = let e : 8 * i ≤ 128 = omega arith in omega (arith, pow_mono e)
