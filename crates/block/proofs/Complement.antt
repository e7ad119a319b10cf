-- The complement by subtraction, and of bytes. Assumes nothing.
use Rattle.std.proofs.Common.{◌≡◌, ℕ, ◌+◌, ◌-◌, ◌/◌, ◌%◌, ◌^◌, ◌<◌, [], ◌∷◌, map, sym, arith}
use lib.Bits.{bit_xor, xor_add_and, and_mask, xor_assoc}
use Rattle.block.specs.Block.{IsBlock, bytes_of, flip, flip_byte}
use Rattle.block.proofs.Xor.{xor_twice, xor_swap}

-- flipping all of k bits is taking away from all ones
xor_ones : (k a : ℕ) → a < 2 ^ k → a % 2 ^ k ≡ a → bit_xor a (2 ^ k - 1) + a ≡ 2 ^ k - 1
xor_ones k a h m = omega (arith, xor_add_and a (2 ^ k - 1), and_mask a k)

pub flip_sum : (b : ℕ) → IsBlock b → flip b + b ≡ 2 ^ 64 - 1
unfolding flip
flip_sum b h = xor_ones 64 b h (omega arith)

flip_byte_sum : (x : ℕ) → x < 256 → flip_byte x + x ≡ 255
unfolding flip_byte
flip_byte_sum x h = xor_ones 8 x h (omega arith)

pub flip_block : (b : ℕ) → IsBlock b → IsBlock (flip b)
flip_block b h = omega (arith, flip_sum b h)

pub flip_twice : (b : ℕ) → flip (flip b) ≡ b
unfolding flip
flip_twice b = xor_twice b _

pub flip_left : (a b : ℕ) → bit_xor (flip a) b ≡ flip (bit_xor a b)
unfolding flip
flip_left a b = xor_swap a _ b

pub flip_right : (a b : ℕ) → bit_xor a (flip b) ≡ flip (bit_xor a b)
unfolding flip
flip_right a b = sym (xor_assoc a b _)

flip_byte_low : (n : ℕ) → flip_byte (n % 256) + n % 256 ≡ 255
flip_byte_low n = flip_byte_sum (n % 256) (omega arith)

-- a byte of the complement is the complement of the byte
pub bytes-flip : (b : ℕ) → IsBlock b → bytes_of (flip b) ≡ map flip_byte (bytes_of b)
unfolding bytes_of
bytes-flip b h =
    let whole = flip_sum b h in
    let e56 : flip b / 2 ^ 56 % 256 ≡ flip_byte (b / 2 ^ 56 % 256) = omega (arith, flip_byte_low (b / 2 ^ 56)) in
    let e48 : flip b / 2 ^ 48 % 256 ≡ flip_byte (b / 2 ^ 48 % 256) = omega (arith, flip_byte_low (b / 2 ^ 48)) in
    let e40 : flip b / 2 ^ 40 % 256 ≡ flip_byte (b / 2 ^ 40 % 256) = omega (arith, flip_byte_low (b / 2 ^ 40)) in
    let e32 : flip b / 2 ^ 32 % 256 ≡ flip_byte (b / 2 ^ 32 % 256) = omega (arith, flip_byte_low (b / 2 ^ 32)) in
    let e24 : flip b / 2 ^ 24 % 256 ≡ flip_byte (b / 2 ^ 24 % 256) = omega (arith, flip_byte_low (b / 2 ^ 24)) in
    let e16 : flip b / 2 ^ 16 % 256 ≡ flip_byte (b / 2 ^ 16 % 256) = omega (arith, flip_byte_low (b / 2 ^ 16)) in
    let e8 : flip b / 2 ^ 8 % 256 ≡ flip_byte (b / 2 ^ 8 % 256) = omega (arith, flip_byte_low (b / 2 ^ 8)) in
    let e0 : flip b % 256 ≡ flip_byte (b % 256) = omega (arith, flip_byte_low b) in
    λ i. e56 i ∷ e48 i ∷ e40 i ∷ e32 i ∷ e24 i ∷ e16 i ∷ e8 i ∷ e0 i ∷ []
