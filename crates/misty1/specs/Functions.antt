-- The functions FL, its inverse, FO and FI of MISTY1 (ISO/IEC 18033-3:2010, 4.3.4).
use Rattle.std.specs.Prelude.{ℕ, ◌+◌, ◌*◌, ◌/◌, ◌%◌, ◌^◌, bit_and, bit_or, bit_xor}
use Rattle.misty1.specs.Tables.{S7, S9}

-- 32 bits as two words of 16 bits, left and right.
abbrev pub Half : Type 0
Half = ℕ × ℕ

-- The exclusive or of halves, word by word.
abbrev pub mix : Half → Half → Half
mix x y = (bit_xor x.0 y.0, bit_xor x.1 y.1)

-- 4.3.4.2
abbrev pub FL : Half → Half → Half
FL x kl =
    let right : ℕ = bit_xor (bit_and x.0 kl.0) x.1 in
    (bit_xor x.0 (bit_or right kl.1), right)

-- 4.3.4.3
abbrev pub FL_inverse : Half → Half → Half
FL_inverse y kl =
    let left : ℕ = bit_xor y.0 (bit_or y.1 kl.1) in
    (left, bit_xor (bit_and left kl.0) y.1)

-- 4.3.4.5: 16 bits, the left 9 and the right 7; of the key the left 7 and the right 9
unfoldable pub FI : ℕ → ℕ → ℕ
FI x ki =
    let R0 : ℕ = x % 2 ^ 7 in
    let R1 : ℕ = bit_xor (S9 (x / 2 ^ 7)) R0 in
    let R2 : ℕ = bit_xor (bit_xor (S7 R0) (R1 % 2 ^ 7)) (ki / 2 ^ 9) in
    let R3 : ℕ = bit_xor (S9 (bit_xor R1 (ki % 2 ^ 9))) R2 in
    R2 * 2 ^ 9 + R3

-- 4.3.4.4: one turn of FO, from L and R of the turn before
abbrev pub turn : Half → ℕ → ℕ → Half
turn x ko ki = (x.1, bit_xor (FI (bit_xor x.0 ko) ki) x.1)

-- 4.3.4.4: three turns under KO_i1 to KO_i3 and KI_i1 to KI_i3, then KO_i4
abbrev pub FO : Half → ℕ × ℕ × ℕ × ℕ → ℕ × ℕ × ℕ → Half
FO x ko ki =
    let y : Half = turn (turn (turn x ko.0 ki.0) ko.1 ki.1) ko.2 ki.2 in
    (bit_xor y.0 ko.3, y.1)
