-- Blocks of 64 bits, and the bytes that they are written as.
use Rattle.std.specs.Prelude.{ℕ, ◌+◌, ◌-◌, ◌*◌, ◌/◌, ◌%◌, ◌^◌, ◌<◌, List, [], ◌∷◌, bit_xor}

-- A block is a number of 64 bits.
abbrev pub IsBlock : ℕ → Type 0
IsBlock b = b < 2 ^ 64

-- Each number of the list is a byte.
abbrev pub AllBytes : List ℕ → Type 0
AllBytes [] = Unit {0}
AllBytes (x ∷ xs) = (x < 256) × AllBytes xs

-- Each number of the list is a block.
abbrev pub AllBlocks : List ℕ → Type 0
AllBlocks [] = Unit {0}
AllBlocks (b ∷ bs) = IsBlock b × AllBlocks bs

-- The number that bytes stand for, after those already read: the first byte is the most significant.
abbrev pub number_after : ℕ → List ℕ → ℕ
number_after n [] = n
number_after n (x ∷ xs) = number_after (n * 256 + x) xs

abbrev pub number : List ℕ → ℕ
number xs = number_after 0 xs

-- The eight bytes of a block.
unfoldable pub bytes_of : ℕ → List ℕ
bytes_of b =
    (b / 2 ^ 56 % 256) ∷ (b / 2 ^ 48 % 256) ∷ (b / 2 ^ 40 % 256) ∷ (b / 2 ^ 32 % 256)
    ∷ (b / 2 ^ 24 % 256) ∷ (b / 2 ^ 16 % 256) ∷ (b / 2 ^ 8 % 256) ∷ (b % 256) ∷ []

-- The whole blocks at the front of a list of bytes, in order.
unfoldable pub blocks_of : List ℕ → List ℕ
blocks_of [] = []
blocks_of (a ∷ []) = []
blocks_of (a ∷ b ∷ []) = []
blocks_of (a ∷ b ∷ c ∷ []) = []
blocks_of (a ∷ b ∷ c ∷ d ∷ []) = []
blocks_of (a ∷ b ∷ c ∷ d ∷ e ∷ []) = []
blocks_of (a ∷ b ∷ c ∷ d ∷ e ∷ f ∷ []) = []
blocks_of (a ∷ b ∷ c ∷ d ∷ e ∷ f ∷ g ∷ []) = []
blocks_of (a ∷ b ∷ c ∷ d ∷ e ∷ f ∷ g ∷ h ∷ rest) = number (a ∷ b ∷ c ∷ d ∷ e ∷ f ∷ g ∷ h ∷ []) ∷ blocks_of rest

-- The complement of a block: every bit is flipped.
unfoldable pub flip : ℕ → ℕ
flip b = bit_xor b (2 ^ 64 - 1)

-- The complement of a byte.
unfoldable pub flip_byte : ℕ → ℕ
flip_byte x = bit_xor x 255
