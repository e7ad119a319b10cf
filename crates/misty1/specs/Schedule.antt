-- The key schedule of MISTY1 (ISO/IEC 18033-3:2010, 4.3.5).
use Rattle.std.specs.Prelude.{ℕ, ◌+◌, ◌-◌, ◌/◌, ◌%◌, ◌^◌, cond, List, [], ◌∷◌, ◌==◌, slice_index}
use Rattle.block.specs.Block.{number}
use Rattle.misty1.specs.Functions.{Half, FI}

-- The eight words of 16 bits of a number of 128 bits, the most significant first.
unfoldable pub words_of : ℕ → List ℕ
words_of n =
    (n / 2 ^ 112 % 2 ^ 16) ∷ (n / 2 ^ 96 % 2 ^ 16) ∷ (n / 2 ^ 80 % 2 ^ 16) ∷ (n / 2 ^ 64 % 2 ^ 16)
    ∷ (n / 2 ^ 48 % 2 ^ 16) ∷ (n / 2 ^ 32 % 2 ^ 16) ∷ (n / 2 ^ 16 % 2 ^ 16) ∷ (n % 2 ^ 16) ∷ []

-- K1 to K8, from the bytes of the key.
abbrev pub key_words : List ℕ → List ℕ
key_words key = words_of (number key)

-- K_i among the words of the key; where i is larger than 8, 8 is subtracted.
abbrev pub K : List ℕ → ℕ → ℕ
K ks i = slice_index ks ((i - 1) % 8)

-- K'_i; K_1 comes after K_8.
unfoldable pub K' : List ℕ → ℕ → ℕ
K' ks i = FI (K ks i) (K ks (i + 1))

-- K'_1 to K'_8.
unfoldable pub subkey_of : List ℕ → List ℕ
subkey_of ks = K' ks 1 ∷ K' ks 2 ∷ K' ks 3 ∷ K' ks 4 ∷ K' ks 5 ∷ K' ks 6 ∷ K' ks 7 ∷ K' ks 8 ∷ []

abbrev pub KO : List ℕ → ℕ → ℕ × ℕ × ℕ × ℕ
KO ks i = (K ks i, K ks (i + 2), K ks (i + 7), K ks (i + 4))

abbrev pub KI : List ℕ → ℕ → ℕ × ℕ × ℕ
KI ks i = (K' ks (i + 5), K' ks (i + 1), K' ks (i + 3))

abbrev pub KL : List ℕ → ℕ → Half
KL ks i =
    cond (i % 2 == 1)
    (K ks ((i + 1) / 2), K' ks ((i + 1) / 2 + 6))
    (K' ks (i / 2 + 2), K ks (i / 2 + 4))
