-- The example of RFC 2994, a key and two blocks with what they are enciphered to; and the subkey of that key.
use Rattle.std.specs.Prelude.{◌≡◌, ℕ, List, [], ◌∷◌}
use Rattle.misty1.specs.Tables.{S7, S9}
use Rattle.misty1.specs.Schedule.{key_words, subkey_of}
use Rattle.misty1.specs.Rounds.{misty1}

abbrev pub example_key : List ℕ
example_key =
    0x00 ∷ 0x11 ∷ 0x22 ∷ 0x33 ∷ 0x44 ∷ 0x55 ∷ 0x66 ∷ 0x77 ∷ 0x88 ∷ 0x99 ∷ 0xaa ∷ 0xbb ∷ 0xcc ∷ 0xdd ∷ 0xee ∷ 0xff ∷ []

abbrev pub ExampleSubkey : Type 0
ExampleSubkey =
    subkey_of (key_words example_key)
    ≡ 0xcf51 ∷ 0x8e7f ∷ 0x5e29 ∷ 0x673a ∷ 0xcdbc ∷ 0x07d6 ∷ 0xbf35 ∷ 0x5e11 ∷ []

-- The standard's own example of a place in S7, and the first entry of S9.
abbrev pub ExampleEntries : Type 0
ExampleEntries = (S7 0x53 ≡ 0x57) × (S9 0x000 ≡ 0x1c3)

-- the two blocks of the example, enciphered
abbrev pub example_enciphered : ℕ × ℕ
example_enciphered = ((misty1 example_key).E 0x0123456789abcdef, (misty1 example_key).E 0xfedcba9876543210)
