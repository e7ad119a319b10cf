-- What a key in the code stands for, and what becomes of the bytes of a key.
use Rattle.std.specs.Prelude.{◌≡◌, ℕ, List, length, ◌≢◌}
use Rattle.cipher.specs.Meaning.{Meaning}
use Rattle.misty1.specs.declared.KeyRefused.{KeyRefused}
use Rattle.misty1.specs.declared.Misty1.{Misty1}
use Rattle.misty1.specs.Rounds.{under, misty1}

abbrev pub means : Misty1 → Meaning
means c = under c.key

-- The number of the refusal, whatever the length of the key.
abbrev pub refusal : KeyRefused → ℕ
refusal e = 43

-- The cipher made of sixteen bytes.
abbrev pub Taken : List ℕ → Misty1 → Type 0
Taken key c = (length key ≡ 16) × (means c ≡ misty1 key)

-- The refusal of any other number of bytes.
abbrev pub Refused : List ℕ → KeyRefused → Type 0
Refused key e = (length key ≢ 16) × (e.bytes ≡ length key) × (refusal e ≡ 43)
