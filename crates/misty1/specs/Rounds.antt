-- MISTY1 (ISO/IEC 18033-3:2010, 4.3.2 and 4.3.3).
use Rattle.std.specs.Prelude.{ℕ, ◌+◌, ◌-◌, ◌*◌, ◌/◌, ◌%◌, ◌^◌, List}
use Rattle.cipher.specs.Meaning.{Meaning}
use Rattle.misty1.specs.Functions.{Half, mix, FL, FL_inverse, FO}
use Rattle.misty1.specs.Schedule.{key_words, KL, KO, KI}

-- A block between rounds: L and R.
abbrev pub State : Type 0
State = Half × Half

-- Functions of halves, by the number of their subkey.
abbrev pub Keyed : Type 0
Keyed = ℕ → Half → Half

-- L || R of a block, and the block of L || R.
abbrev pub split : ℕ → State
split b = ((b / 2 ^ 48, b / 2 ^ 32 % 2 ^ 16), (b / 2 ^ 16 % 2 ^ 16, b % 2 ^ 16))

abbrev pub join : State → ℕ
join s = s.0.0 * 2 ^ 48 + s.0.1 * 2 ^ 32 + s.1.0 * 2 ^ 16 + s.1.1

-- The rounds i and i + 1, from L and R of round i - 1.
unfoldable pub two_rounds : Keyed → Keyed → ℕ → State → State
two_rounds fl fo i s =
    let R1 : Half = fl i s.0 in
    let L1 : Half = mix (fl (i + 1) s.1) (fo i R1) in
    (mix R1 (fo (i + 1) L1), L1)

-- The step for i = 9, from L_8 and R_8.
unfoldable pub closing : Keyed → State → State
closing fl s = (fl 10 s.1, fl 9 s.0)

-- Eight rounds and the closing step.
unfoldable pub rounds : Keyed → Keyed → State → State
rounds fl fo s = closing fl (two_rounds fl fo 7 (two_rounds fl fo 5 (two_rounds fl fo 3 (two_rounds fl fo 1 s))))

-- The keyed functions of encryption under the words of a key, and those of decryption: FL is replaced by its inverse,
-- and the subkeys come in the reversed order.
abbrev pub forward_FL : List ℕ → Keyed
forward_FL ks i x = FL x (KL ks i)

abbrev pub forward_FO : List ℕ → Keyed
forward_FO ks i x = FO x (KO ks i) (KI ks i)

abbrev pub backward_FL : List ℕ → Keyed
backward_FL ks i x = FL_inverse x (KL ks (11 - i))

abbrev pub backward_FO : List ℕ → Keyed
backward_FO ks i x = forward_FO ks (9 - i) x

abbrev pub enciphered : List ℕ → ℕ → ℕ
enciphered ks b = join (rounds (forward_FL ks) (forward_FO ks) (split b))

abbrev pub deciphered : List ℕ → ℕ → ℕ
deciphered ks b = join (rounds (backward_FL ks) (backward_FO ks) (split b))

-- The cipher under the eight words of a key, and under the sixteen bytes of a key.
abbrev pub under : List ℕ → Meaning
under ks = record { E = enciphered ks; D = deciphered ks }

abbrev pub misty1 : List ℕ → Meaning
misty1 key = under (key_words key)
