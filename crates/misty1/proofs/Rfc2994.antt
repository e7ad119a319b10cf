-- The example of RFC 2994, computed from the definitions. Assumes nothing.
use Rattle.std.proofs.Common.{◌≡◌, refl}
use Rattle.misty1.specs.Tables.{table7, table9, S7, S9}
use Rattle.misty1.specs.Functions.{FI}
use Rattle.misty1.specs.Schedule.{words_of, K', subkey_of}
use Rattle.misty1.specs.Rounds.{two_rounds, closing, rounds}
use Rattle.misty1.specs.Example.{ExampleSubkey, ExampleEntries, example_enciphered}

pub subkey_is : ExampleSubkey
unfolding subkey_of K' FI S7 S9 table7 table9 words_of
subkey_is = refl

pub entries_are : ExampleEntries
unfolding S7 S9 table7 table9
entries_are = (refl, refl)

pub enciphered_is : example_enciphered ≡ (0x8b1da5f56ab3d07c, 0x04b68240b13be95d)
unfolding K' FI S7 S9 table7 table9 words_of two_rounds closing rounds
enciphered_is = refl
