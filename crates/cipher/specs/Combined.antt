-- What the combined ciphers mean, by what their parts mean.
use Rattle.cipher.specs.declared.Inverse.{Inverse}
use Rattle.cipher.specs.declared.Then.{Then}
use Rattle.cipher.specs.Meaning.{Meaning, inverse, in_turn}

abbrev pub inverse_means : {C : Type 0} → (C → Meaning) → Inverse C → Meaning
inverse_means means c = inverse (means c.cipher)

abbrev pub then_means : {A B : Type 0} → (A → Meaning) → (B → Meaning) → Then A B → Meaning
then_means means_a means_b c = in_turn (means_a c.first) (means_b c.second)
