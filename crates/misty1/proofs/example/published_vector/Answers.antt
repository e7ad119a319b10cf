use Rattle.std.proofs.Common.{◌≡◌, subst, ap, ◌∙◌}
use Rattle.std.specs.Result.{MatchResult}
use Rattle.cipher.specs.Meaning.{Meaning}
use Rattle.misty1.specs.Example.{example_key, example_enciphered}
use Rattle.misty1.specs.Key.{Taken, Refused}
use Rattle.misty1.proofs.Rfc2994.{subkey_is, entries_are, enciphered_is}
use Rattle.misty1.proofs.example.published_vector.Goals as goal

pub returns : goal.returns
returns c =
    let taken : Taken example_key c.unwrap-cipher.result = subst (λ r. MatchResult r (Taken example_key) (Refused example_key)) c.unwrap-cipher.ensures c.new.ensures in
    let first = c.encipher.ensures ∙ ap (λ (m : Meaning). m.E 0x0123456789abcdef) taken.1 in
    let second = c.encipher-2.ensures ∙ ap (λ (m : Meaning). m.E 0xfedcba9876543210) taken.1 in
    let both : ◌≡◌ (c.encipher.result, c.encipher-2.result) example_enciphered = λ i. (first i, second i) in
    record { defined = both; published = both ∙ enciphered_is; subkey = subkey_is; entries = entries_are }
