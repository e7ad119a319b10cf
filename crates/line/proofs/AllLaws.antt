-- Every line keeps the laws over lists of calls. Assumes nothing.
use Rattle.std.proofs.Common.{◌≡◌, ℕ, Bool, false, not, ap, ◌∙◌}
use lib.Bits.{bit_xor, xor_lt}
use Rattle.block.specs.Block.{flip}
use Rattle.block.proofs.Complement.{flip_right}
use Rattle.cipher.specs.Meaning.{Meaning, Sound, Complement, inverse, in_turn}
use Rattle.cipher.proofs.Laws as ciphers
use Rattle.mode.specs.Steps.{Steps, Lawful}
use Rattle.mode.specs.Modes.{Complemented, cbc_is, cfb_is, ofb_is}
use Rattle.stream.specs.Stream.{step_of}
use Rattle.line.specs.Laws.{Laws}
use Rattle.stream.proofs.Through.{FlippedBy, closed, undoing}
use Rattle.line.proofs.SameRuns.{equal_runs}
use Rattle.line.proofs.RoundTrips.{round_trips}
use Rattle.line.proofs.Complements.{complement_runs}
use Rattle.line.proofs.Instances.{examples}

-- the sealing steps of CBC, CFB and OFB carry a complement on
flipping : (mode : Steps) → Complemented mode → (c d : Meaning) → Complement c d → FlippedBy (mode.sealing c) (mode.sealing d)
flipping mode cbc_is c d h r b hr hb =
    let e : d.E (bit_xor b (flip r)) ≡ flip (c.E (bit_xor b r)) = ap d.E (flip_right b r) ∙ h (bit_xor b r) (xor_lt 64 b r hb hr) in
    λ i. (e i, e i)
flipping mode cfb_is c d h r b hr hb =
    let e : bit_xor b (d.E (flip r)) ≡ flip (bit_xor b (c.E r)) = ap (bit_xor b) (h r hr) ∙ flip_right b (c.E r) in
    λ i. (e i, e i)
flipping mode ofb_is c d h r b hr hb =
    let e : bit_xor b (d.E (flip r)) ≡ flip (bit_xor b (c.E r)) = ap (bit_xor b) (h r hr) ∙ flip_right b (c.E r) in
    λ i. (e i, h r hr i)

pub laws : (opens : Bool) (cipher : Meaning) (mode : Steps) (number : ℕ) → Sound cipher → Lawful mode → Laws opens cipher mode number
laws opens cipher mode number sound lawful = record {
  round_trip = λ other t same.
      round_trips opens (step_of opens mode cipher) (step_of (not opens) mode other) number (closed mode lawful opens cipher sound) (undoing mode lawful opens cipher other sound t same);
  cancel_before = λ first second s t same.
      let before = in_turn first (inverse second) in
      equal_runs opens mode (in_turn before cipher) cipher number lawful
      (ciphers.sound-in_turn before cipher (ciphers.sound-in_turn first (inverse second) s (ciphers.sound-inverse second t)) sound) sound
      (ciphers.cancel_before first second cipher s t same);
  cancel_after = λ second third s t same.
      let before = in_turn cipher (inverse second) in
      equal_runs opens mode (in_turn before third) cipher number lawful
      (ciphers.sound-in_turn before third (ciphers.sound-in_turn cipher (inverse second) sound (ciphers.sound-inverse second s)) t) sound
      (ciphers.cancel_after cipher second third sound s same);
  complement = λ chained other t h.
      complement_runs (mode.sealing cipher) (mode.sealing other) number (closed mode lawful false cipher sound) (flipping mode chained cipher other h);
  examples = examples;
}
