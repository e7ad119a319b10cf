-- The five modes owe nothing more. Assumes nothing.
use Rattle.std.specs.Prelude.{◌≡◌, ℕ, ◌+◌, ◌%◌, ◌^◌, bit_xor, refl}
use Rattle.std.proofs.Common.{ap, ◌∙◌, arith}
use Rattle.std.proofs.lemmas.Nat.{xor_lt}
use Rattle.block.specs.Block.{IsBlock}
use Rattle.block.proofs.Xor.{xor_twice}
use Rattle.cipher.specs.Meaning.{Meaning, Sound}
use Rattle.mode.specs.Steps.{Step, Agree, StepLawful, Undoes, Lawful}
use Rattle.mode.specs.Modes.{cbc, cfb, ofb, ctr}

xor_block : (a b : ℕ) → IsBlock a → IsBlock b → IsBlock (bit_xor a b)
xor_block a b ha hb = xor_lt 64 a b ha hb

pub cbc_lawful : Lawful cbc
cbc_lawful = record {
  sealing_lawful = record {
    block = λ c s r b hr hb. s.E_block (bit_xor b r) (xor_block b r hb hr);
    register = λ c s r b hr hb. s.E_block (bit_xor b r) (xor_block b r hb hr);
    same = λ c d s t a r b hr hb. ap (λ (x : ℕ). (x, x)) (a (bit_xor b r) (xor_block b r hb hr)).0;
  };
  opening_lawful = record {
    block = λ c s r b hr hb. xor_block (c.D b) r (s.D_block b hb) hr;
    register = λ c s r b hr hb. hb;
    same = λ c d s t a r b hr hb. ap (λ (x : ℕ). (bit_xor x r, b)) (a b hb).1;
  };
  open-seal = λ c s r b hr hb.
      ap (λ (x : ℕ). (x, c.E (bit_xor b r))) (ap (λ x. bit_xor x r) (s.D-E (bit_xor b r) (xor_block b r hb hr)) ∙ xor_twice b r);
  seal-open = λ c s r b hr hb.
      ap (λ (x : ℕ). (x, x)) (ap c.E (xor_twice (c.D b) r) ∙ s.E-D b hb);
}

-- A step that mixes the enciphered register into the block: cfb, ofb and ctr differ only in the next register.
masking : (next : Meaning → ℕ → ℕ → ℕ) → Step
masking next c r b = (bit_xor b (c.E r), next c r b)

masking_lawful : (next : Meaning → ℕ → ℕ → ℕ)
    → ((c : Meaning) → Sound c → (r b : ℕ) → IsBlock r → IsBlock b → IsBlock (next c r b))
    → ((c d : Meaning) → Agree c d → (r b : ℕ) → IsBlock r → IsBlock b → next c r b ≡ next d r b)
    → StepLawful (masking next)
unfolding masking
masking_lawful next fits same = record {
  block = λ c s r b hr hb. xor_block b (c.E r) hb (s.E_block r hr);
  register = fits;
  same = λ c d s t a r b hr hb i. (bit_xor b ((a r hr).0 i), same c d a r b hr hb i);
}

masking_undoes : (next back : Meaning → ℕ → ℕ → ℕ)
    → ((c : Meaning) (r b : ℕ) → back c r (bit_xor b (c.E r)) ≡ next c r b)
    → Undoes (masking back) (masking next)
unfolding masking
masking_undoes next back register c s r b hr hb i = (xor_twice b (c.E r) i, register c r b i)

pub cfb_lawful : Lawful cfb
unfolding masking
cfb_lawful =
    let sealed : Meaning → ℕ → ℕ → ℕ = λ c r b. bit_xor b (c.E r) in
    let block : Meaning → ℕ → ℕ → ℕ = λ c r b. b in
    record {
      sealing_lawful = masking_lawful sealed (λ c s r b hr hb. xor_block b (c.E r) hb (s.E_block r hr)) (λ c d a r b hr hb. ap (bit_xor b) (a r hr).0);
      opening_lawful = masking_lawful block (λ c s r b hr hb. hb) (λ c d a r b hr hb. refl);
      open-seal = masking_undoes sealed block (λ c r b. refl);
      seal-open = masking_undoes block sealed (λ c r b. xor_twice b (c.E r));
    }

-- A step that is its own inverse, since its next register does not depend on the block.
stream_lawful : (next : Meaning → ℕ → ℕ)
    → ((c : Meaning) → Sound c → (r : ℕ) → IsBlock r → IsBlock (next c r))
    → ((c d : Meaning) → Agree c d → (r : ℕ) → IsBlock r → next c r ≡ next d r)
    → Lawful (record { sealing = masking (λ c r b. next c r); opening = masking (λ c r b. next c r) })
stream_lawful next fits same =
    let step : Meaning → ℕ → ℕ → ℕ = λ c r b. next c r in
    let lawful : StepLawful (masking step) = masking_lawful step (λ c s r b hr hb. fits c s r hr) (λ c d a r b hr hb. same c d a r hr) in
    let undoes : Undoes (masking step) (masking step) = masking_undoes step step (λ c r b. refl) in
    record { sealing_lawful = lawful; opening_lawful = lawful; open-seal = undoes; seal-open = undoes }

pub ofb_lawful : Lawful ofb
unfolding masking
ofb_lawful = stream_lawful (λ c r. c.E r) (λ c s r hr. s.E_block r hr) (λ c d a r hr. (a r hr).0)

pub ctr_lawful : Lawful ctr
unfolding masking
ctr_lawful = stream_lawful (λ c r. (r + 1) % 2 ^ 64) (λ c s r hr. omega arith) (λ c d a r hr. refl)
