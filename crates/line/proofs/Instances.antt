-- The examples of the complement law. Assumes nothing.
use Rattle.std.proofs.Common.{◌≡◌, ℕ, List, [], ◌∷◌, get_or, replicate, ap, arith, lit<}
use lib.Bits.{xor_lt}
use Rattle.block.specs.Block.{IsBlock, flip, flip_byte, bytes_of, blocks_of}
use Rattle.block.proofs.Xor.{xor_twice}
use Rattle.block.proofs.Complement.{flip_left}
use Rattle.cipher.specs.Meaning.{Sound}
use Rattle.stream.specs.Stream.{outs, last_register}
use Rattle.line.specs.Model.{Call, Begin, Put, after, run, written}
use Rattle.line.specs.Laws.{mixing, ComplementExamples}

sound-mixing : (a : ℕ) → IsBlock a → Sound (mixing a)
sound-mixing a h = record {
  E_block = λ b hb. xor_lt 64 b a hb h;
  D_block = λ b hb. xor_lt 64 b a hb h;
  D-E = λ b hb. xor_twice b a;
  E-D = λ b hb. xor_twice b a;
}

two_blocks : List Call
two_blocks = Begin 0 ∷ Put (replicate 16 0) (replicate 16 0) ∷ []

pub examples : ComplementExamples
unfolding two_blocks flip flip_byte bytes_of blocks_of after run outs last_register written
examples = record {
  sound = sound-mixing;
  complement = λ a b hb. flip_left b a;
  ctr_fails = λ number h.
      let runs = h two_blocks (lit< tt, ((lit< tt, (lit< tt, (lit< tt, (lit< tt, (lit< tt, (lit< tt, (lit< tt, (lit< tt, (lit< tt, (lit< tt, (lit< tt, (lit< tt, (lit< tt, (lit< tt, (lit< tt, (lit< tt, tt)))))))))))))))), tt)) in
      let last : ◌≡◌ {A = ℕ} 0 254 = ap (λ l. get_or l 15 0) runs.1.0.out in
      omega arith;
}
