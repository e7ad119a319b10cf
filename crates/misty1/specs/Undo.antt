-- The rounds are undone by the rounds with the inverse of FL and the subkeys in reversed order, whatever FO is. Assumes nothing.
use Rattle.std.specs.Prelude.{◌≡◌, ℕ, ◌+◌, bit_and, bit_or, bit_xor}
use Rattle.std.proofs.Math.Path.{refl, ap}
use Rattle.std.proofs.Common.{◌∙◌, arith}
use Rattle.block.proofs.Xor.{xor_twice, xor_twice_left}
use Rattle.misty1.specs.Functions.{Half, mix, FL, FL_inverse}
use Rattle.misty1.specs.Rounds.{State, Keyed, two_rounds, closing, rounds}

mix_twice : (x y : Half) → mix (mix x y) y ≡ x
mix_twice x y = λ i. (xor_twice x.0 y.0 i, xor_twice x.1 y.1 i)

pub FL_undone : (x kl : Half) → FL_inverse (FL x kl) kl ≡ x
FL_undone x kl =
    let right : ℕ = bit_xor (bit_and x.0 kl.0) x.1 in
    let left = xor_twice x.0 (bit_or right kl.1) in
    λ i. (left i, (ap (λ l. bit_xor (bit_and l kl.0) right) left ∙ xor_twice_left (bit_and x.0 kl.0) x.1) i)

pub FL_redone : (y kl : Half) → FL (FL_inverse y kl) kl ≡ y
FL_redone y kl =
    let left : ℕ = bit_xor y.0 (bit_or y.1 kl.1) in
    let right = xor_twice_left (bit_and left kl.0) y.1 in
    λ i. ((ap (λ r. bit_xor left (bit_or r kl.1)) right ∙ xor_twice y.0 (bit_or y.1 kl.1)) i, right i)

-- L and R exchanged
swap : State → State
swap s = (s.1, s.0)

-- the two parts of two rounds: FL on both halves, then FO into each in turn
both : Keyed → ℕ → State → State
both fl i s = (fl i s.0, fl (i + 1) s.1)

feistel : Keyed → ℕ → State → State
feistel fo i s = let L : Half = mix s.1 (fo i s.0) in (mix s.0 (fo (i + 1) L), L)

module _ (f g fo go : Keyed)
    (inverse : (i j : ℕ) → i + j ≡ 11 → (x : Half) → g j (f i x) ≡ x)
    (reversed : (i j : ℕ) → i + j ≡ 9 → (x : Half) → go j x ≡ fo i x) where
  both_undone : (i j : ℕ) → i + j ≡ 10 → (s : State) → both g j (swap (both f i s)) ≡ swap s
  unfolding both swap
  both_undone i j e s = λ k. (inverse (i + 1) j (omega arith) s.1 k, inverse i (j + 1) (omega arith) s.0 k)

  feistel_undone : (i j : ℕ) → i + j ≡ 8 → (s : State) → feistel go j (swap (feistel fo i s)) ≡ swap s
  unfolding feistel swap
  feistel_undone i j e s =
      let L : Half = mix s.1 (fo i s.0) in
      let left : mix (mix s.0 (fo (i + 1) L)) (go j L) ≡ s.0 =
      ap (mix (mix s.0 (fo (i + 1) L))) (reversed (i + 1) j (omega arith) L) ∙ mix_twice s.0 (fo (i + 1) L) in
      let right : mix L (go (j + 1) (mix (mix s.0 (fo (i + 1) L)) (go j L))) ≡ s.1 =
      ap (λ x. mix L (go (j + 1) x)) left ∙ ap (mix L) (reversed i (j + 1) (omega arith) s.0) ∙ mix_twice s.1 (fo i s.0) in
      λ k. (right k, left k)

  -- two rounds undo two rounds, between the FL's that come after the latter and those that come before
  peeled : (i j : ℕ) → i + j ≡ 8 → (s : State) → two_rounds g go j (swap (both f (i + 2) (two_rounds f fo i s))) ≡ swap (both f i s)
  unfolding two_rounds both feistel swap
  peeled i j e s =
      ap (feistel go j) (both_undone (i + 2) j (omega arith) (two_rounds f fo i s)) ∙ feistel_undone i j e (both f i s)

  pub undone : (s : State) → rounds g go (rounds f fo s) ≡ s
  unfolding rounds closing both swap
  undone s =
      let s2 : State = two_rounds f fo 1 s in
      let s4 : State = two_rounds f fo 3 s2 in
      let s6 : State = two_rounds f fo 5 s4 in
      let back : ℕ → State → State = two_rounds g go in
      ap (λ t. closing g (back 7 (back 5 (back 3 t)))) (peeled 7 1 refl s6)
      ∙ ap (λ t. closing g (back 7 (back 5 t))) (peeled 5 3 refl s4)
      ∙ ap (λ t. closing g (back 7 t)) (peeled 3 5 refl s2)
      ∙ ap (closing g) (peeled 1 7 refl s)
      ∙ ap swap (both_undone 1 9 refl s)
