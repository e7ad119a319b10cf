-- E and D lead from blocks to blocks and undo each other, under any eight words. Assumes nothing.
use Rattle.std.specs.Prelude.{◌≡◌, ℕ, ◌+◌, ◌-◌, ◌/◌, ◌%◌, ◌^◌, ◌<◌, true, false, cond, List, ◌==◌, bit_and, bit_or, slice_index}
use Rattle.std.proofs.Math.Path.{ap}
use Rattle.std.proofs.Common.{◌∙◌}
use native.Mathlib.Omega.{arith}
use Rattle.std.specs.Int.Bits.{and_lt}
use Rattle.std.proofs.lemmas.Nat.{or_lt, xor_lt}
use Rattle.block.specs.Block.{IsBlock}
use Rattle.cipher.specs.Meaning.{Sound}
use Rattle.misty1.specs.Functions.{Half, mix, FL, FL_inverse, turn}
use Rattle.misty1.specs.Schedule.{K, K', KL}
use Rattle.misty1.specs.Rounds.{State, Keyed, split, join, two_rounds, closing, rounds, forward_FL, forward_FO, backward_FL, backward_FO, under}
use Rattle.misty1.specs.Fits.{FI_fits}
use Rattle.misty1.specs.Undo.{FL_undone, FL_redone, undone}

-- both words of a half have 16 bits
abbrev Fits : Half → Type 0
Fits x = (x.0 < 2 ^ 16) × (x.1 < 2 ^ 16)

abbrev FitsState : State → Type 0
FitsState s = Fits s.0 × Fits s.1

-- a block is its four words
split_fits : (b : ℕ) → IsBlock b → FitsState (split b)
split_fits b h = ((omega arith, omega arith), (omega arith, omega arith))

join-split : (b : ℕ) → IsBlock b → join (split b) ≡ b
join-split b h = omega arith

join_block : (s : State) → FitsState s → IsBlock (join s)
join_block s fits = omega arith

split-join : (s : State) → FitsState s → split (join s) ≡ s
split-join s fits =
    let a : join s / 2 ^ 48 ≡ s.0.0 = omega arith in
    let b : join s / 2 ^ 32 % 2 ^ 16 ≡ s.0.1 = omega arith in
    let c : join s / 2 ^ 16 % 2 ^ 16 ≡ s.1.0 = omega arith in
    let d : join s % 2 ^ 16 ≡ s.1.1 = omega arith in
    λ i. ((a i, b i), (c i, d i))

mix_fits : (x y : Half) → Fits x → Fits y → Fits (mix x y)
mix_fits x y hx hy = (xor_lt 16 _ _ hx.0 hy.0, xor_lt 16 _ _ hx.1 hy.1)

FL_fits : (x kl : Half) → Fits x → Fits kl → Fits (FL x kl)
FL_fits x kl hx hk =
    let right = xor_lt 16 (bit_and x.0 kl.0) x.1 (and_lt 16 _ _ hx.0 hk.0) hx.1 in
    (xor_lt 16 _ _ hx.0 (or_lt 16 _ _ right hk.1), right)

FL_inverse_fits : (y kl : Half) → Fits y → Fits kl → Fits (FL_inverse y kl)
FL_inverse_fits y kl hy hk =
    let left = xor_lt 16 y.0 (bit_or y.1 kl.1) hy.0 (or_lt 16 _ _ hy.1 hk.1) in
    (left, xor_lt 16 _ _ (and_lt 16 _ _ left hk.0) hy.1)

turn_fits : (x : Half) (ko ki : ℕ) → Fits x → ki < 2 ^ 16 → Fits (turn x ko ki)
turn_fits x ko ki hx hk = (hx.1, xor_lt 16 _ _ (FI_fits _ ki hk) hx.1)

module _ (fl fo : Keyed) (fl-fits : (i : ℕ) (x : Half) → Fits x → Fits (fl i x)) (fo-fits : (i : ℕ) (x : Half) → Fits x → Fits (fo i x)) where
  two_fit : (i : ℕ) (s : State) → FitsState s → FitsState (two_rounds fl fo i s)
  unfolding two_rounds
  two_fit i s h =
      let R1 = fl-fits i s.0 h.0 in
      let L1 = mix_fits _ _ (fl-fits (i + 1) s.1 h.1) (fo-fits i _ R1) in
      (mix_fits _ _ R1 (fo-fits (i + 1) _ L1), L1)

  rounds_fit : (s : State) → FitsState s → FitsState (rounds fl fo s)
  unfolding rounds closing
  rounds_fit s h =
      let last = two_fit 7 _ (two_fit 5 _ (two_fit 3 _ (two_fit 1 s h))) in
      (fl-fits 10 _ last.1, fl-fits 9 _ last.0)

module _ (ks : List ℕ) (words : (i : ℕ) → slice_index ks i < 2 ^ 16) where
  K_fits : (i : ℕ) → K ks i < 2 ^ 16
  K_fits i = words ((i - 1) % 8)

  K'_fits : (i : ℕ) → K' ks i < 2 ^ 16
  unfolding K'
  K'_fits i = FI_fits (K ks i) (K ks (i + 1)) (K_fits (i + 1))

  KL_fits : (i : ℕ) → Fits (KL ks i)
  KL_fits i =
      elim (i % 2 == 1) as (λ b. Fits (cond b (K ks ((i + 1) / 2), K' ks ((i + 1) / 2 + 6)) (K' ks (i / 2 + 2), K ks (i / 2 + 4))))
      [ true ↦ (K_fits _, K'_fits _) | false ↦ (K'_fits _, K_fits _) ]

  forward_FL_fits : (i : ℕ) (x : Half) → Fits x → Fits (forward_FL ks i x)
  forward_FL_fits i x h = FL_fits x (KL ks i) h (KL_fits i)

  backward_FL_fits : (i : ℕ) (x : Half) → Fits x → Fits (backward_FL ks i x)
  backward_FL_fits i x h = FL_inverse_fits x (KL ks (11 - i)) h (KL_fits (11 - i))

  forward_FO_fits : (i : ℕ) (x : Half) → Fits x → Fits (forward_FO ks i x)
  forward_FO_fits i x h =
      let y = turn_fits _ _ _ (turn_fits _ _ _ (turn_fits x (K ks i) (K' ks (i + 5)) h (K'_fits (i + 5))) (K'_fits (i + 1))) (K'_fits (i + 3)) in
      (xor_lt 16 _ _ y.0 (K_fits (i + 4)), y.1)

  backward_FO_fits : (i : ℕ) (x : Half) → Fits x → Fits (backward_FO ks i x)
  backward_FO_fits i x h = forward_FO_fits (9 - i) x h

  E_fits : (s : State) → FitsState s → FitsState (rounds (forward_FL ks) (forward_FO ks) s)
  E_fits = rounds_fit (forward_FL ks) (forward_FO ks) forward_FL_fits forward_FO_fits

  D_fits : (s : State) → FitsState s → FitsState (rounds (backward_FL ks) (backward_FO ks) s)
  D_fits = rounds_fit (backward_FL ks) (backward_FO ks) backward_FL_fits backward_FO_fits

  -- rounds between a block's words and the words of its result, and back
  back : (go come : State → State) → ((s : State) → FitsState s → FitsState (go s)) → ((s : State) → come (go s) ≡ s)
      → (b : ℕ) → IsBlock b → join (come (split (join (go (split b))))) ≡ b
  back go come fit undo b h =
      ap (λ s. join (come s)) (split-join (go (split b)) (fit (split b) (split_fits b h)))
      ∙ ap join (undo (split b)) ∙ join-split b h

  D-E_rounds : (s : State) → rounds (backward_FL ks) (backward_FO ks) (rounds (forward_FL ks) (forward_FO ks) s) ≡ s
  D-E_rounds =
      undone (forward_FL ks) (backward_FL ks) (forward_FO ks) (backward_FO ks)
      (λ i j e x. let same : 11 - j ≡ i = omega arith in ap (λ m. FL_inverse (FL x (KL ks i)) (KL ks m)) same ∙ FL_undone x (KL ks i))
      (λ i j e x. let same : 9 - j ≡ i = omega arith in ap (λ m. forward_FO ks m x) same)

  E-D_rounds : (s : State) → rounds (forward_FL ks) (forward_FO ks) (rounds (backward_FL ks) (backward_FO ks) s) ≡ s
  E-D_rounds =
      undone (backward_FL ks) (forward_FL ks) (backward_FO ks) (forward_FO ks)
      (λ i j e x. let same : 11 - i ≡ j = omega arith in ap (λ m. FL (FL_inverse x (KL ks m)) (KL ks j)) same ∙ FL_redone x (KL ks j))
      (λ i j e x. let same : j ≡ 9 - i = omega arith in ap (λ m. forward_FO ks m x) same)

  pub sound : Sound (under ks)
  sound = record {
    E_block = λ b h. join_block _ (E_fits (split b) (split_fits b h));
    D_block = λ b h. join_block _ (D_fits (split b) (split_fits b h));
    D-E = back (rounds (forward_FL ks) (forward_FO ks)) (rounds (backward_FL ks) (backward_FO ks)) E_fits D-E_rounds;
    E-D = back (rounds (backward_FL ks) (backward_FO ks)) (rounds (forward_FL ks) (forward_FO ks)) D_fits E-D_rounds;
  }
