-- Lists of blocks through a step. Assumes nothing.
use denote.Ref.{Bor}
use Rattle.std.proofs.Common.{◌≡◌, ℕ, suc, Bool, true, false, not, List, [], ◌∷◌, map, length, sym, refl, ap, ◌∙◌}
use Rattle.block.specs.Block.{IsBlock, AllBlocks, flip}
use Rattle.cipher.specs.Meaning.{Meaning, Sound, Same}
use Rattle.mode.specs.Steps.{Steps, Agree, Lawful}
use Rattle.stream.specs.Stream.{step_of, step_through, outs, last_register}
use Rattle.stream.specs.declared.BlockMode.{BlockMode}

abbrev pub Step : Type 0
Step = ℕ → ℕ → ℕ × ℕ

-- the step of what is borrowed with its direction known is the step of what was lent
pub directed_step : {K C M : Type 0} (opening : K → Bool) (steps : M → Steps) (meaning : C → Meaning) (b : BlockMode K C M) (d : BlockMode Bool (Bor C) (Bor M))
    → d.kind ≡ opening b.kind → d.cipher.now ≡ b.cipher → d.mode.now ≡ b.mode
    → step_through (λ opens. opens) (λ m. steps m.now) (λ k. meaning k.now) d ≡ step_through opening steps meaning b
directed_step opening steps meaning b d kind cipher mode = λ i. step_of (kind i) (steps (mode i)) (meaning (cipher i))

-- a step leads from blocks to blocks
pub record Closed (f : Step) : Type 0 where
  pub block : (r b : ℕ) → IsBlock r → IsBlock b → IsBlock (f r b).0
  pub register : (r b : ℕ) → IsBlock r → IsBlock b → IsBlock (f r b).1

module _ (f : Step) (closed : Closed f) where
  pub outs_blocks : (r : ℕ) (bs : List ℕ) → IsBlock r → AllBlocks bs → AllBlocks (outs f r bs)
  unfolding outs
  outs_blocks r [] hr hb = tt
  outs_blocks r (b ∷ bs) hr hb = (closed.block r b hr hb.0, outs_blocks (f r b).1 bs (closed.register r b hr hb.0) hb.1)

  pub last_block : (r : ℕ) (bs : List ℕ) → IsBlock r → AllBlocks bs → IsBlock (last_register f r bs)
  unfolding last_register
  last_block r [] hr hb = hr
  last_block r (b ∷ bs) hr hb = last_block (f r b).1 bs (closed.register r b hr hb.0) hb.1

pub length-outs : (f : Step) (r : ℕ) (bs : List ℕ) → length (outs f r bs) ≡ length bs
unfolding outs
length-outs f r [] = refl
length-outs f r (b ∷ bs) = ap suc (length-outs f (f r b).1 bs)

-- steps that agree on blocks
abbrev pub AgreeOn : Step → Step → Type 0
AgreeOn f g = (r b : ℕ) → IsBlock r → IsBlock b → f r b ≡ g r b

module _ (f g : Step) (closed : Closed f) (agree : AgreeOn f g) where
  pub outs_same : (r : ℕ) (bs : List ℕ) → IsBlock r → AllBlocks bs → outs f r bs ≡ outs g r bs
  unfolding outs
  outs_same r [] hr hb = refl
  outs_same r (b ∷ bs) hr hb =
      let e = agree r b hr hb.0 in
      (λ i. (e i).0 ∷ outs_same (f r b).1 bs (closed.register r b hr hb.0) hb.1 i) ∙ ap (λ x. (g r b).0 ∷ outs g x.1 bs) e

  pub last_same : (r : ℕ) (bs : List ℕ) → IsBlock r → AllBlocks bs → last_register f r bs ≡ last_register g r bs
  unfolding last_register
  last_same r [] hr hb = refl
  last_same r (b ∷ bs) hr hb =
      last_same (f r b).1 bs (closed.register r b hr hb.0) hb.1 ∙ ap (λ x. last_register g x.1 bs) (agree r b hr hb.0)

-- a step that undoes another, with the same next register
abbrev pub UndoneBy : Step → Step → Type 0
UndoneBy f g = (r b : ℕ) → IsBlock r → IsBlock b → g r (f r b).0 ≡ (b, (f r b).1)

module _ (f g : Step) (closed : Closed f) (undone : UndoneBy f g) where
  pub outs_undone : (r : ℕ) (bs : List ℕ) → IsBlock r → AllBlocks bs → outs g r (outs f r bs) ≡ bs
  unfolding outs
  outs_undone r [] hr hb = refl
  outs_undone r (b ∷ bs) hr hb =
      let e = undone r b hr hb.0 in
      (λ i. (e i).0 ∷ outs g (e i).1 (outs f (f r b).1 bs)) ∙ ap (λ l. b ∷ l) (outs_undone (f r b).1 bs (closed.register r b hr hb.0) hb.1)

  pub last_undone : (r : ℕ) (bs : List ℕ) → IsBlock r → AllBlocks bs → last_register g r (outs f r bs) ≡ last_register f r bs
  unfolding outs last_register
  last_undone r [] hr hb = refl
  last_undone r (b ∷ bs) hr hb =
      ap (λ x. last_register g x.1 (outs f (f r b).1 bs)) (undone r b hr hb.0) ∙ last_undone (f r b).1 bs (closed.register r b hr hb.0) hb.1

-- a step that carries a complemented register on
abbrev pub FlippedBy : Step → Step → Type 0
FlippedBy f g = (r b : ℕ) → IsBlock r → IsBlock b → g (flip r) b ≡ (flip (f r b).0, flip (f r b).1)

module _ (f g : Step) (closed : Closed f) (flipped : FlippedBy f g) where
  pub outs_flipped : (r : ℕ) (bs : List ℕ) → IsBlock r → AllBlocks bs → outs g (flip r) bs ≡ map flip (outs f r bs)
  unfolding outs
  outs_flipped r [] hr hb = refl
  outs_flipped r (b ∷ bs) hr hb =
      let e = flipped r b hr hb.0 in
      (λ i. (e i).0 ∷ outs g (e i).1 bs) ∙ ap (λ l. flip (f r b).0 ∷ l) (outs_flipped (f r b).1 bs (closed.register r b hr hb.0) hb.1)

  pub last_flipped : (r : ℕ) (bs : List ℕ) → IsBlock r → AllBlocks bs → last_register g (flip r) bs ≡ flip (last_register f r bs)
  unfolding last_register
  last_flipped r [] hr hb = refl
  last_flipped r (b ∷ bs) hr hb =
      ap (λ x. last_register g x.1 bs) (flipped r b hr hb.0) ∙ last_flipped (f r b).1 bs (closed.register r b hr hb.0) hb.1

-- the steps of a lawful mode over sound ciphers
pub same_agree : (c d : Meaning) → Sound c → Sound d → Same c d → Agree c d
same_agree c d s t same b hb =
    let back : c.D (c.E (d.D b)) ≡ c.D b = ap c.D (same (d.D b) (t.D_block b hb) ∙ t.E-D b hb) in
    (same b hb, sym back ∙ s.D-E (d.D b) (t.D_block b hb))

module _ (mode : Steps) (lawful : Lawful mode) where
  pub closed : (opens : Bool) (c : Meaning) → Sound c → Closed (step_of opens mode c)
  closed false c s = record { block = lawful.sealing_lawful.block c s; register = lawful.sealing_lawful.register c s }
  closed true c s = record { block = lawful.opening_lawful.block c s; register = lawful.opening_lawful.register c s }

  pub agreeing : (opens : Bool) (c d : Meaning) → Sound c → Sound d → Same c d → AgreeOn (step_of opens mode c) (step_of opens mode d)
  agreeing false c d s t same = lawful.sealing_lawful.same c d s t (same_agree c d s t same)
  agreeing true c d s t same = lawful.opening_lawful.same c d s t (same_agree c d s t same)

  -- the step of the other kind, over a cipher that means the same
  pub undoing : (opens : Bool) (c d : Meaning) → Sound c → Sound d → Same c d → UndoneBy (step_of opens mode c) (step_of (not opens) mode d)
  undoing false c d s t same r b hr hb =
      sym (agreeing true c d s t same r _ hr ((closed false c s).block r b hr hb)) ∙ lawful.open-seal c s r b hr hb
  undoing true c d s t same r b hr hb =
      sym (agreeing false c d s t same r _ hr ((closed true c s).block r b hr hb)) ∙ lawful.seal-open c s r b hr hb
