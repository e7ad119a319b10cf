-- Lines over ciphers that mean the same run alike. Assumes nothing.
use Rattle.std.proofs.Common.{◌≡◌, ℕ, ◌<◌, Bool, true, false, cond, eqb, ltb, List, [], ◌∷◌, length, Some, None, Option, refl, ap, ◌∙◌, arith, ltb-true, eqb-true}
use Rattle.block.specs.Block.{IsBlock, AllBytes, number, blocks_of}
use Rattle.block.proofs.Bytes.{blocks_all, number_fits}
use Rattle.cipher.specs.Meaning.{Meaning, Sound, Same}
use Rattle.mode.specs.Steps.{Steps, Lawful}
use Rattle.mode.specs.Pad.{padded}
use Rattle.mode.proofs.Padded.{length-padded, padded_bytes}
use Rattle.protocol.specs.declared.refusal.Refusal.{Refusal}
use Rattle.protocol.specs.declared.state.State.{State}
use Rattle.stream.specs.Stream.{register_of, step_of, sealed_last, opened_last, last_of}
use Rattle.protocol.specs.Rules.{unless, fresh}
use Rattle.line.specs.Model.{Call, Begin, Put, End, Abandon, Fit, AllFit, Params, params, after, run, moved, written, refusal_to}
use Rattle.line.specs.Laws.{EqualRuns}
use Rattle.stream.proofs.Through.{Step, Closed, AgreeOn, outs_same, last_same, last_block, closed, agreeing}

-- the block of a tail and its pad, and the last block of a sealed file
pub tail_block : (tail : List ℕ) → AllBytes tail → length tail < 8 → IsBlock (number (padded tail))
tail_block tail h short = number_fits (padded tail) (length-padded tail short) (padded_bytes tail h)

-- a last block goes through agreeing steps alike
module _ (f g : Step) (agree : AgreeOn f g) (r : ℕ) (hr : IsBlock r) (input : List ℕ) (hi : AllBytes input) where
  pub last_of_same : (opens : Bool) → last_of opens f r input ≡ last_of opens g r input
  unfolding last_of
  last_of_same false = go (ltb (length input) 8) refl
    where
      go : (t : Bool) → ltb (length input) 8 ≡ t
          → cond t (Some (sealed_last (length input) (f r (number (padded input))))) None ≡ cond t (Some (sealed_last (length input) (g r (number (padded input))))) None
      go true e = ap (λ o. Some (sealed_last (length input) o)) (agree r (number (padded input)) hr (tail_block input hi (ltb-true _ _ e)))
      go false e = refl
  last_of_same true = go (eqb (length input) 8) refl
    where
      go : (t : Bool) → eqb (length input) 8 ≡ t
          → cond t (Some (opened_last (f r (number input)))) None ≡ cond t (Some (opened_last (g r (number input)))) None
      go true e = ap (λ o. Some (opened_last o)) (agree r (number input) hr (number_fits input (eqb-true _ _ e) hi))
      go false e = refl

-- a last block leaves a block in the register
pub last_register_same : (f : Step) → Closed f → (r : ℕ) → IsBlock r → (input : List ℕ) → AllBytes input → (opens : Bool) → IsBlock (register_of (last_of opens f r input) r)
unfolding last_of
last_register_same f closed r hr input hi false = go (ltb (length input) 8) refl
  where
    go : (t : Bool) → ltb (length input) 8 ≡ t → IsBlock (register_of (cond t (Some (sealed_last (length input) (f r (number (padded input))))) None) r)
    go true e = closed.register r (number (padded input)) hr (tail_block input hi (ltb-true _ _ e))
    go false e = hr
last_register_same f closed r hr input hi true = go (eqb (length input) 8) refl
  where
    go : (t : Bool) → eqb (length input) 8 ≡ t → IsBlock (register_of (cond t (Some (opened_last (f r (number input)))) None) r)
    go true e = closed.register r (number input) hr (number_fits input (eqb-true _ _ e) hi)
    go false e = hr

-- every call leaves a block in the register
pub after_block : (p : Params) → Closed p.step → (s : State) (c : Call) → IsBlock s.register → Fit c → IsBlock (after p s c).state.register
unfolding after
after_block p closed s c hs hc = choose (refusal_to p s c) (moves c hc)
  where
    choose : (f : Option Refusal) → IsBlock (moved p s c).register → IsBlock (unless f s (moved p s c)).register
    choose None h = h
    choose (Some r) h = hs

    moves : (c : Call) → Fit c → IsBlock (moved p s c).register
    moves (Begin start) h = h
    moves (Put input output) h = last_block p.step closed s.register (blocks_of input) hs (blocks_all input h)
    moves (End line file input output) h = last_register_same p.step closed s.register hs input h p.opens
    moves (Abandon line file) h = hs

module _ (opens : Bool) (f g : Step) (number : ℕ) (closed : Closed f) (agree : AgreeOn f g) where
  abbrev p : Params
  p = record { opens = opens; step = f; number = number }

  abbrev q : Params
  q = record { opens = opens; step = g; number = number }

  after_same : (s : State) (c : Call) → IsBlock s.register → Fit c → after p s c ≡ after q s c
  unfolding after written
  after_same s (Begin start) hs hc = refl
  after_same s (Put input output) hs hc =
      let blocks = blocks_all input hc in
      rw (outs_same f g closed agree s.register (blocks_of input) hs blocks, last_same f g closed agree s.register (blocks_of input) hs blocks)
  after_same s (End line file input output) hs hc = rw (last_of_same f g agree s.register hs input hc opens)
  after_same s (Abandon line file) hs hc = refl

  pub run_same : (s : State) (cs : List Call) → IsBlock s.register → AllFit cs → run p s cs ≡ run q s cs
  unfolding run
  run_same s [] hs hc = refl
  run_same s (c ∷ cs) hs hc =
      let e = after_same s c hs hc.0 in
      (λ i. e i ∷ run_same (after p s c).state cs (after_block p closed s c hs hc.0) hc.1 i) ∙ ap (λ a. after q s c ∷ run q a.state cs) e

pub equal_runs : (opens : Bool) (mode : Steps) (c d : Meaning) (number : ℕ) → Lawful mode → Sound c → Sound d → Same c d
    → EqualRuns (params opens mode c number) (params opens mode d number)
equal_runs opens mode c d number lawful s t same cs hc =
    run_same opens (step_of opens mode c) (step_of opens mode d) number (closed mode lawful opens c s) (agreeing mode lawful opens c d s t same) fresh cs (omega arith) hc
