-- What comes of an accepted call, and of a refused one. Assumes nothing.
use Rattle.std.proofs.Common.{◌≡◌, ℕ, Some, None, Ok, Err, Option, refl, ap, arith}
use Rattle.protocol.specs.declared.refusal.Refusal.{Refusal}
use Rattle.protocol.specs.declared.state.State.{State}
use Rattle.protocol.specs.declared.state.Answer.{Answer}
use Rattle.stream.specs.Stream.{overwritten}
use Rattle.protocol.specs.Rules.{answer, outcome, unless}
use Rattle.line.specs.Model.{Call, Params, After, after, moved, written, output_of, refusal_to, event_of}

-- what comes of an accepted call
abbrev pub done : Params → State → Call → After
done p s c = record {
  state = moved p s c;
  answer = Ok (answer p.number p.opens s (event_of p s c));
  out = overwritten (written p s c) (output_of c);
}

pub after_done : (p : Params) (s : State) (c : Call) → refusal_to p s c ≡ None → after p s c ≡ done p s c
unfolding after
after_done p s c none =
    ap (λ f. record { state = unless f s (moved p s c); answer = outcome f (answer p.number p.opens s (event_of p s c)); out = unless f (output_of c) (overwritten (written p s c) (output_of c)) }) none

-- what comes of a refused call
abbrev pub denied : State → Call → Refusal → After
denied s c r = record { state = s; answer = Err r; out = output_of c }

pub after_denied : (p : Params) (s : State) (c : Call) (r : Refusal) → refusal_to p s c ≡ Some r → after p s c ≡ denied s c r
unfolding after
after_denied p s c r some =
    ap (λ f. record { state = unless f s (moved p s c); answer = outcome f (answer p.number p.opens s (event_of p s c)); out = unless f (output_of c) (overwritten (written p s c) (output_of c)) }) some

-- whether it was accepted, by its answer
pub accepted_by : (p : Params) (s : State) (c : Call) (a : Answer) → (after p s c).answer ≡ Ok a → refusal_to p s c ≡ None
unfolding after
accepted_by p s c a e = go (refusal_to p s c) refl
  where
    go : (f : Option Refusal) → refusal_to p s c ≡ f → refusal_to p s c ≡ None
    go None q = q
    go (Some r) q = let bad : Err r ≡ Ok a = rw q at e in absurd (let z : ◌≡◌ {A = ℕ} 0 1 = cc in omega arith)

pub refused_stays : (p : Params) (s : State) (c : Call) (r : Refusal) → (after p s c).answer ≡ Err r → (after p s c).state ≡ s
unfolding after
refused_stays p s c r e = go (refusal_to p s c) refl
  where
    go : (f : Option Refusal) → refusal_to p s c ≡ f → unless (refusal_to p s c) s (moved p s c) ≡ s
    go None q = let bad : Ok (answer p.number p.opens s (event_of p s c)) ≡ Err r = rw q at e in absurd (let z : ◌≡◌ {A = ℕ} 0 1 = cc in omega arith)
    go (Some t) q = ap (λ f. unless f s (moved p s c)) q
