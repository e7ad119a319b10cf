-- A call does what the model says. Assumes nothing.
use Rattle.std.proofs.Common.{◌≡◌, ℕ, ◌/◌, ◌≤◌, Bool, true, false, List, length, Some, None, Ok, Err, Option, Result, sym, refl, ap, ◌∙◌, subst, arith}
use Rattle.std.proofs.lemmas.List.{take_all}
use Rattle.protocol.specs.declared.refusal.Refusal.{Refusal}
use Rattle.protocol.specs.declared.state.State.{State}
use Rattle.protocol.specs.declared.state.Answer.{Answer}
use Rattle.line.specs.declared.Line.{Line}
use Rattle.cipher.specs.Meaning.{Meaning}
use Rattle.mode.specs.Steps.{Steps}
use Rattle.protocol.specs.declared.state.Answer.TheVariants.{Begun, Taken, Sealed, Opened, Abandoned}
use Rattle.line.specs.declared.slip.Slip.{Slip}
use Rattle.line.specs.Performs.{Performs, params_of, settled}
use Rattle.stream.specs.declared.last.Last.{Last}
use Rattle.protocol.specs.declared.state.Event.TheVariants as event
use Rattle.protocol.specs.Rules.{refusal, answer, opened_tail, next, outcome, unless, with_register}
use Rattle.protocol.proofs.Causes.{put_facts, end_facts}
use Rattle.std.specs.List.{flat_map}
use Rattle.block.specs.Block.{bytes_of, blocks_of}
use Rattle.stream.specs.Stream.{outs, last_register, last_of, last_bytes, fitting, overwritten}
use Rattle.stream.proofs.Blocks.{last_short}
use Rattle.line.specs.Model.{Call, Params, after, moved, written, output_of, refusal_to, event_of}
use Rattle.line.specs.Model.Call.{Begin, Put, End, Abandon}

pub performed : (p : Params) (s : State) (c : Call) (s' : State) (a : Result Answer Refusal) (o : List ℕ)
    → s' ≡ unless (refusal_to p s c) s (moved p s c)
    → a ≡ outcome (refusal_to p s c) (answer p.number p.opens s (event_of p s c))
    → o ≡ unless (refusal_to p s c) (output_of c) (overwritten (written p s c) (output_of c))
    → after p s c ≡ record { state = s'; answer = a; out = o }
unfolding after
performed p s c s' a o es ea eo i = record { state = sym es i; answer = sym ea i; out = sym eo i }

pub unless_same : {A : Type 0} (f : Option Refusal) (x : A) → x ≡ unless f x x
unless_same None x = refl
unless_same (Some r) x = refl

pub accepted : (f : Option Refusal) (a b : Answer) → Ok b ≡ outcome f a → f ≡ None
accepted None a b e = refl
accepted (Some q) a b e = absurd (let z : ◌≡◌ {A = ℕ} 0 1 = cc in omega arith)

-- a refused call leaves the line and the output
pub refused : (p : Params) (s : State) (c : Call) (s' new : State) (r : Refusal)
    → Err r ≡ outcome (refusal_to p s c) (answer p.number p.opens s (event_of p s c))
    → s' ≡ unless (refusal_to p s c) s new
    → after p s c ≡ record { state = s'; answer = Err r; out = output_of c }
refused p s c s' new r ea es =
    let f = refusal_to p s c in
    performed p s c s' (Err r) (output_of c) (es ∙ stays f _ ea s new ∙ sym (stays f _ ea s (moved p s c))) ea
    (sym (stays f _ ea (output_of c) (overwritten (written p s c) (output_of c))))
  where
    stays : {A : Type 0} (f : Option Refusal) (a : Answer) → Err r ≡ outcome f a → (old m : A) → unless f old m ≡ old
    stays None a e old m = absurd (let z : ◌≡◌ {A = ℕ} 0 1 = cc in omega arith)
    stays (Some q) a e old m = refl

-- an accepted put, whose blocks all find room
pub put_taken : (p : Params) (s s₁ : State) (input output : List ℕ) (a : Answer) (r : ℕ) (o : List ℕ)
    → Ok a ≡ outcome (refusal_to p s (Put input output)) (answer p.number p.opens s (event_of p s (Put input output)))
    → s₁ ≡ unless (refusal_to p s (Put input output)) s (next s (event_of p s (Put input output)))
    → r ≡ last_register p.step s₁.register (blocks_of (fitting input output))
    → o ≡ overwritten (flat_map bytes_of (outs p.step s₁.register (blocks_of (fitting input output)))) output
    → after p s (Put input output) ≡ record { state = with_register r s₁; answer = Ok a; out = o }
unfolding written
put_taken p s s₁ input output a r o ea es er eo =
    let f = refusal_to p s (Put input output) in
    let none : f ≡ None = accepted f _ a ea in
    let all : fitting input output ≡ input = take_all (length output) input (put_facts p.number s (length input) (length output) none).room in
    let new : s₁ ≡ next s (event_of p s (Put input output)) = es ∙ ap (λ f. unless f s (next s (event_of p s (Put input output)))) none in
    let same : s₁.register ≡ s.register = ap (λ t. t.register) new in
    let last : r ≡ last_register p.step s.register (blocks_of input) = er ∙ (λ i. last_register p.step (same i) (blocks_of (all i))) in
    let bytes : o ≡ overwritten (flat_map bytes_of (outs p.step s.register (blocks_of input))) output =
    eo ∙ (λ i. overwritten (flat_map bytes_of (outs p.step (same i) (blocks_of (all i)))) output) in
    performed p s (Put input output) (with_register r s₁) (Ok a) o
    ((λ i. with_register (last i) (new i)) ∙ ap (λ f. unless f s (moved p s (Put input output))) (sym none))
    ea
    (bytes ∙ ap (λ f. unless f output (overwritten (written p s (Put input output)) output)) (sym none))

-- an accepted end has room for a block
pub end_room : (number : ℕ) (s : State) (line file : ℕ) (last : Option Last) (output : ℕ) (a b : Answer)
    → Ok b ≡ outcome (refusal number s (event.End line file last output)) a → 8 ≤ output
end_room number s line file last output a b e = (end_facts number s line file last output (accepted _ a b e)).room

-- an end, worked out from `last`
module _ (p : Params) (s s' : State) (line file : ℕ) (input output : List ℕ) (last : Option Last)
    (worked : last ≡ last_of p.opens p.step s.register input)
    (es : s' ≡ unless (refusal p.number s (event.End line file last (length output))) s (next s (event.End line file last (length output)))) where
  moves : s' ≡ unless (refusal_to p s (End line file input output)) s (moved p s (End line file input output))
  moves = es ∙ ap (λ l. unless (refusal p.number s (event.End line file l (length output))) s (next s (event.End line file l (length output)))) worked

  answers : (r : Result Answer Refusal)
      → r ≡ outcome (refusal p.number s (event.End line file last (length output))) (answer p.number p.opens s (event.End line file last (length output)))
      → r ≡ outcome (refusal_to p s (End line file input output)) (answer p.number p.opens s (event_of p s (End line file input output)))
  answers r e = e ∙ ap (λ l. outcome (refusal p.number s (event.End line file l (length output))) (answer p.number p.opens s (event.End line file l (length output)))) worked

  pub end_taken : (a : Answer) (o : List ℕ)
      → Ok a ≡ outcome (refusal p.number s (event.End line file last (length output))) (answer p.number p.opens s (event.End line file last (length output)))
      → o ≡ overwritten (fitting (last_bytes p.opens last) output) output
      → after p s (End line file input output) ≡ record { state = s'; answer = Ok a; out = o }
  unfolding written
  end_taken a o ea eo =
      let f = refusal_to p s (End line file input output) in
      let none : f ≡ None = accepted f _ a (answers (Ok a) ea) in
      let room = end_room p.number s line file last (length output) _ a ea in
      let all : fitting (last_bytes p.opens last) output ≡ last_bytes p.opens last = take_all (length output) (last_bytes p.opens last) (omega (arith, room, last_short p.opens last)) in
      performed p s (End line file input output) s' (Ok a) o moves (answers (Ok a) ea)
      (eo ∙ ap (λ l. overwritten l output) all ∙ ap (λ l. overwritten (last_bytes p.opens l) output) worked ∙ ap (λ f. unless f output (overwritten (written p s (End line file input output)) output)) (sym none))

  pub end_refused : (r : Refusal)
      → Err r ≡ outcome (refusal p.number s (event.End line file last (length output))) (answer p.number p.opens s (event.End line file last (length output)))
      → after p s (End line file input output) ≡ record { state = s'; answer = Err r; out = output }
  end_refused r ea = refused p s (End line file input output) s' (moved p s (End line file input output)) r (answers (Err r) ea) moves

-- what an accepted call answered, and where it left the line
pub answered : (p : Params) (s : State) (c : Call) (s' : State) (a : Answer) (o : List ℕ)
    → after p s c ≡ record { state = s'; answer = Ok a; out = o }
    → (a ≡ answer p.number p.opens s (event_of p s c)) × (s' ≡ moved p s c)
unfolding after
answered p s c s' a o e = go (refusal_to p s c) refl
  where
    ea : outcome (refusal_to p s c) (answer p.number p.opens s (event_of p s c)) ≡ Ok a
    ea = ap (λ x. x.answer) e

    es : unless (refusal_to p s c) s (moved p s c) ≡ s'
    es = ap (λ x. x.state) e

    go : (f : Option Refusal) → refusal_to p s c ≡ f → (a ≡ answer p.number p.opens s (event_of p s c)) × (s' ≡ moved p s c)
    go None q =
        let ok : Ok (answer p.number p.opens s (event_of p s c)) ≡ Ok a = rw q at ea in
        (cc, sym (rw q at es))
    go (Some r) q =
        let bad : Err r ≡ Ok a = rw q at ea in
        absurd (let z : ◌≡◌ {A = ℕ} 0 1 = cc in omega arith)

-- what was accepted, from a slip that was spent
pub settled_ok : (slip : Slip) (d : Result Answer Refusal) (a : Answer) → Ok a ≡ settled slip d → d ≡ Ok a
settled_ok slip (Ok b) a e = cc
settled_ok slip (Err r) a e = absurd (let z : ◌≡◌ {A = ℕ} 0 1 = cc in omega arith)

-- a call as the contracts say it
module _ {K C M : Type 0} (opening : K → Bool) (steps : M → Steps) (meaning : C → Meaning) where
  -- the answer of an accepted call, read off the line that it left
  module _ (old new : Line K C M) (a : Answer) (o : List ℕ) where
    told : (c : Call) (b : Answer) → Performs opening steps meaning old c (Ok a) o new → a ≡ b → Performs opening steps meaning old c (Ok b) o new
    told c b h e = subst (λ z. Performs opening steps meaning old c (Ok z) o new) e h

    moved_by : (c : Call) → Performs opening steps meaning old c (Ok a) o new
        → (a ≡ answer old.number (opening old.block_mode.kind) old.machine.state (event_of (params_of opening steps meaning old) old.machine.state c))
        × (new.machine.state ≡ moved (params_of opening steps meaning old) old.machine.state c)
    moved_by c h = answered (params_of opening steps meaning old) old.machine.state c new.machine.state a o h.did

    pub begun_is : (start files : ℕ) → files ≡ new.machine.state.files → Performs opening steps meaning old (Begin start) (Ok a) o new
        → Performs opening steps meaning old (Begin start) (Ok (Begun new.number files)) o new
    begun_is start files e h =
        let (ea, es) = moved_by (Begin start) h in
        told (Begin start) _ h (ea ∙ sym (λ i. Begun (h.number i) ((e ∙ ap (λ t. t.files) es) i)))

    pub taken_is : (input output : List ℕ) → Performs opening steps meaning old (Put input output) (Ok a) o new
        → Performs opening steps meaning old (Put input output) (Ok (Taken (length input / 8))) o new
    taken_is input output h = told (Put input output) _ h (moved_by (Put input output) h).0

    pub abandoned_is : (line file blocks : ℕ) → blocks ≡ new.machine.state.blocks
        → Performs opening steps meaning old (Abandon line file) (Ok a) o new
        → Performs opening steps meaning old (Abandon line file) (Ok (Abandoned blocks)) o new
    abandoned_is line file blocks e h =
        let (ea, es) = moved_by (Abandon line file) h in
        told (Abandon line file) _ h (ea ∙ sym (ap Abandoned (e ∙ ap (λ t. t.blocks) es)))

    pub sealed_is : (line file blocks : ℕ) (input output : List ℕ) → blocks ≡ new.machine.state.blocks → opening old.block_mode.kind ≡ false
        → Performs opening steps meaning old (End line file input output) (Ok a) o new
        → Performs opening steps meaning old (End line file input output) (Ok (Sealed blocks)) o new
    sealed_is line file blocks input output e k h =
        let (ea, es) = moved_by (End line file input output) h in
        told (End line file input output) _ h
        (ea ∙ ap (λ v. answer old.number v old.machine.state (event_of (params_of opening steps meaning old) old.machine.state (End line file input output))) k
        ∙ sym (ap Sealed (e ∙ ap (λ t. t.blocks) es)))

    pub opened_is : (line file blocks tail : ℕ) (input output : List ℕ) → blocks ≡ new.machine.state.blocks → tail ≡ opened_tail a
        → opening old.block_mode.kind ≡ true
        → Performs opening steps meaning old (End line file input output) (Ok a) o new
        → Performs opening steps meaning old (End line file input output) (Ok (Opened blocks tail)) o new
    opened_is line file blocks tail input output e t k h =
        let (ea, es) = moved_by (End line file input output) h in
        let is = ea ∙ ap (λ v. answer old.number v old.machine.state (event_of (params_of opening steps meaning old) old.machine.state (End line file input output))) k in
        told (End line file input output) _ h (is ∙ sym (λ i. Opened ((e ∙ ap (λ t. t.blocks) es) i) ((t ∙ ap opened_tail is) i)))
