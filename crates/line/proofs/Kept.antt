-- What the calls of a line do to the slip that is kept beside it. Assumes nothing.
use Rattle.std.proofs.Common.{◌≡◌, ℕ, ◌+◌, Bool, true, false, not, eqb, List, is_some, Some, None, Ok, Err, Option, Result, sym, refl, ap, ◌∙◌, arith, eq-eqb}
use Rattle.cipher.specs.Meaning.{Meaning}
use Rattle.mode.specs.Steps.{Steps}
use Rattle.line.specs.declared.Line.{Line}
use Rattle.protocol.specs.declared.refusal.Refusal.{Refusal}
use Rattle.protocol.specs.declared.refusal.Refusal.TheVariants.{AlreadyRunning, NothingRuns, ForeignSlip}
use Rattle.line.specs.declared.slip.Slip.{Slip}
use Rattle.line.specs.declared.slip.Returned.{Returned}
use Rattle.protocol.specs.declared.state.Answer.{Answer}
use Rattle.protocol.specs.declared.state.Answer.TheVariants.{Begun, Taken, Sealed, Opened, Abandoned}
use Rattle.protocol.specs.Rules.{cause, both, answer, outcome, unless}
use Rattle.line.specs.Model.{Call, after, moved, refusal_to, event_of}
use Rattle.line.specs.Model.Call.{Begin, Put, End, Abandon}
use Rattle.line.specs.Performs.{Performs, HandsBack, params_of, begun, taken, sealed, opened, abandoned}
use Rattle.line.specs.Holds.{own, holds, Ended, Refusable}

-- a line holds the slips that another one with its number, files and running file holds
pub same_holds : {K C M : Type 0} (old new : Line K C M) (s : Option Slip)
    → is_some new.machine.state.running ≡ is_some old.machine.state.running → new.machine.state.files ≡ old.machine.state.files → new.number ≡ old.number
    → holds old s ≡ true → holds new s ≡ true
same_holds old new None er ef en h = refl
same_holds old new (Some s) er ef en h =
    (λ i. both (er i) (both (eqb s.line (en i)) (eqb s.file (ef i)))) ∙ h

stays : {A : Type 0} (f : Option Refusal) (a : Answer) (r : Refusal) (x y : A) → outcome f a ≡ Err r → unless f x y ≡ x
stays (Some q) a r x y e = refl
stays None a r x y e = absurd (let z : ◌≡◌ {A = ℕ} 0 1 = cc in omega arith)

none_of : (f : Option Refusal) (a b : Answer) → outcome f a ≡ Ok b → f ≡ None
none_of None a b e = refl
none_of (Some q) a b e = absurd (let z : ◌≡◌ {A = ℕ} 0 1 = cc in omega arith)

-- a call that needs a file and its slip is accepted only with them
slip_own : (a b : Bool) (rest : Option Refusal) → cause (not a) NothingRuns (cause (not b) ForeignSlip rest) ≡ None → b ≡ true
slip_own true true rest e = refl
slip_own true false rest e = absurd (let z : ◌≡◌ {A = ℕ} 0 1 = cc in omega arith)
slip_own false b rest e = absurd (let z : ◌≡◌ {A = ℕ} 0 1 = cc in omega arith)

taken_with : (a b : Bool) → both a b ≡ true → cause (not a) NothingRuns (cause (not b) ForeignSlip None) ≡ None
taken_with true true e = refl
taken_with true false e = absurd (let z : ◌≡◌ {A = ℕ} 0 1 = cc in omega arith)
taken_with false b e = absurd (let z : ◌≡◌ {A = ℕ} 0 1 = cc in omega arith)

idle : (a b : Bool) (rest : Option Refusal) → cause a AlreadyRunning rest ≡ None → both a b ≡ true → ⊥
idle true b rest e h = let z : ◌≡◌ {A = ℕ} 0 1 = cc in omega arith
idle false b rest e h = let z : ◌≡◌ {A = ℕ} 0 1 = cc in omega arith

module _ {K C M : Type 0} (opening : K → Bool) (steps : M → Steps) (meaning : C → Meaning) (old new : Line K C M) where
  -- where a call left the line, and what it answered
  state_is : (c : Call) (a : Result Answer Refusal) (o : List ℕ) → Performs opening steps meaning old c a o new
      → new.machine.state ≡ unless (refusal_to (params_of opening steps meaning old) old.machine.state c) old.machine.state (moved (params_of opening steps meaning old) old.machine.state c)
  unfolding after
  state_is c a o h = sym (ap (λ x. x.state) h.did)

  answer_is : (c : Call) (a : Result Answer Refusal) (o : List ℕ) → Performs opening steps meaning old c a o new
      → outcome (refusal_to (params_of opening steps meaning old) old.machine.state c) (answer old.number (opening old.block_mode.kind) old.machine.state (event_of (params_of opening steps meaning old) old.machine.state c)) ≡ a
  unfolding after
  answer_is c a o h = ap (λ x. x.answer) h.did

  refused_stays : (c : Call) (r : Refusal) (o : List ℕ) → Performs opening steps meaning old c (Err r) o new → new.machine.state ≡ old.machine.state
  refused_stays c r o h = state_is c (Err r) o h ∙ stays _ _ r _ _ (answer_is c (Err r) o h)

  accepted : (c : Call) (a : Answer) (o : List ℕ) → Performs opening steps meaning old c (Ok a) o new
      → refusal_to (params_of opening steps meaning old) old.machine.state c ≡ None
  accepted c a o h = none_of _ _ a (answer_is c (Ok a) o h)

  accepted_state : (c : Call) (a : Answer) (o : List ℕ) → Performs opening steps meaning old c (Ok a) o new
      → new.machine.state ≡ moved (params_of opening steps meaning old) old.machine.state c
  accepted_state c a o h =
      state_is c (Ok a) o h ∙ ap (λ f. unless f old.machine.state (moved (params_of opening steps meaning old) old.machine.state c)) (accepted c a o h)

  -- a refusal leaves the slip as good as it was
  pub refused_holds : (c : Call) (r : Refusal) (o : List ℕ) (s : Option Slip) → Performs opening steps meaning old c (Err r) o new
      → holds old s ≡ true → holds new s ≡ true
  refused_holds c r o s h =
      let e = refused_stays c r o h in
      same_holds old new s (ap (λ x. is_some x.running) e) (ap (λ x. x.files) e) h.number

  -- and so does a put
  pub put_holds : (input output : List ℕ) (r : Result ℕ Refusal) (o : List ℕ) (s : Option Slip)
      → Performs opening steps meaning old (Put input output) (taken r) o new → holds old s ≡ true → holds new s ≡ true
  put_holds input output (Ok k) o s h =
      let e = accepted_state (Put input output) (Taken k) o h in
      same_holds old new s (ap (λ x. is_some x.running) e) (ap (λ x. x.files) e) h.number
  put_holds input output (Err r) o s h = refused_holds (Put input output) r o s h

  -- the slip that a begin makes is that of the running file
  pub begin_holds : (start : ℕ) (slip : Slip) (o : List ℕ) → Performs opening steps meaning old (Begin start) (begun (Ok slip)) o new
      → holds new (Some slip) ≡ true
  begin_holds start slip o h =
      let a = Begun slip.line slip.file in
      let e = accepted_state (Begin start) a o h in
      let told = answer_is (Begin start) (Ok a) o h in
      let same : Ok (Begun old.number (old.machine.state.files + 1)) ≡ Ok a =
      sym (ap (λ f. outcome f (Begun old.number (old.machine.state.files + 1))) (accepted (Begin start) a o h)) ∙ told in
      let line : slip.line ≡ new.number = (let z : slip.line ≡ old.number = cc in z) ∙ sym h.number in
      let file : slip.file ≡ new.machine.state.files = (let z : slip.file ≡ old.machine.state.files + 1 = cc in z) ∙ sym (ap (λ x. x.files) e) in
      (λ i. both (is_some (e i).running) (both (eq-eqb slip.line new.number line i) (eq-eqb slip.file new.machine.state.files file i)))

  -- and there was none before
  pub begin_idle : (start : ℕ) (a : Answer) (o : List ℕ) (s : Slip) → Performs opening steps meaning old (Begin start) (Ok a) o new
      → holds old (Some s) ≡ true → ⊥
  begin_idle start a o s h k = idle _ (own old s) _ (accepted (Begin start) a o h) k

  -- a running file can be abandoned with its slip
  pub abandon_refusable : (slip : Slip) (r : Result ℕ Returned) (o : List ℕ)
      → Performs opening steps meaning old (Abandon slip.line slip.file) (abandoned r) o new → Refusable old slip r
  abandon_refusable slip (Ok b) o h = tt
  abandon_refusable slip (Err back) o h = λ k.
      let none = taken_with (is_some old.machine.state.running) (own old slip) k in
      let e : Ok (Abandoned old.machine.state.blocks) ≡ Err back.refusal =
      sym (ap (λ f. outcome f (Abandoned old.machine.state.blocks)) none) ∙ answer_is (Abandon slip.line slip.file) (Err back.refusal) o h in
      let z : ◌≡◌ {A = ℕ} 0 1 = cc in omega arith

  handed : (c : Call) (slip : Slip) (back : Returned) (o : List ℕ) → Performs opening steps meaning old c (Err back.refusal) o new
      → back.slip ≡ slip → (back.slip ≡ slip) × (new.machine.state ≡ old.machine.state) × (new.number ≡ old.number)
  handed c slip back o h e = (e, refused_stays c back.refusal o h, h.number)

  pub abandon_ends : (slip : Slip) (r : Result ℕ Returned) (o : List ℕ)
      → Performs opening steps meaning old (Abandon slip.line slip.file) (abandoned r) o new → HandsBack slip r → Ended old slip new r
  abandon_ends slip (Ok b) o h e =
      slip_own (is_some old.machine.state.running) (own old slip) _ (accepted (Abandon slip.line slip.file) (Abandoned b) o h)
  abandon_ends slip (Err back) o h e = handed (Abandon slip.line slip.file) slip back o h e

  pub seal_ends : (slip : Slip) (input output : List ℕ) (r : Result ℕ Returned) (o : List ℕ)
      → Performs opening steps meaning old (End slip.line slip.file input output) (sealed r) o new → HandsBack slip r → Ended old slip new r
  seal_ends slip input output (Ok b) o h e =
      slip_own (is_some old.machine.state.running) (own old slip) _ (accepted (End slip.line slip.file input output) (Sealed b) o h)
  seal_ends slip input output (Err back) o h e = handed (End slip.line slip.file input output) slip back o h e

  pub open_ends : (slip : Slip) (input output : List ℕ) (r : Result (ℕ × ℕ) Returned) (o : List ℕ)
      → Performs opening steps meaning old (End slip.line slip.file input output) (opened r) o new → HandsBack slip r → Ended old slip new r
  open_ends slip input output (Ok b) o h e =
      slip_own (is_some old.machine.state.running) (own old slip) _ (accepted (End slip.line slip.file input output) (Opened b.0 b.1) o h)
  open_ends slip input output (Err back) o h e = handed (End slip.line slip.file input output) slip back o h e
