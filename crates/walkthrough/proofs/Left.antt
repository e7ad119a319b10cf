-- Which calls of a session are accepted, and what its line owes after them. Assumes nothing.
use Rattle.std.proofs.Common.{◌≡◌, ℕ, Bool, true, false, List, is_some, Some, None, Ok, Err, Option, Result, refl, sym, ap, ◌∙◌, subst, arith}
use Rattle.std.specs.Prelude.{IfOk}
use Rattle.std.specs.Result.{is_ok, result_err}
use Rattle.cipher.specs.Meaning.{Meaning}
use Rattle.mode.specs.Steps.{Steps}
use Rattle.line.specs.declared.Line.{Line}
use Rattle.protocol.specs.declared.refusal.Refusal.{Refusal}
use Rattle.protocol.specs.declared.refusal.Refusal.TheVariants.{PutWhileIdle}
use Rattle.protocol.specs.declared.state.Answer.TheVariants.{Taken}
use Rattle.protocol.specs.Rules.{fresh, refusal, answer, outcome}
use Rattle.protocol.specs.declared.state.Event.TheVariants as event
use Rattle.line.specs.Model.Call.{Begin, Put, End, Abandon}
use Rattle.line.specs.Model.{Call}
use Rattle.line.specs.Performs.{Performs, params_of, taken}
use Rattle.line.proofs.Outcomes.{refused_stays}
use Rattle.session.specs.Slips.{state_of, number_of, file_of, opens_of, owing, owed, begun, ended, abandoned}
use Rattle.walkthrough.proofs.Refused.{idle_put}
use Rattle.session.proofs.Kept.{answer_is, end_spent, abandon_spent, abandon_fits}

pub at_ok : {X E : Type 0} (P : X → Type 0) (r : Result X E) (x : X) → r ≡ Ok x → IfOk r P → P x
at_ok P r x e h = subst (λ a. IfOk a P) e h

pub none_is : {X : Type 0} (o : Option X) → is_some o ≡ false → o ≡ None
none_is None e = refl
none_is (Some x) e = absurd (let z : ◌≡◌ {A = ℕ} 0 1 = cc in omega arith)

-- what is owed has the line's number and its last file's
owing_is : (a : Bool) (n f : ℕ) → is_some (owing a n f) ≡ true → owing a n f ≡ Some (n, f)
owing_is true n f e = refl
owing_is false n f e = absurd (let z : ◌≡◌ {A = ℕ} 0 1 = cc in omega arith)

module _ {K C M : Type 0} (opening : K → Bool) (steps : M → Steps) (meaning : C → Meaning) (old new : Line K C M) where
  -- a refusal leaves the state
  pub refused_state : (c : Call) (r : Refusal) (o : List ℕ) → Performs opening steps meaning old c (Err r) o new → state_of new ≡ state_of old
  refused_state c r o h =
      sym (ap (λ x. x.state) h.did) ∙ refused_stays (params_of opening steps meaning old) (state_of old) c r (ap (λ x. x.answer) h.did)

  -- a line just made takes a begin
  pub begins : (start : ℕ) (r : Result (Unit {0}) Refusal) (o : List ℕ) → state_of old ≡ fresh
      → Performs opening steps meaning old (Begin start) (begun new r) o new → is_ok r ≡ true
  begins start (Ok u) o e h = refl
  begins start (Err q) o e h =
      let n = number_of old in
      let opens = opens_of opening old in
      let bad : outcome (refusal n fresh (event.Begin start)) (answer n opens fresh (event.Begin start)) ≡ Err q =
      ap (λ s. outcome (refusal n s (event.Begin start)) (answer n opens s (event.Begin start))) (sym e) ∙ answer_is opening steps meaning old new (Begin start) (Err q) o h in
      absurd (let z : ◌≡◌ {A = ℕ} 0 1 = cc in omega arith)

  -- a put on an idle line leaves the state
  pub idle_kept : (input output : List ℕ) (r : Result ℕ Refusal) (o : List ℕ) → owed old ≡ None
      → Performs opening steps meaning old (Put input output) (taken r) o new → state_of new ≡ state_of old
  idle_kept input output (Ok k) o e h =
      let bad : Err PutWhileIdle ≡ Ok (Taken k) = idle_put opening steps meaning old new (Ok (Taken k)) o input output e h in
      absurd (let z : ◌≡◌ {A = ℕ} 0 1 = cc in omega arith)
  idle_kept input output (Err q) o e h = refused_state (Put input output) q o h

  -- an end that was taken leaves nothing owed
  pub end_left : (line file : ℕ) (input output : List ℕ) (r : Result (ℕ × ℕ) Refusal) (o : List ℕ)
      → Performs opening steps meaning old (End line file input output) (ended (opens_of opening old) r) o new → is_some (result_err r) ≡ false → owed new ≡ None
  end_left line file input output (Ok e) o h ok = (end_spent opening steps meaning old new (record { line = line; file = file }) input output (Ok e) o h tt).1
  end_left line file input output (Err q) o h ok = absurd (let z : ◌≡◌ {A = ℕ} 0 1 = cc in omega arith)

  -- a running file can be abandoned, and nothing is owed then
  pub abandons : (r : Result ℕ Refusal) (o : List ℕ) → is_some (owed old) ≡ true
      → Performs opening steps meaning old (Abandon (number_of old) (file_of old)) (abandoned r) o new → (is_ok r ≡ true) × (owed new ≡ None)
  abandons (Ok b) o e h = (refl, (abandon_spent opening steps meaning old new (record { line = number_of old; file = file_of old }) (Ok b) o h tt).1)
  abandons (Err q) o e h = absurd (abandon_fits opening steps meaning old new (number_of old) (file_of old) q o (owing_is _ _ _ e) h)
