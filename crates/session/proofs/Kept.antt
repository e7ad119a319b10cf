-- What the calls of a line do to the slip that its running file owes. Assumes nothing.
use Rattle.std.proofs.Common.{◌≡◌, ℕ, ◌+◌, Bool, true, false, not, eqb, List, [], is_some, Some, None, Ok, Err, Option, Result, sym, refl, ap, ◌∙◌, arith}
use Rattle.std.proofs.lemmas.Bool.{eqb-true, eq-eqb}
use Rattle.std.specs.Option.{option_map}
use Rattle.std.specs.Result.{is_ok}
use Rattle.cipher.specs.Meaning.{Meaning}
use Rattle.mode.specs.Steps.{Steps}
use Rattle.line.specs.declared.Line.{Line}
use Rattle.protocol.specs.declared.refusal.Refusal.{Refusal}
use Rattle.protocol.specs.declared.refusal.Refusal.TheVariants.{AlreadyRunning, NothingRuns, ForeignSlip}
use Rattle.line.specs.declared.slip.Slip.{Slip}
use Rattle.line.specs.declared.slip.Returned.{Returned}
use Rattle.protocol.specs.declared.state.Answer.{Answer}
use Rattle.protocol.specs.declared.state.Answer.TheVariants.{Begun, Taken, Abandoned}
use Rattle.protocol.specs.Rules.{cause, both, answer, outcome, unless}
use Rattle.stream.specs.Stream.{overwritten}
use Rattle.line.specs.Model.{Call, after, moved, refusal_to, event_of, output_of, written}
use Rattle.line.specs.Model.Call.{Begin, Put, End, Abandon}
use Rattle.line.specs.Performs.{Performs, HandsBack, params_of, taken}
use Rattle.line.specs.Performs as line
use Rattle.line.proofs.Outcomes.{accepted_by, refused_stays}
use Rattle.line.proofs.Performed.{answered}
use Rattle.session.specs.Slips.{state_of, number_of, file_of, opens_of, owing, owed, numbers, IsKept, ended, why, handed}

-- a call with a slip is accepted only while a file runs, with the slip that this file owes
slip_owed : (a x y : Bool) (l f n g : ℕ) (rest : Option Refusal) → (x ≡ true → l ≡ n) → (y ≡ true → f ≡ g)
    → cause (not a) NothingRuns (cause (not (both x y)) ForeignSlip rest) ≡ None → owing a n g ≡ Some (l, f)
slip_owed true true true l f n g rest ex ey e = λ i. Some (sym (ex refl) i, sym (ey refl) i)
slip_owed true true false l f n g rest ex ey e = absurd (let z : ◌≡◌ {A = ℕ} 0 1 = cc in omega arith)
slip_owed true false y l f n g rest ex ey e = absurd (let z : ◌≡◌ {A = ℕ} 0 1 = cc in omega arith)
slip_owed false x y l f n g rest ex ey e = absurd (let z : ◌≡◌ {A = ℕ} 0 1 = cc in omega arith)

-- and it is refused for no slip's sake with it
slip_fits : (a x y : Bool) (l f n g : ℕ) → (l ≡ n → x ≡ true) → (f ≡ g → y ≡ true)
    → owing a n g ≡ Some (l, f) → cause (not a) NothingRuns (cause (not (both x y)) ForeignSlip None) ≡ None
slip_fits true x y l f n g ex ey e =
    let same : ◌≡◌ {A = ℕ × ℕ} (l, f) (n, g) = cc in
    λ i. cause (not (both (ex (ap (λ p. p.0) same) i) (ey (ap (λ p. p.1) same) i))) ForeignSlip None
slip_fits false x y l f n g ex ey e = absurd (let z : ◌≡◌ {A = ℕ} 0 1 = cc in omega arith)

-- and it is refused where nothing is owed
not_owed : (a : Bool) (n g : ℕ) (rest : Option Refusal) → owing a n g ≡ None → cause (not a) NothingRuns rest ≡ Some NothingRuns
not_owed false n g rest e = refl
not_owed true n g rest e = absurd (let z : ◌≡◌ {A = ℕ} 0 1 = cc in omega arith)

idle : (a : Bool) (rest : Option Refusal) → cause a AlreadyRunning rest ≡ None → a ≡ false
idle false rest e = refl
idle true rest e = absurd (let z : ◌≡◌ {A = ℕ} 0 1 = cc in omega arith)

module _ {K C M : Type 0} where
  pub kept_is : (l : Line K C M) (a b : Option Slip) → a ≡ b → IsKept l a → IsKept l b
  kept_is l a b e k = ap (option_map numbers) (sym e) ∙ k

  -- a session whose line owes nothing has no slip
  pub no_slip : (l : Line K C M) (kept : Option Slip) → IsKept l kept → owed l ≡ None → kept ≡ None
  no_slip l None k none = refl
  no_slip l (Some slip) k none =
      let some : ◌≡◌ {A = Option (ℕ × ℕ)} (Some (numbers slip)) None = k ∙ none in
      absurd (let z : ◌≡◌ {A = ℕ} 0 1 = cc in omega arith)

  -- an end or abandon with a slip: accepted it takes the one that was owed, and refused it hands it back
  abbrev pub Spent : {A : Type 0} → Line K C M → Slip → Line K C M → Result A Returned → Type 0
  Spent old slip new (Ok a) = (owed old ≡ Some (numbers slip)) × (owed new ≡ None)
  Spent old slip new (Err back) = (back.slip ≡ slip) × (owed new ≡ owed old)

  module _ {A : Type 0} (old new : Line K C M) (slip : Slip) where
    -- with its own slip, a session keeps what is left of it
    pub spent_kept : (r : Result A Returned) → Spent old slip new r → IsKept old (Some slip) → IsKept new (handed r)
    spent_kept (Ok a) h k = sym h.1
    spent_kept (Err back) h k = ap (λ s. Some (numbers s)) h.0 ∙ k ∙ sym h.1

    -- with another's
    pub spent_ok : (r : Result A Returned) → Spent old slip new r → is_ok (why r) ≡ true
        → (owed old ≡ Some (numbers slip)) × IsKept new (handed r)
    spent_ok (Ok a) h e = (h.0, sym h.1)
    spent_ok (Err back) h e = absurd (let z : ◌≡◌ {A = ℕ} 0 1 = cc in omega arith)

    pub spent_err : (r : Result A Returned) → Spent old slip new r → is_ok (why r) ≡ false → owed new ≡ owed old
    spent_err (Ok a) h e = absurd (let z : ◌≡◌ {A = ℕ} 0 1 = cc in omega arith)
    spent_err (Err back) h e = h.1

module _ {K C M : Type 0} (opening : K → Bool) (steps : M → Steps) (meaning : C → Meaning) (old new : Line K C M) where
  -- what a call answered, and where it left the line
  pub answer_is : (c : Call) (a : Result Answer Refusal) (o : List ℕ) → Performs opening steps meaning old c a o new
      → outcome (refusal_to (params_of opening steps meaning old) (state_of old) c) (answer (number_of old) (opens_of opening old) (state_of old) (event_of (params_of opening steps meaning old) (state_of old) c)) ≡ a
  unfolding after
  answer_is c a o h = ap (λ x. x.answer) h.did

  accepted : (c : Call) (a : Answer) (o : List ℕ) → Performs opening steps meaning old c (Ok a) o new
      → refusal_to (params_of opening steps meaning old) (state_of old) c ≡ None
  accepted c a o h = accepted_by (params_of opening steps meaning old) (state_of old) c a (ap (λ x. x.answer) h.did)

  accepted_state : (c : Call) (a : Answer) (o : List ℕ) → Performs opening steps meaning old c (Ok a) o new
      → state_of new ≡ moved (params_of opening steps meaning old) (state_of old) c
  accepted_state c a o h = (answered (params_of opening steps meaning old) (state_of old) c (state_of new) a o h.did).1

  -- a refusal leaves what is owed
  pub refused_owed : (c : Call) (r : Refusal) (o : List ℕ) → Performs opening steps meaning old c (Err r) o new → owed new ≡ owed old
  refused_owed c r o h =
      let e : state_of new ≡ state_of old =
      sym (ap (λ x. x.state) h.did) ∙ refused_stays (params_of opening steps meaning old) (state_of old) c r (ap (λ x. x.answer) h.did) in
      λ i. owing (is_some (e i).running) (h.number i) (e i).files

  -- and so does a put
  pub put_owed : (input output : List ℕ) (r : Result ℕ Refusal) (o : List ℕ)
      → Performs opening steps meaning old (Put input output) (taken r) o new → owed new ≡ owed old
  put_owed input output (Ok k) o h =
      let e = accepted_state (Put input output) (Taken k) o h in
      λ i. owing (is_some (e i).running) (h.number i) (e i).files
  put_owed input output (Err r) o h = refused_owed (Put input output) r o h

  -- a begin makes the slip that is owed from then on, and nothing was owed before
  pub begin_owed : (start : ℕ) (slip : Slip) (o : List ℕ) → Performs opening steps meaning old (Begin start) (line.begun (Ok slip)) o new
      → (Some (numbers slip) ≡ owed new) × (owed old ≡ None)
  begin_owed start slip o h =
      let a = Begun slip.line slip.file in
      let none = accepted (Begin start) a o h in
      let e = accepted_state (Begin start) a o h in
      let same : Ok (Begun (number_of old) (file_of old + 1)) ≡ Ok a =
      sym (ap (λ f. outcome f (Begun (number_of old) (file_of old + 1))) none) ∙ answer_is (Begin start) (Ok a) o h in
      let l : slip.line ≡ number_of new = (let z : slip.line ≡ number_of old = cc in z) ∙ sym h.number in
      let f : slip.file ≡ file_of new = (let z : slip.file ≡ file_of old + 1 = cc in z) ∙ sym (ap (λ x. x.files) e) in (
        (λ i. Some (l i, f i)) ∙ sym (ap (λ s. owing (is_some s.running) (number_of new) (file_of new)) e),
        ap (λ b. owing b (number_of old) (file_of old)) (idle _ _ none),
      )

  abbrev asks : ℕ → ℕ → Option Refusal → Option Refusal
  asks line file rest =
      cause (not (is_some (state_of old).running)) NothingRuns (cause (not (both (eqb line (number_of old)) (eqb file (file_of old)))) ForeignSlip rest)

  took : (line file : ℕ) (rest : Option Refusal) → asks line file rest ≡ None → owed old ≡ Some (line, file)
  took line file rest e =
      slip_owed (is_some (state_of old).running) _ _ line file (number_of old) (file_of old) rest (eqb-true line (number_of old)) (eqb-true file (file_of old)) e

  pub end_spent : (slip : Slip) (input output : List ℕ) (r : Result (ℕ × ℕ) Returned) (o : List ℕ)
      → Performs opening steps meaning old (End slip.line slip.file input output) (ended (opens_of opening old) (why r)) o new
      → HandsBack slip r → Spent old slip new r
  end_spent slip input output (Ok e) o h back =
      let c = End slip.line slip.file input output in
      (took slip.line slip.file _ (accepted c _ o h), ap (λ s. owing (is_some s.running) (number_of new) (file_of new)) (accepted_state c _ o h))
  end_spent slip input output (Err b) o h back = (back, refused_owed (End slip.line slip.file input output) b.refusal o h)

  pub abandon_spent : (slip : Slip) (r : Result ℕ Returned) (o : List ℕ)
      → Performs opening steps meaning old (Abandon slip.line slip.file) (line.abandoned r) o new
      → HandsBack slip r → Spent old slip new r
  abandon_spent slip (Ok b) o h back =
      let c = Abandon slip.line slip.file in
      (took slip.line slip.file _ (accepted c _ o h), ap (λ s. owing (is_some s.running) (number_of new) (file_of new)) (accepted_state c _ o h))
  abandon_spent slip (Err b) o h back = (back, refused_owed (Abandon slip.line slip.file) b.refusal o h)

  -- the slip that is owed can be abandoned
  pub abandon_fits : (line file : ℕ) (r : Refusal) (o : List ℕ) → owed old ≡ Some (line, file)
      → Performs opening steps meaning old (Abandon line file) (Err r) o new → ⊥
  abandon_fits line file r o k h =
      let none = slip_fits (is_some (state_of old).running) _ _ line file (number_of old) (file_of old) (eq-eqb line (number_of old)) (eq-eqb file (file_of old)) k in
      let e : Ok (Abandoned (state_of old).blocks) ≡ Err r =
      sym (ap (λ f. outcome f (Abandoned (state_of old).blocks)) none) ∙ answer_is (Abandon line file) (Err r) o h in
      let z : ◌≡◌ {A = ℕ} 0 1 = cc in omega arith

-- where nothing is owed, an end or abandon is refused
module _ {K C M : Type 0} (opening : K → Bool) (steps : M → Steps) (meaning : C → Meaning) (l : Line K C M) where
  refuses : (c : Call) (r : Refusal) → refusal_to (params_of opening steps meaning l) (state_of l) c ≡ Some r
      → Performs opening steps meaning l c (Err r) (output_of c) l
  unfolding after
  refuses c r e =
      let p = params_of opening steps meaning l in
      let s = state_of l in
      record {
        did = λ i. record {
          state = unless (e i) s (moved p s c);
          answer = outcome (e i) (answer (number_of l) (opens_of opening l) s (event_of p s c));
          out = unless (e i) (output_of c) (overwritten (written p s c) (output_of c));
        };
        block_mode = refl;
        number = refl;
      }

  module _ (idle : owed l ≡ None) where
    pub idle_end : (line file : ℕ) (input output : List ℕ) → Performs opening steps meaning l (End line file input output) (Err NothingRuns) output l
    idle_end line file input output = refuses (End line file input output) NothingRuns (not_owed _ _ _ _ idle)

    pub idle_abandon : (line file : ℕ) → Performs opening steps meaning l (Abandon line file) (Err NothingRuns) [] l
    idle_abandon line file = refuses (Abandon line file) NothingRuns (not_owed _ _ _ _ idle)
