-- Which refusal a call is answered with, by what its line owes. Assumes nothing.
use Rattle.std.proofs.Common.{◌≡◌, ℕ, ◌%◌, Bool, true, false, not, eqb, List, length, is_some, Some, None, Ok, Err, Option, Result, refl, sym, ap, subst, ◌∙◌, arith}
use Rattle.std.specs.Prelude.{IfSome, IfNone}
use Rattle.std.specs.Result.{result_err}
use Rattle.cipher.specs.Meaning.{Meaning}
use Rattle.mode.specs.Steps.{Steps}
use Rattle.line.specs.declared.Line.{Line}
use Rattle.protocol.specs.declared.refusal.Refusal.{Refusal}
use Rattle.protocol.specs.declared.refusal.Refusal.TheVariants.{PutWhileIdle, NotWholeBlocks, AlreadyRunning, NothingRuns, ForeignSlip}
use Rattle.protocol.specs.declared.state.Answer.{Answer}
use Rattle.protocol.specs.Rules.{cause, both, outcome}
use Rattle.line.specs.Model.Call.{Begin, Put, End}
use Rattle.line.specs.Performs.{Performs, taken}
use Rattle.session.specs.Slips.{state_of, number_of, owing, owed, begun, ended}
use Rattle.session.proofs.Kept.{answer_is, refused_owed}

-- the first cause that holds gives the refusal
first : (q : Refusal) (b : Bool) (rest : Option Refusal) (a : Answer) (r : Result Answer Refusal) → b ≡ true → outcome (cause b q rest) a ≡ r → Err q ≡ r
first q true rest a r e h = h
first q false rest a r e h = absurd (let z : ◌≡◌ {A = ℕ} 0 1 = cc in omega arith)

second : (p q : Refusal) (b c : Bool) (rest : Option Refusal) (a : Answer) (r : Result Answer Refusal)
    → b ≡ false → c ≡ true → outcome (cause b p (cause c q rest)) a ≡ r → Err q ≡ r
second p q false c rest a r e f h = first q c rest a r f h
second p q true c rest a r e f h = absurd (let z : ◌≡◌ {A = ℕ} 0 1 = cc in omega arith)

runs : (a : Bool) (n f : ℕ) → is_some (owing a n f) ≡ a
runs true n f = refl
runs false n f = refl

apart : (x y : Bool) → x ≡ false → not (both x y) ≡ true
apart false y e = refl
apart true y e = absurd (let z : ◌≡◌ {A = ℕ} 0 1 = cc in omega arith)

-- a refusal is the same in a call's own words
pub put_err : (r : Result ℕ Refusal) (q : Refusal) → Err q ≡ taken r → result_err r ≡ Some q
put_err (Ok k) q e = sym (ap result_err e)
put_err (Err p) q e = sym (ap result_err e)

module _ {K C M : Type 0} where
  pub begin_err : (l : Line K C M) (r : Result (Unit {0}) Refusal) (q : Refusal) → Err q ≡ begun l r → result_err r ≡ Some q
  begin_err l (Ok u) q e = sym (ap result_err e)
  begin_err l (Err p) q e = sym (ap result_err e)

pub end_err : (opens : Bool) (r : Result (ℕ × ℕ) Refusal) (q : Refusal) → Err q ≡ ended opens r → result_err r ≡ Some q
end_err opens (Ok e) q h = sym (ap result_err h)
end_err opens (Err p) q h = sym (ap result_err h)

-- a session on which a file runs has a slip to try
pub offers : {X K C M : Type 0} (tried : Option X) (l : Line K C M) (P Q : Type 0)
    → IfNone tried ((owed l ≡ None) × P × Q) → is_some (owed l) ≡ true → is_some tried ≡ true
offers (Some x) l P Q h e = refl
offers None l P Q h e = ap is_some (sym h.0) ∙ e

pub at_some : {X : Type 0} (P : X → Type 0) (tried : Option X) (x : X) → tried ≡ Some x → IfSome tried P → P x
at_some P tried x e h = subst (λ o. IfSome o P) e h

module _ {K C M : Type 0} (opening : K → Bool) (steps : M → Steps) (meaning : C → Meaning) (old new : Line K C M)
    (a : Result Answer Refusal) (out : List ℕ) where
  running : is_some (owed old) ≡ true → is_some (state_of old).running ≡ true
  running e = sym (runs (is_some (state_of old).running) _ _) ∙ e

  pub idle_put : (input output : List ℕ) → owed old ≡ None → Performs opening steps meaning old (Put input output) a out new → Err PutWhileIdle ≡ a
  idle_put input output e h =
      first PutWhileIdle _ _ _ a (ap not (sym (runs (is_some (state_of old).running) _ _) ∙ ap is_some e)) (answer_is opening steps meaning old new (Put input output) a out h)

  module _ (owes : is_some (owed old) ≡ true) where
    pub odd_put : (input output : List ℕ) → eqb (length input % 8) 0 ≡ false
        → Performs opening steps meaning old (Put input output) a out new → Err NotWholeBlocks ≡ a
    odd_put input output e h =
        second PutWhileIdle NotWholeBlocks _ _ _ _ a (ap not (running owes)) (ap not e) (answer_is opening steps meaning old new (Put input output) a out h)

    pub second_begin : (start : ℕ) → Performs opening steps meaning old (Begin start) a out new → (Err AlreadyRunning ≡ a) × (owed new ≡ owed old)
    second_begin start h =
        let e = first AlreadyRunning _ _ _ a (running owes) (answer_is opening steps meaning old new (Begin start) a out h) in
        (e, refused_owed opening steps meaning old new (Begin start) AlreadyRunning out (subst (λ r. Performs opening steps meaning old (Begin start) r out new) (sym e) h))

    pub foreign_end : (line file : ℕ) (input output : List ℕ) → eqb line (number_of old) ≡ false
        → Performs opening steps meaning old (End line file input output) a out new → Err ForeignSlip ≡ a
    foreign_end line file input output e h =
        second NothingRuns ForeignSlip _ _ _ _ a (ap not (running owes)) (apart _ _ e) (answer_is opening steps meaning old new (End line file input output) a out h)
