-- What a call does to a line, as the contracts of the calls say it.
use Rattle.std.specs.Prelude.{◌≡◌, ℕ, Bool, List, Ok, Err, Result}
use Rattle.cipher.specs.Meaning.{Meaning}
use Rattle.mode.specs.Steps.{Steps}
use Rattle.line.specs.declared.Line.{Line}
use Rattle.protocol.specs.declared.refusal.Refusal.{Refusal}
use Rattle.line.specs.declared.slip.Slip.{Slip}
use Rattle.line.specs.declared.slip.Returned.{Returned}
use Rattle.protocol.specs.declared.state.Answer.{Answer}
use Rattle.protocol.specs.declared.state.Answer.TheVariants.{Begun, Taken, Sealed, Opened, Abandoned}
use Rattle.protocol.specs.Rules.{fresh}
use Rattle.line.specs.Model.{Call, Params, params, after}

module _ {K C M : Type 0} (opening : K → Bool) (steps : M → Steps) (meaning : C → Meaning) where
  abbrev pub params_of : Line K C M → Params
  params_of l = params (opening l.block_mode.kind) (steps l.block_mode.mode) (meaning l.block_mode.cipher) l.number

  -- The call answers, leaves the output and leaves the line as the model says; kind, cipher, mode and number stay.
  pub record Performs (old : Line K C M) (call : Call) (answer : Result Answer Refusal) (out : List ℕ) (new : Line K C M) : Type 0 where
    pub did : after (params_of old) old.machine.state call ≡ record { state = new.machine.state; answer = answer; out = out }
    pub block_mode : new.block_mode ≡ old.block_mode
    pub number : new.number ≡ old.number

-- A line just made holds what it was handed, and stands at the beginning.
pub record Made {K C M : Type 0} (kind : K) (cipher : C) (mode : M) (number : ℕ) (l : Line K C M) : Type 0 where
  pub kind_is : l.block_mode.kind ≡ kind
  pub cipher_is : l.block_mode.cipher ≡ cipher
  pub mode_is : l.block_mode.mode ≡ mode
  pub number_is : l.number ≡ number
  pub state_is : l.machine.state ≡ fresh

-- What each call's result says, as an answer or a refusal.
abbrev pub begun : Result Slip Refusal → Result Answer Refusal
begun (Ok slip) = Ok (Begun slip.line slip.file)
begun (Err r) = Err r

abbrev pub taken : Result ℕ Refusal → Result Answer Refusal
taken (Ok k) = Ok (Taken k)
taken (Err r) = Err r

abbrev pub sealed : Result ℕ Returned → Result Answer Refusal
sealed (Ok b) = Ok (Sealed b)
sealed (Err back) = Err back.refusal

abbrev pub opened : Result (ℕ × ℕ) Returned → Result Answer Refusal
opened (Ok e) = Ok (Opened e.0 e.1)
opened (Err back) = Err back.refusal

abbrev pub abandoned : Result ℕ Returned → Result Answer Refusal
abandoned (Ok b) = Ok (Abandoned b)
abandoned (Err back) = Err back.refusal

-- A refusal hands the same slip back. (Each call with a slip promises it by itself: what is handed back is plain data.)
abbrev pub HandsBack : {A : Type 0} → Slip → Result A Returned → Type 0
HandsBack slip (Ok a) = Unit {0}
HandsBack slip (Err back) = back.slip ≡ slip

-- The slip is spent by a call that was accepted, and handed back by one that was refused.
abbrev pub settled : Slip → Result Answer Refusal → Result Answer Returned
settled slip (Ok a) = Ok a
settled slip (Err r) = Err (record { slip = slip; refusal = r })
