-- A session's slip, and what its calls answer. A line's fields are read in the next four definitions alone.
use Rattle.std.specs.Prelude.{◌≡◌, ℕ, Bool, false, true, cond, is_some, Some, None, Ok, Err, Option, Result}
use Rattle.std.specs.Option.{option_map}
use Rattle.line.specs.declared.Line.{Line}
use Rattle.protocol.specs.declared.refusal.Refusal.{Refusal}
use Rattle.line.specs.declared.slip.Slip.{Slip}
use Rattle.line.specs.declared.slip.Returned.{Returned}
use Rattle.protocol.specs.declared.state.State.{State}
use Rattle.protocol.specs.declared.state.Answer.{Answer}
use Rattle.protocol.specs.declared.state.Answer.TheVariants.{Begun, Sealed, Opened, Abandoned}

abbrev pub owing : Bool → ℕ → ℕ → Option (ℕ × ℕ)
owing true number file = Some (number, file)
owing false number file = None

module _ {K C M : Type 0} where
  abbrev pub state_of : Line K C M → State
  state_of l = l.machine.state

  abbrev pub number_of : Line K C M → ℕ
  number_of l = l.number

  -- the number of the last file that was begun
  abbrev pub file_of : Line K C M → ℕ
  file_of l = (state_of l).files

  abbrev pub opens_of : (K → Bool) → Line K C M → Bool
  opens_of opening l = opening l.block_mode.kind

  -- the numbers of the slip that a running file owes
  abbrev pub owed : Line K C M → Option (ℕ × ℕ)
  owed l = owing (is_some (state_of l).running) (number_of l) (file_of l)

  -- what a begin says that left the line so
  abbrev pub begun : Line K C M → Result (Unit {0}) Refusal → Result Answer Refusal
  begun l (Ok u) = Ok (Begun (number_of l) (file_of l))
  begun l (Err r) = Err r

abbrev pub numbers : Slip → ℕ × ℕ
numbers s = (s.line, s.file)

-- A slip is there exactly when a file runs, and is that file's own.
abbrev pub IsKept : {K C M : Type 0} → Line K C M → Option Slip → Type 0
IsKept l slip = option_map numbers slip ≡ owed l

-- What an end says, on a line that opens or on one that seals.
abbrev pub ended : Bool → Result (ℕ × ℕ) Refusal → Result Answer Refusal
ended opens (Ok e) = Ok (cond opens (Opened e.0 e.1) (Sealed e.0))
ended opens (Err r) = Err r

abbrev pub abandoned : Result ℕ Refusal → Result Answer Refusal
abandoned (Ok b) = Ok (Abandoned b)
abandoned (Err r) = Err r

-- A refusal without the slip that it hands back.
abbrev pub why : {A : Type 0} → Result A Returned → Result A Refusal
why (Ok a) = Ok a
why (Err back) = Err back.refusal

-- The slip that is left of a call.
abbrev pub handed : {A : Type 0} → Result A Returned → Option Slip
handed (Ok a) = None
handed (Err back) = Some back.slip
