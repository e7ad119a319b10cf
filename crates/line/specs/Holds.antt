-- When a slip is the one that a line's running file owes, and what a call with a slip does to that.
use Rattle.std.specs.Prelude.{◌≡◌, Bool, true, is_some, Some, None, Ok, Err, Option, Result, ◌==◌}
use Rattle.protocol.specs.Rules.{both}
use Rattle.line.specs.declared.Line.{Line}
use Rattle.line.specs.declared.slip.Slip.{Slip}
use Rattle.line.specs.declared.slip.Returned.{Returned}

module _ {K C M : Type 0} where
  -- the slip's numbers are those of the line and of its last file
  abbrev pub own : Line K C M → Slip → Bool
  own l s = both (s.line == l.number) (s.file == l.machine.state.files)

  -- a slip, where there is one, is that of the running file
  abbrev pub holds : Line K C M → Option Slip → Bool
  holds l None = true
  holds l (Some s) = both (is_some l.machine.state.running) (own l s)

  -- an end is accepted only with an own slip, and a refused one gives the slip back and leaves the line
  abbrev pub Ended : {A : Type 0} → Line K C M → Slip → Line K C M → Result A Returned → Type 0
  Ended old slip new (Ok a) = own old slip ≡ true
  Ended old slip new (Err back) = (back.slip ≡ slip) × (new.machine.state ≡ old.machine.state) × (new.number ≡ old.number)

  -- an abandon is refused only without the slip of the running file
  abbrev pub Refusable : {A : Type 0} → Line K C M → Slip → Result A Returned → Type 0
  Refusable old slip (Ok a) = Unit {0}
  Refusable old slip (Err back) = holds old (Some slip) ≡ true → ⊥
