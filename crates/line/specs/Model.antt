-- What a line does: each call, and a list of calls one after another.
use Rattle.std.specs.Prelude.{ℕ, Bool, List, [], ◌∷◌, length, Option, Result}
use Rattle.std.specs.List.{flat_map}
use Rattle.block.specs.Block.{IsBlock, AllBytes, bytes_of, blocks_of}
use Rattle.cipher.specs.Meaning.{Meaning}
use Rattle.mode.specs.Steps.{Steps}
use Rattle.protocol.specs.declared.refusal.Refusal.{Refusal}
use Rattle.protocol.specs.declared.state.State.{State}
use Rattle.protocol.specs.declared.state.Event.{Event}
use Rattle.protocol.specs.declared.state.Event.TheVariants as event
use Rattle.protocol.specs.declared.state.Answer.{Answer}
use Rattle.stream.specs.Stream.{step_of, outs, last_register, last_of, last_bytes, overwritten}
use Rattle.protocol.specs.Rules.{refusal, answer, next, outcome, unless, with_register}

-- A call with its arguments: a slip by its two numbers, a buffer by the bytes that it holds when handed in.
pub data Call : Type 0 where
  Begin : (start : ℕ) → Call
  Put : (input output : List ℕ) → Call
  End : (line file : ℕ) (input output : List ℕ) → Call
  Abandon : (line file : ℕ) → Call

abbrev pub input_of : Call → List ℕ
input_of (Begin start) = []
input_of (Put input output) = input
input_of (End line file input output) = input
input_of (Abandon line file) = []

abbrev pub output_of : Call → List ℕ
output_of (Begin start) = []
output_of (Put input output) = output
output_of (End line file input output) = output
output_of (Abandon line file) = []

-- The start value is a block, and the input is bytes. (Of what an output holds nothing is asked.)
abbrev pub Fit : Call → Type 0
Fit (Begin start) = IsBlock start
Fit (Put input output) = AllBytes input
Fit (End line file input output) = AllBytes input
Fit (Abandon line file) = Unit {0}

abbrev pub AllFit : List Call → Type 0
AllFit [] = Unit {0}
AllFit (c ∷ cs) = Fit c × AllFit cs

-- What a line is, but for where it stands.
pub record Params : Type 0 where
  pub opens : Bool
  pub step : ℕ → ℕ → ℕ × ℕ
  pub number : ℕ

abbrev pub params : Bool → Steps → Meaning → ℕ → Params
params opens mode cipher number = record { opens = opens; step = step_of opens mode cipher; number = number }

-- What decides a call.
abbrev pub event_of : Params → State → Call → Event
event_of p s (Begin start) = event.Begin start
event_of p s (Put input output) = event.Put (length input) (length output)
event_of p s (End line file input output) = event.End line file (last_of p.opens p.step s.register input) (length output)
event_of p s (Abandon line file) = event.Abandon line file

-- The bytes that an accepted call writes at the front of its output.
unfoldable pub written : Params → State → Call → List ℕ
written p s (Begin start) = []
written p s (Put input output) = flat_map bytes_of (outs p.step s.register (blocks_of input))
written p s (End line file input output) = last_bytes p.opens (last_of p.opens p.step s.register input)
written p s (Abandon line file) = []

-- Where an accepted call leaves the line.
abbrev pub moved : Params → State → Call → State
moved p s (Begin start) = next s (event_of p s (Begin start))
moved p s (Put input output) =
    with_register (last_register p.step s.register (blocks_of input)) (next s (event_of p s (Put input output)))
moved p s (End line file input output) = next s (event_of p s (End line file input output))
moved p s (Abandon line file) = next s (event_of p s (Abandon line file))

-- What comes of a call: where the line then stands, the answer or the refusal, and what the output then holds.
pub record After : Type 0 where
  pub state : State
  pub answer : Result Answer Refusal
  pub out : List ℕ

abbrev pub refusal_to : Params → State → Call → Option Refusal
refusal_to p s c = refusal p.number s (event_of p s c)

unfoldable pub after : Params → State → Call → After
after p s c = record {
  state = unless (refusal_to p s c) s (moved p s c);
  answer = outcome (refusal_to p s c) (answer p.number p.opens s (event_of p s c));
  out = unless (refusal_to p s c) (output_of c) (overwritten (written p s c) (output_of c));
}

-- A list of calls: each starts from where the one before it left the line.
unfoldable pub run : Params → State → List Call → List After
run p s [] = []
run p s (c ∷ cs) = after p s c ∷ run p (after p s c).state cs

-- Where a list of calls leaves the line.
unfoldable pub left : Params → State → List Call → State
left p s [] = s
left p s (c ∷ cs) = left p (after p s c).state cs
