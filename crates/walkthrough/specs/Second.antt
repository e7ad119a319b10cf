-- From a list of calls and the replies to it, the list for a line of the other kind.
use Rattle.std.specs.Prelude.{ℕ, List, [], ◌∷◌, ◌++◌, take, drop, Ok, Err, Result}
use Rattle.protocol.specs.declared.refusal.Refusal.{Refusal}
use Rattle.line.specs.declared.request.Request.{Request}
use Rattle.line.specs.declared.request.Request.TheVariants.{Begin, Put, End, Abandon}
use Rattle.protocol.specs.declared.state.Answer.{Answer}
use Rattle.protocol.specs.declared.state.Answer.TheVariants.{Begun, Taken, Sealed, Opened, Abandoned}
use Rattle.line.specs.Replay.{input_size, output_size}

-- How many bytes an accepted call wrote: a put as many as it took, an end the sealed block or the tail.
abbrev pub wrote : Request → Answer → ℕ
wrote r (Begun line file) = 0
wrote r (Taken blocks) = input_size r
wrote r (Sealed blocks) = 8
wrote r (Opened blocks tail) = tail
wrote r (Abandoned blocks) = 0

-- The same call on the other line, handed the bytes that the first call wrote.
abbrev pub handed_on : Request → ℕ → Request
handed_on (Begin start) n = Begin start
handed_on (Put input output) n = Put n n
handed_on (End line file input output) n = End line file n 8
handed_on (Abandon line file) n = Abandon line file

-- A call with its reply.
abbrev pub Replied : Type 0
Replied = Request × Result Answer Refusal

-- One call for each that was accepted, in order.
unfoldable pub second_calls : List Replied → List Request
second_calls [] = []
second_calls ((r, Ok a) ∷ ps) = handed_on r (wrote r a) ∷ second_calls ps
second_calls ((r, Err e) ∷ ps) = second_calls ps

-- What the accepted calls used of a buffer in which each call has its part, one after another: `size` of a call is the length of
-- its part, and `used` how much of the part it used.
unfoldable pub used_bytes : (Request → ℕ) → (Request → Answer → ℕ) → List Replied → List ℕ → List ℕ
used_bytes size used [] buffer = []
used_bytes size used ((r, Ok a) ∷ ps) buffer = take (used r a) (take (size r) buffer) ++ used_bytes size used ps (drop (size r) buffer)
used_bytes size used ((r, Err e) ∷ ps) buffer = used_bytes size used ps (drop (size r) buffer)

-- What they wrote, where the outputs of all the calls lie one after another.
abbrev pub bytes_written : List Replied → List ℕ → List ℕ
bytes_written = used_bytes output_size wrote

-- And what they took, where the inputs lie so.
abbrev pub bytes_taken : List Replied → List ℕ → List ℕ
bytes_taken = used_bytes input_size (λ r a. input_size r)
