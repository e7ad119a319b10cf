-- A list of calls whose bytes lie one after another in two buffers, and what comes of performing it.
use Rattle.std.specs.Prelude.{◌≡◌, ℕ, ◌-◌, Bool, true, cond, List, [], ◌∷◌, map, length, take, drop, Ok, Err, Result, nat_le}
use Rattle.std.specs.List.{flat_map}
use Rattle.protocol.specs.declared.refusal.Refusal.{Refusal}
use Rattle.line.specs.declared.request.Misfit.{Misfit}
use Rattle.line.specs.declared.request.Request.{Request}
use Rattle.line.specs.declared.request.Request.TheVariants as request
use Rattle.protocol.specs.declared.state.State.{State}
use Rattle.protocol.specs.declared.state.Answer.{Answer}
use Rattle.protocol.specs.Rules.{both, fresh}
use Rattle.stream.specs.Stream.{overwritten}
use Rattle.line.specs.Model.{Call, Begin, Put, End, Abandon, AllFit, Params, After, run, left}

-- The bytes of input and of output that a call takes.
abbrev pub input_size : Request → ℕ
input_size (request.Begin start) = 0
input_size (request.Put input output) = input
input_size (request.End line file input output) = input
input_size (request.Abandon line file) = 0

abbrev pub output_size : Request → ℕ
output_size (request.Begin start) = 0
output_size (request.Put input output) = output
output_size (request.End line file input output) = output
output_size (request.Abandon line file) = 0

abbrev pub call_of : Request → List ℕ → List ℕ → Call
call_of (request.Begin start) input output = Begin start
call_of (request.Put i o) input output = Put input output
call_of (request.End line file i o) input output = End line file input output
call_of (request.Abandon line file) input output = Abandon line file

-- Each call has the next bytes of either buffer.
unfoldable pub calls : List Request → List ℕ → List ℕ → List Call
calls [] inputs outputs = []
calls (r ∷ rs) inputs outputs =
    call_of r (take (input_size r) inputs) (take (output_size r) outputs) ∷ calls rs (drop (input_size r) inputs) (drop (output_size r) outputs)

-- Whether buffers of these lengths hold the bytes of all the calls.
unfoldable pub bytes_fit : List Request → ℕ → ℕ → Bool
bytes_fit [] inputs outputs = true
bytes_fit (r ∷ rs) inputs outputs =
    both (nat_le (input_size r) inputs) (both (nat_le (output_size r) outputs) (bytes_fit rs (inputs - input_size r) (outputs - output_size r)))

-- Whether they do, and there is room for a reply to each call.
abbrev pub sizes_fit : List Request → ℕ → ℕ → ℕ → Bool
sizes_fit rs inputs outputs replies = both (nat_le (length rs) replies) (bytes_fit rs inputs outputs)

abbrev pub answers : List After → List (Result Answer Refusal)
answers = map (λ a. a.answer)

abbrev pub out_bytes : List After → List ℕ
out_bytes = flat_map (λ a. a.out)

-- What `replay` gives: where the list of calls leaves the line, the output of each call, and the reply to each; and the list
-- is one that the laws speak of. Where the sizes do not fit, nothing is changed.
pub record Replayed (p : Params) (rs : List Request) (inputs outputs : List ℕ) (replies : List (Result Answer Refusal))
    (result : Result State Misfit) (outputs' : List ℕ) (replies' : List (Result Answer Refusal)) : Type 0 where
  pub state : result ≡ cond (sizes_fit rs (length inputs) (length outputs) (length replies)) (Ok (left p fresh (calls rs inputs outputs))) (Err (record {}))
  pub out : outputs' ≡ cond (sizes_fit rs (length inputs) (length outputs) (length replies)) (overwritten (out_bytes (run p fresh (calls rs inputs outputs))) outputs) outputs
  pub reply : replies' ≡ cond (sizes_fit rs (length inputs) (length outputs) (length replies)) (overwritten (answers (run p fresh (calls rs inputs outputs))) replies) replies
  pub fit : sizes_fit rs (length inputs) (length outputs) (length replies) ≡ true → AllFit (calls rs inputs outputs)
