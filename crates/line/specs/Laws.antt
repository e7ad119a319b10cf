-- Laws over lists of calls: what two lines just made have to do with each other, whatever is called on them.
use Rattle.std.specs.Prelude.{◌≡◌, ℕ, ◌*◌, ◌≤◌, Bool, false, not, List, [], ◌∷◌, ◌++◌, map, length, take, drop, Ok, Err, Result, bit_xor}
use Rattle.block.specs.Block.{IsBlock, flip, flip_byte}
use Rattle.cipher.specs.Meaning.{Meaning, Sound, Same, Complement, inverse, in_turn}
use Rattle.mode.specs.Steps.{Steps}
use Rattle.mode.specs.Modes.{Complemented, ctr}
use Rattle.protocol.specs.declared.refusal.Refusal.{Refusal}
use Rattle.protocol.specs.declared.state.Answer.{Answer}
use Rattle.protocol.specs.declared.state.Answer.TheVariants.{Begun, Taken, Sealed, Opened, Abandoned}
use Rattle.stream.specs.Stream.{overwritten}
use Rattle.protocol.specs.Rules.{fresh}
use Rattle.line.specs.Model.{Call, Begin, Put, End, Abandon, input_of, output_of, AllFit, Params, params, After, run, left}

-- How many bytes a call wrote at the front of its output: 8k of a put, the sealed block, or the tail alone.
abbrev pub writes : Result Answer Refusal → ℕ
writes (Err r) = 0
writes (Ok (Begun line file)) = 0
writes (Ok (Taken blocks)) = 8 * blocks
writes (Ok (Sealed blocks)) = 8
writes (Ok (Opened blocks tail)) = tail
writes (Ok (Abandoned blocks)) = 0

abbrev pub wrote : After → List ℕ
wrote a = take (writes a.answer) a.out

-- ROUND TRIP

-- What holds according to whether a call was refused or accepted.
abbrev pub ByAnswer : Result Answer Refusal → Type 0 → Type 0 → Type 0
ByAnswer (Err r) R A = R
ByAnswer (Ok a) R A = A

-- A line's own slip, by its numbers: the one that its last begin made.
abbrev pub slip_after : ℕ × ℕ → Result Answer Refusal → ℕ × ℕ
slip_after own (Err r) = own
slip_after own (Ok (Begun line file)) = (line, file)
slip_after own (Ok (Taken blocks)) = own
slip_after own (Ok (Sealed blocks)) = own
slip_after own (Ok (Opened blocks tail)) = own
slip_after own (Ok (Abandoned blocks)) = own

-- The calls ds of a second line are those cs that the first line accepted, all and in order, and R holds of each pair: of the
-- second line's own slip, a call of the first line and what came of it, and the second line's call and what came of that.
abbrev pub Paired : (ℕ × ℕ → Call → After → Call → After → Type 0) → ℕ × ℕ → List Call → List After → List Call → List After → Type 0
Paired R own [] xs ds ys = ds ≡ []
Paired R own (c ∷ cs) [] ds ys = ⊥
Paired R own (c ∷ cs) (a ∷ xs) [] ys = ByAnswer a.answer (Paired R own cs xs [] ys) ⊥
Paired R own (c ∷ cs) (a ∷ xs) (d ∷ ds) [] = ⊥
Paired R own (c ∷ cs) (a ∷ xs) (d ∷ ds) (b ∷ ys) =
    ByAnswer a.answer (Paired R own cs xs (d ∷ ds) (b ∷ ys)) (R own c a d b × Paired R (slip_after own b.answer) cs xs ds ys)

-- The second line is handed the same start value, the bytes that the first line wrote, its own slip, and any output of the
-- needed length.
abbrev pub HandsOn : ℕ × ℕ → Call → After → Call → After → Type 0
HandsOn own (Begin start) a d b = d ≡ Begin start
HandsOn own (Put input output) a d b = (room : List ℕ) × (d ≡ Put (wrote a) room) × (length (wrote a) ≤ length room)
HandsOn own (End line file input output) a d b = (room : List ℕ) × (d ≡ End own.0 own.1 (wrote a) room) × (8 ≤ length room)
HandsOn own (Abandon line file) a d b = d ≡ Abandon own.0 own.1

-- What the line of the other kind answers: the same, but that an opening end answers the tail's length too.
abbrev pub counterpart : ℕ → Result Answer Refusal → Result Answer Refusal
counterpart tail (Err r) = Err r
counterpart tail (Ok (Begun line file)) = Ok (Begun line file)
counterpart tail (Ok (Taken blocks)) = Ok (Taken blocks)
counterpart tail (Ok (Sealed blocks)) = Ok (Opened blocks tail)
counterpart tail (Ok (Opened blocks length)) = Ok (Sealed blocks)
counterpart tail (Ok (Abandoned blocks)) = Ok (Abandoned blocks)

-- The second line answers alike, and writes the first line's input; the rest of its output stays.
abbrev pub Restores : ℕ × ℕ → Call → After → Call → After → Type 0
Restores own c a d b = (b.answer ≡ counterpart (length (input_of c)) a.answer) × (b.out ≡ overwritten (input_of c) (output_of d))

abbrev pub RoundTrip : Params → Params → Type 0
RoundTrip p q =
    (own : ℕ × ℕ) (cs ds : List Call) → AllFit cs
    → Paired HandsOn own cs (run p fresh cs) ds (run q fresh ds)
    → Paired Restores own cs (run p fresh cs) ds (run q fresh ds) × (left p fresh cs ≡ left q fresh ds)

-- CANCELLATION

-- At every call the answer or refusal, each output byte, the register and each count are equal.
abbrev pub EqualRuns : Params → Params → Type 0
EqualRuns p q = (cs : List Call) → AllFit cs → run p fresh cs ≡ run q fresh cs

-- COMPLEMENT

abbrev pub flip_start : Call → Call
flip_start (Begin start) = Begin (flip start)
flip_start (Put input output) = Put input output
flip_start (End line file input output) = End line file input output
flip_start (Abandon line file) = Abandon line file

-- Answers, refusals and counts are equal, the sealed blocks are complemented, and every other output byte is equal.
pub record Complements (a b : After) : Type 0 where
  pub answer : b.answer ≡ a.answer
  pub out : b.out ≡ map flip_byte (wrote a) ++ drop (writes a.answer) a.out
  pub used : b.state.used ≡ a.state.used
  pub files : b.state.files ≡ a.state.files
  pub blocks : b.state.blocks ≡ a.state.blocks
  pub running : b.state.running ≡ a.state.running

abbrev pub AllComplement : List After → List After → Type 0
AllComplement [] ys = ys ≡ []
AllComplement (a ∷ xs) [] = ⊥
AllComplement (a ∷ xs) (b ∷ ys) = Complements a b × AllComplement xs ys

abbrev pub ComplementRuns : Params → Params → Type 0
ComplementRuns p q = (cs : List Call) → AllFit cs → AllComplement (run p fresh cs) (run q fresh (map flip_start cs))

-- The cipher that mixes one block into every other.
abbrev pub mixing : ℕ → Meaning
mixing a = record { E = λ b. bit_xor b a; D = λ b. bit_xor b a }

-- There are ciphers that the complement law speaks of, and in CTR it is false of them.
pub record ComplementExamples : Type 0 where
  pub sound : (a : ℕ) → IsBlock a → Sound (mixing a)
  -- each is its own complement
  pub complement : (a : ℕ) → Complement (mixing a) (mixing a)
  pub ctr_fails : (number : ℕ) → ComplementRuns (params false ctr (mixing 0) number) (params false ctr (mixing 0) number) → ⊥

-- The laws of a line of this kind, over this cipher, in this mode, under this number. (Each function that makes a line promises them.)
pub record Laws (opens : Bool) (cipher : Meaning) (mode : Steps) (number : ℕ) : Type 0 where
  -- with a line of the other kind, over a cipher that means the same
  pub round_trip : (other : Meaning) → Sound other → Same cipher other
      → RoundTrip (params opens mode cipher number) (params (not opens) mode other number)
  -- with a line over two ciphers that cancel, and this one after them
  pub cancel_before : (first second : Meaning) → Sound first → Sound second → Same first second
      → EqualRuns (params opens mode (in_turn (in_turn first (inverse second)) cipher) number) (params opens mode cipher number)
  -- with a line over this one, and two ciphers that cancel after it
  pub cancel_after : (second third : Meaning) → Sound second → Sound third → Same second third
      → EqualRuns (params opens mode (in_turn (in_turn cipher (inverse second)) third) number) (params opens mode cipher number)
  -- sealing lines in CBC, CFB and OFB, with one over a complement of this cipher
  pub complement : Complemented mode → (other : Meaning) → Sound other → Complement cipher other
      → ComplementRuns (params false mode cipher number) (params false mode other number)
  pub examples : ComplementExamples
