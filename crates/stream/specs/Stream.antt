-- Blocks through a mode's step, one after another, and the last block of a file.
use Rattle.std.specs.Prelude.{ℕ, Bool, true, false, cond, List, [], ◌∷◌, ◌++◌, length, take, drop, Some, None, Option, ◌==◌, nat_lt}
use Rattle.std.specs.Option.{unwrap_or}
use Rattle.block.specs.Block.{number, bytes_of}
use Rattle.cipher.specs.Meaning.{Meaning}
use Rattle.mode.specs.Steps.{Steps}
use Rattle.mode.specs.Pad.{padded, tail_length}
use Rattle.stream.specs.declared.last.Last.{Last}
use Rattle.stream.specs.declared.BlockMode.{BlockMode}

-- The mode's step over the cipher, opening or sealing.
abbrev pub step_of : Bool → Steps → Meaning → ℕ → ℕ → ℕ × ℕ
step_of false mode cipher = mode.sealing cipher
step_of true mode cipher = mode.opening cipher

-- The step that blocks go through.
abbrev pub step_through : {K C M : Type 0} → (K → Bool) → (M → Steps) → (C → Meaning) → BlockMode K C M → ℕ → ℕ → ℕ × ℕ
step_through opening steps meaning b = step_of (opening b.kind) (steps b.mode) (meaning b.cipher)

-- Blocks through a step, first to last: each takes the register that the one before it left.
unfoldable pub outs : (ℕ → ℕ → ℕ × ℕ) → ℕ → List ℕ → List ℕ
outs step r [] = []
outs step r (b ∷ bs) = (step r b).0 ∷ outs step (step r b).1 bs

unfoldable pub last_register : (ℕ → ℕ → ℕ × ℕ) → ℕ → List ℕ → ℕ
last_register step r [] = r
last_register step r (b ∷ bs) = last_register step (step r b).1 bs

-- The last block of a file: tail and pad where it is sealed, the sealed block where it is opened.
abbrev pub sealed_last : ℕ → ℕ × ℕ → Last
sealed_last tail out = record { block = out.0; register = out.1; tail = Some tail }

abbrev pub opened_last : ℕ × ℕ → Last
opened_last out = record { block = out.0; register = out.1; tail = tail_length (bytes_of out.0) }

abbrev pub sealed_last_of : (ℕ → ℕ → ℕ × ℕ) → ℕ → List ℕ → Option Last
sealed_last_of step r input =
    cond (nat_lt (length input) 8) (Some (sealed_last (length input) (step r (number (padded input))))) None

abbrev pub opened_last_of : (ℕ → ℕ → ℕ × ℕ) → ℕ → List ℕ → Option Last
opened_last_of step r input = cond (length input == 8) (Some (opened_last (step r (number input)))) None

unfoldable pub last_of : Bool → (ℕ → ℕ → ℕ × ℕ) → ℕ → List ℕ → Option Last
last_of false = sealed_last_of
last_of true = opened_last_of

-- The length of the tail in a last block, and the register that the block leaves.
abbrev pub tail_of : Option Last → Option ℕ
tail_of None = None
tail_of (Some l) = l.tail

abbrev pub register_of : Option Last → ℕ → ℕ
register_of None r = r
register_of (Some l) r = l.register

-- The bytes of a last block that are written: the sealed block, or the tail alone.
abbrev pub last_bytes : Bool → Option Last → List ℕ
last_bytes opens None = []
last_bytes false (Some l) = bytes_of l.block
last_bytes true (Some l) = take (unwrap_or l.tail 0) (bytes_of l.block)

-- As much of a list as a buffer has room for.
abbrev pub fitting : List ℕ → List ℕ → List ℕ
fitting front buffer = take (length buffer) front

-- A buffer with its front overwritten; the rest stays.
abbrev pub overwritten : {A : Type 0} → List A → List A → List A
overwritten front old = front ++ drop (length front) old
