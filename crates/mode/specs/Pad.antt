-- The pad: byte 80 and then zero bytes to the end of the block (padding method 2 of ISO/IEC 9797-1).
use Rattle.std.specs.Prelude.{ℕ, zero, suc, ◌-◌, cond, List, ◌∷◌, ◌++◌, length, replicate, Some, None, Option, ◌==◌, nat_lt, slice_index}

-- A tail of at most seven bytes with its pad: eight bytes.
abbrev pub padded : List ℕ → List ℕ
padded tail = tail ++ (0x80 ∷ replicate (7 - length tail) 0)

-- What `pad` answers: no pad fits behind eight bytes or more.
abbrev pub pad : List ℕ → Option (List ℕ)
pad tail = cond (nat_lt (length tail) 8) (Some (padded tail)) None

-- The length of the tail among the first n bytes: it stands before the last of them that is not 00, and that one must be 80.
unfoldable pub tail_within : List ℕ → ℕ → Option ℕ
tail_within bytes zero = None
tail_within bytes (suc n) =
    cond (slice_index bytes n == 0) (tail_within bytes n) (cond (slice_index bytes n == 0x80) (Some n) None)

-- The length of the tail in an opened last block; none where it has no pad.
abbrev pub tail_length : List ℕ → Option ℕ
tail_length bytes = tail_within bytes 8
