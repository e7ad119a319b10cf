use Rattle.std.proofs.Common.{◌≡◌, ◌*◌, ◌^◌, ◌<◌, drop}
use Rattle.block.specs.Block.{number, number_after}
use Rattle.misty1.proofs.schedule.fn.Misty1.new.number.Given as goal

-- what is left of the bytes completes the number
abbrev pub invariant-loop-byte : goal.invariant-loop-byte
invariant-loop-byte l = (l.n < 2 ^ (8 * l.byte-index)) × (number_after l.n (drop l.byte-index l.bytes) ≡ number l.bytes)
