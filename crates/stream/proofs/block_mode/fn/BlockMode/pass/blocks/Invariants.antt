use Rattle.std.proofs.Common.{◌-◌, length}
use Rattle.stream.specs.Stream.{step_through}
use Rattle.stream.proofs.Blocks.{Passed}
use Rattle.stream.proofs.block_mode.fn.BlockMode.pass.blocks.Given as goal

abbrev pub invariant-loop-rest : goal.invariant-loop-rest
invariant-loop-rest g l =
    Passed (step_through g.K.Kind.opening g.M.Mode.steps g.C.Cipher.meaning l.through) l.start l.input l.initial.output l.register (length l.input - length l.rest) l.rest l.output

abbrev pub decreases-loop-rest : goal.decreases-loop-rest
decreases-loop-rest g l = length l.rest
