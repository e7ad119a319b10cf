use Rattle.std.proofs.Common.{◌≡◌}
use Rattle.line.specs.Performs.{params_of}
use Rattle.line.proofs.Replays.{Sofar}
use Rattle.line.proofs.replay.perform_all.Given as goal

abbrev pub invariant-loop-i : goal.invariant-loop-i
invariant-loop-i g l =
    Sofar (params_of g.K.Kind.opening g.M.Mode.steps g.C.Cipher.meaning l.initial.line) l.initial.line.machine.state l.requests l.inputs l.initial.outputs l.initial.replies l.i l.rest l.written l.line.machine.state l.outputs l.replies
    × (l.line.block_mode ≡ l.initial.line.block_mode) × (l.line.number ≡ l.initial.line.number)
