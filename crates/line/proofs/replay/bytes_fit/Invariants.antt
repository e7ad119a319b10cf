use Rattle.std.proofs.Common.{◌≡◌, drop}
use Rattle.line.specs.Replay.{bytes_fit}
use Rattle.line.proofs.replay.bytes_fit.Given as goal

abbrev pub invariant-loop-request : goal.invariant-loop-request
invariant-loop-request l = bytes_fit (drop l.request-index l.requests) l.input l.output ≡ bytes_fit l.requests l.inputs l.outputs
