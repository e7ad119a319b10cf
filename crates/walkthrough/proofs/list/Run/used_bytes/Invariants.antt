use Rattle.std.proofs.Common.{◌≡◌, ◌++◌, vec_items}
use Rattle.std.specs.List.{zip}
use Rattle.walkthrough.proofs.Pairs.{pairs_rest}
use Rattle.walkthrough.specs.Second.{used_bytes}
use Rattle.walkthrough.proofs.list.Run.used_bytes.Given as goal

abbrev pub invariant-loop-request : goal.invariant-loop-request
invariant-loop-request g l =
    let used = used_bytes g.B.Buffer.size g.B.Buffer.used in
    vec_items l.bytes ++ used (pairs_rest l.request-iterator) l.rest ≡ used (zip l.self.requests.now l.self.replies) l.buffer
