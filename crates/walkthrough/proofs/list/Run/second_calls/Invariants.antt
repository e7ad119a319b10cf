use Rattle.std.proofs.Common.{◌≡◌, ◌++◌, vec_items}
use Rattle.std.specs.List.{zip}
use Rattle.walkthrough.proofs.Pairs.{pairs_rest}
use Rattle.walkthrough.specs.Second.{second_calls}
use Rattle.walkthrough.proofs.list.Run.second_calls.Given as goal

abbrev pub invariant-loop-request : goal.invariant-loop-request
invariant-loop-request l =
    vec_items l.calls ++ second_calls (pairs_rest l.request-iterator) ≡ second_calls (zip l.self.requests.now l.self.replies)
