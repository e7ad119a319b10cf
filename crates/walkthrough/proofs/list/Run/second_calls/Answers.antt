use Rattle.std.proofs.Common.{vec_items, refl, ◌∙◌}
use Rattle.walkthrough.proofs.Pairs.{pairs_rest, pairs_rest_more, pairs_rest_all}
use Rattle.walkthrough.specs.Second.{second_calls}
use Rattle.walkthrough.proofs.Handed.{calls_more, calls_skip, all_done}
use Rattle.walkthrough.proofs.list.Run.second_calls.Goals as goal

pub loop-request-preserved-in-Continue-1 : goal.loop-request-preserved-in-Continue-1
loop-request-preserved-in-Continue-1 c =
    calls_more _ _ _ _ (pairs_rest_more c.loop-request.request-iterator c.next.new.self _ _ c.in-Some.is c.next.ensures.steps) (vec_items c.loop-request.calls) _ _ c.in-Ok.answer _ c.in-Ok.is c.written.ensures c.handed_on.ensures c.in_ok-push.ensures.items
    ∙ c.loop-request.invariant

pub loop-request-preserved : goal.loop-request-preserved
loop-request-preserved c =
    calls_skip _ _ _ _ (pairs_rest_more c.loop-request.request-iterator c.next.new.self _ _ c.in-Some.is c.next.ensures.steps) (vec_items c.loop-request.calls) _ c.in_default.is
    ∙ c.loop-request.invariant

pub returns : goal.returns
unfolding second_calls
returns c = all_done second_calls _ _ (pairs_rest c.loop-request.request-iterator) refl (pairs_rest_all c.loop-request.request-iterator c.next.new.self _ c.in-None.is c.next.ensures.steps) c.loop-request.invariant
