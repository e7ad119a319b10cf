use Rattle.std.proofs.Common.{vec_items, refl, ◌∙◌}
use Rattle.walkthrough.proofs.Pairs.{pairs_rest, pairs_rest_more, pairs_rest_all}
use Rattle.walkthrough.specs.Second.{used_bytes}
use Rattle.walkthrough.proofs.Handed.{used_more, used_skip, all_done}
use Rattle.walkthrough.proofs.list.Run.used_bytes.Goals as goal

pub loop-request-preserved-in_ok-extend_from_slice : goal.loop-request-preserved-in_ok-extend_from_slice
loop-request-preserved-in_ok-extend_from_slice g c =
    used_more _ _ _ _ (pairs_rest_more c.loop-request.request-iterator c.next.new.self _ _ c.in-Some.is c.next.ensures.steps) g.B.Buffer.size g.B.Buffer.used (vec_items c.loop-request.bytes) c.loop-request.rest.now _ _ c.size.ensures c.cut.ensures.rest _ _ _ c.in-Ok.answer _ c.in-Ok.is c.cut.ensures.front c.used.ensures c.cut-in-Ok.ensures.front c.in_ok-extend_from_slice.ensures.items
    ∙ c.loop-request.invariant

pub loop-request-preserved : goal.loop-request-preserved
loop-request-preserved g c =
    used_skip _ _ _ _ (pairs_rest_more c.loop-request.request-iterator c.next.new.self _ _ c.in-Some.is c.next.ensures.steps) g.B.Buffer.size g.B.Buffer.used (vec_items c.loop-request.bytes) c.loop-request.rest.now _ _ c.size.ensures c.cut.ensures.rest _ c.in_default.is
    ∙ c.loop-request.invariant

pub returns : goal.returns
unfolding used_bytes
returns g c =
    all_done (λ l. used_bytes g.B.Buffer.size g.B.Buffer.used l c.loop-request.rest.now) _ _ (pairs_rest c.loop-request.request-iterator) refl (pairs_rest_all c.loop-request.request-iterator c.next.new.self _ c.in-None.is c.next.ensures.steps) c.loop-request.invariant
