use Rattle.std.proofs.Common.{sym, ◌∙◌}
use Rattle.line.proofs.Replays.{fits_more, fits_not, fits_all}
use Rattle.line.proofs.replay.bytes_fit.Goals as goal

pub returns-then-reads-input : goal.returns-then-reads-input
returns-then-reads-input c =
    sym (fits_not c.args.requests.now c.loop-request.request-index _ c.loop-request.input c.loop-request.output c.input_size-reads.result c.output_size-writes.result c.loop-request-test.true c.input_size-reads.ensures c.output_size-writes.ensures c.then-reads-input.either)
    ∙ c.loop-request.invariant

pub loop-request-preserved : goal.loop-request-preserved
loop-request-preserved c =
    fits_more c.args.requests.now c.loop-request.request-index _ c.loop-request.input c.loop-request.output c.input_size-reads.result c.output_size-writes.result c.loop-request-test.true c.input_size-reads.ensures c.output_size-writes.ensures c.if-reads-input.false c.if-writes-output.false
    ∙ c.loop-request.invariant

pub returns : goal.returns
returns c = sym (fits_all c.args.requests.now c.loop-request.request-index c.loop-request.input c.loop-request.output c.loop-request-test.false) ∙ c.loop-request.invariant
