use Rattle.std.proofs.Common.{◌+◌, ◌*◌, ◌<◌, drop, sym, ap, ◌∙◌, arith}
use Rattle.block.specs.Block.{number_after}
use Rattle.std.proofs.lemmas.List.{at_drop_more, at_drop_all}
use Rattle.misty1.proofs.Words.{byte_fits, key_fits}
use Rattle.misty1.proofs.schedule.fn.Misty1.new.number.Goals as goal

pub overflow_mul-n : goal.overflow_mul-n
overflow_mul-n c =
    let more = byte_fits c.loop-byte.n c.loop-byte.byte-index 0 c.loop-byte.invariant.0 (omega arith) in
    omega (arith, key_fits _ _ more (omega arith))

pub overflow_add-n : goal.overflow_add-n
overflow_add-n c =
    let byte : c.from.result < 256 = omega (arith, c.type_inv.bytes c.loop-byte.byte-index) in
    let more = byte_fits c.loop-byte.n c.loop-byte.byte-index c.from.result c.loop-byte.invariant.0 byte in
    omega (arith, key_fits _ _ more (omega arith))

pub loop-byte-preserved : goal.loop-byte-preserved
loop-byte-preserved c =
    let byte : c.from.result < 256 = omega (arith, c.type_inv.bytes c.loop-byte.byte-index) in
    let step = at_drop_more (number_after c.loop-byte.n) c.args.bytes.now c.loop-byte.byte-index 0 c.loop-byte-test.true in (
      byte_fits c.loop-byte.n c.loop-byte.byte-index c.from.result c.loop-byte.invariant.0 byte,
      ap (λ x. number_after (c.loop-byte.n * 256 + x) (drop (c.loop-byte.byte-index + 1) c.args.bytes.now)) c.from.ensures
          ∙ sym step ∙ c.loop-byte.invariant.1,
    )

pub returns : goal.returns
returns c =
    sym (at_drop_all (number_after c.loop-byte.n) c.args.bytes.now c.loop-byte.byte-index (omega arith)) ∙ c.loop-byte.invariant.1
