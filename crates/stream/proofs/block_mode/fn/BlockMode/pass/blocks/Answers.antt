use Rattle.std.proofs.Common.{◌≡◌, ◌+◌, ◌-◌, ◌<◌, ◌≤◌, length, take, drop, sym, ap, ◌∙◌, subst, arith, length-drop, rules}
use borrow.Rule.Slice.PartMut.{put_mid}
use Rattle.std.proofs.lemmas.List.{take_rest}
use Rattle.stream.specs.Stream.{step_through}
use Rattle.stream.proofs.Blocks.{Passed, passed_more, passed_all}
use Rattle.stream.proofs.block_mode.fn.BlockMode.pass.blocks.Goals as goal

pub loop-rest-preserved : goal.loop-rest-preserved
loop-rest-preserved g c =
    let step = step_through g.K.Kind.opening g.M.Mode.steps g.C.Cipher.meaning c.args.through.now in
    let rest = c.loop-rest.rest.now in
    let at = length c.args.input.now - length rest in
    let more = take (length rest - 8) (drop 8 rest) in
    let bytes = c.copy_from_slice.new.self in
    let eight : 8 ≤ length rest = search rules in
    let one : (at + 8) - at ≡ 8 = omega arith in
    let left : length more ≡ length rest - 8 = ap length (take_rest rest 8) ∙ length-drop 8 rest in
    let next : at + 8 ≡ length c.args.input.now - length more = omega (arith, c.loop-rest.invariant.room, left, eight) in
    subst (λ n. Passed step c.args.start c.args.input.now c.args.output.now c.step-given.result.1 n more (put_mid at (at + 8 - at) c.loop-rest.output bytes)) next
    (subst (λ n. Passed step c.args.start c.args.input.now c.args.output.now c.step-given.result.1 (at + 8) more (put_mid at n c.loop-rest.output bytes)) (sym one)
    (passed_more step c.args.start c.args.input.now c.args.output.now c.loop-rest.register at rest c.loop-rest.output c.from_bytes-taken.result c.step-given.result bytes more c.requires eight c.loop-rest.invariant c.from_bytes-taken.ensures c.step-given.ensures (c.copy_from_slice.ensures.after ∙ c.to_bytes.ensures) (take_rest rest 8)))

pub returns : goal.returns
returns g c =
    let step = step_through g.K.Kind.opening g.M.Mode.steps g.C.Cipher.meaning c.args.through.now in
    let short : length c.loop-rest.rest.now < 8 = search rules in
    let all = passed_all step c.args.start c.args.input.now c.args.output.now c.loop-rest.register (length c.args.input.now - length c.loop-rest.rest.now) c.loop-rest.rest.now c.loop-rest.output c.requires short c.loop-rest.invariant in
    record { register = all.0; out = all.1 }
