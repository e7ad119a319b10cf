use Rattle.std.proofs.Common.{◌≡◌, ◌+◌, ◌-◌, ◌≤◌, length, get_or, take, drop, set, sym, refl, ap, ◌∙◌, subst, arith, length-drop, rules}
use Rattle.std.proofs.lemmas.List.{length-take-le}
use borrow.Rule.Slice.PartMut.{put_mid}
use Rattle.line.specs.declared.request.Request.TheVariants.{Begin}
use Rattle.line.specs.Performs.{params_of}
use Rattle.line.specs.Model.{Fit, params, after}
use Rattle.line.specs.Replay.{output_size, call_of}
use Rattle.line.proofs.Replays.{Sofar, room_for, one_more_at, all_done}
use Rattle.line.proofs.replay.perform_all.Goals as goal

pub split_at-requires : goal.split_at-requires
split_at-requires g c =
    (room_for {y = output_size (get_or c.args.requests.now c.loop-i.i (Begin 0))} (Begin 0) c.loop-i-test.true c.loop-i.invariant.0 c.input_size.ensures refl).0

pub overflow_add-written_to : goal.overflow_add-written_to
overflow_add-written_to g c =
    let room = room_for (Begin 0) c.loop-i-test.true c.loop-i.invariant.0 c.input_size.ensures c.output_size.ensures in
    search rules

pub slice_bounds-perform-end : goal.slice_bounds-perform-end
slice_bounds-perform-end g c =
    let room = room_for (Begin 0) c.loop-i-test.true c.loop-i.invariant.0 c.input_size.ensures c.output_size.ensures in
    search rules

pub loop-i-preserved : goal.loop-i-preserved
loop-i-preserved g c =
    let old = c.args.line.now in
    let p = params_of g.K.Kind.opening g.M.Mode.steps g.C.Cipher.meaning old in
    let line = c.loop-i.line in
    let rest = c.loop-i.rest.now in
    let wrote = c.loop-i.written in
    let x = c.input_size.result in
    let y = c.output_size.result in
    let new = c.perform.new.self in
    let did = c.perform.ensures.did in
    let (sofar, block_mode, number) = c.loop-i.invariant in
    let same : params_of g.K.Kind.opening g.M.Mode.steps g.C.Cipher.meaning line ≡ p =
    λ i. params (g.K.Kind.opening (block_mode i).kind) (g.M.Mode.steps (block_mode i).mode) (g.C.Cipher.meaning (block_mode i).cipher) (number i) in
    let request = get_or c.args.requests.now c.loop-i.i (Begin 0) in
    let lent = take (wrote + y - wrote) (drop wrote c.loop-i.outputs) in
    let room = room_for (Begin 0) c.loop-i-test.true sofar c.input_size.ensures c.output_size.ensures in
    let within : wrote + y - wrote ≤ length (drop wrote c.loop-i.outputs) = omega (arith, room.1, length-drop wrote c.loop-i.outputs) in
    let size : length c.perform.new.output ≡ wrote + y - wrote = c.perform.auto.output ∙ length-take-le (wrote + y - wrote) (drop wrote c.loop-i.outputs) within in
    let back : wrote + y - wrote ≡ y = omega arith in (
      subst (λ l. Sofar p old.machine.state c.args.requests.now c.args.inputs.now c.args.outputs.now c.args.replies.now (c.loop-i.i + 1) l (wrote + y) new.machine.state (put_mid wrote (wrote + y - wrote) c.loop-i.outputs c.perform.new.output) (set c.loop-i.replies c.loop-i.i c.perform.result)) (sym c.split_at.ensures.back)
          (one_more_at p old.machine.state c.args.requests.now c.args.inputs.now c.args.outputs.now c.args.replies.now c.loop-i.i rest wrote line.machine.state new.machine.state c.loop-i.outputs c.loop-i.replies (Begin 0) c.perform.result c.perform.new.output x (wrote + y - wrote) (wrote + y) c.loop-i-test.true c.requires.room sofar c.input_size.ensures (back ∙ c.output_size.ensures) (ap (λ n. wrote + n) c.output_size.ensures)
          (subst (λ l. after p line.machine.state (call_of request l lent) ≡ record { state = new.machine.state; answer = c.perform.result; out = c.perform.new.output }) c.split_at.ensures.front
          (subst (λ q. after q line.machine.state (call_of request c.split_at.result.0.now lent) ≡ record { state = new.machine.state; answer = c.perform.result; out = c.perform.new.output }) same did.did))
          (subst (λ l. Fit (call_of request l lent)) c.split_at.ensures.front c.perform.ensures.fit) size),
      did.block_mode ∙ block_mode,
      did.number ∙ number,
    )

pub returns : goal.returns
returns g c =
    let old = c.args.line.now in
    let p = params_of g.K.Kind.opening g.M.Mode.steps g.C.Cipher.meaning old in
    let room : c.loop-i.i ≤ length c.args.replies.now = omega (arith, c.requires.room) in
    let all = all_done p old.machine.state c.args.requests.now c.args.inputs.now c.args.outputs.now c.args.replies.now c.loop-i.i c.loop-i.rest.now c.loop-i.written c.loop-i.line.machine.state c.loop-i.outputs c.loop-i.replies c.loop-i-test.false room c.loop-i.invariant.0 in
    record { state = all.state; out = all.out; reply = all.reply; fit = all.fit }
