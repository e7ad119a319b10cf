use Rattle.std.proofs.Common.{◌≡◌, ◌-◌, length, take, drop, ap, ◌∙◌, arith}
use Rattle.std.specs.List.{flat_map}
use Rattle.block.specs.Block.{bytes_of, blocks_of}
use Rattle.stream.specs.Stream.{step_through, outs, last_register, fitting, overwritten}
use Rattle.stream.proofs.Blocks.{take_cut}
use Rattle.stream.proofs.Through.{directed_step}
use Rattle.stream.proofs.BlockMode.pass.Goals as goal

pub returns : goal.returns
returns g c =
    let step = step_through g.K.Kind.opening g.M.Mode.steps g.C.Cipher.meaning c.args.self.now in
    let way = c.directed.ensures in
    let same = directed_step g.K.Kind.opening g.M.Mode.steps g.C.Cipher.meaning c.args.self.now c.directed.result way.kind way.cipher way.mode in
    let input = c.args.input.now in
    let output = c.args.output.now in
    let room = c.min-room.result in
    let back : room - 0 ≡ room = omega arith in
    let part : take (room - 0) (drop 0 input) ≡ fitting input output = ap (λ n. take n input) back ∙ take_cut (length output) room input c.min-room.ensures in
    record {
      register = c.blocks-2.ensures.register ∙ (λ i. last_register (same i) c.args.start (blocks_of (part i)));
      out = c.blocks-2.ensures.out ∙ (λ i. overwritten (flat_map bytes_of (outs (same i) c.args.start (blocks_of (part i)))) output);
    }
