use Rattle.std.proofs.Common.{◌≡◌, length, rules}
use Rattle.stream.proofs.Blocks.{opened_last_is}
use Rattle.stream.proofs.last.opened_last.Goals as goal

pub returns : goal.returns
returns g c =
    let eight : length c.args.last.now ≡ 8 = search rules in
    opened_last_is ((g.M.Mode.steps c.args.through.now.mode).opening (g.C.Cipher.meaning c.args.through.now.cipher)) c.args.register c.args.last.now _ _ _ _ eight c.from_bytes-sealed.ensures c.open-block.ensures c.to_bytes.ensures c.tail_length.ensures
