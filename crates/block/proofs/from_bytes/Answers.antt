use Rattle.std.proofs.Common.{◌≡◌, length, ap, arith, rules}
use Rattle.block.specs.Block.{number}
use Rattle.block.proofs.Bytes.{eight}
use Rattle.block.proofs.from_bytes.Goals as goal

pub returns : goal.returns
returns c =
    let e : length c.args.bytes ≡ 8 = search rules in
    omega (arith, ap number (eight c.args.bytes e), c.from_be_bytes.ensures)
