use Rattle.std.proofs.Common.{Ok, refl}
use Rattle.walkthrough.proofs.Left.{end_left}
use Rattle.walkthrough.proofs.carry.fn.pass.through.Goals as goal

pub returns : goal.returns
returns g c = end_left _ _ _ c.put.new.self.line c.end.new.self.line _ _ _ _ (Ok (c.in_ok-blocks.blocks, c.in_ok-blocks.written)) _ c.in_ok-blocks.ensures.did refl
