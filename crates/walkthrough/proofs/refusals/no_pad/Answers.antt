use Rattle.walkthrough.proofs.Left.{begins}
use Rattle.walkthrough.proofs.refusals.no_pad.Goals as goal

pub unwrap-requires : goal.unwrap-requires
unwrap-requires c = begins _ _ _ c.args.opener.now.line c.begin.new.self.line _ c.begin.result _ c.requires c.begin.ensures.did
