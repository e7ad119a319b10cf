use Rattle.std.proofs.Common.{sym, ◌∙◌}
use Rattle.session.proofs.Kept.{put_owed}
use Rattle.session.proofs.Session.put.Goals as goal

pub invariant_of-self : goal.invariant_of-self
invariant_of-self g c = record { kept = c.args.self.now.kept ∙ sym (put_owed _ _ _ c.args.self.now.line c.put.new.self _ _ c.put.result _ c.put.ensures) }
