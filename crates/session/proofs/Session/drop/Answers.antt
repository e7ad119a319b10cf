use Rattle.std.proofs.Common.{sym}
use Rattle.session.proofs.Kept.{kept_is, abandon_fits}
use Rattle.session.proofs.Session.drop.Goals as goal

pub unreachable-requires : goal.unreachable-requires
unreachable-requires g c =
    abandon_fits _ _ _ c.args.self.line c.abandon.new.self _ _ _ _ (sym (kept_is c.args.self.line _ _ c.in-Some.is c.args.self.kept)) c.in-Err.ensures.did
