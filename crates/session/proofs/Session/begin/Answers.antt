use Rattle.std.proofs.Common.{is_some, sym, ap, ◌∙◌}
use Rattle.std.specs.Option.{option_map}
use Rattle.session.specs.Slips.{numbers}
use Rattle.session.proofs.Kept.{begin_owed, refused_owed, no_slip}
use Rattle.session.proofs.Session.begin.Goals as goal

pub invariant_of-self : goal.invariant_of-self
invariant_of-self g c = record { kept = c.args.self.now.kept ∙ sym (refused_owed _ _ _ c.args.self.now.line c.begin.new.self _ _ _ c.in_err-slip.ensures) }

pub put_back-requires : goal.put_back-requires
put_back-requires g c =
    no_slip c.args.self.now.line _ c.args.self.now.kept (begin_owed _ _ _ c.args.self.now.line c.begin.new.self _ c.in_ok-slip.slip _ c.in_ok-slip.ensures).1

pub invariant_of-self-2 : goal.invariant_of-self-2
invariant_of-self-2 g c =
    record { kept = ap (option_map numbers) c.put_back.ensures ∙ (begin_owed _ _ _ c.args.self.now.line c.begin.new.self _ c.in_ok-slip.slip _ c.in_ok-slip.ensures).0 }

pub returns-clause-runs : goal.returns-clause-runs
returns-clause-runs g c =
    ap is_some (sym (begin_owed _ _ _ c.args.self.now.line c.begin.new.self _ c.in_ok-slip.slip _ c.in_ok-slip.ensures).0)
