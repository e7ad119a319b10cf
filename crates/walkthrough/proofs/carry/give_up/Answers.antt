use Rattle.std.proofs.Common.{is_some, sym, ap, ◌∙◌}
use Rattle.walkthrough.proofs.Left.{none_is, abandons}
use Rattle.walkthrough.proofs.carry.give_up.Goals as goal

pub unwrap-requires : goal.unwrap-requires
unwrap-requires g c =
    let owes = ap is_some (sym c.slip.ensures) ∙ sym c.is_some.ensures ∙ c.if-is_some.true in
    (abandons _ _ _ c.args.session.now.line c.abandon.new.self.line c.abandon.result _ owes c.abandon.ensures).0

pub returns-then-is_some : goal.returns-then-is_some
returns-then-is_some g c =
    let owes = ap is_some (sym c.slip.ensures) ∙ sym c.is_some.ensures ∙ c.if-is_some.true in
    (abandons _ _ _ c.args.session.now.line c.abandon.new.self.line c.abandon.result _ owes c.abandon.ensures).1

pub returns-else-is_some : goal.returns-else-is_some
returns-else-is_some g c = none_is _ (ap is_some (sym c.slip.ensures) ∙ sym c.is_some.ensures ∙ c.if-is_some.false)
