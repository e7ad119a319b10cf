use Rattle.std.proofs.Common.{sym, ◌∙◌}
use Rattle.session.proofs.Kept.{kept_is, idle_end, end_spent, spent_kept}
use Rattle.session.proofs.Session.end.Goals as goal

pub returns-in_default-clause-did : goal.returns-in_default-clause-did
returns-in_default-clause-did g c =
    let s = c.args.self.now in
    idle_end _ _ _ s.line (sym (kept_is s.line _ _ (sym c.take.ensures.value ∙ c.in_default.is) s.kept)) _ _ _ _

pub invariant_of-self-2 : goal.invariant_of-self-2
invariant_of-self-2 g c =
    let s = c.args.self.now in
    let new = c.end.new.line in
    let slip = c.in-Some.slip in
    let spent = end_spent g.K.Kind.opening g.M.Mode.steps g.C.Cipher.meaning s.line new slip _ _ c.end.result _ c.end.ensures.did c.end.ensures.slip in
    record {
      kept = kept_is new _ _ (sym c.hand_back.ensures.slip)
          (spent_kept s.line new slip c.end.result spent (kept_is s.line _ _ (sym c.take.ensures.value ∙ c.in-Some.is) s.kept));
    }
