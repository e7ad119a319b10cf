use Rattle.std.proofs.Common.{sym, ◌∙◌}
use Rattle.session.proofs.Kept.{kept_is, idle_abandon, abandon_spent, spent_kept}
use Rattle.session.proofs.Session.abandon.Goals as goal

pub returns-in_default : goal.returns-in_default
returns-in_default g c =
    let s = c.args.self.now in
    idle_abandon _ _ _ s.line (sym (kept_is s.line _ _ (sym c.take.ensures.value ∙ c.in_default.is) s.kept)) _ _

pub invariant_of-self-2 : goal.invariant_of-self-2
invariant_of-self-2 g c =
    let s = c.args.self.now in
    let new = c.abandon.new.self in
    let slip = c.in-Some.slip in
    let spent = abandon_spent g.K.Kind.opening g.M.Mode.steps g.C.Cipher.meaning s.line new slip c.abandon.result _ c.abandon.ensures.did c.abandon.ensures.slip in
    record {
      kept = kept_is new _ _ (sym c.hand_back.ensures.slip)
          (spent_kept s.line new slip c.abandon.result spent (kept_is s.line _ _ (sym c.take.ensures.value ∙ c.in-Some.is) s.kept));
    }
