use Rattle.std.proofs.Common.{sym, ap, ◌∙◌}
use Rattle.std.specs.Result.{is_ok}
use Rattle.session.proofs.Kept.{kept_is, end_spent, spent_ok, spent_err}
use Rattle.session.proofs.Session.end_by.Goals as goal

pub invariant_of-self : goal.invariant_of-self
invariant_of-self g c =
    let s = c.args.self.now in
    let new = c.end.new.line in
    let spent = end_spent g.K.Kind.opening g.M.Mode.steps g.C.Cipher.meaning s.line new c.in_ok-slip.slip _ _ c.end.result _ c.end.ensures.did c.end.ensures.slip in
    let ok = ap is_ok (sym c.hand_back-answer.ensures.answer) ∙ sym c.is_ok.ensures.value ∙ c.if-is_ok.true in
    record { kept = kept_is new _ _ (sym (c.swap.ensures.x_after ∙ c.hand_back-answer.ensures.slip)) (spent_ok s.line new c.in_ok-slip.slip c.end.result spent ok).1 }

pub invariant_of-other-then-is_ok : goal.invariant_of-other-then-is_ok
invariant_of-other-then-is_ok g c =
    let s = c.args.self.now in
    let o = c.args.other.now in
    let new = c.end.new.line in
    let spent = end_spent g.K.Kind.opening g.M.Mode.steps g.C.Cipher.meaning s.line new c.in_ok-slip.slip _ _ c.end.result _ c.end.ensures.did c.end.ensures.slip in
    let ok = ap is_ok (sym c.hand_back-answer.ensures.answer) ∙ sym c.is_ok.ensures.value ∙ c.if-is_ok.true in
    record {
      kept = kept_is o.line _ _ (sym c.swap.ensures.y_after)
          (s.kept ∙ (spent_ok s.line new c.in_ok-slip.slip c.end.result spent ok).0
          ∙ kept_is o.line _ _ (sym c.take.ensures.value ∙ c.in_ok-slip.was) o.kept);
    }

pub invariant_of-self-else-is_ok : goal.invariant_of-self-else-is_ok
invariant_of-self-else-is_ok g c =
    let s = c.args.self.now in
    let new = c.end.new.line in
    let spent = end_spent g.K.Kind.opening g.M.Mode.steps g.C.Cipher.meaning s.line new c.in_ok-slip.slip _ _ c.end.result _ c.end.ensures.did c.end.ensures.slip in
    let err = ap is_ok (sym c.hand_back-answer.ensures.answer) ∙ sym c.is_ok.ensures.value ∙ c.if-is_ok.false in
    record { kept = s.kept ∙ sym (spent_err s.line new c.in_ok-slip.slip c.end.result spent err) }
