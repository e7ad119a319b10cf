use Rattle.std.proofs.Common.{◌≡◌, ne_eqb, eqb, false, is_some, None, refl, sym, ap, ◌∙◌}
use Rattle.session.specs.Slips.{number_of, owing, owed}
use Rattle.session.proofs.Kept.{put_owed}
use Rattle.walkthrough.proofs.Refused.{idle_put, odd_put, second_begin, foreign_end, put_err, begin_err, end_err, offers, at_some}
use Rattle.walkthrough.proofs.Left.{at_ok, begins, idle_kept}
use Rattle.walkthrough.proofs.refusals.try_sealing.Goals as goal

pub unwrap-requires : goal.unwrap-requires
unwrap-requires c =
    let old = c.args.session.now.line in
    let idle : owed old ≡ None = ap (λ s. owing (is_some s.running) (number_of old) s.files) c.requires.new in
    let still = idle_kept _ _ _ old c.put-idle.new.self.line _ _ c.put-idle.result _ idle c.put-idle.ensures in
    begins _ _ _ c.put-idle.new.self.line c.begin.new.self.line _ c.begin.result _ (still ∙ c.requires.new) c.begin.ensures.did

pub unwrap-requires-2 : goal.unwrap-requires-2
unwrap-requires-2 c = begins _ _ _ c.args.other.now.line c.begin-2.new.self.line _ c.begin-2.result _ c.requires.new_other c.begin-2.ensures.did

pub unwrap-slip-requires : goal.unwrap-slip-requires
unwrap-slip-requires c = ap is_some c.slip.ensures ∙ at_ok _ c.begin.result c.unwrap.result c.unwrap.ensures c.begin.ensures.runs

pub unwrap-foreign-requires : goal.unwrap-foreign-requires
unwrap-foreign-requires c =
    offers c.end_by.result c.begin-2.new.self.line _ _ c.end_by.ensures.none (at_ok _ c.begin-2.result c.unwrap-2.result c.unwrap-2.ensures c.begin-2.ensures.runs)

pub returns-clause-idle : goal.returns-clause-idle
returns-clause-idle c =
    let old = c.args.session.now.line in
    let idle : owed old ≡ None = ap (λ s. owing (is_some s.running) (number_of old) s.files) c.requires.new in
    c.new-idle.ensures.refused ∙ put_err c.put-idle.result _ (idle_put _ _ _ old c.put-idle.new.self.line _ _ _ _ idle c.put-idle.ensures)

pub returns-clause-odd : goal.returns-clause-odd
returns-clause-odd c =
    let runs = at_ok _ c.begin.result c.unwrap.result c.unwrap.ensures c.begin.ensures.runs in
    c.new-odd.ensures.refused
    ∙ put_err c.put-odd.result _ (odd_put _ _ _ c.begin.new.self.line c.put-odd.new.self.line _ _ runs _ _ refl c.put-odd.ensures)

pub returns-clause-again : goal.returns-clause-again
returns-clause-again c =
    let runs = at_ok _ c.begin.result c.unwrap.result c.unwrap.ensures c.begin.ensures.runs in
    let odd = put_owed _ _ _ c.begin.new.self.line c.put-odd.new.self.line _ _ c.put-odd.result _ c.put-odd.ensures in
    let again = second_begin _ _ _ c.put-odd.new.self.line c.begin-again.new.self.line _ _ (ap is_some odd ∙ runs) _ c.begin-again.ensures.did in
    c.new-again.ensures.refused ∙ begin_err c.begin-again.new.self.line c.begin-again.result _ again.0

pub returns-clause-foreign : goal.returns-clause-foreign
returns-clause-foreign c =
    let line = c.begin-again.new.self.line in
    let other = c.begin-2.new.self.line in
    let runs = at_ok _ c.begin.result c.unwrap.result c.unwrap.ensures c.begin.ensures.runs in
    let odd = put_owed _ _ _ c.begin.new.self.line c.put-odd.new.self.line _ _ c.put-odd.result _ c.put-odd.ensures in
    let again = second_begin _ _ _ c.put-odd.new.self.line line _ _ (ap is_some odd ∙ runs) _ c.begin-again.ensures.did in
    let own = c.begin-again.ensures.did.number ∙ c.put-odd.ensures.number ∙ c.begin.ensures.did.number ∙ c.put-idle.ensures.number in
    let apart : eqb (number_of other) (number_of line) ≡ false =
    ne_eqb _ _ (λ e. c.requires.apart (sym own ∙ sym e ∙ c.begin-2.ensures.did.number)) in
    let tried = at_some _ c.end_by.result c.unwrap-foreign.result c.unwrap-foreign.ensures c.end_by.ensures.some in
    c.new-foreign.ensures.refused
    ∙ end_err false c.unwrap-foreign.result _
    (foreign_end _ _ _ line c.end_by.new.self.line _ _ (ap is_some (again.1 ∙ odd) ∙ runs) _ _ _ _ apart tried)
