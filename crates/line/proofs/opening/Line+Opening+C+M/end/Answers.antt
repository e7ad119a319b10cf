use Rattle.std.proofs.Common.{true, refl}
use Rattle.line.proofs.Performed.{opened_is, settled_ok}
use Rattle.line.proofs.opening.Line+Opening+C+M.end.Goals as goal

pub returns-clause-did : goal.returns-clause-did
returns-clause-did g c =
    let accepted = settled_ok _ c.end_step-decided.result c.in_ok-answer.answer c.in_ok-answer.ensures in
    opened_is (λ _. true) g.M.Mode.steps g.C.Cipher.meaning c.args.self.now c.end_step-decided.new.self _ _ c.args.slip.line c.args.slip.file _ _ c.args.last.now c.args.output.now
    c.blocks-2.ensures c.tail.ensures refl (rw accepted at c.end_step-decided.ensures)
