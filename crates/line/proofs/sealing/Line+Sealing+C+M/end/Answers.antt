use Rattle.std.proofs.Common.{false, refl}
use Rattle.line.proofs.Performed.{sealed_is, settled_ok}
use Rattle.line.proofs.sealing.Line+Sealing+C+M.end.Goals as goal

pub returns-clause-did : goal.returns-clause-did
returns-clause-did g c =
    let accepted = settled_ok _ c.end_step-decided.result c.in_ok-settle.field-0 c.in_ok-settle.ensures in
    sealed_is (λ _. false) g.M.Mode.steps g.C.Cipher.meaning c.args.self.now c.end_step-decided.new.self _ _ c.args.slip.line c.args.slip.file _ c.args.tail.now c.args.output.now
    c.blocks-2.ensures refl (rw accepted at c.end_step-decided.ensures)
