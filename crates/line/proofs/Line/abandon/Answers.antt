use Rattle.line.proofs.Performed.{abandoned_is, settled_ok}
use Rattle.line.proofs.Line.abandon.Goals as goal

pub returns-clause-did : goal.returns-clause-did
returns-clause-did g c =
    let accepted = settled_ok _ c.abandon_step-decided.result c.in_ok-settle.field-0 c.in_ok-settle.ensures in
    abandoned_is g.K.Kind.opening g.M.Mode.steps g.C.Cipher.meaning c.args.self.now c.abandon_step-decided.new.self _ _ c.args.slip.line c.args.slip.file _ c.blocks-2.ensures (rw accepted at c.abandon_step-decided.ensures)
