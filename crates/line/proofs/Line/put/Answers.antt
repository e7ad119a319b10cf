use Rattle.line.proofs.Performed.{taken_is}
use Rattle.line.proofs.Line.put.Goals as goal

pub returns : goal.returns
returns g c =
    taken_is g.K.Kind.opening g.M.Mode.steps g.C.Cipher.meaning c.args.self.now c.put_step.new.self _ _ c.args.input.now c.args.output.now c.in_ok-put_step.ensures
