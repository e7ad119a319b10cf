use Rattle.line.proofs.Performed.{begun_is}
use Rattle.line.proofs.Line.begin.Goals as goal

pub returns : goal.returns
returns g c =
    begun_is g.K.Kind.opening g.M.Mode.steps g.C.Cipher.meaning c.args.self.now c.begin_step.new.self _ _ c.args.start c.files.result c.files.ensures c.in_ok-begin_step.ensures
