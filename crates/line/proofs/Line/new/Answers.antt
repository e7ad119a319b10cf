use Rattle.line.proofs.AllLaws.{laws}
use Rattle.line.proofs.Line.new.Goals as goal

pub returns-clause-laws : goal.returns-clause-laws
returns-clause-laws g c =
    laws (g.K.Kind.opening c.args.kind) (g.C.Cipher.meaning c.args.cipher) (g.M.Mode.steps c.args.mode) c.args.number
    (g.met.C.Cipher.sound c.args.cipher) (g.met.M.Mode.lawful c.args.mode)
