use Rattle.std.proofs.Common.{[]}
use Rattle.line.specs.Model.{Call, written, refusal_to}
use Rattle.line.specs.Performs.{params_of}
use Rattle.line.proofs.Performed.{performed, unless_same}
use Rattle.line.proofs.Line.abandon_step.Goals as goal

pub returns : goal.returns
unfolding written
returns g c =
    let old = c.args.self.now in
    let p = params_of g.K.Kind.opening g.M.Mode.steps g.C.Cipher.meaning old in
    let call = Call.Abandon c.args.line c.args.file in
    let did = c.decide.ensures in
    record {
      did = performed p old.machine.state call c.decide.new.self.machine.state c.decide.result [] did.after did.result (unless_same (refusal_to p old.machine.state call) []);
      block_mode = did.block_mode;
      number = did.number;
    }
