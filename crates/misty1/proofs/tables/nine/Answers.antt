use Rattle.std.proofs.Common.{ap}
use Rattle.misty1.specs.Tables.{S9, table9}
use Rattle.misty1.specs.Boxes.{S9_below}
use Rattle.misty1.proofs.tables.nine.Goals as goal

pub returns : goal.returns
unfolding S9 table9
returns c = record { entry = ap S9 c.from.ensures; fits = S9_below c.from.result }
