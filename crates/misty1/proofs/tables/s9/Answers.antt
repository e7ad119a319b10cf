use Rattle.misty1.specs.Tables.{S9, table9}
use Rattle.misty1.specs.Boxes.{S9_is}
use Rattle.misty1.proofs.Lookup.{looked_up}
use Rattle.misty1.proofs.tables.s9.Goals as goal

pub returns : goal.returns
unfolding S9 table9
returns c = record {
  entry = looked_up table9 _ _ c.from.ensures _ c.get.ensures.lookup _ c.copied.ensures;
  stands = S9_is;
}
