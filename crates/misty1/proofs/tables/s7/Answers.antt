use Rattle.misty1.specs.Tables.{S7, table7}
use Rattle.misty1.specs.Boxes.{S7_is}
use Rattle.misty1.proofs.Lookup.{looked_up}
use Rattle.misty1.proofs.tables.s7.Goals as goal

pub returns : goal.returns
unfolding S7 table7
returns c = record {
  entry = looked_up table7 _ _ c.from.ensures _ c.get.ensures.lookup _ c.copied.ensures;
  stands = S7_is;
}
