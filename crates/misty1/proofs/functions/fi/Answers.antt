use Rattle.std.proofs.Common.{◌^◌, ◌<◌, arith}
use lib.Bits.{xor_lt}
use Rattle.misty1.specs.Functions.{FI}
use Rattle.misty1.specs.Boxes.{S7_below, S9_below}
use Rattle.misty1.specs.Fits.{low7, low9, R2_below, R3_below, joined}
use Rattle.misty1.proofs.functions.fi.Goals as goal

pub nine-requires-2 : goal.nine-requires-2
nine-requires-2 c =
    simp (low7, low9) (xor_lt 9 _ _ (xor_lt 9 _ _ c.nine.ensures.fits (omega arith)) (omega arith))

pub returns : goal.returns
unfolding FI
returns c =
    let key : c.args.ki < 2 ^ 16 = omega arith in
    simp (c.nine-2.ensures.entry, c.seven.ensures.entry, c.nine.ensures.entry, low7, low9)
    (let r2 = R2_below _ _ _ (S7_below _) key in joined _ _ r2 (R3_below _ _ (S9_below _) r2))
