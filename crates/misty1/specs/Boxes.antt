-- S7 and S9: bounds, and what is stated of them. Each is a test that antt computes over the whole table. Assumes nothing.
use Rattle.std.specs.Prelude.{ℕ, ◌^◌, ◌<◌}
use Rattle.std.proofs.Common.{lit<}
use Rattle.misty1.specs.Tables.{table7, table9, S7, S9}
use Rattle.misty1.specs.Forms.{bit, product, parity, value, forms7, forms9, S7Stands, S9Stands}
use Rattle.misty1.specs.Table.{at, small, once}

pub S7_below : (x : ℕ) → S7 x < 2 ^ 7
unfolding S7 table7
S7_below x = small 128 (lit< tt) table7 0 tt x

pub S9_below : (x : ℕ) → S9 x < 2 ^ 9
unfolding S9 table9
S9_below x = small 512 (lit< tt) table9 0 tt x

pub S7_is : S7Stands
unfolding S7 table7 forms7 value parity product bit
S7_is = (at (λ x. value x forms7) table7 tt, once table7 tt)

pub S9_is : S9Stands
unfolding S9 table9 forms9 value parity product bit
S9_is = (at (λ x. value x forms9) table9 tt, once table9 tt)
