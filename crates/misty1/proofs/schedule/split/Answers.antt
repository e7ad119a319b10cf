use Rattle.std.proofs.Common.{rules, ◌≡◌, ℕ, ◌-◌, ◌*◌, ◌/◌, ◌%◌, ◌^◌, ◌<◌, slice_index}
use Rattle.std.proofs.Math.Nat.{div-one}
use Rattle.std.proofs.lemmas.List.FromFn.{fill_by_all}
use Rattle.misty1.specs.Schedule.{words_of}
use Rattle.misty1.proofs.Words.{low16}
use Rattle.misty1.proofs.schedule.split.Goals as goal

pub returns : goal.returns
unfolding words_of
returns c =
    let at : (i : ℕ) → i < 8 → slice_index c.from_fn.result i ≡ c.args.n / 2 ^ (112 - 16 * i) % 2 ^ 16 = λ i h. search (rules, low16) in
    simp div-one at (fill_by_all _ c.from_fn.result 8 0 (search rules) at)
