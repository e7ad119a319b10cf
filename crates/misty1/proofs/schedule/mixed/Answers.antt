use Rattle.std.proofs.Common.{rules, ◌≡◌, ℕ, ◌+◌, ◌%◌, ◌<◌, slice_index}
use Rattle.std.proofs.lemmas.List.FromFn.{fill_by_all}
use Rattle.misty1.specs.Functions.{FI}
use Rattle.misty1.specs.Schedule.{subkey_of, K'}
use Rattle.misty1.proofs.schedule.mixed.Goals as goal

pub returns : goal.returns
unfolding subkey_of K'
returns c =
    let at : (i : ℕ) → i < 8 → slice_index c.from_fn.result i ≡ FI (slice_index c.args.key i) (slice_index c.args.key ((i + 1) % 8)) = λ i h. search rules in
    fill_by_all _ c.from_fn.result 8 0 (search rules) at
