use Rattle.std.proofs.Common.{rules, ◌≡◌, ◌≢◌, ℕ, ◌<◌, slice_index, sym, ◌∙◌}
use Rattle.mode.proofs.Padded.{tail_of_zeros, tail_last}
use Rattle.mode.proofs.padding.tail_length.Goals as goal

pub returns-in_err-at : goal.returns-in_err-at
returns-in_err-at c =
    let zeros : (k : ℕ) → k < 8 → slice_index c.args.block k ≡ 0 = λ k h. search rules in
    c.from_residual.ensures ∙ sym (tail_of_zeros c.args.block 8 zeros)

pub returns : goal.returns
returns c =
    let here : slice_index c.args.block c.in_ok-at.at ≢ 0 = search rules in
    let zeros : (k : ℕ) → c.in_ok-at.at < k → k < 8 → slice_index c.args.block k ≡ 0 = λ k l h. search rules in
    c.then_some.ensures ∙ sym (tail_last c.args.block 8 c.in_ok-at.at (search rules) here zeros)
