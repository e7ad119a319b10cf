use Rattle.std.proofs.Common.{ap, ◌∙◌, subst, sym, ◌<◌}
use Rattle.misty1.specs.Tables.{S7, table7}
use Rattle.misty1.specs.Boxes.{S7_below}
use Rattle.misty1.proofs.tables.seven.Goals as goal

pub returns : goal.returns
unfolding S7 table7
returns c =
    let entry = c.from-2.ensures ∙ ap S7 c.from.ensures in
    record { entry = entry; fits = subst (λ n. n < 128) (sym entry) (S7_below c.args.x) }
