use Rattle.std.proofs.Common.{◌≡◌, [], ap, ◌∙◌, rules}
use Rattle.std.proofs.lemmas.List.{nil_from_length}
use Rattle.block.proofs.Bytes.{typed_bytes}
use Rattle.line.specs.Replay.{output_size}
use Rattle.line.proofs.Line.perform.Goals as goal

pub returns-in-Begin : goal.returns-in-Begin
returns-in-Begin g c =
    let none : c.args.output.now ≡ [] = nil_from_length c.args.output.now (c.requires.write ∙ ap output_size c.in-Begin.is) in
    rw (none, c.in-Begin.is) (record { did = c.begin_step.ensures; fit = search rules })

pub returns-in-Put : goal.returns-in-Put
returns-in-Put g c = rw c.in-Put.is (record { did = c.put_step.ensures; fit = typed_bytes c.args.input.now (λ i. (c.type_inv.input i).fits) })

pub returns-in-End : goal.returns-in-End
returns-in-End g c = rw c.in-End.is (record { did = c.end_step.ensures; fit = typed_bytes c.args.input.now (λ i. (c.type_inv.input i).fits) })

pub returns-in-Abandon : goal.returns-in-Abandon
returns-in-Abandon g c =
    let none : c.args.output.now ≡ [] = nil_from_length c.args.output.now (c.requires.write ∙ ap output_size c.in-Abandon.is) in
    rw (none, c.in-Abandon.is) (record { did = c.abandon_step.ensures; fit = tt })
