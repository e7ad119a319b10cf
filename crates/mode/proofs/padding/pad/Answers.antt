use Rattle.std.proofs.Common.{[], ◌∷◌, ◌++◌, length, set, Some, ap, ◌∙◌}
use borrow.Rule.Slice.PartMut.{post_of}
use Rattle.mode.proofs.Padded.{written}
use Rattle.mode.proofs.padding.pad.Goals as goal

pub returns : goal.returns
returns c =
    ap
    (λ front. Some (set (front ++ post_of 0 (length c.args.tail.now) (0 ∷ 0 ∷ 0 ∷ 0 ∷ 0 ∷ 0 ∷ 0 ∷ 0 ∷ [])) (length c.args.tail.now) 0x80))
    c.copy_from_slice.ensures.after
    ∙ written c.args.tail.now c.if-n-ge-BLOCK.false
