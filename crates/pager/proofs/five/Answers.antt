-- `pager::five` meets its contract: what is put in the place of five bytes is stored there.
use Rattle.std.proofs.Common.{◌∙◌, ◌+◌, ap, arith}
use lib.ListN.{length-take, length-drop}
use lib.Seq.{sets}
use Rattle.text.proofs.Columns.{put-sets}
use Rattle.pager.proofs.five.Goals as goal

pub returns : goal.returns
returns c =
    let a = c.args in
    let e = c.copy_from_slice.ensures in
    let l = simp (length-take, length-drop) at e.len in
    put-sets a.at (a.at + 5) a.out.now c.copy_from_slice.new.self (omega arith) (omega (arith, c.requires)) (omega (arith, l, c.requires))
    ∙ ap (sets a.out.now a.at) e.after
