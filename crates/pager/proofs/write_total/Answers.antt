-- `pager::write_total` meets its contract: its parts are those of the line.
use Rattle.std.proofs.Common.{◌++◌, ◌∷◌, [], ℕ, List, ◌∙◌, ap}
use Prim.Native.Char.{code}
use lib.ListN.{replicate}
use lib.Seq.{sets}
use Rattle.text.specs.Text.{space, line_feed, column_text}
use Rattle.page.specs.Layout.{total_text}
use Rattle.page.proofs.Lines.{total-length}
use Rattle.pager.proofs.Stored.{text-put}
use Rattle.pager.proofs.write_total.Goals as goal

pub returns : goal.returns
unfolding total_text
returns c =
    let rest : List ℕ = column_text 6 c.args.total ++ (line_feed ∷ []) in
    let spaces : List ℕ = replicate 5 space in
    text-put (code "T" ∷ replicate 9 space ++ rest) c.args.out.now _ 17 (total-length c.args.total) c.requires
    (c.last_number.ensures ∙ ap (λ (xs : List ℕ). sets xs 10 rest) (c.five-2.ensures ∙ ap (λ (xs : List ℕ). sets xs 5 spaces) c.five.ensures))
