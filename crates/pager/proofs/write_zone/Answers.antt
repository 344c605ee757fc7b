-- `pager::write_zone` meets its contract: its parts are those of the line.
use Rattle.std.proofs.Common.{◌+◌, ◌%◌, ◌++◌, ◌∷◌, [], ℕ, List, refl, ◌∙◌, ap, ap₂}
use Prim.Native.Char.{code}
use lib.Dec.{leb}
use lib.Seq.{sets}
use Rattle.text.specs.Text.{space, line_feed, digit_code, column_text}
use Rattle.page.specs.Layout.{firm_code, zone_text}
use Rattle.page.proofs.Lines.{zone-length}
use Rattle.pager.proofs.Stored.{number-digit, line-put}
use Rattle.pager.proofs.write_zone.Goals as goal

pub returns : goal.returns
unfolding zone_text
returns c =
    let a = c.args in
    let p = c.requires in
    let chars : List ℕ = code "Z" ∷ digit_code (a.i + 1) ∷ space ∷ firm_code (leb 32768 a.word) ∷ space ∷ [] in
    let rest : List ℕ = column_text 4 (a.word % 1024) ++ (space ∷ column_text 6 a.stock ++ (line_feed ∷ [])) in
    let written = ap₂ (λ (x y : ℕ). sets a.out.now 0 (code "Z" ∷ x ∷ space ∷ y ∷ space ∷ [])) (number-digit a.i p.0) c.letter-firm.ensures in
    line-put chars rest a.out.now _ refl (zone-length a.i (leb 32768 a.word) (a.word % 1024) a.stock) p.1
    (c.both_numbers.ensures ∙ ap (λ (xs : List ℕ). sets xs 5 rest) (c.five.ensures ∙ written))
