-- `pager::write_channel` meets its contract: its parts are those of the line.
use Rattle.std.proofs.Common.{◌+◌, ◌++◌, ◌∷◌, [], ℕ, List, refl, ◌∙◌, ap, ap₂}
use Prim.Native.Char.{code}
use lib.Seq.{sets}
use Rattle.text.specs.Text.{space, line_feed, digit_code, column_text}
use Rattle.page.specs.Layout.{channel_text}
use Rattle.page.proofs.Lines.{channel-length}
use Rattle.pager.proofs.Stored.{number-digit, line-put}
use Rattle.pager.proofs.write_channel.Goals as goal

pub returns : goal.returns
unfolding channel_text
returns c =
    let a = c.args in
    let p = c.requires in
    let chars : List ℕ = code "L" ∷ digit_code (a.i + 1) ∷ digit_code (a.j + 1) ∷ space ∷ space ∷ [] in
    let rest : List ℕ = column_text 4 a.items ++ (space ∷ column_text 6 a.cars ++ (line_feed ∷ [])) in
    let written = ap₂ (λ (x y : ℕ). sets a.out.now 0 (code "L" ∷ x ∷ y ∷ space ∷ space ∷ [])) (number-digit a.i p.0) (number-digit a.j p.1) in
    line-put chars rest a.out.now _ refl (channel-length a.i a.j a.items a.cars) p.2
    (c.both_numbers.ensures ∙ ap (λ (xs : List ℕ). sets xs 5 rest) (c.five.ensures ∙ written))
