-- `pager::both_numbers` meets its contract: its stores are those of the numbers, the space between them and the line feed.
use Rattle.std.proofs.Common.{◌++◌, ◌∷◌, [], ◌∙◌}
use Rattle.text.specs.Text.{line_feed, column_text}
use Rattle.pager.proofs.Stored.{both_stored}
use Rattle.pager.proofs.both_numbers.Goals as goal

pub returns : goal.returns
returns c =
    c.last_number.ensures ∙ both_stored c.args.four (column_text 6 c.args.six ++ (line_feed ∷ [])) c.args.out.now _ c.requires c.column.ensures
