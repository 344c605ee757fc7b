-- `recorder::is_waiting` meets its contract: its words are those of the channel.
use Rattle.std.proofs.Common.{◌∙◌, ◌*◌, ℕ, List, ap, rules, take, drop, map, arith}
use borrow.Author.Tests.{tests}
use Rattle.std.proofs.lemmas.Iterator.{YieldsList-from_slice}
use Rattle.std.proofs.lemmas.Iterator.Search.{any_from_yields_List}
use Rattle.std.proofs.lemmas.Grind.{common_steps}
use lib.Dec.{leb}
use Rattle.channel.specs.Words.{item_of}
use Rattle.rules.specs.Site.{waits}
use Rattle.channel.specs.Channels.{channels_as}
use Rattle.recorder.proofs.Waiting.{waits-any, looked_words}
use Rattle.recorder.proofs.is_waiting.Goals as goal

pub returns : goal.returns
returns c =
    let a = c.args in
    let ws = take c.looked_at-n.result (drop (a.k * 16) a.items.now) in
    any_from_yields_List (λ w. leb 512 w) _ _ c.any.result c.any.ensures.ran (YieldsList-from_slice ws (grind (arith, common_steps))) (λ x b q k. search (rules, tests))
    ∙ waits-any ws
    ∙ ap (λ (xs : List ℕ). waits (map item_of xs)) (looked_words (channels_as a.items.now a.lens.now) a.k c.looked_at-n.result c.looked_at-n.ensures)
