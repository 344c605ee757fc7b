-- `recorder::no_requests` meets its contract: the indices one after another.
use Rattle.std.proofs.Common.{◌∙◌, rules, refl}
use borrow.Author.Tests.{tests}
use Rattle.std.proofs.lemmas.Iterator.{YieldsList-from_range}
use Rattle.std.proofs.lemmas.Iterator.Search.{all_from_yields_List}
use Rattle.channel.specs.Channels.{channels_as}
use Rattle.recording.specs.Call.{no_requests}
use Rattle.recorder.specs.InnerWords.{quiet_at}
use Rattle.recorder.proofs.Ranges.{all-range}
use Rattle.recorder.proofs.no_requests.Goals as goal

pub returns : goal.returns
unfolding no_requests
returns c =
    let a = c.args in
    let f = quiet_at a.count (channels_as a.items.now a.lens.now) in
    all_from_yields_List f _ _ c.all.result c.all.ensures.ran (YieldsList-from_range 0 64 64 refl refl) (λ x b q k. search (rules, tests)) ∙ all-range f 64
