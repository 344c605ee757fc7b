-- `same::same_from` meets its contract: once the indices to all zones of the site are looked at, no others are compared.
use Rattle.std.proofs.Common.{◌≡◌, ◌<◌, sym, ◌∙◌, ap, arith}
use Rattle.channel.specs.Channels.{lent_as, channel_index}
use Rattle.run.proofs.BelowLaws.{all-to, one-out}
use Rattle.same.specs.InnerAt.{same_at, same_from}
use Rattle.same.proofs.Laws.{same-to}
use Rattle.same.proofs.same_from.Goals as goal

pub returns-then-not-same_at : goal.returns-then-not-same_at
unfolding same_from
returns-then-not-same_at c =
    let a = c.args in
    let f = same_at a.count (lent_as a.a) (lent_as a.b) in
    let b : c.loop-to.to < 8 = omega arith in
    sym (one-out 8 (λ j. f (channel_index a.from j)) c.loop-to.to b (ap f (sym c.channel_index-k.ensures.0) ∙ sym c.same_at.ensures ∙ c.if-not-same_at.true))

pub returns : goal.returns
returns c =
    let a = c.args in
    let l = lent_as a.a in
    let m = lent_as a.b in
    let e : c.loop-to.to ≡ a.count = omega arith in
    sym (same-to a.count l m a.from c.requires.1 ∙ sym (all-to (λ j. same_at a.count l m (channel_index a.from j)) e) ∙ c.loop-to.invariant)
