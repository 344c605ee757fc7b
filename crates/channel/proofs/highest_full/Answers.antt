-- `highest_full` meets its contract: what is found is the highest full zone of those not yet looked at.
use Rattle.std.proofs.Common.{◌<◌, ◌∙◌, sym, ap, arith}
use Rattle.channel.proofs.Highest.{highest, highest-lt, lower-lt}
use Rattle.channel.proofs.Search.{highest-nobody, is-numbered, step-full, step-free}
use Rattle.channel.specs.Channels.{numbered}
use Rattle.channel.proofs.highest_full.Goals as goal

pub channel_index-k-requires : goal.channel_index-k-requires
channel_index-k-requires c =
    let l = c.loop-unseen in
    let h : highest l.unseen < 8 = highest-lt l.unseen l.invariant.0 (omega arith) in
    (c.requires, h)

pub returns-then-lens-k-ge-MOST_ITEMS : goal.returns-then-lens-k-ge-MOST_ITEMS
returns-then-lens-k-ge-MOST_ITEMS c = λ items.
    let l = c.loop-unseen in
    let z : 0 < l.unseen = omega arith in
    is-numbered _ _ (step-full _ _ l.unseen _ l.invariant.0 z c.channel_index-k.ensures.0 c.if-lens-k-ge-MOST_ITEMS.true ∙ l.invariant.1 items)

pub loop-unseen-smaller : goal.loop-unseen-smaller
loop-unseen-smaller c =
    let l = c.loop-unseen in
    lower-lt l.unseen l.invariant.0 (omega arith)

pub loop-unseen-preserved : goal.loop-unseen-preserved
loop-unseen-preserved c =
    let l = c.loop-unseen in
    let z : 0 < l.unseen = omega arith in
    let less = lower-lt l.unseen l.invariant.0 z in (
      omega (arith, less, l.invariant.0),
      λ items. step-free _ _ l.unseen _ l.invariant.0 z c.channel_index-k.ensures.0 c.if-lens-k-ge-MOST_ITEMS.false ∙ l.invariant.1 items,
    )

pub returns : goal.returns
returns c = λ items.
    let l = c.loop-unseen in
    ap numbered (sym (highest-nobody _ _) ∙ (rw c.loop-unseen-test.false at (l.invariant.1 items)))
