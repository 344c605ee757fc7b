-- `same::same_channels` meets its contract: the channels from one zone more, and once those of all zones are looked at, no others are compared.
use Rattle.std.proofs.Common.{◌≡◌, ℕ, ◌*◌, ◌<◌, Bool, true, sym, ◌∙◌, arith}
use mathlib.Core.Bool.{◌&&◌}
use Rattle.rules.proofs.Tests.{and_left, and_right}
use Rattle.channel.specs.Channels.{lent_as, all_empty, channel_index}
use Rattle.channel.specs.declared.Channels.{Channels}
use Rattle.run.proofs.BelowLaws.{all-to}
use Rattle.run.proofs.IndexLaws.{all-zone, all_none, none_from, zone-out}
use Rattle.journal.specs.Writing.{same_channels}
use Rattle.same.specs.InnerAt.{same_at, same_from}
use Rattle.same.proofs.Laws.{empty-same, same_end}
use Rattle.same.proofs.same_channels.Goals as goal
use Rattle.same.proofs.same_channels.Goals.{else-not-empty-via-then-not-empty+else-not-same_from, else-not-empty-via-else-not-empty}

-- Where nothing is on the channels from a zone in either, they are the same.
both-empty : (count : ℕ) (l m : Channels) (from : ℕ) (p q : Bool) → p ≡ all_empty l.lens from → q ≡ all_empty m.lens from
    → p && q ≡ true → (j : ℕ) → j < 8 → same_at count l m (channel_index from j) ≡ true
both-empty count l m from p q e f h j b =
    empty-same count l m (channel_index from j) (none_from l.lens from (sym e ∙ and_left p q h) j b) (none_from m.lens from (sym f ∙ and_right p q h) j b)

pub returns-then-not-same_from : goal.returns-then-not-same_from
unfolding same_channels same_from
returns-then-not-same_from c =
    let a = c.args in
    sym (zone-out (same_at a.count (lent_as a.a) (lent_as a.b)) c.loop-from.from (omega arith) (sym c.same_from.ensures ∙ c.if-not-same_from.true))

pub loop-from-preserved : goal.loop-from-preserved
unfolding same_from
loop-from-preserved c =
    let b = c.loop-from in
    let a = c.args in
    let l = lent_as a.a in
    let m = lent_as a.b in
    let f = same_at a.count l m in
    let n = c.is_empty_from.ensures in
    let e = c.is_empty_from-in-loop-from.ensures in
    elim c.else-not-empty.branch [
      | else-not-empty-via-then-not-empty+else-not-same_from w ↦
          sym (all-zone f b.from true true (sym b.invariant) (sym (sym w.same_from.ensures ∙ w.if-not-same_from.false)))
      | else-not-empty-via-else-not-empty w ↦
          sym (all_none f b.from true (sym b.invariant) (both-empty a.count l m b.from _ _ n e w.if-not-empty.false))
    ]

pub returns : goal.returns
unfolding same_channels
returns c =
    let a = c.args in
    let l = lent_as a.a in
    let m = lent_as a.b in
    let e : c.loop-from.from * 8 ≡ a.count * 8 = omega arith in
    sym (same_end a.count l m c.requires ∙ sym (all-to (same_at a.count l m) e) ∙ c.loop-from.invariant)
