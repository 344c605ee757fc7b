-- `recorder::shown_events` meets its contract: the events of the zones before the next one.
use Rattle.std.proofs.Common.{◌≡◌, ℕ, ◌∙◌, ap, arith}
use lib.ListN.{length-set}
use Rattle.rules.specs.Cut.{events_of}
use Rattle.rules.specs.declared.Local.{Local}
use Rattle.run.specs.State.{count_of, zone_at}
use Rattle.run.specs.declared.Head.{Head}
use Rattle.recorder.specs.InnerWords.{shown_events}
use Rattle.recorder.proofs.Shown.{part-more, part-all}
use Rattle.recorder.proofs.shown_events.Goals as goal

abbrev events_at : Head → ℕ → ℕ
events_at h j = events_of (zone_at h j).checkpoint

pub loop-i-preserved : goal.loop-i-preserved
loop-i-preserved c =
    let l = c.loop-i in
    let e = c.shown_of.ensures ∙ ap (λ (z : Local). events_of z.checkpoint) c.zone_at.ensures in (
      length-set l.shown l.i c.shown_of.result ∙ l.invariant.0,
      part-more (events_at c.args.head) l.shown l.i c.shown_of.result (omega (arith, l.invariant.0, c.requires)) e l.invariant.1,
    )

pub returns : goal.returns
unfolding shown_events
returns c =
    let l = c.loop-i in
    let h = c.args.head in
    let e : count_of h ≡ l.i = omega arith in
    rw e (part-all (events_at h) l.shown l.i 8 l.invariant.0 l.invariant.1)
