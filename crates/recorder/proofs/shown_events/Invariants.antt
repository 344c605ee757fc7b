-- `recorder::shown_events` meets its contract: the events of the zones before the next one.
use Rattle.std.proofs.Common.{◌≡◌, ℕ, length, get_or}
use Rattle.rules.specs.Cut.{events_of}
use Rattle.run.specs.State.{zone_at}
use Rattle.recorder.proofs.Shown.{part}
use Rattle.recorder.proofs.shown_events.Given as goal

abbrev pub invariant-loop-i : goal.invariant-loop-i
invariant-loop-i l = (length l.shown ≡ 8) × ((j : ℕ) → get_or l.shown j 0 ≡ part (λ k. events_of (zone_at l.head k).checkpoint) l.i j)
