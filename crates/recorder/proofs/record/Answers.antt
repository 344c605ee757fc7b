-- `recorder::record` meets its contract: question 1, then what is left.
use Rattle.std.proofs.Common.{refl, sym, ◌∙◌}
use Rattle.run.proofs.Good.{run-whole}
use Rattle.recorder.proofs.Recorded.{refused-1, replayed-from}
use Rattle.recorder.proofs.record.Goals as goal

pub returns-then-not-is_replayed : goal.returns-then-not-is_replayed
returns-then-not-is_replayed c = refused-1 _ _ _ (sym c.is_replayed.ensures.0 ∙ c.if-not-is_replayed.true) refl

pub slice_bounds-record_replayed-end : goal.slice_bounds-record_replayed-end
slice_bounds-record_replayed-end c = sym (replayed-from _ (run-whole c.args.run _ c.well_formed.0) (sym c.is_replayed.ensures.0 ∙ c.if-not-is_replayed.false) _ _ refl (c.is_replayed.ensures.1 (c.if-not-is_replayed.false))).1

pub record_replayed-requires : goal.record_replayed-requires
record_replayed-requires c = (replayed-from _ (run-whole c.args.run _ c.well_formed.0) (sym c.is_replayed.ensures.0 ∙ c.if-not-is_replayed.false) _ _ refl (c.is_replayed.ensures.1 (c.if-not-is_replayed.false))).0
