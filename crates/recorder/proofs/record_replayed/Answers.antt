-- `recorder::record_replayed` meets its contract: questions 12, 13 and 14, and the bytes.
use Rattle.std.proofs.Common.{refl, sym, ◌∙◌, ap}
use Rattle.recording.specs.Call.{RecordOutput}
use Rattle.recording.proofs.Bounds.{run_sound}
use Rattle.recorder.proofs.Recorded.{enough-words, enough-ordinals, parts-fit, parts-written, refused-12, refused-13}
use Rattle.recorder.proofs.record_replayed.Goals as goal

pub has_started-requires : goal.has_started-requires
has_started-requires c = let p = c.requires in (run_sound _ p.whole p.asked).most

pub returns-then-not-has_started : goal.returns-then-not-has_started
returns-then-not-has_started c =
    refused-12 _ c.requires.asked _ _ (sym c.has_started.ensures ∙ c.if-not-has_started.true) refl

pub returns-then-not-no_requests : goal.returns-then-not-no_requests
returns-then-not-no_requests c =
    refused-13 _ c.requires.asked _ _ (sym c.has_started.ensures ∙ c.if-not-has_started.false) (sym c.no_requests.ensures ∙ c.if-not-no_requests.true) refl

pub slice_bounds-write_sized-end : goal.slice_bounds-write_sized-end
slice_bounds-write_sized-end c = enough-words _ _ c.requires

pub slice_bounds-write_sized-end-2 : goal.slice_bounds-write_sized-end-2
slice_bounds-write_sized-end-2 c = enough-ordinals _ _ c.requires

pub write_sized-requires : goal.write_sized-requires
write_sized-requires c = parts-fit _ _ c.requires

pub returns : goal.returns
returns c =
    let e = parts-written _ _ c.requires c.args.out.now (sym c.has_started.ensures ∙ c.if-not-has_started.false) (sym c.no_requests.ensures ∙ c.if-not-no_requests.false) in
    (c.write_sized.ensures.0 ∙ ap (λ (o : RecordOutput). o.answer) e, c.write_sized.ensures.1 ∙ ap (λ (o : RecordOutput). o.bytes) e)
