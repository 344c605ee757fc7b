-- What is claimed of a list of calls from an accepted opening, after which the recording is complete, and of any further calls: "From then on it
-- never changes" (docs/RULES.md, section 5).
use Rattle.std.specs.Prelude.{◌≡◌, List, ◌++◌, ℕ}
use Rattle.rules.specs.Cut.{Complete, run, snapshot}
use Rattle.rules.specs.Site.{Call, open_s}
use Rattle.run.specs.Opening.{opening_of}
use Rattle.run.specs.declared.Opening.{Opening}
use Rattle.run.specs.declared.Run.{Run}
use Rattle.journal.specs.Answers.{Written}
use Rattle.recording.specs.Answers.{Recorded}
use Rattle.promises.specs.Answers.{RecordAnswers, PageAnswers}

-- o: the opening; cs: the accepted calls of the first list, in order, and r: the run after it; ds: those of the further list, and t: the run after
-- it.
pub record Stays (o : Opening) (cs ds : List Call) (r t : Run) : Type 0 where
  -- The recording stays complete, and by the rules it is the same: zones, events, stocks and channels.
  pub complete : Complete (run (cs ++ ds) (open_s (opening_of o)))
  pub recording : snapshot (opening_of o) (cs ++ ds) ≡ snapshot (opening_of o) cs
  -- A recording call on the later run, lent the same bytes, answers the same (refusal, number of bytes written and total), and leaves the same
  -- bytes;
  pub recorded : (lent before after : List ℕ) (u w : Recorded) → RecordAnswers r lent u before → RecordAnswers t lent w after
      → (w ≡ u) × (after ≡ before)
  -- and so does a page call.
  pub paged : (lent before after : List ℕ) (u w : Written) → PageAnswers r lent u before → PageAnswers t lent w after
      → (w ≡ u) × (after ≡ before)
