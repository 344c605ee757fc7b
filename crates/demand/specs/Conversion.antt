-- What is claimed of the conversion of a true run's journal: an accepted opening, any list of calls on its run, the journal that is then written,
-- and its conversion.
use Rattle.std.specs.Prelude.{◌≡◌, Bool, true, List, [], ◌∷◌, ℕ, ◌+◌, ◌*◌, leb, ltb, length, take}
use Rattle.rules.specs.Below.{every}
use Rattle.rules.specs.Edition.{has_gates}
use Rattle.rules.specs.Questions.{question, refusal}
use Rattle.rules.specs.Site.{Call, send, receive, start, gate}
use Rattle.run.specs.declared.Opening.{Opening}
use Rattle.run.specs.declared.Run.{Run}
use Rattle.journal.specs.Answers.{JournalWritten, Reading}
use Rattle.recording.specs.Shown.{shown_in}
use Rattle.recording.specs.Answers.{Recorded}
use Rattle.promises.specs.Answers.{ReadAnswers, RecordAnswers}
use Rattle.demand.specs.Demand.{Demand}

-- Is the call, zones by index, no "hand-over of 0 cars"? Has an edition calls of its kind?
abbrev pub is_loaded_s : Call → Bool
is_loaded_s (send a b cars) = ltb 0 cars
is_loaded_s (receive a b) = true
is_loaded_s (start a) = true
is_loaded_s (gate direction a cars) = true

abbrev pub has_kind_s : ℕ → Call → Bool
has_kind_s edition (send a b cars) = true
has_kind_s edition (receive a b) = true
has_kind_s edition (start a) = true
has_kind_s edition (gate direction a cars) = has_gates edition

-- o: the opening, but in the target edition; cs: the accepted calls in order; r: the run after the list; lent: the bytes lent to the conversion;
-- w, bytes: what it answered, and the lent bytes after it.
pub record ConversionDemand (o : Opening) (cs : List Call) (r : Run) (lent : List ℕ) (w : JournalWritten) (bytes : List ℕ) : Type 1 where
  -- A journal that was written in the source edition is refused by what its calls are alone, and by the bytes written to.
  pub number : w.refusal ≡ refusal (
      question 22 (every is_loaded_s cs)
      ∷ question 23 (every (has_kind_s o.terms.edition) cs)
      ∷ question 14 (leb (2 + 2 * o.terms.count + 2 * length cs) (length lent))
      ∷ [])
  -- "the result is accepted";
  pub accepted : w.refusal ≡ 0 → (t : Reading) → ReadAnswers (take w.written bytes) t → t.refusal ≡ 0
  -- a recording call on the run that it is read as shows what demand 3 asks, of the same accepted calls from the same opening in the target
  -- edition;
  pub recorded : w.refusal ≡ 0 → (t : Reading) → ReadAnswers (take w.written bytes) t
      → (first shown : List ℕ) (v : Recorded) → RecordAnswers t.run first v shown → Demand o cs t.run first v shown
  -- and beside one on the run that was written, lent as many bytes, it answers the same, and "a complete recording has the same zones, stocks and
  -- lines".
  pub same : w.refusal ≡ 0 → (t : Reading) → ReadAnswers (take w.written bytes) t
      → (first second before after : List ℕ) (u v : Recorded) → length second ≡ length first
      → RecordAnswers r first u before → RecordAnswers t.run second v after
      → (v ≡ u) × (u.refusal ≡ 0 → shown_in (take v.written after) ≡ shown_in (take u.written before))
