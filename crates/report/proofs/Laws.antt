-- The two cases of the program's text.
use mathlib.Core.Path.{◌≡◌, refl}
use mathlib.Core.Bool.{Bool, true, false, cond}
use mathlib.Core.Logic.{◌≢◌}
use mathlib.Core.List.{List, [], ◌∷◌}
use Prim.Native.Nat.{ℕ, ◌≤◌}
use native.Mathlib.Omega.{arith}
use borrow.Author.Tests.{eq-eqb, ne_eqb, leb-true}
use lib.Dec.{leb, eqb}
use lib.ListN.{length, take, replicate}
use Rattle.rules.specs.Questions.{question, ask}
use Rattle.run.specs.State.{has_started, terms_of, count_of}
use Rattle.run.specs.declared.Run.{Run}
use Rattle.journal.specs.Reading.{read_call}
use Rattle.journal.specs.Writing.{is_replayed, written_output}
use Rattle.recording.specs.Call.{no_requests, snapshot_of, with_total, not_recorded, recorded_total, record_call}
use Rattle.recording.specs.Journal.{output_of, unread_output, record_journal}
use Rattle.recording.specs.Layout.{recording_bytes}
use Rattle.recording.specs.Answers.{JournalRecorded}
use Rattle.text.specs.Text.{bytes_text, refused_text, Prints}
use Rattle.report.specs.Report.{report_text}

module _ (journal lent after : List ℕ) (r : ℕ) (done : JournalRecorded) (answers : done ≡ (record_journal journal (replicate 2034 0)).answer) where
  -- The journal or its recording is refused.
  pub refused-printed : done.refusal ≢ 0 → Prints (refused_text done.refusal) lent after r → Prints (report_text journal) lent after r
  unfolding report_text
  refused-printed h p = rw (← answers, ne_eqb _ _ h) p

  -- The recording is shown.
  pub recording-shown : (bytes : List ℕ) → bytes ≡ (record_journal journal (replicate 2034 0)).bytes → done.refusal ≡ 0
      → Prints (bytes_text (take done.written bytes)) lent after r → Prints (report_text journal) lent after r
  unfolding report_text
  recording-shown bytes e h p = rw (← answers, ← e, eq-eqb _ _ h) p

-- What is written lies within the lent bytes.
fits_in : (lent bytes : List ℕ) (total : ℕ) (a b c d : Bool) → leb (length bytes) (length lent) ≡ d
    → (ask (question 1 a ∷ question 12 b ∷ question 13 c ∷ question 14 d ∷ []) (not_recorded lent) (with_total total (written_output lent bytes))).answer.written ≤ length lent
fits_in lent bytes total false b c d e = omega arith
fits_in lent bytes total true false c d e = omega arith
fits_in lent bytes total true true false d e = omega arith
fits_in lent bytes total true true true false e = omega arith
fits_in lent bytes total true true true true e = leb-true (length bytes) (length lent) e

record-fits : (r : Run) (lent : List ℕ) → (record_call r lent).answer.written ≤ length lent
unfolding record_call
record-fits r lent =
    let bytes = recording_bytes (terms_of r.head) (snapshot_of r) in
    fits_in lent bytes (recorded_total r) (is_replayed r) (has_started r.head) (no_requests (count_of r.head) r.channels) (leb (length bytes) (length lent)) refl

pub written-fits : (journal lent : List ℕ) → (record_journal journal lent).answer.written ≤ length lent
unfolding record_journal
written-fits journal lent = go (eqb (read_call journal).refusal 0)
  where
    go : (b : Bool)
        → (cond b (output_of (record_call (read_call journal).run lent))
        (unread_output lent (read_call journal).refusal (read_call journal).position)).answer.written ≤ length lent
    go true = record-fits (read_call journal).run lent
    go false = omega arith
