-- The recording call.
use Rattle.std.specs.Prelude.{Bool, not, ◌||◌, List, [], ◌∷◌, map, ℕ, ◌*◌, leb, length}
use Rattle.rules.specs.Cut.{Snapshot, snapshot}
use Rattle.rules.specs.Limits.{most_zones}
use Rattle.rules.specs.Park.{total}
use Rattle.rules.specs.Questions.{Question, question, ask}
use Rattle.rules.specs.Site.{Call, waits}
use Rattle.channel.specs.Channels.{items_on, is_channel}
use Rattle.channel.specs.declared.Channels.{Channels}
use Rattle.rules.specs.Below.{all_below}
use Rattle.run.specs.Lists.{call_of}
use Rattle.run.specs.State.{has_started, terms_of, count_of}
use Rattle.run.specs.declared.Run.{Run}
use Rattle.journal.specs.Format as format
use Rattle.journal.specs.Writing.{is_replayed, Output, refused_output, written_output}
use Rattle.recording.specs.Layout.{recording_bytes}
use Rattle.recording.specs.Answers.{Recorded}
use Rattle.run.specs.Opening.{opening_of}
use Rattle.journal.specs.Format.{opened_with, record_words}

-- The calls of some records, in order, as the rules have them.
abbrev pub rule_calls_in : List ℕ → List Call
rule_calls_in ws = map call_of (format.calls_in ws)

-- The recording of a run, by the rules applied to its opening and its journal's calls.
abbrev pub snapshot_of : Run → Snapshot
snapshot_of r = snapshot (opening_of (opened_with r)) (rule_calls_in (record_words r))

-- Question 13: "Is every line free of requests?"
unfoldable pub no_requests : ℕ → Channels → Bool
no_requests count l = all_below (most_zones * most_zones) (λ k. not (is_channel count k) || not (waits (items_on l k)))

-- "The recording call also answers the recorded total": the recorded stocks plus the recorded cars on lines. It "may exceed 65,535".
abbrev pub recorded_total : Run → ℕ
recorded_total r = total (count_of r.head) (snapshot_of r).park

-- What the recording call answers, and the lent bytes after it: what a writer does, with a total.
pub record RecordOutput : Type 0 where
  pub answer : Recorded
  pub bytes : List ℕ

abbrev pub with_total : ℕ → Output → RecordOutput
with_total n o = record {
  answer = record { refusal = o.answer.refusal; written = o.answer.written; total = n };
  bytes = o.bytes;
}

-- A refused recording answers the total 0.
abbrev pub not_recorded : List ℕ → ℕ → RecordOutput
not_recorded lent n = with_total 0 (refused_output lent n)

-- "Recording: 1, 12, 13, 14": the questions of a call that writes these bytes of a run's recording.
abbrev pub recording_questions : Run → (bytes lent : List ℕ) → List Question
recording_questions r bytes lent =
    question 1 (is_replayed r)
    ∷ question 12 (has_started r.head)
    ∷ question 13 (no_requests (count_of r.head) r.channels)
    ∷ question 14 (leb (length bytes) (length lent))
    ∷ []

unfoldable pub record_call : Run → List ℕ → RecordOutput
record_call r lent =
    ask (recording_questions r (recording_bytes (terms_of r.head) (snapshot_of r)) lent) (not_recorded lent)
    (with_total (recorded_total r) (written_output lent (recording_bytes (terms_of r.head) (snapshot_of r))))
