-- Demand 3 (docs/RULES.md), whole: what is claimed of an accepted opening, any list of calls on its run, and a recording call after it.
use Rattle.std.specs.Prelude.{◌≡◌, false, List, [], ◌∷◌, ◌≢◌, ℕ, ◌+◌, ◌≤◌, ◌<◌, length, take}
use Rattle.rules.specs.Below.{sum}
use Rattle.rules.specs.Cut.{Complete, Cut, run, moves, present, snapshot}
use Rattle.rules.specs.Park.{inside, total, entries, exits}
use Rattle.rules.specs.Questions.{Among}
use Rattle.rules.specs.Site.{Call, open_s}
use Rattle.rules.specs.Zone.{is_permanent}
use Rattle.run.specs.Model.{site_of}
use Rattle.run.specs.Opening.{opening_of}
use Rattle.run.specs.declared.Opening.{Opening}
use Rattle.run.specs.declared.Run.{Run}
use Rattle.recording.specs.Answers.{Recorded}
use Rattle.words.specs.Bytes.{word_at}
use Rattle.words.specs.Header.{edition_in}
use Rattle.recording.specs.Layout.{most_recording_bytes, recording_bytes}
use Rattle.recording.specs.Shown.{shown_in}

-- o: the opening; cs: the accepted calls in order; r: the run after the list; lent: the bytes lent to the recording call; w, bytes: what
-- it answered, and the lent bytes after it.
pub record Demand (o : Opening) (cs : List Call) (r : Run) (lent : List ℕ) (w : Recorded) (bytes : List ℕ) : Type 1 where
  -- "Exactly when it is complete does a recording call after the list, lent enough bytes, answer 0."
  pub only-complete : w.refusal ≡ 0 → Complete (run cs (open_s (opening_of o)))
  pub if-complete : Complete (run cs (open_s (opening_of o))) → length (recording_bytes o.terms (snapshot (opening_of o) cs)) ≤ length lent → w.refusal ≡ 0
  -- "The recorded zones (those shown firm), events, stocks and lines are those in the bytes it writes."
  pub cut : w.refusal ≡ 0 → Cut (opening_of o) cs (shown_in (take w.written bytes))
  -- "a recording shows its run's edition", in its header.
  pub shows-edition : w.refusal ≡ 0 → edition_in (word_at (take w.written bytes) 0) ≡ o.terms.edition
  -- "The recording call also answers the recorded total": that of the stocks and lines in the bytes it writes.
  pub shows-total : w.refusal ≡ 0 → w.total ≡ total o.terms.count (shown_in (take w.written bytes)).park
  -- "It equals the opening total plus entries less exits inside the recording": entries and exits in cars.
  pub balances : w.refusal ≡ 0 → let inner = inside (shown_in (take w.written bytes)).events (moves cs (open_s (opening_of o))) in
      w.total + exits inner ≡ sum o.stocks + entries inner
  -- Beside a refusal it is 0.
  pub no-total : w.refusal ≢ 0 → w.total ≡ 0
  -- The second part of the replay ends with "those of the run after the list, requests and marked bits left out", "read
  -- without checks".
  pub ends : present (run cs (open_s (opening_of o))) ≡ present (site_of r)
  -- "The new one may refuse to show a count of a true run only if none was started, a request is still under way or too few bytes were
  -- lent."
  pub refusals : Among w.refusal (0 ∷ 12 ∷ 13 ∷ 14 ∷ [])
  pub not-started : w.refusal ≡ 12 → (z : ℕ) → is_permanent ((run cs (open_s (opening_of o))).zone z).checkpoint ≡ false
  pub not-complete : w.refusal ≡ 13 → Complete (run cs (open_s (opening_of o))) → ⊥
  pub too_few : w.refusal ≡ 14 → Complete (run cs (open_s (opening_of o))) × (length lent < length (recording_bytes o.terms (snapshot (opening_of o) cs)))
  -- 2,034 bytes are enough for any recording.
  pub enough : length (recording_bytes o.terms (snapshot (opening_of o) cs)) ≤ most_recording_bytes
