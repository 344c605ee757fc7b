-- The words of a recording by the zones' checkpoints and the records: what the code writes.
use Rattle.std.specs.Prelude.{◌≡◌, cond, true, Bool, not, ◌||◌, Option, Some, None, List, [], ◌∷◌, ◌++◌, ℕ, ◌+◌, ◌<◌, ◌≤◌, ltb, leb, length, take, drop}
use Rattle.rules.specs.Below.{list_below}
use Rattle.rules.specs.Cut.{events_of, stock_of}
use Rattle.rules.specs.Edition.{is_edition}
use Rattle.rules.specs.Limits.{most_zones, most_records}
use Rattle.rules.specs.Questions.{question, ask}
use Rattle.rules.specs.Zone.{is_permanent}
use Rattle.rules.specs.declared.Checkpoint.{Checkpoint}
use Rattle.rules.specs.declared.Checkpoint.TheVariants.{Permanent}
use Rattle.rules.specs.declared.Saved.{Saved}
use Rattle.run.specs.State.{zone_at, terms_of, edition_of, count_of}
use Rattle.journal.specs.Format.{header_of, opened_with, record_words}
use Rattle.journal.specs.Writing.{written_output, is_replayed}
use Rattle.recording.specs.Call.{RecordOutput, with_total, not_recorded}
use Rattle.recording.specs.InnerTotal.{total_in}
use Rattle.recording.specs.Layout.{permanent_weight, join_below}
use Rattle.items.specs.InnerItems.{all_words}
use Rattle.words.specs.Bytes.{words_bytes}
use Rattle.channel.specs.Channels.{is_channel, items_on}
use Rattle.run.specs.declared.Head.{Head}
use Rattle.run.specs.Opening.{stock_at, opened_run}
use Rattle.rules.specs.Site.{waits}
use Rattle.run.specs.Claims.{WholeRun}
use Rattle.run.specs.declared.Run.{Run}
use Rattle.journal.specs.InnerOrdinals.{ordinals_of}
use Rattle.channel.specs.declared.Channels.{Channels}

-- What a permanent checkpoint keeps.
abbrev pub permanent : Checkpoint → Option Saved
permanent (Permanent s) = Some s
permanent _ = None

-- The two words of a zone, of its checkpoint and its opening stock, and those of all zones.
abbrev pub checkpoint_words : Checkpoint → ℕ → List ℕ
checkpoint_words checkpoint opening = (cond (is_permanent checkpoint) permanent_weight 0 + events_of checkpoint) ∷ stock_of checkpoint opening ∷ []

unfoldable pub zones_words : Head → List ℕ
zones_words h = join_below (count_of h) (λ i. checkpoint_words (zone_at h i).checkpoint (stock_at h.opening i))

-- The events shown for each zone; 0 for a zone that the site does not have.
unfoldable pub shown_events : Head → List ℕ
shown_events h = list_below most_zones (λ i. cond (ltb i (count_of h)) (events_of (zone_at h i).checkpoint) 0)

-- The words of the items, over the records and their own-event ordinals, and all words of the recording.
abbrev pub items_words : Head → List ℕ → List ℕ → List ℕ
items_words h ws ns = all_words (count_of h) (shown_events h) ws ns

abbrev pub recorded_words : Head → List ℕ → List ℕ → List ℕ
recorded_words h ws ns = header_of (terms_of h) (length (items_words h ws ns)) ∷ zones_words h ++ items_words h ws ns

unfoldable pub recorded_bytes : Head → List ℕ → List ℕ → List ℕ
recorded_bytes h ws ns = words_bytes (recorded_words h ws ns)

-- What holds of a run that question 1 passes, so that its fields fit the words.
pub record Fitting (h : Head) (ws ns : List ℕ) : Type 0 where
  pub edition : is_edition (edition_of h) ≡ true
  pub fewest : 1 ≤ count_of h
  pub most : count_of h ≤ most_zones
  pub events : (i : ℕ) → i < count_of h → events_of (zone_at h i).checkpoint ≤ most_records
  pub records : length ws ≤ most_records
  pub numbers : length ns ≡ length ws
  pub items : length (items_words h ws ns) ≤ most_records

-- Question 1 passes the run, and the own-event ordinals of its records stand at the front of `ordinals`.
pub record Replayed (r : Run) (ordinals : List ℕ) : Type 0 where
  pub whole : WholeRun r
  pub asked : is_replayed r ≡ true
  pub numbers : take r.head.records ordinals ≡ ordinals_of (record_words r) (opened_run (opened_with r))

-- Is the site without a channel at index k, or is that channel free of requests?
abbrev pub quiet_at : ℕ → Channels → ℕ → Bool
quiet_at count l k = not (is_channel count k) || not (waits (items_on l k))

-- Question 14, and what a writer of these bytes with this total answers.
unfoldable pub sized_output : List ℕ → ℕ → List ℕ → RecordOutput
sized_output lent total bytes =
    ask (question 14 (leb (length bytes) (length lent)) ∷ []) (not_recorded lent) (with_total total (written_output lent bytes))

-- The total that the recording shows, whatever stands behind it in the lent bytes.
abbrev pub written_total : Head → List ℕ → List ℕ → List ℕ → ℕ
written_total h ws ns lent =
    total_in (count_of h) (length (items_words h ws ns)) (recorded_bytes h ws ns ++ drop (length (recorded_bytes h ws ns)) lent)
