-- The zone part: one zone's state and its steps (docs/RULES.md, sections 6 and 7). "The zone part has the same steps without lines".
use Rattle.std.specs.Prelude.{Bool, false, not, ◌&&◌, cond, [], ◌∷◌, ℕ, ◌+◌, leb, ltb, eqb, None, Some, Option}
use Rattle.std.specs.Int.Count.{count_trailing_zeros}
use Rattle.rules.specs.Edition.{first_edition, is_edition, has_gates}
use Rattle.rules.specs.Limits.{most_zones, most_cars, most_records}
use Rattle.rules.specs.Questions.{Question, question, ask, index, is_count, is_on}
use Rattle.rules.specs.Sets.{nobody, within}
use Rattle.rules.specs.Zone.{has_checkpoint, opened, sent_under, received_under, gated}
use Rattle.rules.specs.declared.Direction.{Direction}
use Rattle.rules.specs.declared.Direction.TheVariants.{In, Out}
use Rattle.rules.specs.declared.Local.{Local}
use Rattle.local.specs.Requesting.{requested_by, started_by}
use Rattle.local.specs.declared.Requesting.{Requesting}
use Rattle.zone.specs.declared.Zone.{Zone}
use Rattle.zone.specs.Answer.{StepAnswer, OpeningAnswer}

-- The zone's local state, of which the rules speak, and the zone with another one.
abbrev pub local_of : Zone → Local
local_of z = record { stock = z.stock; deps = z.deps; events = z.events; checkpoint = z.checkpoint }

abbrev pub with_local : Zone → Local → Zone
with_local z l = record {
  edition = z.edition;
  number = z.number;
  count = z.count;
  stock = l.stock;
  deps = l.deps;
  events = l.events;
  checkpoint = l.checkpoint;
}

-- Question 5, of sending and taking: "the zone itself counts as one of the two named zones".
unfoldable pub is_other : Zone → ℕ → Bool
is_other z zone = is_on z.count zone && not (eqb zone z.number)

-- Question 1: "Its state is sound when zone number and count are valid, its heard set names only zones of the site, the stock is at
-- most 65,535 and own events at most 1,000." "Questions 1 and 15 allow the editions defined so far".
unfoldable pub is_zone_sound : Zone → Bool
is_zone_sound z =
    is_edition z.edition && is_count z.count && is_on z.count z.number && within z.deps z.count
    && leb z.stock most_cars && leb z.events most_records

-- Question 6, "There, 6 counts own events".
abbrev pub has_room : Zone → Bool
has_room z = ltb z.events most_records

-- "Opening, of a site or of one zone, now names the edition."
abbrev pub opened_zone : ℕ → ℕ → ℕ → ℕ → Zone
opened_zone edition count number stock =
    let l = opened (index number) stock in
    record {
      edition = edition;
      number = number;
      count = count;
      stock = l.stock;
      deps = l.deps;
      events = l.events;
      checkpoint = l.checkpoint;
    }

-- "Opening one zone: 2, then 5 for its own number; refused, it hands back zone 1 of 2 with stock 0." "15, for the edition named, comes
-- first in opening. What a refused opening or reading hands back has edition 1".
unfoldable pub open_zone : ℕ → ℕ → ℕ → ℕ → OpeningAnswer
open_zone edition count number stock =
    ask (question 15 (is_edition edition) ∷ question 2 (is_count count) ∷ question 5 (is_on count number) ∷ [])
    (λ n. record { refusal = n; zone = opened_zone first_edition 2 1 0 })
    (record { refusal = 0; zone = opened_zone edition count number stock })

-- A refused step hands the zone back unchanged; the flag and both sets are 0.
abbrev pub refused : Zone → ℕ → StepAnswer
refused z n = record { refusal = n; zone = z; flag = false; to = nobody; carried = nobody }

abbrev pub accepted : Zone → Bool → ℕ → ℕ → StepAnswer
accepted z flag to carried = record { refusal = 0; zone = z; flag = flag; to = to; carried = carried }

-- An accepted step that may send requests.
abbrev pub requesting_step : Zone → Requesting → StepAnswer
requesting_step z a = accepted (with_local z a.local) false a.to a.carried

-- "Send: 1, 5, 6, 7." It names the receiver and answers the flag ("marked bit"). From edition 2 on a hand-over of 0 cars "is carried and
-- journalled, but it is no own event"; the questions are the same, 6 too.
unfoldable pub send_step : Zone → ℕ → ℕ → StepAnswer
send_step z to cars =
    ask (question 1 (is_zone_sound z) ∷ question 5 (is_other z to) ∷ question 6 (has_room z) ∷ question 7 (leb cars z.stock) ∷ [])
    (refused z)
    (accepted (with_local z (sent_under z.edition cars (local_of z))) (has_checkpoint z.checkpoint) nobody nobody)

-- "Take a hand-over: 1, 5, 6, 20." It names the sender. From edition 2 on taking one of 0 cars "is no own event, adds nothing to a heard
-- set, causes no mark"; the questions are the same.
unfoldable pub receive_step : Zone → ℕ → ℕ → Bool → StepAnswer
receive_step z from cars flag =
    ask (question 1 (is_zone_sound z) ∷ question 5 (is_other z from) ∷ question 6 (has_room z) ∷ question 20 (leb (z.stock + cars) most_cars) ∷ [])
    (refused z)
    (accepted (with_local z (received_under z.edition (index from) cars flag (local_of z))) false nobody nobody)

-- "Take a request: 1, 5, its set's zones being on the site."
unfoldable pub request_step : Zone → ℕ → StepAnswer
request_step z set =
    ask (question 1 (is_zone_sound z) ∷ question 5 (within set z.count) ∷ [])
    (refused z)
    (requesting_step z (requested_by (index z.number) set (local_of z)))

-- "Start: 1, 11." There "11 means unmarked".
unfoldable pub start_step : Zone → StepAnswer
start_step z =
    ask (question 1 (is_zone_sound z) ∷ question 11 (not (has_checkpoint z.checkpoint)) ∷ [])
    (refused z)
    (requesting_step z (started_by (index z.number) (local_of z)))

-- What a gate step asks last. "an entry to the zone part alone meets 20, after 6"; "An exit beyond the stock meets question 7".
abbrev pub last_gate_question : Direction → (cars stock : ℕ) → Question
last_gate_question In cars stock = question 20 (leb (stock + cars) most_cars)
last_gate_question Out cars stock = question 7 (leb cars stock)

-- Cars go through the zone's gate, of 0 cars too. No zone is named, so that 5 is not asked. Entry: 1, 15, 6, 20. Exit: 1, 15, 6, 7. 15 asks
-- "does the run's edition have gates?" of the zone's edition.
unfoldable pub gate_step : Zone → Direction → ℕ → StepAnswer
gate_step z direction cars =
    ask (question 1 (is_zone_sound z) ∷ question 15 (has_gates z.edition) ∷ question 6 (has_room z) ∷ last_gate_question direction cars z.stock ∷ [])
    (refused z)
    (accepted (with_local z (gated direction cars (local_of z))) false nobody nobody)

-- The number of the zone to be sent to next: the lowest of the set; 0 where the set is empty.
unfoldable pub next_target : ℕ → ℕ
next_target set = cond (eqb set 0) 0 (count_trailing_zeros most_zones set + 1)

-- The zone to be sent to next of a set, where there is one.
abbrev pub next_if : ℕ → Option ℕ
next_if set = cond (eqb set 0) None (Some (next_target set))
