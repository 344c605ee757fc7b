-- The calls of a site, each as a function from the run to the answer: its questions in order (docs/RULES.md, section 6), then what it does.
use Rattle.std.specs.Prelude.{Bool, not, ◌&&◌, List, [], ◌∷◌, ◌++◌, ℕ, ◌+◌, leb, ltb, eqb, set}
use Rattle.rules.specs.Edition.{has_gates}
use Rattle.rules.specs.Limits.{most_cars, most_records}
use Rattle.rules.specs.Questions.{Question, question, ask, is_on, index}
use Rattle.rules.specs.Sets.{nobody}
use Rattle.rules.specs.Site.{Item, message, request}
use Rattle.rules.specs.Zone.{has_checkpoint, sent_under, received_under, gated}
use Rattle.rules.specs.declared.Direction.{Direction}
use Rattle.rules.specs.declared.Direction.TheVariants.{In, Out}
use Rattle.rules.specs.declared.Local.{Local}
use Rattle.local.specs.Requesting.{requesting_as, requested_by, started_by}
use Rattle.local.specs.declared.Requesting.{Requesting}
use Rattle.channel.specs.Words.{item_of, message_word}
use Rattle.channel.specs.Channels.{channel_index, len_of, is_free, pushed, popped, first_of, all_free, requested_all}
use Rattle.channel.specs.declared.Channels.{Channels}
use Rattle.run.specs.Layout.{send_record, receive_record, start_record, gate_record}
use Rattle.run.specs.State.{run_as, terms_of, edition_of, count_of, zone_at, put_back, all_cars, is_sound, has_started}
use Rattle.run.specs.declared.Run.{Run}
use Rattle.run.specs.Answer.{Answer}
use Rattle.run.specs.declared.SiteCall.{SiteCall}
use Rattle.run.specs.declared.SiteCall.TheVariants.{Send, Receive, Start, Gate}
use Rattle.run.specs.declared.Terms.{Terms}

-- The index of the zone that acts in a call: the sender, the receiver, the zone that starts, that of the gate.
abbrev pub actor : SiteCall → ℕ
actor (Send from to cars) = index from
actor (Receive from to) = index to
actor (Start zone) = index zone
actor (Gate direction zone cars) = index zone

-- Question 5: "Are the named zones on the site, and two named zones different?"
unfoldable pub is_pair : ℕ → ℕ → ℕ → Bool
is_pair count from to = is_on count from && is_on count to && not (eqb from to)

abbrev pub is_named : ℕ → SiteCall → Bool
is_named count (Send from to cars) = is_pair count from to
is_named count (Receive from to) = is_pair count from to
is_named count (Start zone) = is_on count zone
is_named count (Gate direction zone cars) = is_on count zone

-- Question 6: "Are there fewer than 1,000 records?"
abbrev pub has_room : Run → Bool
has_room r = ltb r.head.records most_records

-- What the receipt of an item by the zone at index b, from the zone at index a, makes of the zone in an edition, with the requests that
-- it sends.
abbrev pub item_received : ℕ → ℕ → ℕ → Item → Local → Requesting
item_received edition a b (message cars flag) z = requesting_as (received_under edition a cars flag z) nobody nobody
item_received edition a b (request set) z = requested_by b set z

-- The same of the first item on the channel from a to b.
abbrev pub first_received : Terms → ℕ → ℕ → Local → Channels → Requesting
first_received t a b z l = item_received t.edition a b (item_of (first_of l (channel_index a b))) z

-- What a call asks of its run's edition, between 1 and 5: a gate call asks 15, "does the run's edition have gates?", the others nothing.
abbrev pub edition_questions : SiteCall → ℕ → List Question
edition_questions (Send from to cars) edition = []
edition_questions (Receive from to) edition = []
edition_questions (Start zone) edition = []
edition_questions (Gate direction zone cars) edition = question 15 (has_gates edition) ∷ []

-- What a gate call asks behind 6, where the zone has a stock and stocks and cars on lines are so many. Entry: 21, "an entry that would lift
-- stocks plus cars on lines above 65,535". Exit: 7.
abbrev pub own_gate_questions : Direction → (cars stock held : ℕ) → List Question
own_gate_questions In cars stock held = question 21 (leb (held + cars) most_cars) ∷ []
own_gate_questions Out cars stock held = question 7 (leb cars stock) ∷ []

-- What a call asks behind 6 on a site with terms t: of the zone z that acts, of the channels, whether a recording has been started, and how
-- many cars the stocks and the lines hold. Hand-over: 7, 8. Receipt: 9, 10. Start: 11, 10.
abbrev pub own_questions : SiteCall → Terms → Local → Channels → Bool → ℕ → List Question
own_questions (Send from to cars) t z l started held =
    question 7 (leb cars z.stock) ∷ question 8 (is_free l (channel_index (index from) (index to))) ∷ []
own_questions (Receive from to) t z l started held =
    question 9 (not (eqb (len_of l (channel_index (index from) (index to))) 0))
    ∷ question 10 (all_free l (index to) (first_received t (index from) (index to) z l).to)
    ∷ []
own_questions (Start zone) t z l started held =
    question 11 (not started) ∷ question 10 (all_free l (index zone) (started_by (index zone) z).to) ∷ []
own_questions (Gate direction zone cars) t z l started held = own_gate_questions direction cars z.stock held

-- What an accepted call makes of the zone z that acts, and of the channels.
abbrev pub zone_after : SiteCall → Terms → Local → Channels → Local
zone_after (Send from to cars) t z l = sent_under t.edition cars z
zone_after (Receive from to) t z l = (first_received t (index from) (index to) z l).local
zone_after (Start zone) t z l = (started_by (index zone) z).local
zone_after (Gate direction zone cars) t z l = gated direction cars z

abbrev pub channels_after : SiteCall → Terms → Local → Channels → Channels
channels_after (Send from to cars) t z l = pushed l (channel_index (index from) (index to)) (message_word (has_checkpoint z.checkpoint) cars)
channels_after (Receive from to) t z l =
    let got = first_received t (index from) (index to) z l in
    requested_all (popped l (channel_index (index from) (index to))) (index to) got.to got.carried
channels_after (Start zone) t z l =
    let got = started_by (index zone) z in
    requested_all l (index zone) got.to got.carried
channels_after (Gate direction zone cars) t z l = l

-- "how many remain on it": the items on the channel of a receipt, requests too; 0 of a call that is no receipt.
abbrev pub remaining_on : SiteCall → Channels → ℕ
remaining_on (Send from to cars) l = 0
remaining_on (Receive from to) l = len_of l (channel_index (index from) (index to))
remaining_on (Start zone) l = 0
remaining_on (Gate direction zone cars) l = 0

-- Its record.
abbrev pub record_of : SiteCall → ℕ
record_of (Send from to cars) = send_record (index from) (index to) cars
record_of (Receive from to) = receive_record (index from) (index to)
record_of (Start zone) = start_record (index zone)
record_of (Gate direction zone cars) = gate_record direction (index zone) cars

-- The zone of a run that acts in a call.
abbrev pub actor_in : SiteCall → Run → Local
actor_in c r = zone_at r.head (actor c)

-- "Hand-over: 1, 5, 6, 7, 8. Receipt: 1, 5, 6, 9, 10. Start: 1, 5, 6, 11, 10." "A gate call, one for each direction, goes through 1, then
-- 15 .., 5, 6, then 7 for an exit", and 21 for an entry.
abbrev pub questions : SiteCall → Run → List Question
questions c r =
    question 1 (is_sound r)
    ∷ edition_questions c (edition_of r.head)
    ++ (question 5 (is_named (count_of r.head) c)
    ∷ question 6 (has_room r)
    ∷ own_questions c (terms_of r.head) (actor_in c r) r.channels (has_started r.head) (all_cars r))

-- "The refusal is the number"; a refused call hands back the run unchanged.
abbrev pub refused : Run → ℕ → Answer
refused r n = record { refusal = n; remaining = 0; run = r }

-- A zone and the channels have changed, and "each accepted call adds its record".
abbrev pub changed : Run → ℕ → Local → Channels → ℕ → Run
changed r at z l word = run_as (put_back r.head at z (r.head.records + 1)) l (set r.journal r.head.records word)

-- The run after an accepted call.
abbrev pub run_after : SiteCall → Run → Run
run_after c r =
    let t = terms_of r.head in
    changed r (actor c) (zone_after c t (actor_in c r) r.channels) (channels_after c t (actor_in c r) r.channels) (record_of c)

-- How many remain "is counted after the receipt": in the run that the call hands back.
abbrev pub granted : SiteCall → Run → Answer
granted c r = record { refusal = 0; remaining = remaining_on c (run_after c r).channels; run = run_after c r }

-- The answer of a call.
unfoldable pub answer : SiteCall → Run → Answer
answer c r = ask (questions c r) (refused r) (granted c r)
