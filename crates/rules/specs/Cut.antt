-- Demand 3 (docs/RULES.md, demand 3) over the rules: what is claimed of the accepted calls and of a recording of them.
use Rattle.std.specs.Prelude.{◌≡◌, Bool, true, false, List, [], ◌∷◌, ◌++◌, ℕ, ◌≤◌, ◌<◌, drop}
use Rattle.std.proofs.Math.Option.{some}
use Rattle.rules.specs.Change.{cons-if}
use Rattle.rules.specs.Edition.{is_traffic}
use Rattle.rules.specs.Opening.{Opening}
use Rattle.rules.specs.Zone.{has_checkpoint, is_permanent, needed}
use Rattle.rules.specs.Site.{Item, message, request, Site, Call, send, receive, start, gate, step_s, open_s, waits}
use Rattle.rules.specs.Park.{Park, Move, hand, take, pass, open_park, replay, own, inside, outside, hands, takes}
use Rattle.rules.specs.declared.Checkpoint.{Checkpoint}
use Rattle.rules.specs.declared.Checkpoint.TheVariants.{None, Mutable, Permanent}

-- What the rules ask of a call that is accepted: the stock covers the cars that leave it; the channel holds an item; no recording has
-- been started.
abbrev pub May : Call → Site → Type 0
May (send a b cars) s = cars ≤ (s.zone a).stock
May (receive a b) s = s.channel a b ≡ [] → ⊥
May (start a) s = (z : ℕ) → is_permanent (s.zone z).checkpoint ≡ false
May (gate direction a cars) s = needed direction cars ≤ (s.zone a).stock

-- Calls made one after another, each as the rules ask.
abbrev pub Allowed : List Call → Site → Type 0
Allowed [] s = Unit {0}
Allowed (c ∷ cs) s = May c s × Allowed cs (step_s c s)

-- The site after calls.
abbrev pub run : List Call → Site → Site
run [] s = s
run (c ∷ cs) s = run cs (step_s c s)

-- What the park is fed of a call: "the accepted hand-over calls and the accepted receipt calls that take a hand-over", from edition 2 on
-- "hand-overs with cars and receipts of these": in every edition those that are traffic in it. Demand 3 "then has gate calls in its list too
-- and counts gate events among those replayed".
abbrev pub taking : ℕ → ℕ → ℕ → List Item → List Move
taking edition a b [] = []
taking edition a b (message cars flag ∷ l) = cons-if (is_traffic edition cars) (take a b) []
taking edition a b (request set ∷ l) = []

abbrev pub move_of : Call → Site → List Move
move_of (send a b cars) s = cons-if (is_traffic s.edition cars) (hand a b cars) []
move_of (receive a b) s = taking s.edition a b (s.channel a b)
move_of (start a) s = []
move_of (gate direction a cars) s = pass direction a cars ∷ []

abbrev pub moves : List Call → Site → List Move
moves [] s = []
moves (c ∷ cs) s = move_of c s ++ moves cs (step_s c s)

-- "complete when one was started and no line holds a request".
abbrev pub Complete : Site → Type 0
Complete s = ((z : ℕ) × (is_permanent (s.zone z).checkpoint ≡ true)) × ((i j : ℕ) → waits (s.channel i j) ≡ false)

-- The stocks and lines of a site, "requests and marked bits left out"; the lines are "read without checks".
abbrev pub cars_on : ℕ → List Item → List ℕ
cars_on edition [] = []
cars_on edition (message cars flag ∷ l) = cons-if (is_traffic edition cars) cars (cars_on edition l)
cars_on edition (request set ∷ l) = cars_on edition l

abbrev pub present : Site → Park
present s = record { stock = λ k. (s.zone k).stock; channel = λ i j. cars_on s.edition (s.channel i j) }

-- A recording: which zones are shown with a permanent checkpoint ("firm"), and the events, stocks and channels shown.
pub record Snapshot : Type 0 where
  pub recorded : ℕ → Bool
  pub events : ℕ → ℕ
  pub park : Park

-- "A firm zone is shown with the stock and event number of its mark. Any other zone, a provisional one included, has its opening
-- stock and 0 events."
abbrev pub events_of : Checkpoint → ℕ
events_of None = 0
events_of (Mutable s) = 0
events_of (Permanent s) = s.events

abbrev pub stock_of : Checkpoint → ℕ → ℕ
stock_of None opening = opening
stock_of (Mutable s) opening = opening
stock_of (Permanent s) opening = s.stock

-- "A line shows every hand-over sent inside the sender's events and not received inside the receiver's, in the order sent."
abbrev pub channel_of : List Move → ℕ → ℕ → List ℕ
channel_of ms i j = drop (takes i j ms) (hands i j ms)

-- The recording that a site shows after the calls cs from the opening o.
abbrev pub shown_by : Opening → List Call → Site → Snapshot
shown_by o cs s =
    let events : ℕ → ℕ = λ k. events_of (s.zone k).checkpoint in
    record {
      recorded = λ k. is_permanent (s.zone k).checkpoint;
      events = events;
      park = record {
        stock = λ k. stock_of (s.zone k).checkpoint (o.stocks k);
        channel = channel_of (inside events (moves cs (open_s o)));
      };
    }

-- The recording after the calls cs from the opening o, by the rules.
abbrev pub snapshot : Opening → List Call → Snapshot
snapshot o cs = shown_by o cs (run cs (open_s o))

-- Zone z takes its checkpoint by a call: it has none before the call, and one after it.
pub record Checkpointing (o : Opening) (cs : List Call) (z : ℕ) : Type 0 where
  pub before : List Call
  pub call : Call
  pub after : List Call
  pub calls : cs ≡ before ++ (call ∷ after)
  pub none_before : has_checkpoint ((run before (open_s o)).zone z).checkpoint ≡ false
  pub one-after : has_checkpoint ((step_s call (run before (open_s o))).zone z).checkpoint ≡ true

-- Zone a starts by a call: "The starter is the zone of the accepted start."
pub record Starting (cs : List Call) (a : ℕ) : Type 0 where
  pub before : List Call
  pub after : List Call
  pub calls : cs ≡ before ++ (start a ∷ after)

-- Demand 3 of the accepted calls cs from the opening o, and of the recording r.
pub record Cut (o : Opening) (cs : List Call) (r : Snapshot) : Type 1 where
  -- "The inside ones are replayed from the opening"; "After the first part the park's stocks and lines equal the recorded ones."
  pub first : replay (inside r.events (moves cs (open_s o))) (some (open_park o)) ≡ some r.park
  -- "then all the others from where that ended"; "After the second they equal those of the run after the list".
  pub second : replay (outside r.events (moves cs (open_s o))) (some r.park) ≡ some (present (run cs (open_s o)))
  -- "Any other zone, a provisional one included, has its opening stock and 0 events."
  pub others : (z : ℕ) → r.recorded z ≡ false → (r.events z ≡ 0) × (r.park.stock z ≡ o.stocks z)
  -- "The recorded zones are the smallest set that has the starter and, with each zone, every sender of its inside receipts."
  pub initiator : (a : ℕ) × Starting cs a
  pub one-initiator : (a b : ℕ) → Starting cs a → Starting cs b → a ≡ b
  pub has-initiator : (a : ℕ) → Starting cs a → r.recorded a ≡ true
  pub closed : (i j : ℕ) → r.recorded j ≡ true → 0 < takes i j (inside r.events (moves cs (open_s o))) → r.recorded i ≡ true
  pub least : (X : ℕ → Type 0) → ((a : ℕ) → Starting cs a → X a)
      → ((i j : ℕ) → X j → 0 < takes i j (inside r.events (moves cs (open_s o))) → X i)
      → (z : ℕ) → r.recorded z ≡ true → X z
  -- "The events shown for the starter are the number of its own events before the accepted start".
  pub initiator-events : (a : ℕ) (s : Starting cs a) → r.events a ≡ own a (moves s.before (open_s o))
  -- "those for any other recorded zone the number before its mark".
  pub checkpointing : (z : ℕ) → r.recorded z ≡ true → Checkpointing o cs z
  pub zone-events : (z : ℕ) → r.recorded z ≡ true → (m : Checkpointing o cs z) → r.events z ≡ own z (moves m.before (open_s o))
