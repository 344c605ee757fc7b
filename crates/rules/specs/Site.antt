-- The rules of a site (docs/RULES.md, section 4): zones, first-in first-out channels ("lines"), and what an accepted call does to them. No
-- limit stands here: neither the number of zones nor the places of a channel nor the length of a journal.
use Rattle.std.specs.Prelude.{Bool, true, false, ◌&&◌, not, ℕ, eqb}
use mathlib.Core.List.{List, [], ◌∷◌, tail}
use Rattle.rules.specs.Opening.{Opening}
use Rattle.rules.specs.Change.{on, join}
use Rattle.rules.specs.Sets.{has, nobody}
use Rattle.rules.specs.Zone.{has_checkpoint, is_permanent, opened, sent_under, received_under, gated, started, requested, targets, carried}
use Rattle.rules.specs.declared.Direction.{Direction}
use Rattle.rules.specs.declared.Direction.TheVariants.{In, Out}
use Rattle.rules.specs.declared.Local.{Local}

-- What a channel carries: messages ("hand-overs"), with cars and the flag ("marked bit"), and requests, with a set of zones.
pub data Item : Type 0 where
  message : (cars : ℕ) (flag : Bool) → Item
  request : (set : ℕ) → Item

-- The edition, the zones by index, and the channel from the first index to the second.
pub record Site : Type 0 where
  pub edition : ℕ
  pub zone : ℕ → Local
  pub channel : ℕ → ℕ → List Item

-- Hand-over of cars from a to b: "The item joins the line; its marked bit is 1 when the sender has either mark."
abbrev pub send_s : ℕ → ℕ → ℕ → Site → Site
send_s a b cars s = record {
  edition = s.edition;
  zone = λ k. on (eqb k a) (sent_under s.edition cars) (s.zone k);
  channel = λ i j. on (eqb i a && eqb j b) (join (message cars (has_checkpoint (s.zone a).checkpoint))) (s.channel i j);
}

-- The first item of the channel from a to b leaves it.
abbrev pub pop_s : ℕ → ℕ → Site → Site
pop_s a b s = record { edition = s.edition; zone = s.zone; channel = λ i j. on (eqb i a && eqb j b) tail (s.channel i j) }

-- Zone b changes and puts a request, carrying a set, on its channel to each zone of another set.
abbrev pub request_all_s : ℕ → (Local → Local) → ℕ → ℕ → Site → Site
request_all_s b change to set s = record {
  edition = s.edition;
  zone = λ k. on (eqb k b) change (s.zone k);
  channel = λ i j. on (eqb i b && has to j) (join (request set)) (s.channel i j);
}

-- Receipt by b of the message that stands first on the channel from a.
abbrev pub receive_s : ℕ → ℕ → ℕ → Bool → Site → Site
receive_s a b cars flag s = record {
  edition = s.edition;
  zone = λ k. on (eqb k b) (received_under s.edition a cars flag) (s.zone k);
  channel = λ i j. on (eqb i a && eqb j b) tail (s.channel i j);
}

-- What a request with a set does to zone b, whose checkpoint is not permanent.
abbrev pub turn_s : ℕ → ℕ → Site → Site
turn_s b set s = request_all_s b requested (targets b set (s.zone b)) (carried set (s.zone b)) s

-- Receipt by b of the request that stands first on the channel from a: "a firm zone drops it".
abbrev pub request_s : ℕ → ℕ → ℕ → Site → Site
request_s a b set s = on (not (is_permanent (s.zone b).checkpoint)) (turn_s b set) (pop_s a b s)

-- Start by a: a request, "carrying its heard set, on its line to each other zone of that set".
abbrev pub start_s : ℕ → Site → Site
start_s a s = request_all_s a started (targets a nobody (s.zone a)) (carried nobody (s.zone a)) s

-- Cars go through the gate of zone a: no channel changes.
abbrev pub gate_s : Direction → ℕ → ℕ → Site → Site
gate_s direction a cars s = record {
  edition = s.edition;
  zone = λ k. on (eqb k a) (gated direction cars) (s.zone k);
  channel = s.channel;
}

-- A receipt takes the first item of the channel.
abbrev pub take_s : ℕ → ℕ → List Item → Site → Site
take_s a b [] s = s
take_s a b (message cars flag ∷ l) s = receive_s a b cars flag s
take_s a b (request set ∷ l) s = request_s a b set s

-- The calls, zones by index.
pub data Call : Type 0 where
  send : (from to cars : ℕ) → Call
  receive : (from to : ℕ) → Call
  start : (zone : ℕ) → Call
  gate : (direction : Direction) (zone cars : ℕ) → Call

-- The cars that a call brings in from the street, and those that it takes out.
abbrev pub entering : Call → ℕ
entering (send a b cars) = 0
entering (receive a b) = 0
entering (start a) = 0
entering (gate In a cars) = cars
entering (gate Out a cars) = 0

abbrev pub leaving : Call → ℕ
leaving (send a b cars) = 0
leaving (receive a b) = 0
leaving (start a) = 0
leaving (gate In a cars) = 0
leaving (gate Out a cars) = cars

-- "Each call is one indivisible step."
abbrev pub step_s : Call → Site → Site
step_s (send a b cars) s = send_s a b cars s
step_s (receive a b) s = take_s a b (s.channel a b) s
step_s (start a) s = start_s a s
step_s (gate direction a cars) s = gate_s direction a cars s

-- The site of an opening.
abbrev pub open_s : Opening → Site
open_s o = record { edition = o.edition; zone = λ k. opened k (o.stocks k); channel = λ i j. [] }

-- Does a channel hold a request?
abbrev pub waits : List Item → Bool
waits [] = false
waits (message cars flag ∷ l) = waits l
waits (request set ∷ l) = true
