-- Zone parts on a maker's own first-in first-out channels ("lines"), without the site's calls: "Other makers will build it into
-- controllers of theirs, on lines whose delays they choose". A channel has no capacity here: a maker whose channels have one makes a
-- call only where all that it sends has room, and what is claimed holds of every list of calls. A refused item stays on its channel.
use Rattle.std.specs.Prelude.{Bool, false, ◌&&◌, ℕ, suc, ◌+◌, eqb}
use mathlib.Core.List.{List, [], ◌∷◌, tail}
use Rattle.std.proofs.Math.Option.{Option, none, some}
use Rattle.rules.specs.Opening.{Opening}
use Rattle.rules.specs.Change.{on, join, cons-if}
use Rattle.rules.specs.Sets.{has}
use Rattle.rules.specs.Site.{Item, message, request, Site, Call, send, receive, start, gate}
use Rattle.zone.specs.Zone.{local_of, opened_zone, send_step, receive_step, request_step, start_step, gate_step}
use Rattle.zone.specs.Answer.{StepAnswer}
use Rattle.zone.specs.declared.Zone.{Zone}

-- The zone numbered k + 1 at index k, and the channel from the first index to the second.
pub record Network : Type 0 where
  pub zone : ℕ → Zone
  pub channel : ℕ → ℕ → List Item

-- The network of an opening: its zones, as zones of a site of so many, each opened in the opening's edition, and empty channels. No zone
-- part is opened for a number above the count, and none in an edition that is not defined; here such a zone refuses every step.
abbrev pub open_network : ℕ → Opening → Network
open_network count o = record { zone = λ k. opened_zone o.edition count (k + 1) (o.stocks k); channel = λ i j. [] }

-- What the zone part answers to the first item of a channel from the zone of this number; none: the channel is empty.
abbrev pub take_step : ℕ → List Item → Zone → Option StepAnswer
take_step from [] z = none
take_step from (message cars flag ∷ l) z = some (receive_step z from cars flag)
take_step from (request set ∷ l) z = some (request_step z set)

-- What the zone part answers to a call. It is asked of one zone and sees no other.
abbrev pub answer : Call → Network → Option StepAnswer
answer (send a b cars) net = some (send_step (net.zone a) (b + 1) cars)
answer (receive a b) net = take_step (a + 1) (net.channel a b) (net.zone b)
answer (start a) net = some (start_step (net.zone a))
answer (gate d a cars) net = some (gate_step (net.zone a) d cars)

-- "Success is 0". A receipt from an empty channel is not accepted.
abbrev pub is_accepted : Option StepAnswer → Bool
is_accepted none = false
is_accepted (some x) = eqb x.refusal 0

-- The next zone is stored, and a request, carrying the one set answered, joins the channel to each zone of the other.
abbrev pub sends_requests : ℕ → StepAnswer → Network → Network
sends_requests b x net = record {
  zone = λ k. on (eqb k b) (λ z. x.zone) (net.zone k);
  channel = λ i j. on (eqb i b && has x.to j) (join (request x.carried)) (net.channel i j);
}

-- The first item leaves its channel.
abbrev pub without_first : ℕ → ℕ → Network → Network
without_first a b net = record { zone = net.zone; channel = λ i j. on (eqb i a && eqb j b) tail (net.channel i j) }

-- What the maker does with the answer to an accepted call: a message joins its channel with the flag ("marked bit") answered; an
-- item that was received leaves its channel; cars that go through a gate are on no channel.
abbrev pub stored : Call → StepAnswer → Network → Network
stored (send a b cars) x net = record {
  zone = λ k. on (eqb k a) (λ z. x.zone) (net.zone k);
  channel = λ i j. on (eqb i a && eqb j b) (join (message cars x.flag)) (net.channel i j);
}
stored (receive a b) x net = sends_requests b x (without_first a b net)
stored (start a) x net = sends_requests a x net
stored (gate d a cars) x net = record { zone = λ k. on (eqb k a) (λ z. x.zone) (net.zone k); channel = net.channel }

-- A refused call changes nothing.
abbrev pub stored_if : Call → Option StepAnswer → Network → Network
stored_if c none net = net
stored_if c (some x) net = on (eqb x.refusal 0) (stored c x) net

abbrev pub made : Call → Network → Network
made c net = stored_if c (answer c net) net

-- The network after calls, made one after another.
abbrev pub after : List Call → Network → Network
after [] net = net
after (c ∷ cs) net = after cs (made c net)

-- The calls that were accepted, in order.
abbrev pub accepted_calls : List Call → Network → List Call
accepted_calls [] net = []
accepted_calls (c ∷ cs) net = cons-if (is_accepted (answer c net)) c (accepted_calls cs (made c net))

-- The number of starts.
abbrev pub starts_in : List Call → ℕ
starts_in [] = 0
starts_in (send a b cars ∷ cs) = starts_in cs
starts_in (receive a b ∷ cs) = starts_in cs
starts_in (start a ∷ cs) = suc (starts_in cs)
starts_in (gate d a cars ∷ cs) = starts_in cs

-- The site of the rules that a network stands for, whose zones were opened in this edition. What is shown of its accepted calls is what the
-- rules show: `snapshot`.
abbrev pub network_site : ℕ → Network → Site
network_site edition net = record { edition = edition; zone = λ k. local_of (net.zone k); channel = net.channel }
