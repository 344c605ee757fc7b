-- Short lists of calls, computed: openings and calls of every kind are accepted, and do what the rules say.
use mathlib.Core.Path.{◌≡◌, refl}
use mathlib.Core.Bool.{Bool, true, false}
use mathlib.Core.List.{List, [], ◌∷◌}
use Prim.Native.Nat.{ℕ}
use lib.ListN.{replicate, take}
use Rattle.rules.specs.Site.{message, request, send, receive, start, gate}
use Rattle.rules.specs.Zone.{has_checkpoint}
use Rattle.run.specs.State.{all_cars}
use Rattle.run.specs.Calls.{answer}
use Rattle.run.specs.Model.{site_of}
use Rattle.run.specs.Lists.{after, accepted_calls}
use Rattle.run.specs.declared.Run.{Run}
use Rattle.run.specs.declared.SiteCall.{SiteCall}
use Rattle.run.specs.declared.SiteCall.TheVariants.{Receive, Send, Start, Gate}
use Rattle.rules.specs.declared.Direction.TheVariants.{In, Out}
use Rattle.run.specs.Opening.{open_call, opening_as, terms_as}
use Rattle.run.proofs.Computed.{calls_computed}

-- Three zones with 10, 20 and 30 cars, in an edition.
abbrev opened : ℕ → Run
opened edition = (open_call (opening_as (terms_as edition 3) (10 ∷ 20 ∷ 30 ∷ []))).run

abbrev three : Run
three = opened 1

-- Zone 2 takes a mutable checkpoint by the second message of zone 1, so that its own message to zone 3 bears the flag; it is
-- refused as a second starter.
abbrev flagged : List SiteCall
flagged = Send 1 2 5 ∷ Start 1 ∷ Send 1 2 4 ∷ Receive 1 2 ∷ Receive 1 2 ∷ Send 2 3 1 ∷ []

abbrev Flag : Type 0
Flag = ((site_of (after flagged three)).channel 1 2 ≡ message 1 true ∷ []) × ((site_of (after flagged three)).channel 0 1 ≡ [])
    × (((site_of (after flagged three)).zone 1).stock ≡ 28) × (all_cars (after flagged three) ≡ 60)
    × ((answer (Start 2) (after flagged three)).refusal ≡ 11)

-- The first message of a channel leaves first.
abbrev two : List SiteCall
two = Send 1 2 5 ∷ Send 1 2 4 ∷ Receive 1 2 ∷ []

abbrev First : Type 0
First = ((site_of (after two three)).channel 0 1 ≡ message 4 false ∷ []) × (((site_of (after two three)).zone 1).stock ≡ 25)

-- Zone 1 depends on zone 2, and zone 3 on zone 1; zone 3 starts and sends zone 1 a request, which sends zone 2 one, carrying all three.
abbrev passed_on : List SiteCall
passed_on = Send 2 1 0 ∷ Receive 2 1 ∷ Send 1 3 0 ∷ Receive 1 3 ∷ Start 3 ∷ Receive 3 1 ∷ []

abbrev Sent : Type 0
Sent = ((site_of (after passed_on three)).channel 0 1 ≡ request 7 ∷ []) × ((site_of (after passed_on three)).channel 2 0 ≡ [])
    × (accepted_calls passed_on three ≡ send 1 0 0 ∷ receive 1 0 ∷ send 0 2 0 ∷ receive 0 2 ∷ start 2 ∷ receive 2 0 ∷ [])

-- With the channel from zone 1 to zone 2 full, the request to zone 1 is refused with 10 and stays where it is.
abbrev full : List SiteCall
full = Send 2 1 0 ∷ Receive 2 1 ∷ Send 1 3 0 ∷ Receive 1 3 ∷ Start 3 ∷ replicate 16 (Send 1 2 0)

abbrev Refused : Type 0
Refused = ((answer (Receive 3 1) (after full three)).refusal ≡ 10)
    × ((site_of (answer (Receive 3 1) (after full three)).run).channel 2 0 ≡ request 5 ∷ [])

-- The numbers of refusals: where two questions are answered no, that of the first. Zone 1 has 10 cars, its channel to zone 2 is full,
-- and zone 3 has started.
abbrev Numbers : Type 0
Numbers = ((open_call (opening_as (terms_as 0 9) [])).refusal ≡ 15) × ((open_call (opening_as (terms_as 4 3) (0 ∷ []))).refusal ≡ 15)
    × ((open_call (opening_as (terms_as 2 9) (0 ∷ []))).refusal ≡ 2) × ((open_call (opening_as (terms_as 1 2) (65536 ∷ []))).refusal ≡ 3)
    × ((open_call (opening_as (terms_as 1 3) (0 ∷ []))).refusal ≡ 3) × ((open_call (opening_as (terms_as 1 3) [])).refusal ≡ 0)
    × ((open_call (opening_as (terms_as 2 2) (65535 ∷ 1 ∷ []))).refusal ≡ 4)
    × ((answer (Send 1 1 0) three).refusal ≡ 5) × ((answer (Send 1 2 11) (after full three)).refusal ≡ 7)
    × ((answer (Send 1 2 0) (after full three)).refusal ≡ 8) × ((answer (Receive 1 2) three).refusal ≡ 9)
    × ((answer (Start 1) (after full three)).refusal ≡ 11)

-- Line checks between zones 2 and 1, one without and one with the flag: what they leave of zone 1 in an edition, its stock, dependency set
-- and own events, and whether it has a checkpoint; and what stands on the channel before.
abbrev checked : List SiteCall
checked = Send 2 1 0 ∷ Receive 2 1 ∷ Start 2 ∷ Send 2 1 0 ∷ Receive 2 1 ∷ []

abbrev Left : ℕ → ℕ → ℕ → Bool → Type 0
Left edition deps events checkpoint =
    let z = (site_of (after checked (opened edition))).zone 0 in
    (z.stock ≡ 10) × (z.deps ≡ deps) × (z.events ≡ events) × (has_checkpoint z.checkpoint ≡ checkpoint)
    × ((site_of (after (take 4 checked) (opened edition))).channel 1 0 ≡ message 0 true ∷ [])

abbrev Checks : Type 0
Checks = Left 1 3 2 true × Left 2 1 0 false

-- Gates in edition 3: cars come in and go out, also 0, whether or not the zone has a checkpoint; what is left of zone 1, and the numbers of
-- refusals. Two zones with 65,535 cars, 255 of them on a line, let none in, and 1 in after 1 has gone out.
abbrev gated : List SiteCall
gated = Gate In 1 3 ∷ Gate Out 2 20 ∷ Gate Out 2 1 ∷ Start 1 ∷ Gate In 1 0 ∷ Gate Out 1 12 ∷ Gate In 4 0 ∷ []

abbrev full-site : Run
full-site = after (Send 1 2 255 ∷ []) (open_call (opening_as (terms_as 3 2) (65535 ∷ 0 ∷ []))).run

abbrev Gates : Type 0
Gates =
    (accepted_calls gated (opened 3) ≡ gate In 0 3 ∷ gate Out 1 20 ∷ start 0 ∷ gate In 0 0 ∷ gate Out 0 12 ∷ [])
    × (((site_of (after gated (opened 3))).zone 0).stock ≡ 1) × (((site_of (after gated (opened 3))).zone 0).events ≡ 3)
    × (((site_of (after gated (opened 3))).zone 0).deps ≡ 1) × (all_cars (after gated (opened 3)) ≡ 31)
    × (take 5 (after gated (opened 3)).journal ≡ 49155 ∷ 51476 ∷ 32768 ∷ 49152 ∷ 49420 ∷ [])
    × ((answer (Gate In 0 0) (opened 2)).refusal ≡ 15) × ((answer (Gate Out 4 255) (opened 3)).refusal ≡ 5)
    × ((answer (Gate Out 1 11) (opened 3)).refusal ≡ 7) × ((answer (Gate In 2 1) full-site).refusal ≡ 21)
    × ((answer (Gate In 2 0) full-site).refusal ≡ 0) × ((answer (Gate In 2 1) (after (Gate Out 1 1 ∷ []) full-site)).refusal ≡ 0)

-- How many remain: after the first of two messages; after the message that the starter's request stands behind. Of a receipt that is refused
-- it is 0, though two items are there, and of a message.
abbrev Remaining : Type 0
Remaining = ((answer (Receive 1 2) (after (Send 1 2 5 ∷ Send 1 2 4 ∷ []) three)).remaining ≡ 1)
    × ((answer (Receive 1 2) (after (Send 2 1 1 ∷ Receive 2 1 ∷ Send 1 2 1 ∷ Start 1 ∷ []) three)).remaining ≡ 1)
    × ((answer (Receive 3 1) (answer (Send 3 1 1) (after full three)).run).remaining ≡ 0) × ((answer (Send 1 2 5) (after two three)).remaining ≡ 0)

pub computed : Flag × First × Sent × Refused × Numbers × Checks × Gates × Remaining
unfolding calls_computed
computed = ((refl, refl, refl, refl, refl), (refl, refl), (refl, refl, refl), (refl, refl), (refl, refl, refl, refl, refl, refl, refl, refl, refl, refl, refl, refl), ((refl, refl, refl, refl, refl), (refl, refl, refl, refl, refl)), (refl, refl, refl, refl, refl, refl, refl, refl, refl, refl, refl, refl), (refl, refl, refl, refl))
