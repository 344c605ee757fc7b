-- A network of two zones whose recording is complete, and one of four zones that a collector polls: the premises of the theorems can be
-- met, and one round of polls is not enough. And a network of edition 2, whose line checks draw no zone into the count, and one of
-- edition 3, where cars drive in and out before and after marks.
use mathlib.Core.Path.{◌≡◌, refl, sym, ◌∙◌, ap, subst}
use mathlib.Core.Bool.{Bool, true, false, ◌&&◌, cond, and-false}
use mathlib.Core.List.{List, [], ◌∷◌, ◌++◌, tail, map}
use Prim.Native.Nat.{ℕ, ◌≤◌}
use native.Mathlib.Omega.{arith}
use lib.Dec.{eqb, leb, ltb, eqb→eq, leb→le, lit<}
use Rattle.rules.specs.Opening.{Opening}
use Rattle.rules.specs.Below.{sum_below}
use Rattle.rules.specs.Change.{on, join}
use Rattle.rules.specs.Cut.{Complete, Cut, Snapshot, moves, present, shown_by, snapshot}
use Rattle.rules.specs.Park.{inside, total, entries, exits}
use Rattle.rules.specs.Edition.{first_edition}
use Rattle.rules.specs.Sets.{has}
use Rattle.rules.specs.Site.{Item, message, request, Call, send, receive, start, gate, open_s, waits}
use Rattle.rules.specs.Zone.{is_permanent}
use Rattle.rules.specs.declared.Direction.TheVariants.{In, Out}
use Rattle.rules.proofs.Finite.{below}
use Rattle.rules.proofs.SetLaws.{has-only, has-nobody}
use Rattle.network.specs.Network.{open_network, after, accepted_calls, starts_in, network_site}
use Rattle.network.specs.Polls.{Poll, polled_at, OneAfterAnother, Settled, polled_site}
use Rattle.network.proofs.Network.{network-consistent}
use Rattle.network.proofs.Polls.{settled-cut}
use Rattle.zone.proofs.Computed.{zone_computed}

-- Zone 2 is opened full.
abbrev opening : Opening
opening = record { edition = first_edition; stocks = λ k. cond (eqb k 0) 10 65535 }

-- The first receipt is refused, as zone 2 has no room for 4 cars more; the message stays on its channel and is received later. The
-- second start and the last are refused, as their zones have checkpoints.
abbrev calls : List Call
calls =
    send 0 1 4 ∷ receive 0 1 ∷ send 1 0 4 ∷ receive 0 1 ∷ start 1 ∷ start 1 ∷ receive 1 0 ∷ receive 1 0 ∷ start 0 ∷ []

abbrev accepted_ones : List Call
accepted_ones = send 0 1 4 ∷ send 1 0 4 ∷ receive 0 1 ∷ start 1 ∷ receive 1 0 ∷ receive 1 0 ∷ []

accepted-ones : accepted_calls calls (open_network 2 opening) ≡ accepted_ones
unfolding zone_computed has
accepted-ones = refl

-- Any of its channels, by what joined and left it: is it that from zone 1 to zone 2 (p) or back (q), and did a request join it (a, b, c)?
abbrev channel_items : Bool → Bool → Bool → Bool → Bool → List Item
channel_items p q a b c =
    let sent = on q (join (message 4 false)) (on p (join (message 4 false)) []) in
    let started = on b (join (request 3)) (on a (join (request 0)) (on p tail sent)) in
    on c (join (request 0)) (on q tail (on c (join (request 0)) (on q tail started)))

emptied : (p q : Bool) → channel_items p q false q false ≡ []
emptied true true = refl
emptied true false = refl
emptied false true = refl
emptied false false = refl

channel-is : (i j : ℕ) → (after calls (open_network 2 opening)).channel i j
    ≡ channel_items (eqb i 0 && eqb j 1) (eqb i 1 && eqb j 0) (eqb i 1 && has 0 j) (eqb i 1 && has 1 j) (eqb i 0 && has 0 j)
unfolding zone_computed has
channel-is i j = refl

empty-channel : (i j : ℕ) → (after calls (open_network 2 opening)).channel i j ≡ []
empty-channel i j = channel-is i j ∙ rw (has-nobody j, has-only 0 j, and-false (eqb i 0), and-false (eqb i 1)) (emptied (eqb i 0 && eqb j 1) (eqb i 1 && eqb j 0))

complete : Complete (network_site first_edition (after calls (open_network 2 opening)))
unfolding zone_computed has
complete = ((1, refl), λ i j. ap waits (empty-channel i j))

-- So what is shown of them is a consistent cut of them.
pub example-cut : Cut opening accepted_ones (snapshot opening accepted_ones)
example-cut = subst (λ (cs : List Call). Cut opening cs (snapshot opening cs)) accepted-ones
    (network-consistent 2 opening calls (subst (λ (cs : List Call). starts_in cs ≤ 1) (sym accepted-ones) (omega arith)) complete)

-- ---- polls

-- Four zones of 10 cars. Zone 2 depends on zones 3 and 4, and zone 1, which got 5 cars of it, on zone 2. Zone 1 starts; zone 2 takes its
-- request and sends requests to zones 3 and 4; zone 3 takes its own.
abbrev tens : Opening
tens = record { edition = first_edition; stocks = λ k. 10 }

abbrev few_calls : List Call
few_calls =
    send 2 1 0 ∷ receive 2 1 ∷ send 3 1 0 ∷ receive 3 1 ∷ send 1 0 5 ∷ receive 1 0 ∷ start 0 ∷ receive 0 1 ∷ receive 1 2 ∷ []

-- One round: zones 1 and 2 are polled behind the start, zones 3 and 4 at the end, when zone 2 has taken one request and sent two.
abbrev one_round : ℕ → Poll
one_round k = polled_at few_calls (open_network 4 tens) (cond (ltb k 2) 7 9) k

abbrev round_shown : Snapshot
round_shown = shown_by tens (accepted_calls few_calls (open_network 4 tens)) (polled_site first_edition one_round)

-- By what was read one request was sent and one was taken, and zone 1 is permanent. Yet a request waits for zone 4, and the 5 cars are
-- shown in zone 1 and in zone 2.
pub one-round-is-not-enough : (sum_below 4 (λ k. (one_round k).sent) ≡ 1) × (sum_below 4 (λ k. (one_round k).taken) ≡ 1)
    × (is_permanent (one_round 0).zone.checkpoint ≡ true) × (waits ((after few_calls (open_network 4 tens)).channel 1 3) ≡ true)
    × (total 4 round_shown.park ≡ 45) × (sum_below 4 tens.stocks ≡ 40)
unfolding zone_computed has
one-round-is-not-enough = (refl, refl, refl, refl, refl, refl)

-- Then zone 4 takes its request, and the traffic goes on while two rounds are made: a car leaves zone 1 and comes to zone 3 between the
-- two polls of each.
abbrev more_calls : List Call
more_calls = few_calls ++ (receive 1 3 ∷ send 0 2 1 ∷ receive 0 2 ∷ [])

abbrev first_round : ℕ → ℕ
first_round k = cond (ltb k 2) 10 11

abbrev second_round : ℕ → ℕ
second_round k = cond (ltb k 2) 11 12

two-rounds : OneAfterAnother 4 first_round second_round
two-rounds = (
  11,
  λ k h. (leb→le _ _ (below 4 (λ k. leb (first_round k) 11) tt k h), leb→le _ _ (below 4 (λ k. leb 11 (second_round k)) tt k h)),
)

abbrev polled : (ℕ → ℕ) → ℕ → Poll
polled round k = polled_at more_calls (open_network 4 tens) (round k) k

two-settled : Settled 4 (polled first_round) (polled second_round)
unfolding zone_computed has
two-settled = record {
  sent-kept = λ k h. eqb→eq _ _ (below 4 (λ k. eqb (polled first_round k).sent (polled second_round k).sent) tt k h);
  taken-kept = λ k h. eqb→eq _ _ (below 4 (λ k. eqb (polled first_round k).taken (polled second_round k).taken) tt k h);
  all-taken = refl;
  some-permanent = (0, lit< tt, refl);
}

one-start : starts_in (accepted_calls more_calls (open_network 4 tens)) ≤ 1
unfolding zone_computed has
one-start = leb→le _ 1 tt

abbrev rounds_shown : Snapshot
rounds_shown = shown_by tens (accepted_calls more_calls (open_network 4 tens)) (polled_site first_edition (polled second_round))

-- Two rounds that are settled: what the second read is a consistent cut, with the 40 cars.
pub two-rounds-cut : Cut tens (accepted_calls more_calls (open_network 4 tens)) rounds_shown
two-rounds-cut = settled-cut 4 tens more_calls one-start first_round second_round two-rounds two-settled

pub two-rounds-total : total 4 rounds_shown.park ≡ 40
unfolding zone_computed has
two-rounds-total = refl

-- ---- line checks

-- Three zones of 10 cars in edition 2. Zone 1, which got 3 cars of zone 2 and a line check of zone 3, starts, so that it sends a request to
-- zone 2 alone. Its own check of the line to zone 3 goes with the flag, and zone 3 takes it. Before the start zone 2 sent a check that nobody
-- takes.
abbrev checked : Opening
checked = record { edition = 2; stocks = λ k. 10 }

abbrev check_calls : List Call
check_calls =
    send 1 0 3 ∷ receive 1 0 ∷ send 2 0 0 ∷ receive 2 0 ∷ send 1 0 0 ∷ start 0 ∷ send 0 2 0 ∷ receive 0 2 ∷ receive 0 1 ∷ []

-- Both rounds are made at the end.
abbrev end_polls : ℕ → Poll
end_polls k = polled_at check_calls (open_network 3 checked) 9 k

abbrev checks_shown : Snapshot
checks_shown = shown_by checked check_calls (polled_site 2 end_polls)

check-accepted : accepted_calls check_calls (open_network 3 checked) ≡ check_calls
unfolding zone_computed has
check-accepted = refl

check-settled : Settled 3 end_polls end_polls
unfolding zone_computed has
check-settled = record { sent-kept = λ k h. refl; taken-kept = λ k h. refl; all-taken = refl; some-permanent = (0, lit< tt, refl) }

-- What is shown is a consistent cut of all the calls: zones 1 and 2 with one own event each, zone 3 not, and nothing on the line from zone 2
-- to zone 1, where the check still stands.
pub checks-cut : Cut checked check_calls checks_shown
checks-cut = subst (λ (cs : List Call). Cut checked cs (shown_by checked cs (polled_site 2 end_polls))) check-accepted
    (settled-cut 3 checked check_calls (subst (λ (cs : List Call). starts_in cs ≤ 1) (sym check-accepted) (omega arith)) (λ k. 9) (λ k. 9)
    (9, λ k h. (omega arith, omega arith)) check-settled)

pub checks-shown : (map checks_shown.recorded (0 ∷ 1 ∷ 2 ∷ []) ≡ true ∷ true ∷ false ∷ [])
    × (map checks_shown.events (0 ∷ 1 ∷ 2 ∷ []) ≡ 1 ∷ 1 ∷ 0 ∷ [])
    × (map checks_shown.park.stock (0 ∷ 1 ∷ 2 ∷ []) ≡ 13 ∷ 7 ∷ 10 ∷ [])
    × (checks_shown.park.channel 1 0 ≡ [])
    × ((after check_calls (open_network 3 checked)).channel 1 0 ≡ message 0 false ∷ [])
unfolding zone_computed has
checks-shown = (refl, refl, refl, refl, refl)

-- ---- gates

-- Three zones of 10 cars in edition 3. Before the marks 5 cars drive into zone 2, which sends 3 to zone 1, from where 4 drive out; 7 drive into
-- zone 3. Zone 1 starts. Then 0 cars drive into zone 2, which is an own event before its mark; 20 drive into zone 1, behind its mark, and
-- it sends a car to zone 3, which takes a provisional mark. 200 cars cannot drive out of zone 3; 2 do. Zone 2 takes the request, and all
-- its 12 cars drive out, behind its mark.
abbrev gated : Opening
gated = record { edition = 3; stocks = λ k. 10 }

abbrev gate_calls : List Call
gate_calls =
    gate In 1 5
    ∷ send 1 0 3
    ∷ receive 1 0
    ∷ gate Out 0 4
    ∷ gate In 2 7
    ∷ start 0
    ∷ gate In 1 0
    ∷ gate In 0 20
    ∷ send 0 2 1
    ∷ receive 0 2
    ∷ gate Out 2 200
    ∷ gate Out 2 2
    ∷ receive 0 1
    ∷ gate Out 1 12
    ∷ []

abbrev gate_ones : List Call
gate_ones =
    gate In 1 5
    ∷ send 1 0 3
    ∷ receive 1 0
    ∷ gate Out 0 4
    ∷ gate In 2 7
    ∷ start 0
    ∷ gate In 1 0
    ∷ gate In 0 20
    ∷ send 0 2 1
    ∷ receive 0 2
    ∷ gate Out 2 2
    ∷ receive 0 1
    ∷ gate Out 1 12
    ∷ []

-- Both rounds are made at the end.
abbrev gate_polls : ℕ → Poll
gate_polls k = polled_at gate_calls (open_network 3 gated) 14 k

abbrev gates_shown : Snapshot
gates_shown = shown_by gated gate_ones (polled_site 3 gate_polls)

gates-accepted : accepted_calls gate_calls (open_network 3 gated) ≡ gate_ones
unfolding zone_computed has
gates-accepted = refl

gates-one-start : starts_in (accepted_calls gate_calls (open_network 3 gated)) ≤ 1
gates-one-start = subst (λ (cs : List Call). starts_in cs ≤ 1) (sym gates-accepted) (omega arith)

gates-settled : Settled 3 gate_polls gate_polls
unfolding zone_computed has
gates-settled = record { sent-kept = λ k h. refl; taken-kept = λ k h. refl; all-taken = refl; some-permanent = (0, lit< tt, refl) }

-- What is shown is a consistent cut of the accepted calls, the gate calls among them: zones 1 and 2 with their events before the marks, that of
-- 0 cars too, and zone 3 not.
pub gates-cut : Cut gated gate_ones gates_shown
gates-cut = subst (λ (cs : List Call). Cut gated cs (shown_by gated cs (polled_site 3 gate_polls))) gates-accepted
    (settled-cut 3 gated gate_calls gates-one-start (λ k. 14) (λ k. 14) (14, λ k h. (omega arith, omega arith)) gates-settled)

pub gates-shown : (map gates_shown.recorded (0 ∷ 1 ∷ 2 ∷ []) ≡ true ∷ true ∷ false ∷ [])
    × (map gates_shown.events (0 ∷ 1 ∷ 2 ∷ []) ≡ 2 ∷ 3 ∷ 0 ∷ [])
    × (map gates_shown.park.stock (0 ∷ 1 ∷ 2 ∷ []) ≡ 9 ∷ 12 ∷ 10 ∷ [])
    × (gates_shown.park.channel 1 0 ≡ [])
unfolding zone_computed has
gates-shown = (refl, refl, refl, refl)

-- The recorded total is that of the opening, 30, with the 5 cars that drove in inside the recording and without the 4 that drove out; the
-- present one has all the entries and exits.
pub gates-total : (total 3 gates_shown.park ≡ 31)
    × (entries (inside gates_shown.events (moves gate_ones (open_s gated))) ≡ 5)
    × (exits (inside gates_shown.events (moves gate_ones (open_s gated))) ≡ 4)
    × (total 3 (present (network_site 3 (after gate_calls (open_network 3 gated)))) ≡ 44)
    × (entries (moves gate_ones (open_s gated)) ≡ 32)
    × (exits (moves gate_ones (open_s gated)) ≡ 18)
unfolding zone_computed has
gates-total = (refl, refl, refl, refl, refl, refl)
