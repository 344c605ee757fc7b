-- Worked examples of the zone part: each row's answer, by the definitions that the contracts cite, is what docs/RULES.md says.
use mathlib.Core.Path.{◌≡◌, refl, ap}
use mathlib.Core.Bool.{Bool, true, false}
use mathlib.Core.List.{List, [], ◌∷◌, ◌++◌}
use Prim.Native.Nat.{ℕ}
use native.Mathlib.Omega.{arith}
use Rattle.rules.specs.declared.Saved.{Saved}
use Rattle.rules.specs.declared.Checkpoint.{Checkpoint}
use Rattle.rules.specs.declared.Checkpoint.TheVariants.{None, Mutable, Permanent}
use Rattle.rules.specs.declared.Direction.TheVariants.{In, Out}
use Rattle.rules.specs.Edition.{first_edition}
use Rattle.rules.specs.Sets.{size}
use Rattle.zone.specs.Zone.{open_zone, send_step, receive_step, request_step, start_step, gate_step, next_target}
use Rattle.zone.specs.declared.Zone.{Zone}
use Rattle.zone.specs.Answer.{StepAnswer, OpeningAnswer}
use Rattle.zone.proofs.Checks.{after_checks, checks-kept}
use Rattle.zone.proofs.Computed.{zone_computed}

-- What the zone part answers: an opening, a step, or a number of a set of zones.
pub data Reply : Type 0 where
  opening : OpeningAnswer → Reply
  step : StepAnswer → Reply
  of_set : ℕ → Reply

pub record Row : Type 0 where
  pub answer : Reply
  pub expected : Reply

abbrev pub answers : List Row → List Reply
answers [] = []
answers (r ∷ rs) = r.answer ∷ answers rs

abbrev pub expectations : List Row → List Reply
expectations [] = []
expectations (r ∷ rs) = r.expected ∷ expectations rs

-- A zone: its edition, its number, the zone count, its stock, dependency set, own events and checkpoint.
abbrev pub zone_in : ℕ → ℕ → ℕ → ℕ → ℕ → ℕ → Checkpoint → Zone
zone_in edition number count stock deps events checkpoint = record {
  edition = edition;
  number = number;
  count = count;
  stock = stock;
  deps = deps;
  events = events;
  checkpoint = checkpoint;
}

-- One of edition 1.
abbrev pub zone : ℕ → ℕ → ℕ → ℕ → ℕ → Checkpoint → Zone
zone = zone_in first_edition

abbrev pub saved : ℕ → ℕ → Saved
saved stock events = record { stock = stock; events = events }

-- An opening, with the refusal's number and the zone.
abbrev pub opens : OpeningAnswer → ℕ → Zone → Row
opens o n z = record { answer = opening o; expected = opening (record { refusal = n; zone = z }) }

-- A step, with the refusal's number, the zone, the flag, the request targets and the set carried.
abbrev pub gives : StepAnswer → ℕ → Zone → Bool → ℕ → ℕ → Row
gives s n z flag to carried = record {
  answer = step s;
  expected = step (record { refusal = n; zone = z; flag = flag; to = to; carried = carried });
}

-- A step that is refused, with the refusal's number: the zone unchanged, flag and sets 0.
abbrev pub refuses : (Zone → StepAnswer) → Zone → ℕ → Row
refuses s z n = gives (s z) n z false 0 0

-- A set, with the number of requests to be sent to it; and one with its next zone.
abbrev pub counts : ℕ → ℕ → Row
counts set n = record { answer = of_set (size set); expected = of_set n }

abbrev pub leads : ℕ → ℕ → Row
leads set n = record { answer = of_set (next_target set); expected = of_set n }

-- Every step on a zone that is not sound meets 1.
abbrev pub unsound : Zone → List Row
unsound z =
    refuses (λ z. send_step z 2 1) z 1
    ∷ refuses (λ z. receive_step z 2 1 false) z 1
    ∷ refuses (λ z. request_step z 3) z 1
    ∷ refuses start_step z 1
    ∷ refuses (λ z. gate_step z In 1) z 1
    ∷ refuses (λ z. gate_step z Out 1) z 1
    ∷ []

abbrev pub table : List Row
table =
    -- 1, 2, 8 and 9 zones.
    opens (open_zone first_edition 1 1 5) 2 (zone 1 2 0 1 0 None)
    ∷ opens (open_zone first_edition 2 1 5) 0 (zone 1 2 5 1 0 None)
    ∷ opens (open_zone first_edition 8 8 65535) 0 (zone 8 8 65535 128 0 None)
    ∷ opens (open_zone first_edition 9 1 5) 2 (zone 1 2 0 1 0 None)
    -- A zone whose number is not on the site.
    ∷ opens (open_zone first_edition 3 0 5) 5 (zone 1 2 0 1 0 None)
    ∷ opens (open_zone first_edition 3 4 5) 5 (zone 1 2 0 1 0 None)
    -- Case B. Zone 1, which heard of zone 2, starts: it sends zone 2 a request, carrying {1, 2}; then it sends 2 cars, flagged.
    ∷ gives (start_step (zone 1 3 11 3 1 None)) 0 (zone 1 3 11 3 1 (Permanent (saved 11 1))) false 2 3
    ∷ gives (send_step (zone 1 3 11 3 1 (Permanent (saved 11 1))) 3 2) 0 (zone 1 3 9 3 2 (Permanent (saved 11 1))) true 0 0
    -- Zone 3 receives them: a mutable checkpoint of stock 9 and 1 event, before the stock rises.
    ∷ gives (receive_step (zone 3 3 9 4 1 None) 1 2 true) 0 (zone 3 3 11 4 2 (Mutable (saved 9 1))) false 0 0
    -- Zone 2, which heard of zone 3, takes the request of zone 1: it sends zone 3 a request, carrying {1, 2, 3}.
    ∷ gives (request_step (zone 2 3 10 6 2 None) 3) 0 (zone 2 3 10 6 2 (Permanent (saved 10 2))) false 4 7
    -- Zone 3 takes the request of zone 2: permanent with stock 9 and 1 event, and no request is sent.
    ∷ gives (request_step (zone 3 3 11 4 2 (Mutable (saved 9 1))) 7) 0 (zone 3 3 11 4 2 (Permanent (saved 9 1))) false 0 0
    -- A permanent checkpoint drops a request.
    ∷ gives (request_step (zone 2 3 10 6 2 (Permanent (saved 7 1))) 1) 0 (zone 2 3 10 6 2 (Permanent (saved 7 1))) false 0 0
    -- A start that sends no request, and a second one.
    ∷ gives (start_step (zone 1 2 5 1 0 None)) 0 (zone 1 2 5 1 0 (Permanent (saved 5 0))) false 0 0
    ∷ gives (start_step (zone 1 2 5 1 0 (Permanent (saved 5 0)))) 11 (zone 1 2 5 1 0 (Permanent (saved 5 0))) false 0 0
    -- A stock of 65,535, reached and passed.
    ∷ gives (receive_step (zone 1 2 65534 1 3 None) 2 1 false) 0 (zone 1 2 65535 3 4 None) false 0 0
    ∷ gives (receive_step (zone 1 2 65535 1 3 None) 2 1 false) 20 (zone 1 2 65535 1 3 None) false 0 0
    -- Own event 1,000, and the next.
    ∷ gives (send_step (zone 1 2 5 1 999 None) 2 1) 0 (zone 1 2 4 1 1000 None) false 0 0
    ∷ gives (send_step (zone 1 2 4 1 1000 None) 2 1) 6 (zone 1 2 4 1 1000 None) false 0 0
    ∷ gives (receive_step (zone 1 2 4 1 999 None) 2 1 false) 0 (zone 1 2 5 3 1000 None) false 0 0
    ∷ gives (receive_step (zone 1 2 5 3 1000 None) 2 1 false) 6 (zone 1 2 5 3 1000 None) false 0 0
    -- In edition 1 a message of 0 cars is treated as any other: it adds to the dependency set, or makes a mutable checkpoint.
    ∷ gives (receive_step (zone 2 3 8 2 1 None) 3 0 false) 0 (zone 2 3 8 6 2 None) false 0 0
    ∷ gives (receive_step (zone 2 3 8 2 1 None) 3 0 true) 0 (zone 2 3 8 2 2 (Mutable (saved 8 1))) false 0 0
    -- The editions defined are 1 to 3, none of 0, 4, 7 and 255; 15 is asked first, and a refused opening hands back edition 1.
    ∷ opens (open_zone 0 2 1 5) 15 (zone 1 2 0 1 0 None)
    ∷ opens (open_zone 1 2 1 5) 0 (zone_in 1 1 2 5 1 0 None)
    ∷ opens (open_zone 2 2 1 5) 0 (zone_in 2 1 2 5 1 0 None)
    ∷ opens (open_zone 3 2 1 5) 0 (zone_in 3 1 2 5 1 0 None)
    ∷ opens (open_zone 4 1 4 5) 15 (zone 1 2 0 1 0 None)
    ∷ opens (open_zone 7 2 1 5) 15 (zone 1 2 0 1 0 None)
    ∷ opens (open_zone 255 2 1 5) 15 (zone 1 2 0 1 0 None)
    ∷ opens (open_zone 2 9 1 5) 2 (zone 1 2 0 1 0 None)
    ∷ opens (open_zone 2 3 4 5) 5 (zone 1 2 0 1 0 None)
    -- A zone of an edition that is not defined meets 1.
    ∷ gives (start_step (zone_in 0 1 2 5 1 0 None)) 1 (zone_in 0 1 2 5 1 0 None) false 0 0
    ∷ gives (start_step (zone_in 4 1 2 5 1 0 None)) 1 (zone_in 4 1 2 5 1 0 None) false 0 0
    -- In edition 2 a message of 0 cars is a line check: sent, flagged by a marked sender as ever, and received with either flag, it leaves
    -- the zone as it was; the questions are the same, so that behind own event 1,000 it meets 6.
    ∷ gives (send_step (zone_in 2 1 2 5 1 3 None) 2 0) 0 (zone_in 2 1 2 5 1 3 None) false 0 0
    ∷ gives (send_step (zone_in 2 1 2 5 1 3 (Permanent (saved 5 3))) 2 0) 0 (zone_in 2 1 2 5 1 3 (Permanent (saved 5 3))) true 0 0
    ∷ gives (receive_step (zone_in 2 2 3 8 2 1 None) 3 0 false) 0 (zone_in 2 2 3 8 2 1 None) false 0 0
    ∷ gives (receive_step (zone_in 2 2 3 8 2 1 None) 3 0 true) 0 (zone_in 2 2 3 8 2 1 None) false 0 0
    ∷ gives (send_step (zone_in 2 1 2 5 1 1000 None) 2 0) 6 (zone_in 2 1 2 5 1 1000 None) false 0 0
    ∷ gives (receive_step (zone_in 2 1 2 5 1 1000 None) 2 0 false) 6 (zone_in 2 1 2 5 1 1000 None) false 0 0
    -- One with cars is what it was.
    ∷ gives (send_step (zone_in 2 1 2 5 1 3 None) 2 1) 0 (zone_in 2 1 2 4 1 4 None) false 0 0
    ∷ gives (receive_step (zone_in 2 2 3 8 2 1 None) 3 1 false) 0 (zone_in 2 2 3 9 6 2 None) false 0 0
    ∷ gives (receive_step (zone_in 2 2 3 8 2 1 None) 3 1 true) 0 (zone_in 2 2 3 9 2 2 (Mutable (saved 8 1))) false 0 0
    -- In edition 3 line checks are what they were.
    ∷ gives (send_step (zone_in 3 1 2 5 1 3 None) 2 0) 0 (zone_in 3 1 2 5 1 3 None) false 0 0
    ∷ gives (receive_step (zone_in 3 2 3 8 2 1 None) 3 0 true) 0 (zone_in 3 2 3 8 2 1 None) false 0 0
    -- Cars that drive in and out, before a mark and after: one own event, another stock, and nothing else.
    ∷ gives (gate_step (zone_in 3 1 2 5 3 7 None) In 4) 0 (zone_in 3 1 2 9 3 8 None) false 0 0
    ∷ gives (gate_step (zone_in 3 1 2 5 3 7 None) Out 4) 0 (zone_in 3 1 2 1 3 8 None) false 0 0
    ∷ gives (gate_step (zone_in 3 1 2 5 3 7 (Mutable (saved 6 2))) In 4) 0 (zone_in 3 1 2 9 3 8 (Mutable (saved 6 2))) false 0 0
    ∷ gives (gate_step (zone_in 3 1 2 5 3 7 (Mutable (saved 6 2))) Out 4) 0 (zone_in 3 1 2 1 3 8 (Mutable (saved 6 2))) false 0 0
    ∷ gives (gate_step (zone_in 3 1 2 5 3 7 (Permanent (saved 5 7))) In 4) 0 (zone_in 3 1 2 9 3 8 (Permanent (saved 5 7))) false 0 0
    ∷ gives (gate_step (zone_in 3 1 2 5 3 7 (Permanent (saved 5 7))) Out 4) 0 (zone_in 3 1 2 1 3 8 (Permanent (saved 5 7))) false 0 0
    -- 0 cars are an own event too, both ways.
    ∷ gives (gate_step (zone_in 3 1 2 5 3 7 None) In 0) 0 (zone_in 3 1 2 5 3 8 None) false 0 0
    ∷ gives (gate_step (zone_in 3 1 2 5 3 7 None) Out 0) 0 (zone_in 3 1 2 5 3 8 None) false 0 0
    ∷ gives (gate_step (zone_in 3 1 2 5 3 7 (Permanent (saved 5 7))) In 0) 0 (zone_in 3 1 2 5 3 8 (Permanent (saved 5 7))) false 0 0
    ∷ gives (gate_step (zone_in 3 1 2 5 3 7 (Permanent (saved 5 7))) Out 0) 0 (zone_in 3 1 2 5 3 8 (Permanent (saved 5 7))) false 0 0
    -- A stock of 65,535, reached and passed.
    ∷ gives (gate_step (zone_in 3 1 2 65280 1 3 None) In 255) 0 (zone_in 3 1 2 65535 1 4 None) false 0 0
    ∷ gives (gate_step (zone_in 3 1 2 65281 1 3 None) In 255) 20 (zone_in 3 1 2 65281 1 3 None) false 0 0
    ∷ gives (gate_step (zone_in 3 1 2 65535 1 3 None) In 0) 0 (zone_in 3 1 2 65535 1 4 None) false 0 0
    ∷ gives (gate_step (zone_in 3 1 2 65535 1 3 None) In 1) 20 (zone_in 3 1 2 65535 1 3 None) false 0 0
    ∷ gives (gate_step (zone_in 3 1 2 65535 1 3 (Permanent (saved 9 2))) In 1) 20 (zone_in 3 1 2 65535 1 3 (Permanent (saved 9 2))) false 0 0
    -- The whole stock, and a car more.
    ∷ gives (gate_step (zone_in 3 1 2 5 1 3 None) Out 5) 0 (zone_in 3 1 2 0 1 4 None) false 0 0
    ∷ gives (gate_step (zone_in 3 1 2 5 1 3 None) Out 6) 7 (zone_in 3 1 2 5 1 3 None) false 0 0
    ∷ gives (gate_step (zone_in 3 1 2 0 1 3 None) Out 0) 0 (zone_in 3 1 2 0 1 4 None) false 0 0
    ∷ gives (gate_step (zone_in 3 1 2 0 1 3 (Permanent (saved 9 2))) Out 1) 7 (zone_in 3 1 2 0 1 3 (Permanent (saved 9 2))) false 0 0
    -- Own event 1,000, and the next.
    ∷ gives (gate_step (zone_in 3 1 2 5 1 999 None) In 1) 0 (zone_in 3 1 2 6 1 1000 None) false 0 0
    ∷ gives (gate_step (zone_in 3 1 2 6 1 1000 None) In 0) 6 (zone_in 3 1 2 6 1 1000 None) false 0 0
    ∷ gives (gate_step (zone_in 3 1 2 6 1 1000 None) Out 0) 6 (zone_in 3 1 2 6 1 1000 None) false 0 0
    -- Editions 1 and 2 have no gates.
    ∷ gives (gate_step (zone_in 1 1 2 5 1 3 None) In 1) 15 (zone_in 1 1 2 5 1 3 None) false 0 0
    ∷ gives (gate_step (zone_in 1 1 2 5 1 3 None) Out 1) 15 (zone_in 1 1 2 5 1 3 None) false 0 0
    ∷ gives (gate_step (zone_in 2 1 2 5 1 3 None) In 0) 15 (zone_in 2 1 2 5 1 3 None) false 0 0
    ∷ gives (gate_step (zone_in 2 1 2 5 1 3 None) Out 0) 15 (zone_in 2 1 2 5 1 3 None) false 0 0
    -- 1 is asked before 15, 15 before 6, and 6 before 20 and 7.
    ∷ gives (gate_step (zone_in 4 1 2 5 1 3 None) In 1) 1 (zone_in 4 1 2 5 1 3 None) false 0 0
    ∷ gives (gate_step (zone_in 2 3 2 5 1 3 None) Out 1) 1 (zone_in 2 3 2 5 1 3 None) false 0 0
    ∷ gives (gate_step (zone_in 2 1 2 65535 1 1000 None) In 1) 15 (zone_in 2 1 2 65535 1 1000 None) false 0 0
    ∷ gives (gate_step (zone_in 2 1 2 5 1 1000 None) Out 6) 15 (zone_in 2 1 2 5 1 1000 None) false 0 0
    ∷ gives (gate_step (zone_in 3 1 2 65535 1 1000 None) In 1) 6 (zone_in 3 1 2 65535 1 1000 None) false 0 0
    ∷ gives (gate_step (zone_in 3 1 2 5 1 1000 None) Out 6) 6 (zone_in 3 1 2 5 1 1000 None) false 0 0
    -- A request whose set names a zone off the site, and one that names all of it.
    ∷ refuses (λ z. request_step z 8) (zone 2 3 10 2 0 None) 5
    ∷ refuses (λ z. request_step z 255) (zone 2 3 10 2 0 (Permanent (saved 10 0))) 5
    ∷ gives (request_step (zone 2 3 10 2 0 None) 7) 0 (zone 2 3 10 2 0 (Permanent (saved 10 0))) false 0 0
    -- 1,000 own events are sound: a start and a request, which do not ask 6, are accepted.
    ∷ gives (start_step (zone 1 2 5 1 1000 None)) 0 (zone 1 2 5 1 1000 (Permanent (saved 5 1000))) false 0 0
    ∷ gives (request_step (zone 1 2 5 1 1000 None) 2) 0 (zone 1 2 5 1 1000 (Permanent (saved 5 1000))) false 0 0
    -- 1,001 are not: 1, where 1,000 meet 6.
    ∷ unsound (zone_in 3 1 2 5 1 1001 None)
    -- A dependency set that names a zone off the site: zone 3 of 2, zone 8 of 2.
    ++ unsound (zone_in 3 1 2 5 5 3 None)
    ++ unsound (zone_in 3 1 2 5 129 3 None)
    -- A site of 1 zone and one of 9; zone 0, and zone 3 of 2.
    ++ unsound (zone_in 3 1 1 5 1 3 None)
    ++ unsound (zone_in 3 1 9 5 1 3 None)
    ++ unsound (zone_in 3 0 2 5 1 3 None)
    ++ unsound (zone_in 3 3 2 5 1 3 None)
    -- The number of requests: to nobody, to one zone, to several, to all eight.
    ++ counts 0 0
    ∷ counts 1 1
    ∷ counts 128 1
    ∷ counts 6 2
    ∷ counts 104 3
    ∷ counts 255 8
    -- The next zone of the same sets: none, or the lowest.
    ∷ leads 0 0
    ∷ leads 1 1
    ∷ leads 128 8
    ∷ leads 6 2
    ∷ leads 104 4
    ∷ leads 255 1
    ∷ []

-- The two sides of every row are equal.
pub edges : answers table ≡ expectations table
unfolding zone_computed
edges = refl

-- A check behind 1,000 others is accepted, since none of them is an own event.
pub check-1001 : send_step (after_checks 1000 2 (zone_in 2 1 2 5 1 3 None)) 2 0
    ≡ record { refusal = 0; zone = zone_in 2 1 2 5 1 3 None; flag = false; to = 0; carried = 0 }
unfolding zone_computed
check-1001 = ap (λ (z : Zone). send_step z 2 0) (checks-kept (zone_in 2 1 2 5 1 3 None) (omega arith) 2 1000)
