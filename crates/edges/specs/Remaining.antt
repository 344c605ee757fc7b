-- The worked edges of how many items remain (request 2.4): what a receipt answers, and what a reading tells of its last one.
use Rattle.std.specs.Prelude.{true, false, List, [], ◌∷◌, ◌++◌, ℕ, replicate}
use Rattle.rules.specs.Site.{message, request}
use Rattle.rules.specs.declared.Checkpoint.TheVariants.{None}
use Rattle.rules.specs.declared.Direction.TheVariants.{In}
use Rattle.rules.specs.declared.Local.{Local}
use Rattle.run.specs.declared.Run.{Run}
use Rattle.run.specs.declared.SiteCall.{SiteCall}
use Rattle.run.specs.declared.SiteCall.TheVariants.{Send, Receive, Start, Gate}
use Rattle.edges.specs.Rows.{
  Row,
  opens_in,
  gives,
  receives,
  reads,
  tells,
  zone,
  permanent,
  Channel,
  channel,
  run_in,
  nothing,
}

-- Runs of two zones, opened with 9 cars each, in an edition; and their journals.
abbrev pub nines_in : ℕ → List Local → List Channel → List ℕ → Run
nines_in edition = run_in edition (9 ∷ 9 ∷ [])

abbrev pub nines : ℕ → Run
nines edition = nines_in edition (zone 9 1 0 None ∷ zone 9 2 0 None ∷ []) [] []

abbrev pub journal_of : ℕ → ℕ → List ℕ → List ℕ
journal_of first records words = first ∷ records ∷ 0x00 ∷ 0x09 ∷ 0x00 ∷ 0x09 ∷ words

-- Zone 1 has sent 16 messages of 0 cars to zone 2, which is z now: so many are left on the channel, and so many have been received.
abbrev pub sixteen_sent : (left received : ℕ) → Local → Run
sixteen_sent left received z =
    nines_in 1 (zone 9 1 16 None ∷ z ∷ []) (channel 1 2 (replicate left (message 0 false)) ∷ []) (replicate 16 0x0100 ++ replicate received 0x4100)

abbrev pub receipts : List Row
receipts =
    opens_in 1 2 (9 ∷ 9 ∷ []) 0 (nines 1)
    -- 16 items, one taken; those behind it, to the last.
    ∷ gives (nines 1) (replicate 15 (Send 1 2 0)) (Send 1 2 0) 0 (sixteen_sent 16 0 (zone 9 2 0 None))
    ∷ receives (sixteen_sent 16 0 (zone 9 2 0 None)) [] 1 2 15 (sixteen_sent 15 1 (zone 9 3 1 None))
    ∷ receives (sixteen_sent 16 0 (zone 9 2 0 None)) (replicate 14 (Receive 1 2)) 1 2 1 (sixteen_sent 1 15 (zone 9 3 15 None))
    ∷ receives (sixteen_sent 16 0 (zone 9 2 0 None)) (replicate 15 (Receive 1 2)) 1 2 0 (sixteen_sent 0 16 (zone 9 3 16 None))
    ∷ gives (sixteen_sent 16 0 (zone 9 2 0 None)) (replicate 16 (Receive 1 2)) (Receive 1 2) 9 (sixteen_sent 0 16 (zone 9 3 16 None))
    -- Refused receipts: items wait on the way back, and in the site; no calls lead to 17 on this channel. Then a message that is refused, and
    -- an entry that is accepted.
    ∷ gives (sixteen_sent 16 0 (zone 9 2 0 None)) [] (Receive 2 1) 9 (sixteen_sent 16 0 (zone 9 2 0 None))
    ∷ gives (sixteen_sent 16 0 (zone 9 2 0 None)) [] (Receive 1 1) 5 (sixteen_sent 16 0 (zone 9 2 0 None))
    ∷ gives (sixteen_sent 17 0 (zone 9 2 0 None)) [] (Receive 1 2) 1 (sixteen_sent 17 0 (zone 9 2 0 None))
    ∷ gives (sixteen_sent 16 0 (zone 9 2 0 None)) [] (Send 1 2 0) 8 (sixteen_sent 16 0 (zone 9 2 0 None))
    ∷ gives (nines 3) (Send 1 2 1 ∷ []) (Gate In 1 2) 0
    (nines_in 3 (zone 10 1 2 None ∷ zone 9 2 0 None ∷ []) (channel 1 2 (message 1 false ∷ []) ∷ []) (0x0101 ∷ 0xC002 ∷ []))
    -- From edition 2 on, a line check is an item too.
    ∷ receives (nines 2) (Send 1 2 0 ∷ Send 1 2 0 ∷ []) 1 2 1
    (nines_in 2 (zone 9 1 0 None ∷ zone 9 2 0 None ∷ []) (channel 1 2 (message 0 false ∷ []) ∷ []) (0x0100 ∷ 0x0100 ∷ 0x4100 ∷ []))
    ∷ []

-- Zone 1 depends on zone 2, has sent it a car, and starts: its request stands behind the car.
abbrev pub behind_cars : List SiteCall
behind_cars = Send 2 1 1 ∷ Receive 2 1 ∷ Send 1 2 1 ∷ Start 1 ∷ []

abbrev pub cars_taken : Run
cars_taken = nines_in 1
    (zone 9 3 2 (permanent 9 2) ∷ zone 9 3 2 None ∷ [])
    (channel 1 2 (request 3 ∷ []) ∷ [])
    (0x0801 ∷ 0x4800 ∷ 0x0101 ∷ 0x8000 ∷ 0x4100 ∷ [])

-- Zone 3 depends on zone 1 and zone 1 on zone 2; zone 3 starts and sends a car behind its request. When zone 1 takes the request, it sends one
-- to zone 2.
abbrev pub passed_on : List SiteCall
passed_on = Send 2 1 0 ∷ Receive 2 1 ∷ Send 1 3 0 ∷ Receive 1 3 ∷ Start 3 ∷ Send 3 1 4 ∷ []

abbrev pub three_nines : Run
three_nines = run_in 1 (9 ∷ 9 ∷ 9 ∷ []) (zone 9 1 0 None ∷ zone 9 2 0 None ∷ zone 9 4 0 None ∷ []) [] []

-- No calls lead to this: the request names nobody, so that zone 2 sends one back, to zone 1.
abbrev pub untrue : Run
untrue = nines_in 1
    (zone 9 1 0 None ∷ zone 9 3 0 None ∷ [])
    (channel 1 2 (request 0 ∷ message 0 false ∷ request 0 ∷ []) ∷ [])
    []

abbrev pub requests : List Row
requests =
    -- A request behind a hand-over; the request, which is then the last.
    receives (nines 1) behind_cars 1 2 1 cars_taken
    ∷ receives cars_taken [] 1 2 0 (nines_in 1
    (zone 9 3 2 (permanent 9 2) ∷ zone 9 3 2 (permanent 9 2) ∷ [])
    []
    (0x0801 ∷ 0x4800 ∷ 0x0101 ∷ 0x8000 ∷ 0x4100 ∷ 0x4100 ∷ []))
    -- A hand-over behind a request, whose receipt sends a request on another line.
    ∷ opens_in 1 3 (9 ∷ 9 ∷ 9 ∷ []) 0 three_nines
    ∷ receives three_nines passed_on 3 1 1 (run_in 1
    (9 ∷ 9 ∷ 9 ∷ [])
    (zone 9 3 2 (permanent 9 2) ∷ zone 9 2 1 None ∷ zone 5 5 2 (permanent 9 1) ∷ [])
    (channel 1 2 (request 7 ∷ []) ∷ channel 3 1 (message 4 true ∷ []) ∷ [])
    (0x0800 ∷ 0x4800 ∷ 0x0200 ∷ 0x4200 ∷ 0x9000 ∷ 0x1004 ∷ 0x5000 ∷ []))
    -- The line to zone 2 is full: the receipt is refused with 10, though two items wait.
    ∷ gives three_nines (passed_on ++ replicate 16 (Send 1 2 0)) (Receive 3 1) 10 (run_in 1
    (9 ∷ 9 ∷ 9 ∷ [])
    (zone 9 3 18 None ∷ zone 9 2 1 None ∷ zone 5 5 2 (permanent 9 1) ∷ [])
    (channel 1 2 (replicate 16 (message 0 false)) ∷ channel 3 1 (request 5 ∷ message 4 true ∷ []) ∷ [])
    (0x0800 ∷ 0x4800 ∷ 0x0200 ∷ 0x4200 ∷ 0x9000 ∷ 0x1004 ∷ replicate 16 0x0100))
    -- The request that is sent stands on the way back, and does not count.
    ∷ receives untrue [] 1 2 2 (nines_in 1
    (zone 9 1 0 None ∷ zone 9 3 0 (permanent 9 0) ∷ [])
    (channel 1 2 (message 0 false ∷ request 0 ∷ []) ∷ channel 2 1 (request 3 ∷ []) ∷ [])
    (0x4100 ∷ []))
    ∷ []

abbrev pub readings : List Row
readings =
    -- Two hand-overs behind the one that was received.
    tells (journal_of 0x24 4 (0x01 ∷ 0x01 ∷ 0x01 ∷ 0x02 ∷ 0x01 ∷ 0x03 ∷ 0x41 ∷ 0x00 ∷ [])) 2 (nines_in 1
    (zone 3 1 3 None ∷ zone 10 3 1 None ∷ [])
    (channel 1 2 (message 2 false ∷ message 3 false ∷ []) ∷ [])
    (0x0101 ∷ 0x0102 ∷ 0x0103 ∷ 0x4100 ∷ []))
    -- One, though two wait in the end.
    ∷ tells (journal_of 0x24 5 (0x01 ∷ 0x01 ∷ 0x01 ∷ 0x02 ∷ 0x41 ∷ 0x00 ∷ 0x01 ∷ 0x03 ∷ 0x08 ∷ 0x01 ∷ [])) 1 (nines_in 1
    (zone 3 1 3 None ∷ zone 9 3 2 None ∷ [])
    (channel 1 2 (message 2 false ∷ message 3 false ∷ []) ∷ channel 2 1 (message 1 false ∷ []) ∷ [])
    (0x0101 ∷ 0x0102 ∷ 0x4100 ∷ 0x0103 ∷ 0x0801 ∷ []))
    -- The request.
    ∷ tells (journal_of 0x24 5 (0x08 ∷ 0x01 ∷ 0x48 ∷ 0x00 ∷ 0x01 ∷ 0x01 ∷ 0x80 ∷ 0x00 ∷ 0x41 ∷ 0x00 ∷ [])) 1 cars_taken
    -- Refused behind a receipt that left one: with 18, and with 19.
    ∷ reads (journal_of 0x24 4 (0x01 ∷ 0x01 ∷ 0x01 ∷ 0x01 ∷ 0x41 ∷ 0x00 ∷ 0x41 ∷ 0x01 ∷ [])) 18 3 nothing
    ∷ reads (journal_of 0x24 4 (0x01 ∷ 0x01 ∷ 0x01 ∷ 0x01 ∷ 0x41 ∷ 0x00 ∷ 0x48 ∷ 0x00 ∷ [])) 19 3 nothing
    -- The last receipt decides, where it left nothing too, and on whichever line; without one, 0.
    ∷ reads (journal_of 0x24 5 (0x01 ∷ 0x01 ∷ 0x01 ∷ 0x02 ∷ 0x41 ∷ 0x00 ∷ 0x08 ∷ 0x01 ∷ 0x48 ∷ 0x00 ∷ [])) 0 0 (nines_in 1
    (zone 7 3 3 None ∷ zone 9 3 2 None ∷ [])
    (channel 1 2 (message 2 false ∷ []) ∷ [])
    (0x0101 ∷ 0x0102 ∷ 0x4100 ∷ 0x0801 ∷ 0x4800 ∷ []))
    ∷ reads (journal_of 0x24 2 (0x01 ∷ 0x01 ∷ 0x01 ∷ 0x02 ∷ [])) 0 0 (nines_in 1
    (zone 6 1 2 None ∷ zone 9 2 0 None ∷ [])
    (channel 1 2 (message 1 false ∷ message 2 false ∷ []) ∷ [])
    (0x0101 ∷ 0x0102 ∷ []))
    -- A start behind it changes nothing, nor does a gate.
    ∷ tells (journal_of 0x24 4 (0x01 ∷ 0x01 ∷ 0x01 ∷ 0x02 ∷ 0x41 ∷ 0x00 ∷ 0x80 ∷ 0x00 ∷ [])) 1 (nines_in 1
    (zone 6 1 2 (permanent 6 2) ∷ zone 10 3 1 None ∷ [])
    (channel 1 2 (message 2 false ∷ []) ∷ [])
    (0x0101 ∷ 0x0102 ∷ 0x4100 ∷ 0x8000 ∷ []))
    ∷ tells (journal_of 0x64 4 (0x01 ∷ 0x01 ∷ 0x01 ∷ 0x02 ∷ 0x41 ∷ 0x00 ∷ 0xC0 ∷ 0x03 ∷ [])) 1 (nines_in 3
    (zone 9 1 3 None ∷ zone 10 3 1 None ∷ [])
    (channel 1 2 (message 2 false ∷ []) ∷ [])
    (0x0101 ∷ 0x0102 ∷ 0x4100 ∷ 0xC003 ∷ []))
    ∷ []

abbrev pub remaining : List Row
remaining = receipts ++ requests ++ readings
