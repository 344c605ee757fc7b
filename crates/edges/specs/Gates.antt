-- The worked edges of gates: what a gate call asks and changes, what a recording counts of it, and its records in journals.
use Rattle.std.specs.Prelude.{true, false, List, [], ◌∷◌, ◌++◌, ℕ, replicate}
use Rattle.rules.specs.Site.{message, request}
use Rattle.rules.specs.declared.Checkpoint.TheVariants.{None}
use Rattle.rules.specs.declared.Direction.TheVariants.{In, Out}
use Rattle.rules.specs.declared.Local.{Local}
use Rattle.run.specs.declared.Run.{Run}
use Rattle.run.specs.declared.SiteCall.{SiteCall}
use Rattle.run.specs.declared.SiteCall.TheVariants.{Send, Receive, Start, Gate}
use Rattle.edges.specs.Editions.{lent, pair_in, pair, thousand_records}
use Rattle.edges.specs.Rows.{
  Row,
  opens_in,
  gives,
  records,
  writes,
  reads,
  records_journal,
  prints,
  zone,
  mutable,
  permanent,
  times,
  Channel,
  channel,
  run_in,
  nothing,
}

-- Runs of two zones of edition 3, opened with 5 and 7 cars.
abbrev pub gates_with : List Local → List Channel → List ℕ → Run
gates_with = pair_in 3

-- Runs of eight zones of edition 3, of which only the last has changed.
abbrev pub eight_gates : Local → List ℕ → Run
eight_gates eighth = run_in
    3
    (1 ∷ 2 ∷ 3 ∷ 4 ∷ 5 ∷ 6 ∷ 7 ∷ 8 ∷ [])
    (
    zone 1 1 0 None
    ∷ zone 2 2 0 None
    ∷ zone 3 4 0 None
    ∷ zone 4 8 0 None
    ∷ zone 5 16 0 None
    ∷ zone 6 32 0 None
    ∷ zone 7 64 0 None
    ∷ eighth
    ∷ []
    )
    []

abbrev pub drives : List Row
drives =
    -- A gate event "changes that zone's stock by a signed amount"; its record has the direction, "0 in, 1 out".
    gives (pair 3) [] (Gate In 1 4) 0 (gates_with (zone 9 1 1 None ∷ zone 7 2 0 None ∷ []) [] (0xC004 ∷ []))
    ∷ gives (pair 3) [] (Gate Out 1 4) 0 (gates_with (zone 1 1 1 None ∷ zone 7 2 0 None ∷ []) [] (0xC104 ∷ []))
    ∷ gives (pair 3) [] (Gate In 2 255) 0 (gates_with (zone 5 1 0 None ∷ zone 262 2 1 None ∷ []) [] (0xC8FF ∷ []))
    ∷ gives (pair 3) (Gate In 2 255 ∷ []) (Gate Out 2 255) 0
    (gates_with (zone 5 1 0 None ∷ zone 7 2 2 None ∷ []) [] (0xC8FF ∷ 0xC9FF ∷ []))
    -- "It is an own event, also with 0 cars".
    ∷ gives (pair 3) [] (Gate In 1 0) 0 (gates_with (zone 5 1 1 None ∷ zone 7 2 0 None ∷ []) [] (0xC000 ∷ []))
    ∷ gives (pair 3) [] (Gate Out 1 0) 0 (gates_with (zone 5 1 1 None ∷ zone 7 2 0 None ∷ []) [] (0xC100 ∷ []))
    ∷ gives (pair 3) [] (Gate In 2 0) 0 (gates_with (zone 5 1 0 None ∷ zone 7 2 1 None ∷ []) [] (0xC800 ∷ []))
    ∷ gives (pair 3) [] (Gate Out 2 0) 0 (gates_with (zone 5 1 0 None ∷ zone 7 2 1 None ∷ []) [] (0xC900 ∷ []))
    -- "Edition 3 is edition 2 with kind 3": a message of 0 cars is no own event of either zone and makes no checkpoint; one with cars is an
    -- own event of both.
    ∷ gives (pair 3) [] (Send 1 2 0) 0
    (gates_with (zone 5 1 0 None ∷ zone 7 2 0 None ∷ []) (channel 1 2 (message 0 false ∷ []) ∷ []) (0x0100 ∷ []))
    ∷ gives (pair 3) (Send 1 2 0 ∷ []) (Receive 1 2) 0 (gates_with (zone 5 1 0 None ∷ zone 7 2 0 None ∷ []) [] (0x0100 ∷ 0x4100 ∷ []))
    ∷ gives (pair 3) (Start 1 ∷ Send 1 2 0 ∷ []) (Receive 1 2) 0
    (gates_with (zone 5 1 0 (permanent 5 0) ∷ zone 7 2 0 None ∷ []) [] (0x8000 ∷ 0x0100 ∷ 0x4100 ∷ []))
    ∷ gives (pair 3) (Send 1 2 4 ∷ []) (Receive 1 2) 0 (gates_with (zone 1 1 1 None ∷ zone 11 3 1 None ∷ []) [] (0x0104 ∷ 0x4100 ∷ []))
    -- A gate asks nothing of the channels, and they stay: here one of them is full.
    ∷ gives (pair 3) (replicate 16 (Send 1 2 0)) (Gate Out 1 2) 0 (gates_with
    (zone 3 1 1 None ∷ zone 7 2 0 None ∷ [])
    (channel 1 2 (replicate 16 (message 0 false)) ∷ [])
    (replicate 16 0x0100 ++ (0xC102 ∷ [])))
    -- The zone and the cars are the highest that a record can name.
    ∷ opens_in 3 8 (1 ∷ 2 ∷ 3 ∷ 4 ∷ 5 ∷ 6 ∷ 7 ∷ 8 ∷ []) 0 (eight_gates (zone 8 128 0 None) [])
    ∷ gives (eight_gates (zone 8 128 0 None) []) [] (Gate In 8 255) 0 (eight_gates (zone 263 128 1 None) (0xF8FF ∷ []))
    ∷ gives (eight_gates (zone 263 128 1 None) (0xF8FF ∷ [])) [] (Gate Out 8 255) 0 (eight_gates (zone 8 128 2 None) (0xF8FF ∷ 0xF9FF ∷ []))
    ∷ []

-- Runs of two zones that were opened with 65,535 and 0 cars, as many as there may be, in an edition.
abbrev pub full_with : ℕ → List Local → List Channel → List ℕ → Run
full_with edition = run_in edition (65535 ∷ 0 ∷ [])

abbrev pub full : ℕ → Run
full edition = full_with edition (zone 65535 1 0 None ∷ zone 0 2 0 None ∷ []) [] []

abbrev pub no_gates : List Row
no_gates =
    -- "does the run's edition have gates?" Editions 1 and 2 have none.
    gives (pair 1) [] (Gate In 1 1) 15 (pair 1)
    ∷ gives (pair 1) [] (Gate Out 1 1) 15 (pair 1)
    ∷ gives (pair 2) [] (Gate In 2 1) 15 (pair 2)
    ∷ gives (pair 2) [] (Gate Out 2 1) 15 (pair 2)
    ∷ gives (pair 1) [] (Gate In 1 0) 15 (pair 1)
    ∷ gives (pair 2) [] (Gate Out 1 0) 15 (pair 2)
    -- 15 is asked before 5, 6, 7 and 21.
    ∷ gives (pair 1) [] (Gate In 3 1) 15 (pair 1)
    ∷ gives (pair 1) [] (Gate Out 0 1) 15 (pair 1)
    ∷ gives (pair 2) [] (Gate In 0 1) 15 (pair 2)
    ∷ gives (pair 2) [] (Gate Out 3 1) 15 (pair 2)
    ∷ gives thousand_records [] (Gate In 1 1) 15 thousand_records
    ∷ gives thousand_records [] (Gate Out 1 1) 15 thousand_records
    ∷ gives (pair 1) [] (Gate Out 1 6) 15 (pair 1)
    ∷ opens_in 2 2 (65535 ∷ 0 ∷ []) 0 (full 2)
    ∷ gives (full 2) [] (Gate In 1 1) 15 (full 2)
    -- 1 is asked before 15: these editions are not defined.
    ∷ gives (pair 0) [] (Gate In 1 1) 1 (pair 0)
    ∷ gives (pair 4) [] (Gate Out 3 1) 1 (pair 4)
    ∷ []

-- The 1,000 records are entries and exits of 0 cars in turn, all at zone 1.
abbrev pub thousand_gates : Run
thousand_gates = full_with 3 (zone 65535 1 1000 None ∷ zone 0 2 0 None ∷ []) [] (times 500 (0xC000 ∷ 0xC100 ∷ []))

abbrev pub gates_asked : List Row
gates_asked =
    -- The zone is off the site; 5 is asked before 7 and 21.
    gives (pair 3) [] (Gate In 0 1) 5 (pair 3)
    ∷ gives (pair 3) [] (Gate In 3 1) 5 (pair 3)
    ∷ gives (pair 3) [] (Gate Out 0 1) 5 (pair 3)
    ∷ gives (pair 3) [] (Gate Out 3 1) 5 (pair 3)
    ∷ gives (pair 3) [] (Gate Out 255 8) 5 (pair 3)
    ∷ opens_in 3 2 (65535 ∷ 0 ∷ []) 0 (full 3)
    ∷ gives (full 3) [] (Gate In 3 1) 5 (full 3)
    -- Record 1,000 is taken, and with it own event 1,000; the next is refused. 5 is asked before 6, and 6 before 21 and 7.
    ∷ gives (full 3) (Gate In 1 0 ∷ times 499 (Gate Out 1 0 ∷ Gate In 1 0 ∷ [])) (Gate Out 1 0) 0 thousand_gates
    ∷ gives thousand_gates [] (Gate In 1 0) 6 thousand_gates
    ∷ gives thousand_gates [] (Gate Out 1 0) 6 thousand_gates
    ∷ gives thousand_gates [] (Gate In 3 0) 5 thousand_gates
    ∷ gives thousand_gates [] (Gate In 1 1) 6 thousand_gates
    ∷ gives thousand_gates [] (Gate Out 2 1) 6 thousand_gates
    ∷ gives thousand_gates [] (Start 1) 6 thousand_gates
    -- "An exit beyond the stock meets question 7": the whole stock drives out, or a car more. Cars elsewhere do not help.
    ∷ gives (pair 3) [] (Gate Out 1 5) 0 (gates_with (zone 0 1 1 None ∷ zone 7 2 0 None ∷ []) [] (0xC105 ∷ []))
    ∷ gives (pair 3) [] (Gate Out 1 6) 7 (pair 3)
    ∷ gives (pair 3) [] (Gate Out 2 255) 7 (pair 3)
    ∷ gives (pair 3) (Send 1 2 1 ∷ []) (Gate Out 1 5) 7
    (gates_with (zone 4 1 1 None ∷ zone 7 2 0 None ∷ []) (channel 1 2 (message 1 false ∷ []) ∷ []) (0x0101 ∷ []))
    ∷ gives (full 3) [] (Gate Out 2 1) 7 (full 3)
    ∷ gives (full 3) [] (Gate Out 2 0) 0 (full_with 3 (zone 65535 1 0 None ∷ zone 0 2 1 None ∷ []) [] (0xC900 ∷ []))
    ∷ []

-- Runs of two zones of edition 3, opened with 65,000 and 400 cars; and the one in which 100 cars are on the line.
abbrev pub near_with : List Local → List Channel → List ℕ → Run
near_with = run_in 3 (65000 ∷ 400 ∷ [])

abbrev pub near : Run
near = near_with (zone 65000 1 0 None ∷ zone 400 2 0 None ∷ []) [] []

abbrev pub sent_near : Run
sent_near = near_with (zone 64900 1 1 None ∷ zone 400 2 0 None ∷ []) (channel 1 2 (message 100 false ∷ []) ∷ []) (0x0164 ∷ [])

-- 135 cars drove in besides: there are 65,535.
abbrev pub reached : Run
reached = near_with (zone 64900 1 1 None ∷ zone 535 2 1 None ∷ []) (channel 1 2 (message 100 false ∷ []) ∷ []) (0x0164 ∷ 0xC887 ∷ [])

-- Zone 2, which depends on zone 1, has started, and 3 cars have driven out.
abbrev pub asking : Run
asking = full_with
    3
    (zone 65531 1 2 None ∷ zone 1 3 1 (permanent 1 1) ∷ [])
    (channel 2 1 (request 3 ∷ []) ∷ [])
    (0x0101 ∷ 0x4100 ∷ 0x8800 ∷ 0xC103 ∷ [])

abbrev pub at_the_limit : List Row
at_the_limit =
    -- 21: "an entry that would lift stocks plus cars on lines above 65,535". The stocks are 65,535 already; an entry of 0 cars lifts nothing.
    gives (full 3) [] (Gate In 1 0) 0 (full_with 3 (zone 65535 1 1 None ∷ zone 0 2 0 None ∷ []) [] (0xC000 ∷ []))
    ∷ gives (full 3) [] (Gate In 1 1) 21 (full 3)
    ∷ gives (full 3) [] (Gate In 2 1) 21 (full 3)
    ∷ gives (full 3) [] (Gate In 2 255) 21 (full 3)
    -- 65,535 are reached over both stocks and a line, and not passed.
    ∷ opens_in 3 2 (65000 ∷ 400 ∷ []) 0 near
    ∷ gives near [] (Gate In 2 135) 0 (near_with (zone 65000 1 0 None ∷ zone 535 2 1 None ∷ []) [] (0xC887 ∷ []))
    ∷ gives near [] (Gate In 2 136) 21 near
    ∷ gives near [] (Send 1 2 100) 0 sent_near
    ∷ gives sent_near [] (Gate In 2 136) 21 sent_near
    ∷ gives sent_near [] (Gate In 1 136) 21 sent_near
    ∷ gives sent_near [] (Gate In 2 135) 0 reached
    ∷ gives reached [] (Gate In 1 1) 21 reached
    ∷ gives reached [] (Gate In 2 1) 21 reached
    -- A receipt makes no room.
    ∷ gives reached (Receive 1 2 ∷ []) (Gate In 1 1) 21
    (near_with (zone 64900 1 1 None ∷ zone 635 3 2 None ∷ []) [] (0x0164 ∷ 0xC887 ∷ 0x4100 ∷ []))
    -- Cars that bear the flag count as well.
    ∷ gives (full 3) (Start 1 ∷ Send 1 2 255 ∷ []) (Gate In 1 1) 21 (full_with
    3
    (zone 65280 1 1 (permanent 65535 0) ∷ zone 0 2 0 None ∷ [])
    (channel 1 2 (message 255 true ∷ []) ∷ [])
    (0x8000 ∷ 0x01FF ∷ []))
    -- An exit makes room, at any zone.
    ∷ gives (full 3) (Gate Out 1 255 ∷ []) (Gate In 2 255) 0
    (full_with 3 (zone 65280 1 1 None ∷ zone 255 2 1 None ∷ []) [] (0xC1FF ∷ 0xC8FF ∷ []))
    ∷ gives (full 3) (Gate Out 1 255 ∷ Gate In 2 255 ∷ []) (Gate In 2 1) 21
    (full_with 3 (zone 65280 1 1 None ∷ zone 255 2 1 None ∷ []) [] (0xC1FF ∷ 0xC8FF ∷ []))
    -- A request on a line has no cars.
    ∷ gives (full 3) (Send 1 2 1 ∷ Receive 1 2 ∷ Start 2 ∷ []) (Gate Out 1 3) 0 asking
    ∷ gives asking [] (Gate In 2 4) 21 asking
    ∷ gives asking [] (Gate In 2 3) 0 (full_with
    3
    (zone 65531 1 2 None ∷ zone 4 3 2 (permanent 1 1) ∷ [])
    (channel 2 1 (request 3 ∷ []) ∷ [])
    (0x0101 ∷ 0x4100 ∷ 0x8800 ∷ 0xC103 ∷ 0xC803 ∷ []))
    ∷ []

-- Runs of three zones of edition 3, opened with 10 cars each.
abbrev pub gate_tens_with : List Local → List ℕ → Run
gate_tens_with zones records = run_in 3 (10 ∷ 10 ∷ 10 ∷ []) zones [] records

abbrev pub gate_tens : Run
gate_tens = gate_tens_with (zone 10 1 0 None ∷ zone 10 2 0 None ∷ zone 10 4 0 None ∷ []) []

-- Case B with gates: 4 cars leave zone 3 before its mutable checkpoint and 50 drive in behind it; 6 drive into zone 2 before it receives the
-- request.
abbrev pub calls_gate_b : List SiteCall
calls_gate_b =
    Send 3 2 1 ∷ Receive 3 2 ∷ Send 2 1 1 ∷ Receive 2 1 ∷ Gate Out 3 4 ∷ Start 1 ∷ Send 1 3 2 ∷ Gate In 2 6 ∷ Receive 1 3 ∷ Gate In 3 50
    ∷ Receive 1 2 ∷ []

abbrev pub run_gate_b : Run
run_gate_b = gate_tens_with
    (zone 9 3 2 (permanent 11 1) ∷ zone 16 6 3 (permanent 16 3) ∷ zone 57 4 4 (permanent 5 2) ∷ [])
    (
    0x1101 ∷ 0x5100 ∷ 0x0801 ∷ 0x4800 ∷ 0xD104 ∷ 0x8000 ∷ 0x0202 ∷ 0xC806 ∷ 0x4200 ∷ 0xD032
    ∷ 0x4100 ∷ 0x4A00 ∷ []
    )

abbrev pub gates_and_marks : List Row
gates_and_marks =
    -- A checkpoint keeps the stock and the own events that gates have left, here a permanent one and a mutable one.
    gives (pair 3) (Gate In 1 3 ∷ []) (Start 1) 0
    (gates_with (zone 8 1 1 (permanent 8 1) ∷ zone 7 2 0 None ∷ []) [] (0xC003 ∷ 0x8000 ∷ []))
    ∷ gives (pair 3) (Gate Out 1 0 ∷ []) (Start 1) 0
    (gates_with (zone 5 1 1 (permanent 5 1) ∷ zone 7 2 0 None ∷ []) [] (0xC100 ∷ 0x8000 ∷ []))
    ∷ gives (pair 3) (Start 1 ∷ Send 1 2 1 ∷ Gate Out 2 2 ∷ []) (Receive 1 2) 0 (gates_with
    (zone 4 1 1 (permanent 5 0) ∷ zone 6 2 2 (mutable 5 1) ∷ [])
    []
    (0x8000 ∷ 0x0101 ∷ 0xC902 ∷ 0x4100 ∷ []))
    -- Gates behind a permanent checkpoint leave it as it is.
    ∷ gives (pair 3) (Start 1 ∷ []) (Gate In 1 3) 0
    (gates_with (zone 8 1 1 (permanent 5 0) ∷ zone 7 2 0 None ∷ []) [] (0x8000 ∷ 0xC003 ∷ []))
    ∷ gives (pair 3) (Start 1 ∷ []) (Gate Out 1 5) 0
    (gates_with (zone 0 1 1 (permanent 5 0) ∷ zone 7 2 0 None ∷ []) [] (0x8000 ∷ 0xC105 ∷ []))
    ∷ gives (pair 3) (Start 1 ∷ []) (Gate In 1 0) 0
    (gates_with (zone 5 1 1 (permanent 5 0) ∷ zone 7 2 0 None ∷ []) [] (0x8000 ∷ 0xC000 ∷ []))
    -- So do gates behind a mutable one.
    ∷ gives (pair 3) (Start 1 ∷ Send 1 2 1 ∷ Receive 1 2 ∷ []) (Gate In 2 2) 0 (gates_with
    (zone 4 1 1 (permanent 5 0) ∷ zone 10 2 2 (mutable 7 0) ∷ [])
    []
    (0x8000 ∷ 0x0101 ∷ 0x4100 ∷ 0xC802 ∷ []))
    ∷ gives (pair 3) (Start 1 ∷ Send 1 2 1 ∷ Receive 1 2 ∷ []) (Gate Out 2 8) 0 (gates_with
    (zone 4 1 1 (permanent 5 0) ∷ zone 0 2 2 (mutable 7 0) ∷ [])
    []
    (0x8000 ∷ 0x0101 ∷ 0x4100 ∷ 0xC908 ∷ []))
    -- The dependency set stays.
    ∷ gives (pair 3) (Send 2 1 1 ∷ Receive 2 1 ∷ []) (Gate In 1 2) 0
    (gates_with (zone 8 3 2 None ∷ zone 6 2 1 None ∷ []) [] (0x0801 ∷ 0x4800 ∷ 0xC002 ∷ []))
    ∷ gives (pair 3) (Send 2 1 1 ∷ Receive 2 1 ∷ []) (Gate Out 1 2) 0
    (gates_with (zone 4 3 2 None ∷ zone 6 2 1 None ∷ []) [] (0x0801 ∷ 0x4800 ∷ 0xC102 ∷ []))
    -- A mutable checkpoint that turns permanent keeps what it had before the gates behind it: 11 + 16 + 5 = 30 - 4 + 6.
    ∷ opens_in 3 3 (10 ∷ 10 ∷ 10 ∷ []) 0 gate_tens
    ∷ gives gate_tens calls_gate_b (Receive 2 3) 0 run_gate_b
    ∷ records run_gate_b [] (lent 14) 0 14 32
    (0x68 ∷ 0x00 ∷ 0x80 ∷ 0x01 ∷ 0x00 ∷ 0x0B ∷ 0x80 ∷ 0x03 ∷ 0x00 ∷ 0x10 ∷ 0x80 ∷ 0x02 ∷ 0x00 ∷ 0x05 ∷ [])
    ∷ []

-- 255 cars leave zone 1 and 255 drive into zone 2, which starts: zone 1 is not recorded, and shown with its opening stock.
abbrev pub calls_above : List SiteCall
calls_above = Gate Out 1 255 ∷ Gate In 2 255 ∷ Start 2 ∷ []

abbrev pub recording_above : List ℕ
recording_above = 0x64 ∷ 0x00 ∷ 0x00 ∷ 0x00 ∷ 0xFF ∷ 0xFF ∷ 0x80 ∷ 0x01 ∷ 0x00 ∷ 0xFF ∷ []

abbrev pub journal_above : List ℕ
journal_above = 0x64 ∷ 0x03 ∷ 0xFF ∷ 0xFF ∷ 0x00 ∷ 0x00 ∷ 0xC1 ∷ 0xFF ∷ 0xC8 ∷ 0xFF ∷ 0x88 ∷ 0x00 ∷ []

-- Three zones, with gates inside the recording and behind the checkpoints: as opened, the calls before the last, and the run, the journal
-- and the recording that follow.
abbrev pub gates_of_three : Run
gates_of_three = run_in 3 (10 ∷ 20 ∷ 30 ∷ []) (zone 10 1 0 None ∷ zone 20 2 0 None ∷ zone 30 4 0 None ∷ []) [] []

abbrev pub calls_of_three : List SiteCall
calls_of_three =
    Gate In 1 3 ∷ Send 1 2 4 ∷ Receive 1 2 ∷ Gate Out 2 9 ∷ Start 2 ∷ Gate In 2 50 ∷ Gate Out 1 1 ∷ Receive 2 1 ∷ []

abbrev pub run_of_three : Run
run_of_three = run_in
    3
    (10 ∷ 20 ∷ 30 ∷ [])
    (zone 15 1 4 (permanent 8 3) ∷ zone 65 3 3 (permanent 15 2) ∷ zone 30 4 0 None ∷ [])
    []
    (0xC003 ∷ 0x0104 ∷ 0x4100 ∷ 0xC909 ∷ 0x8800 ∷ 0xC832 ∷ 0xC101 ∷ 0x4800 ∷ 0xC007 ∷ [])

abbrev pub journal_of_three : List ℕ
journal_of_three =
    0x68 ∷ 0x09 ∷ 0x00 ∷ 0x0A ∷ 0x00 ∷ 0x14 ∷ 0x00 ∷ 0x1E
    ∷ 0xC0 ∷ 0x03 ∷ 0x01 ∷ 0x04 ∷ 0x41 ∷ 0x00 ∷ 0xC9 ∷ 0x09 ∷ 0x88 ∷ 0x00
    ∷ 0xC8 ∷ 0x32 ∷ 0xC1 ∷ 0x01 ∷ 0x48 ∷ 0x00 ∷ 0xC0 ∷ 0x07 ∷ []

abbrev pub recording_of_three : List ℕ
recording_of_three =
    0x68 ∷ 0x00 ∷ 0x80 ∷ 0x03 ∷ 0x00 ∷ 0x08 ∷ 0x80 ∷ 0x02 ∷ 0x00 ∷ 0x0F ∷ 0x00 ∷ 0x00 ∷ 0x00 ∷ 0x1E ∷ []

-- An entry and an exit of 0 cars, a line check, and a start.
abbrev pub calls_of_none : List SiteCall
calls_of_none = Gate In 1 0 ∷ Gate Out 1 0 ∷ Send 1 2 0 ∷ []

abbrev pub run_of_none : Run
run_of_none = gates_with
    (zone 5 1 2 (permanent 5 2) ∷ zone 7 2 0 None ∷ [])
    (channel 1 2 (message 0 false ∷ []) ∷ [])
    (0xC000 ∷ 0xC100 ∷ 0x0100 ∷ 0x8000 ∷ [])

abbrev pub journal_of_none : List ℕ
journal_of_none =
    0x64 ∷ 0x04 ∷ 0x00 ∷ 0x05 ∷ 0x00 ∷ 0x07 ∷ 0xC0 ∷ 0x00 ∷ 0xC1 ∷ 0x00 ∷ 0x01 ∷ 0x00 ∷ 0x80 ∷ 0x00 ∷ []

-- Zone 1 is shown with 5 cars, and a number of own events; zone 2 with 7.
abbrev pub first_shown : ℕ → List ℕ
first_shown events = 0x64 ∷ 0x00 ∷ 0x80 ∷ events ∷ 0x00 ∷ 0x05 ∷ 0x00 ∷ 0x00 ∷ 0x00 ∷ 0x07 ∷ []

-- 3 cars are on the line and 4 have driven in when zone 1 starts; what follows is not recorded.
abbrev pub calls_on_line : List SiteCall
calls_on_line = Send 1 2 3 ∷ Gate In 1 4 ∷ Start 1 ∷ Gate In 1 9 ∷ Send 1 2 2 ∷ Gate Out 2 1 ∷ []

abbrev pub recording_on_line : List ℕ
recording_on_line = 0x64 ∷ 0x01 ∷ 0x80 ∷ 0x02 ∷ 0x00 ∷ 0x06 ∷ 0x00 ∷ 0x00 ∷ 0x00 ∷ 0x07 ∷ 0x01 ∷ 0x03 ∷ []

-- Zone 1 depends on zone 2, and starts behind an entry of 3 cars.
abbrev pub calls_waiting : List SiteCall
calls_waiting = Send 2 1 1 ∷ Receive 2 1 ∷ Gate In 1 3 ∷ Start 1 ∷ []

-- The journal of two zones, opened with 5 and 7 cars, by its first byte, with up to 255 records: their number, and their bytes.
abbrev pub journal_in : ℕ → ℕ → List ℕ → List ℕ
journal_in first number bytes = first ∷ number ∷ 0x00 ∷ 0x05 ∷ 0x00 ∷ 0x07 ∷ bytes

abbrev pub totals : List Row
totals =
    -- The total "may exceed 65,535": 65,535 + 255. The lent bytes are just enough, more ("later bytes keep what they had"), or one too few.
    records (full 3) calls_above (lent 10) 0 10 65790 recording_above
    ∷ records (full 3) calls_above (lent 15) 0 10 65790 (recording_above ++ lent 5)
    ∷ records (full 3) calls_above (lent 9) 14 0 0 (lent 9)
    ∷ prints journal_above "64 00 00 00 FF FF 80 01 00 FF\n"
    -- A journal's recording answers the total of its run, and 0 beside a refusal, that of a reading too.
    ∷ records_journal journal_above (lent 10) 0 0 10 65790 recording_above
    ∷ records_journal journal_above (lent 9) 14 0 0 0 (lent 9)
    ∷ records_journal journal_of_three (lent 15) 0 0 14 53 (recording_of_three ++ lent 1)
    ∷ records_journal (journal_in 0x44 1 (0x80 ∷ 0x00 ∷ [])) (lent 10) 0 0 10 12
    (0x44 ∷ 0x00 ∷ 0x80 ∷ 0x00 ∷ 0x00 ∷ 0x05 ∷ 0x00 ∷ 0x00 ∷ 0x00 ∷ 0x07 ∷ [])
    ∷ records_journal (journal_in 0x64 2 (0xC0 ∷ 0x01 ∷ 0xC2 ∷ 0x00 ∷ [])) (lent 10) 18 1 0 0 (lent 10)
    ∷ records_journal (journal_in 0x64 1 (0xC0 ∷ 0x01 ∷ [])) (lent 10) 12 0 0 0 (lent 10)
    -- 200 of these cars are recorded on a line: 65,535 + 55 + 200.
    ∷ records (full 3) (Gate Out 1 255 ∷ Gate In 2 255 ∷ Send 2 1 200 ∷ Start 2 ∷ []) (lent 12) 0 12 65790
    (0x64 ∷ 0x01 ∷ 0x00 ∷ 0x00 ∷ 0xFF ∷ 0xFF ∷ 0x80 ∷ 0x02 ∷ 0x00 ∷ 0x37 ∷ 0x08 ∷ 0xC8 ∷ [])
    -- "It equals the opening total plus entries less exits inside the recording": 8 + 15 + 30 = 60 + 3 - 9 - 1.
    ∷ opens_in 3 3 (10 ∷ 20 ∷ 30 ∷ []) 0 gates_of_three
    ∷ gives gates_of_three calls_of_three (Gate In 1 7) 0 run_of_three
    ∷ records run_of_three [] (lent 14) 0 14 53 recording_of_three
    ∷ prints journal_of_three "68 00 80 03 00 08 80 02 00 0F 00 00 00 1E\n"
    -- Gates of 0 cars are shown as own events, and the line check is not.
    ∷ gives (pair 3) calls_of_none (Start 1) 0 run_of_none
    ∷ records run_of_none [] (lent 10) 0 10 12 (first_shown 0x02)
    ∷ prints journal_of_none "64 00 80 02 00 05 00 00 00 07\n"
    -- Entries and exits behind the checkpoint are not in the recording, nor are those of a zone that is not recorded.
    ∷ records (pair 3) (Start 1 ∷ Gate In 1 3 ∷ []) (lent 10) 0 10 12 (first_shown 0x00)
    ∷ records (pair 3) (Gate In 2 9 ∷ Start 1 ∷ Gate Out 1 5 ∷ Gate Out 2 2 ∷ []) (lent 10) 0 10 12 (first_shown 0x00)
    ∷ records (pair 3) (Gate In 1 3 ∷ Start 1 ∷ Gate In 1 9 ∷ []) (lent 10) 0 10 15
    (0x64 ∷ 0x00 ∷ 0x80 ∷ 0x01 ∷ 0x00 ∷ 0x08 ∷ 0x00 ∷ 0x00 ∷ 0x00 ∷ 0x07 ∷ [])
    -- Nor are refused ones.
    ∷ records (pair 3) (Gate Out 1 6 ∷ Gate In 3 1 ∷ Start 1 ∷ []) (lent 10) 0 10 12 (first_shown 0x00)
    -- The recorded cars on lines count, received meanwhile or not: 6 + 7 + 3 = 12 + 4.
    ∷ records (pair 3) calls_on_line (lent 12) 0 12 16 recording_on_line
    ∷ records (pair 3) (calls_on_line ++ (Receive 1 2 ∷ [])) (lent 12) 0 12 16 recording_on_line
    -- Beside a refusal the total is 0: none is started; a request is under way. Then it is received.
    ∷ records (pair 3) (Gate In 1 3 ∷ []) (lent 10) 12 0 0 (lent 10)
    ∷ records (pair 3) calls_waiting (lent 10) 13 0 0 (lent 10)
    ∷ records (pair 3) (calls_waiting ++ (Receive 1 2 ∷ [])) (lent 10) 0 10 15
    (0x64 ∷ 0x00 ∷ 0x80 ∷ 0x02 ∷ 0x00 ∷ 0x09 ∷ 0x80 ∷ 0x01 ∷ 0x00 ∷ 0x06 ∷ [])
    ∷ []

-- Its one record, by its two bytes, is refused.
abbrev pub refuses_in : ℕ → ℕ → ℕ → ℕ → Row
refuses_in first high low n = reads (journal_in first 1 (high ∷ low ∷ [])) n 0 nothing

abbrev pub gate_journals : List Row
gate_journals =
    -- "a record with another direction meets 18", whatever the zone.
    refuses_in 0x64 0xC2 0x00 18
    ∷ refuses_in 0x64 0xC3 0x00 18
    ∷ refuses_in 0x64 0xC4 0x00 18
    ∷ refuses_in 0x64 0xC5 0x00 18
    ∷ refuses_in 0x64 0xC6 0x00 18
    ∷ refuses_in 0x64 0xC7 0x00 18
    ∷ refuses_in 0x64 0xD2 0x00 18
    ∷ refuses_in 0x64 0xFF 0xFF 18
    -- "wrong zones alone meet 19"; the stock does not cover the exit.
    ∷ refuses_in 0x64 0xD0 0x00 19
    ∷ refuses_in 0x64 0xD1 0x00 19
    ∷ refuses_in 0x64 0xC1 0x06 19
    -- In editions 1 and 2 "kind 3 is not used", whatever its fields.
    ∷ refuses_in 0x44 0xC0 0x01 18
    ∷ refuses_in 0x44 0xC1 0x00 18
    ∷ refuses_in 0x44 0xD0 0x00 18
    ∷ refuses_in 0x44 0xC2 0x00 18
    ∷ refuses_in 0x24 0xC0 0x01 18
    ∷ refuses_in 0x24 0xC1 0x00 18
    ∷ refuses_in 0x24 0xD0 0x00 18
    ∷ refuses_in 0x24 0xC2 0x00 18
    -- An entry lifts the cars above 65,535: over the stocks, or with those on a line. One of 0 cars does not.
    ∷ reads (0x64 ∷ 0x01 ∷ 0xFF ∷ 0xFF ∷ 0x00 ∷ 0x00 ∷ 0xC8 ∷ 0x01 ∷ []) 19 0 nothing
    ∷ reads (0x64 ∷ 0x02 ∷ 0xFF ∷ 0xFF ∷ 0x00 ∷ 0x00 ∷ 0x01 ∷ 0xFF ∷ 0xC0 ∷ 0x01 ∷ []) 19 1 nothing
    ∷ reads (0x64 ∷ 0x02 ∷ 0xFF ∷ 0xFF ∷ 0x00 ∷ 0x00 ∷ 0x01 ∷ 0xFF ∷ 0xC0 ∷ 0x00 ∷ []) 0 0
    (full_with 3 (zone 65280 1 2 None ∷ zone 0 2 0 None ∷ []) (channel 1 2 (message 255 false ∷ []) ∷ []) (0x01FF ∷ 0xC000 ∷ []))
    -- Each record finds the stock that the one before has left.
    ∷ reads (journal_in 0x64 2 (0xC0 ∷ 0x01 ∷ 0xC1 ∷ 0x06 ∷ [])) 0 0
    (gates_with (zone 0 1 2 None ∷ zone 7 2 0 None ∷ []) [] (0xC001 ∷ 0xC106 ∷ []))
    ∷ reads (journal_in 0x64 3 (0xC0 ∷ 0x01 ∷ 0xC1 ∷ 0x06 ∷ 0xC1 ∷ 0x01 ∷ [])) 19 2 nothing
    -- 17 and 4 come before the records.
    ∷ reads (journal_in 0x64 1 (0xC0 ∷ [])) 17 0 nothing
    ∷ reads (0x64 ∷ 0x01 ∷ 0xFF ∷ 0xFF ∷ 0x00 ∷ 0x01 ∷ 0xC2 ∷ 0x00 ∷ []) 4 0 nothing
    -- The journals of the recordings above, read and written back; the lent bytes are just enough, more, or one too few.
    ∷ reads journal_of_three 0 0 run_of_three
    ∷ writes run_of_three [] (lent 26) 0 26 journal_of_three
    ∷ writes run_of_three [] (lent 31) 0 26 (journal_of_three ++ lent 5)
    ∷ writes run_of_three [] (lent 25) 14 0 (lent 25)
    ∷ reads journal_of_none 0 0 run_of_none
    ∷ writes run_of_none [] (lent 14) 0 14 journal_of_none
    -- The program prints the refusal.
    ∷ prints (journal_in 0x64 1 (0xC2 ∷ 0x00 ∷ [])) "refused 18\n"
    ∷ prints (journal_in 0x64 1 (0xC1 ∷ 0x06 ∷ [])) "refused 19\n"
    ∷ prints (journal_in 0x44 1 (0xC0 ∷ 0x01 ∷ [])) "refused 18\n"
    ∷ prints (journal_in 0x64 1 (0xC0 ∷ 0x01 ∷ [])) "refused 12\n"
    ∷ []

-- No calls lead to these: cars above 65,535 in an edition; a stock that the journal does not explain.
abbrev pub too_many : ℕ → Run
too_many edition = full_with edition (zone 65535 1 0 None ∷ zone 0 2 0 None ∷ []) (channel 1 2 (message 1 false ∷ []) ∷ []) []

abbrev pub untold : Run
untold = gates_with (zone 6 1 0 (permanent 6 0) ∷ zone 7 2 0 None ∷ []) [] (0x8000 ∷ [])

-- A record of kind 3, by its word, and a start, in an edition; zone 1 has a stock and one own event.
abbrev pub told : ℕ → ℕ → ℕ → Run
told edition word stock = pair_in edition (zone stock 1 1 (permanent stock 1) ∷ zone 7 2 0 None ∷ []) [] (word ∷ 0x8000 ∷ [])

abbrev pub gate_states : List Row
gate_states =
    -- Every gate call asks first whether the state is sound, before 15 and 5.
    gives (too_many 3) [] (Gate In 1 0) 1 (too_many 3)
    ∷ gives (too_many 3) [] (Gate Out 1 1) 1 (too_many 3)
    ∷ gives (too_many 2) [] (Gate In 1 0) 1 (too_many 2)
    ∷ gives (too_many 1) [] (Gate Out 3 0) 1 (too_many 1)
    -- It does not replay the journal, and a recording does.
    ∷ gives untold [] (Gate Out 1 6) 0
    (gates_with (zone 0 1 1 (permanent 6 0) ∷ zone 7 2 0 None ∷ []) [] (0x8000 ∷ 0xC106 ∷ []))
    ∷ records untold [] (lent 10) 1 0 0 (lent 10)
    -- An entry explains its cars in edition 3; not another number of them, another direction or an earlier edition.
    ∷ records (told 3 0xC001 6) [] (lent 10) 0 10 13
    (0x64 ∷ 0x00 ∷ 0x80 ∷ 0x01 ∷ 0x00 ∷ 0x06 ∷ 0x00 ∷ 0x00 ∷ 0x00 ∷ 0x07 ∷ [])
    ∷ records (told 3 0xC001 7) [] (lent 10) 1 0 0 (lent 10)
    ∷ records (told 3 0xC101 6) [] (lent 10) 1 0 0 (lent 10)
    ∷ records (told 3 0xC200 5) [] (lent 10) 1 0 0 (lent 10)
    ∷ records (told 2 0xC001 6) [] (lent 10) 1 0 0 (lent 10)
    ∷ records (told 1 0xC001 6) [] (lent 10) 1 0 0 (lent 10)
    ∷ writes (told 3 0xC200 5) [] (lent 10) 1 0 (lent 10)
    ∷ writes (told 2 0xC001 6) [] (lent 10) 1 0 (lent 10)
    ∷ []

abbrev pub gates : List Row
gates = drives ++ no_gates ++ gates_asked ++ at_the_limit ++ gates_and_marks ++ totals ++ gate_journals ++ gate_states
