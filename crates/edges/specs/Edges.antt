-- The worked edges (docs/RULES.md, section 8) in one table, those of the requests in the files beside this one. A run that a row
-- begins with is opened or reached in an earlier row, but for those of `states` and `gate_states` and those of an edition that is not
-- defined. Numbers with 0x are hexadecimal, as in the layouts.
use Rattle.std.specs.Prelude.{true, false, List, [], ◌∷◌, ◌++◌, map, ℕ, ◌+◌, take, drop, replicate}
use Rattle.rules.specs.Site.{Item, message, request}
use Rattle.rules.specs.declared.Checkpoint.TheVariants.{None}
use Rattle.rules.specs.declared.Direction.TheVariants.{In, Out}
use Rattle.rules.specs.declared.Local.{Local}
use Rattle.run.specs.declared.Run.{Run}
use Rattle.run.specs.declared.SiteCall.{SiteCall}
use Rattle.run.specs.declared.SiteCall.TheVariants.{Send, Receive, Start, Gate}
use Rattle.journal.specs.Claims.{case_a}
use Rattle.zone.proofs.Examples as zones
use Rattle.edges.specs.Editions.{lent, editions}
use Rattle.edges.specs.Gates.{gates}
use Rattle.edges.specs.Searches.{searches}
use Rattle.edges.specs.Remaining.{remaining}
use Rattle.edges.specs.Empty.{empties}
use Rattle.edges.specs.Pages.{page_rows}
use Rattle.edges.specs.Conversions.{conversions}
use Rattle.edges.specs.Rows.{
  Row,
  part_row,
  opens,
  gives,
  records,
  writes,
  reads,
  prints,
  zone,
  mutable,
  permanent,
  times,
  Channel,
  channel,
  run_with,
  nothing,
}

-- Runs of two zones, opened with 5 and 7 cars.
abbrev pub two_with : List Local → List Channel → List ℕ → Run
two_with = run_with (5 ∷ 7 ∷ [])

abbrev pub two : Run
two = two_with (zone 5 1 0 None ∷ zone 7 2 0 None ∷ []) [] []

-- Runs of three zones, opened with 10, 20 and 30 cars.
abbrev pub three_with : List Local → List Channel → List ℕ → Run
three_with = run_with (10 ∷ 20 ∷ 30 ∷ [])

abbrev pub three : Run
three = three_with (zone 10 1 0 None ∷ zone 20 2 0 None ∷ zone 30 4 0 None ∷ []) [] []

-- Runs of eight zones, of which only the last two have changed.
abbrev pub stocks_of_eight : List ℕ
stocks_of_eight = 10 ∷ 20 ∷ 30 ∷ 40 ∷ 50 ∷ 60 ∷ 255 ∷ 0 ∷ []

abbrev pub eight_with : Local → Local → List Channel → List ℕ → Run
eight_with seventh eighth = run_with
    stocks_of_eight
    (
    zone 10 1 0 None
    ∷ zone 20 2 0 None
    ∷ zone 30 4 0 None
    ∷ zone 40 8 0 None
    ∷ zone 50 16 0 None
    ∷ zone 60 32 0 None
    ∷ seventh
    ∷ eighth
    ∷ []
    )

abbrev pub eight : Run
eight = eight_with (zone 255 64 0 None) (zone 0 128 0 None) [] []

abbrev pub openings : List Row
openings =
    -- 1, 2, 3, 8 and 9 zones are opened.
    opens 1 (5 ∷ []) 2 nothing
    ∷ opens 2 (5 ∷ 7 ∷ []) 0 two
    ∷ opens 3 (10 ∷ 20 ∷ 30 ∷ []) 0 three
    ∷ opens 8 stocks_of_eight 0 eight
    ∷ opens 9 (1 ∷ 2 ∷ 3 ∷ 4 ∷ 5 ∷ 6 ∷ 7 ∷ 8 ∷ 9 ∷ []) 2 nothing
    -- There is a stock too few, or one too many.
    ∷ opens 3 (5 ∷ 7 ∷ []) 3 nothing
    ∷ opens 3 (5 ∷ 7 ∷ 9 ∷ 11 ∷ []) 3 nothing
    -- The stocks are 65,535 together, or 65,536.
    ∷ opens 2 (65535 ∷ 0 ∷ []) 0 (run_with (65535 ∷ 0 ∷ []) (zone 65535 1 0 None ∷ zone 0 2 0 None ∷ []) [] [])
    ∷ opens 2 (65535 ∷ 1 ∷ []) 4 nothing
    ∷ []

-- Case A: the run that its journal leads to.
abbrev pub run_a : Run
run_a = three_with
    (zone 4 1 2 (permanent 4 2) ∷ zone 17 3 2 (permanent 24 1) ∷ zone 34 4 3 (mutable 25 1) ∷ [])
    (channel 3 2 (message 5 false ∷ []) ∷ [])
    (0x0104 ∷ 0x4100 ∷ 0x1105 ∷ 0x0202 ∷ 0x8800 ∷ 0x0A07 ∷ 0x4A00 ∷ 0x4200 ∷ 0x4800 ∷ [])

-- Case B, "three zones of 10".
abbrev pub tens_with : List Local → List ℕ → Run
tens_with zones records = run_with (10 ∷ 10 ∷ 10 ∷ []) zones [] records

abbrev pub tens : Run
tens = tens_with (zone 10 1 0 None ∷ zone 10 2 0 None ∷ zone 10 4 0 None ∷ []) []

-- "3 sends 1 to 2, received; 2 sends 1 to 1, received; 1 starts, then sends 2 to 3, received; 2 takes 1's request"; then "3 takes 2's".
abbrev pub calls_b : List SiteCall
calls_b =
    Send 3 2 1 ∷ Receive 3 2 ∷ Send 2 1 1 ∷ Receive 2 1 ∷ Start 1 ∷ Send 1 3 2 ∷ Receive 1 3 ∷ Receive 1 2 ∷ []

-- "Zone 3 turns firm with 1 event and stock 9."
abbrev pub run_b : Run
run_b = tens_with
    (zone 9 3 2 (permanent 11 1) ∷ zone 10 6 2 (permanent 10 2) ∷ zone 11 4 2 (permanent 9 1) ∷ [])
    (0x1101 ∷ 0x5100 ∷ 0x0801 ∷ 0x4800 ∷ 0x8000 ∷ 0x0202 ∷ 0x4200 ∷ 0x4100 ∷ 0x4A00 ∷ [])

abbrev pub journal_b : List ℕ
journal_b =
    0x28 ∷ 0x09 ∷ 0x00 ∷ 0x0A ∷ 0x00 ∷ 0x0A ∷ 0x00 ∷ 0x0A
    ∷ 0x11 ∷ 0x01 ∷ 0x51 ∷ 0x00 ∷ 0x08 ∷ 0x01 ∷ 0x48 ∷ 0x00 ∷ 0x80 ∷ 0x00
    ∷ 0x02 ∷ 0x02 ∷ 0x42 ∷ 0x00 ∷ 0x41 ∷ 0x00 ∷ 0x4A ∷ 0x00 ∷ []

-- "Stocks 11, 10, 9; no cars on lines."
abbrev pub recording_b : List ℕ
recording_b =
    0x28 ∷ 0x00 ∷ 0x80 ∷ 0x01 ∷ 0x00 ∷ 0x0B ∷ 0x80 ∷ 0x02 ∷ 0x00 ∷ 0x0A ∷ 0x80 ∷ 0x01 ∷ 0x00 ∷ 0x09 ∷ []

abbrev pub cases : List Row
cases =
    reads case_a 0 0 run_a
    ∷ prints case_a "28 01 80 02 00 04 80 01 00 18 00 00 00 1E 02 02\n"
    ∷ opens 3 (10 ∷ 10 ∷ 10 ∷ []) 0 tens
    ∷ gives tens calls_b (Receive 2 3) 0 run_b
    ∷ records run_b [] (lent 16) 0 14 30 (recording_b ++ lent 2)
    ∷ writes run_b [] (lent 28) 0 26 (journal_b ++ lent 2)
    ∷ prints journal_b "28 00 80 01 00 0B 80 02 00 0A 80 01 00 09\n"
    ∷ []

abbrev pub refusals : List Row
refusals =
    -- A named zone is off the site, or both are the same.
    gives two [] (Send 0 1 0) 5 two
    ∷ gives two [] (Send 1 3 1) 5 two
    ∷ gives two [] (Send 1 1 1) 5 two
    ∷ gives two [] (Receive 3 1) 5 two
    ∷ gives two [] (Receive 2 2) 5 two
    ∷ gives two [] (Start 0) 5 two
    ∷ gives two [] (Start 3) 5 two
    -- The cars are one more than the stock, or the whole stock.
    ∷ gives two [] (Send 1 2 6) 7 two
    ∷ gives two [] (Send 1 2 5) 0
    (two_with (zone 0 1 1 None ∷ zone 7 2 0 None ∷ []) (channel 1 2 (message 5 false ∷ []) ∷ []) (0x0105 ∷ []))
    -- The channel is empty.
    ∷ gives two [] (Receive 1 2) 9 two
    ∷ []

-- Sixteen messages, of 0 cars and of 1 car in turn, wait on the channel from zone 1 to zone 2.
abbrev pub in_turn : List Item
in_turn = times 8 (message 0 false ∷ message 1 false ∷ [])

abbrev pub full : Run
full = three_with
    (zone 2 1 16 None ∷ zone 20 2 0 None ∷ zone 30 4 0 None ∷ [])
    (channel 1 2 in_turn ∷ [])
    (times 8 (0x0100 ∷ 0x0101 ∷ []))

abbrev pub sixteen : List Row
sixteen =
    -- The 16th item is taken, the 17th refused; the stock is asked for first.
    gives three (take 15 (times 8 (Send 1 2 0 ∷ Send 1 2 1 ∷ []))) (Send 1 2 1) 0 full
    ∷ gives full [] (Send 1 2 0) 8 full
    ∷ gives full [] (Send 1 2 3) 7 full
    -- Other channels of both zones still take items.
    ∷ gives full [] (Send 1 3 2) 0 (three_with
    (zone 0 1 17 None ∷ zone 20 2 0 None ∷ zone 30 4 0 None ∷ [])
    (channel 1 2 in_turn ∷ channel 1 3 (message 2 false ∷ []) ∷ [])
    (times 8 (0x0100 ∷ 0x0101 ∷ []) ++ (0x0202 ∷ [])))
    ∷ gives full [] (Send 2 1 20) 0 (three_with
    (zone 2 1 16 None ∷ zone 0 2 1 None ∷ zone 30 4 0 None ∷ [])
    (channel 1 2 in_turn ∷ channel 2 1 (message 20 false ∷ []) ∷ [])
    (times 8 (0x0100 ∷ 0x0101 ∷ []) ++ (0x0814 ∷ [])))
    -- The first item leaves the channel, and another one joins its end.
    ∷ gives full (Receive 1 2 ∷ []) (Send 1 2 2) 0 (three_with
    (zone 0 1 17 None ∷ zone 20 3 1 None ∷ zone 30 4 0 None ∷ [])
    (channel 1 2 (drop 1 in_turn ++ (message 2 false ∷ [])) ∷ [])
    (times 8 (0x0100 ∷ 0x0101 ∷ []) ++ (0x4100 ∷ 0x0102 ∷ [])))
    ∷ []

-- Runs of two zones, opened with 600 and 0 cars.
abbrev pub rich_with : List Local → List Channel → List ℕ → Run
rich_with = run_with (600 ∷ 0 ∷ [])

abbrev pub rich : Run
rich = rich_with (zone 600 1 0 None ∷ zone 0 2 0 None ∷ []) [] []

-- The 1,000 records are 501 messages of 1 car from zone 1 to zone 2 and 499 receipts.
abbrev pub long : Run
long = rich_with
    (zone 99 1 501 None ∷ zone 499 3 499 None ∷ [])
    (channel 1 2 (message 1 false ∷ message 1 false ∷ []) ∷ [])
    (0x0101 ∷ times 499 (0x0101 ∷ 0x4100 ∷ []) ++ (0x0101 ∷ []))

abbrev pub thousand : List Row
thousand =
    -- Record 1,000 is taken; the next is refused, whatever the call.
    opens 2 (600 ∷ 0 ∷ []) 0 rich
    ∷ gives rich (Send 1 2 1 ∷ times 499 (Send 1 2 1 ∷ Receive 1 2 ∷ [])) (Send 1 2 1) 0 long
    ∷ gives long [] (Send 1 2 1) 6 long
    ∷ gives long [] (Receive 1 2) 6 long
    ∷ gives long [] (Start 1) 6 long
    -- Edition 1 has no gates, and 15 is asked before 6.
    ∷ gives long [] (Gate In 1 1) 15 long
    ∷ gives long [] (Gate Out 1 1) 15 long
    ∷ []

-- A start sends no request.
abbrev pub alone : Run
alone = two_with (zone 5 1 0 (permanent 5 0) ∷ zone 7 2 0 None ∷ []) [] (0x8000 ∷ [])

-- Zone 1 is shown with a permanent checkpoint ("firm"), 0 events and stock 5, zone 2 with 0 events and stock 7.
abbrev pub recording_alone : List ℕ
recording_alone = 0x24 ∷ 0x00 ∷ 0x80 ∷ 0x00 ∷ 0x00 ∷ 0x05 ∷ 0x00 ∷ 0x00 ∷ 0x00 ∷ 0x07 ∷ []

-- Zone 1 depends on zone 2, and starts: its request is under way.
abbrev pub waiting : Run
waiting = two_with
    (zone 6 3 1 (permanent 6 1) ∷ zone 6 2 1 None ∷ [])
    (channel 1 2 (request 3 ∷ []) ∷ [])
    (0x0801 ∷ 0x4800 ∷ 0x8000 ∷ [])

-- Zone 8 depends on zone 7, and starts; then zone 7 receives its request.
abbrev pub request_sent : Run
request_sent = eight_with
    (zone 0 64 1 None)
    (zone 255 192 1 (permanent 255 1))
    (channel 8 7 (request 192 ∷ []) ∷ [])
    (0x37FF ∷ 0x7700 ∷ 0xB800 ∷ [])

abbrev pub request_received : Run
request_received = eight_with
    (zone 0 64 1 (permanent 0 1))
    (zone 255 192 1 (permanent 255 1))
    []
    (0x37FF ∷ 0x7700 ∷ 0xB800 ∷ 0x7E00 ∷ [])

abbrev pub starts : List Row
starts =
    -- A start that sends no request is complete by itself: the recording answers 0 at once. A second start is refused.
    gives two [] (Start 1) 0 alone
    ∷ records alone [] (lent 10) 0 10 12 recording_alone
    ∷ gives alone [] (Start 2) 11 alone
    -- None is started; a request is under way; it is received.
    ∷ records two [] (lent 10) 12 0 0 (lent 10)
    ∷ gives two (Send 2 1 1 ∷ Receive 2 1 ∷ []) (Start 1) 0 waiting
    ∷ records waiting [] (lent 10) 13 0 0 (lent 10)
    ∷ records waiting (Receive 1 2 ∷ []) (lent 10) 0 10 12
    (0x24 ∷ 0x00 ∷ 0x80 ∷ 0x01 ∷ 0x00 ∷ 0x06 ∷ 0x80 ∷ 0x01 ∷ 0x00 ∷ 0x06 ∷ [])
    -- The lent bytes are one too few; they are asked for last.
    ∷ records alone [] (lent 9) 14 0 0 (lent 9)
    ∷ records two [] [] 12 0 0 []
    ∷ records waiting [] [] 13 0 0 []
    -- "later bytes keep what they had".
    ∷ records alone [] (lent 13) 0 10 12 (recording_alone ++ lent 3)
    -- The zones and the cars of a record are the highest that it can name.
    ∷ gives eight (Send 7 8 255 ∷ Receive 7 8 ∷ []) (Start 8) 0 request_sent
    ∷ gives request_sent [] (Receive 8 7) 0 request_received
    ∷ records request_received [] (lent 34) 0 34 465
    (
    0x3C ∷ 0x00
    ∷ 0x00 ∷ 0x00 ∷ 0x00 ∷ 0x0A
    ∷ 0x00 ∷ 0x00 ∷ 0x00 ∷ 0x14
    ∷ 0x00 ∷ 0x00 ∷ 0x00 ∷ 0x1E
    ∷ 0x00 ∷ 0x00 ∷ 0x00 ∷ 0x28
    ∷ 0x00 ∷ 0x00 ∷ 0x00 ∷ 0x32
    ∷ 0x00 ∷ 0x00 ∷ 0x00 ∷ 0x3C
    ∷ 0x80 ∷ 0x01 ∷ 0x00 ∷ 0x00
    ∷ 0x80 ∷ 0x01 ∷ 0x00 ∷ 0xFF
    ∷ []
    )
    ∷ []

-- Zone 1 depends on zone 2, so that it must send a request there, and that channel is full.
abbrev pub crowded : Run
crowded = three_with
    (zone 10 3 17 None ∷ zone 20 2 1 None ∷ zone 30 4 0 None ∷ [])
    (channel 1 2 (replicate 16 (message 0 false)) ∷ [])
    (0x0800 ∷ 0x4800 ∷ replicate 16 0x0100)

-- Zone 3, which depends on zone 1, has started besides.
abbrev pub records_blocked : List ℕ
records_blocked = 0x0800 ∷ 0x4800 ∷ 0x0200 ∷ 0x4200 ∷ 0x9000 ∷ replicate 16 0x0100

abbrev pub blocked : Run
blocked = three_with
    (zone 10 3 18 None ∷ zone 20 2 1 None ∷ zone 30 5 1 (permanent 30 1) ∷ [])
    (channel 1 2 (replicate 16 (message 0 false)) ∷ channel 3 1 (request 5 ∷ []) ∷ [])
    records_blocked

abbrev pub full_channels : List Row
full_channels =
    -- A start is refused, and a message to another zone is not.
    gives three (Send 2 1 0 ∷ Receive 2 1 ∷ replicate 15 (Send 1 2 0)) (Send 1 2 0) 0 crowded
    ∷ gives crowded [] (Start 1) 10 crowded
    ∷ gives crowded [] (Send 1 3 5) 0 (three_with
    (zone 5 3 18 None ∷ zone 20 2 1 None ∷ zone 30 4 0 None ∷ [])
    (channel 1 2 (replicate 16 (message 0 false)) ∷ channel 1 3 (message 5 false ∷ []) ∷ [])
    (0x0800 ∷ 0x4800 ∷ replicate 16 0x0100 ++ (0x0205 ∷ [])))
    -- Once a place is free, the request of the start takes it.
    ∷ gives crowded (Receive 1 2 ∷ []) (Start 1) 0 (three_with
    (zone 10 3 17 (permanent 10 17) ∷ zone 20 3 2 None ∷ zone 30 4 0 None ∷ [])
    (channel 1 2 (replicate 15 (message 0 false) ++ (request 3 ∷ [])) ∷ [])
    (0x0800 ∷ 0x4800 ∷ replicate 16 0x0100 ++ (0x4100 ∷ 0x8000 ∷ [])))
    -- The receipt of a request is refused, and a message to another zone is not. Of a second start, 11 is asked before 10.
    ∷ gives three (Send 2 1 0 ∷ Receive 2 1 ∷ Send 1 3 0 ∷ Receive 1 3 ∷ Start 3 ∷ replicate 15 (Send 1 2 0)) (Send 1 2 0) 0 blocked
    ∷ gives blocked [] (Receive 3 1) 10 blocked
    ∷ gives blocked [] (Start 1) 11 blocked
    ∷ gives blocked [] (Send 1 3 5) 0 (three_with
    (zone 5 3 19 None ∷ zone 20 2 1 None ∷ zone 30 5 1 (permanent 30 1) ∷ [])
    (channel 1 2 (replicate 16 (message 0 false)) ∷ channel 1 3 (message 5 false ∷ []) ∷ channel 3 1 (request 5 ∷ []) ∷ [])
    (records_blocked ++ (0x0205 ∷ [])))
    -- Once a place is free, the request that zone 1 sends takes it.
    ∷ gives blocked (Receive 1 2 ∷ []) (Receive 3 1) 0 (three_with
    (zone 10 3 18 (permanent 10 18) ∷ zone 20 3 2 None ∷ zone 30 5 1 (permanent 30 1) ∷ [])
    (channel 1 2 (replicate 15 (message 0 false) ++ (request 7 ∷ [])) ∷ [])
    (records_blocked ++ (0x4100 ∷ 0x5000 ∷ [])))
    ∷ []

abbrev pub no_cars : List Row
no_cars =
    -- In edition 1 a message of 0 cars joins the channel and is an own event of its sender.
    gives three [] (Send 1 2 0) 0 (three_with
    (zone 10 1 1 None ∷ zone 20 2 0 None ∷ zone 30 4 0 None ∷ [])
    (channel 1 2 (message 0 false ∷ []) ∷ [])
    (0x0100 ∷ []))
    -- It is an own event of its receiver, and its sender joins the dependency set.
    ∷ gives three (Send 1 2 0 ∷ []) (Receive 1 2) 0 (three_with
    (zone 10 1 1 None ∷ zone 20 3 1 None ∷ zone 30 4 0 None ∷ [])
    []
    (0x0100 ∷ 0x4100 ∷ []))
    -- Sent by a zone with a checkpoint, it bears the flag, and makes a mutable checkpoint.
    ∷ gives three (Start 1 ∷ []) (Send 1 2 0) 0 (three_with
    (zone 10 1 1 (permanent 10 0) ∷ zone 20 2 0 None ∷ zone 30 4 0 None ∷ [])
    (channel 1 2 (message 0 true ∷ []) ∷ [])
    (0x8000 ∷ 0x0100 ∷ []))
    ∷ gives three (Start 1 ∷ Send 1 2 0 ∷ []) (Receive 1 2) 0 (three_with
    (zone 10 1 1 (permanent 10 0) ∷ zone 20 2 1 (mutable 20 0) ∷ zone 30 4 0 None ∷ [])
    []
    (0x8000 ∷ 0x0100 ∷ 0x4100 ∷ []))
    -- The zone with the mutable checkpoint sends with the flag as well.
    ∷ gives three (Start 1 ∷ Send 1 2 0 ∷ Receive 1 2 ∷ []) (Send 2 3 0) 0 (three_with
    (zone 10 1 1 (permanent 10 0) ∷ zone 20 2 2 (mutable 20 0) ∷ zone 30 4 0 None ∷ [])
    (channel 2 3 (message 0 true ∷ []) ∷ [])
    (0x8000 ∷ 0x0100 ∷ 0x4100 ∷ 0x0A00 ∷ []))
    -- A recorded channel shows it.
    ∷ records two (Send 1 2 0 ∷ Start 1 ∷ []) (lent 12) 0 12 12
    (0x24 ∷ 0x01 ∷ 0x80 ∷ 0x01 ∷ 0x00 ∷ 0x05 ∷ 0x00 ∷ 0x00 ∷ 0x00 ∷ 0x07 ∷ 0x01 ∷ 0x00 ∷ [])
    ∷ []

-- Runs of two zones, opened with 255 and 7 cars.
abbrev pub sending_with : List Local → List Channel → List ℕ → Run
sending_with = run_with (255 ∷ 7 ∷ [])

abbrev pub sending : Run
sending = sending_with (zone 255 1 0 None ∷ zone 7 2 0 None ∷ []) [] []

abbrev pub up_to20 : List ℕ
up_to20 = 1 ∷ 2 ∷ 3 ∷ 4 ∷ 5 ∷ 6 ∷ 7 ∷ 8 ∷ 9 ∷ 10 ∷ 11 ∷ 12 ∷ 13 ∷ 14 ∷ 15 ∷ 16 ∷ 17 ∷ 18 ∷ 19 ∷ 20 ∷ []

-- Zone 1 sends 1 car, 2 cars and so on up to 16 to zone 2, which receives four times; then it sends 17 to 20, and starts. It depends on
-- itself alone, so that zone 2 is not recorded.
abbrev pub calls_passing : List SiteCall
calls_passing = map (Send 1 2) (take 16 up_to20) ++ replicate 4 (Receive 1 2) ++ map (Send 1 2) (drop 16 up_to20)

abbrev pub passing : Run
passing = sending_with
    (zone 45 1 20 (permanent 45 20) ∷ zone 17 3 4 None ∷ [])
    (channel 1 2 (map (λ cars. message cars false) (drop 4 up_to20)) ∷ [])
    (map (◌+◌ 0x0100) (take 16 up_to20) ++ replicate 4 0x4100 ++ map (◌+◌ 0x0100) (drop 16 up_to20) ++ (0x8000 ∷ []))

-- All 20 messages are shown.
abbrev pub recording_passing : List ℕ
recording_passing =
    0x24 ∷ 0x14 ∷ 0x80 ∷ 0x14 ∷ 0x00 ∷ 0x2D ∷ 0x00 ∷ 0x00 ∷ 0x00 ∷ 0x07
    ∷ 0x01 ∷ 0x01 ∷ 0x01 ∷ 0x02 ∷ 0x01 ∷ 0x03 ∷ 0x01 ∷ 0x04 ∷ 0x01 ∷ 0x05
    ∷ 0x01 ∷ 0x06 ∷ 0x01 ∷ 0x07 ∷ 0x01 ∷ 0x08 ∷ 0x01 ∷ 0x09 ∷ 0x01 ∷ 0x0A
    ∷ 0x01 ∷ 0x0B ∷ 0x01 ∷ 0x0C ∷ 0x01 ∷ 0x0D ∷ 0x01 ∷ 0x0E ∷ 0x01 ∷ 0x0F
    ∷ 0x01 ∷ 0x10 ∷ 0x01 ∷ 0x11 ∷ 0x01 ∷ 0x12 ∷ 0x01 ∷ 0x13 ∷ 0x01 ∷ 0x14 ∷ []

-- All three zones are recorded: zone 1 before it receives 6 cars from zone 3, zones 2 and 3 when they receive a request.
abbrev pub calls_all : List SiteCall
calls_all =
    Send 3 2 5 ∷ Send 3 2 9 ∷ Send 3 1 6 ∷ Send 3 1 4 ∷ Send 2 3 7 ∷ Send 1 3 2 ∷ Send 1 2 1 ∷ Send 2 1 0 ∷ Receive 2 1 ∷ Receive 3 2
    ∷ Start 1 ∷ Receive 3 1 ∷ Send 1 2 3 ∷ Receive 1 2 ∷ Send 2 3 8 ∷ Receive 1 2 ∷ Receive 2 3 ∷ Receive 2 3 ∷ Receive 2 3 ∷ []

-- The items are 2 cars from zone 1 to zone 3, 6 and 4 from zone 3 to zone 1, and 9 from zone 3 to zone 2.
abbrev pub recording_all : List ℕ
recording_all =
    0x28 ∷ 0x04 ∷ 0x80 ∷ 0x03 ∷ 0x00 ∷ 0x07 ∷ 0x80 ∷ 0x05 ∷ 0x00 ∷ 0x0B ∷ 0x80 ∷ 0x06 ∷ 0x00 ∷ 0x15
    ∷ 0x02 ∷ 0x02 ∷ 0x10 ∷ 0x06 ∷ 0x10 ∷ 0x04 ∷ 0x11 ∷ 0x09 ∷ []

abbrev pub recorded_channels : List Row
recorded_channels =
    -- "It can hold more than 16."
    opens 2 (255 ∷ 7 ∷ []) 0 sending
    ∷ gives sending calls_passing (Start 1) 0 passing
    ∷ records passing [] (lent 50) 0 50 262 recording_passing
    -- Calls after it do not change the recording, receipts of what it shows included.
    ∷ records passing (replicate 16 (Receive 1 2) ++ (Send 1 2 9 ∷ Receive 1 2 ∷ Send 2 1 8 ∷ [])) (lent 50) 0 50 262 recording_passing
    -- The items stand "by sender, then receiver, then order sent".
    ∷ records three calls_all (lent 22) 0 22 60 recording_all
    ∷ []

-- The journal of two zones, opened with 5 and 7 cars, with up to 255 records: their number, and their bytes.
abbrev pub journal_with : ℕ → List ℕ → List ℕ
journal_with number bytes = 0x24 ∷ number ∷ 0x00 ∷ 0x05 ∷ 0x00 ∷ 0x07 ∷ bytes

-- Behind a message of 1 car from zone 1 to zone 2 stands a record, by its two bytes, that is refused.
abbrev pub refuses : ℕ → ℕ → ℕ → Row
refuses high low n = reads (journal_with 2 (0x01 ∷ 0x01 ∷ high ∷ low ∷ [])) n 1 nothing

abbrev pub journals : List Row
journals =
    -- The lent bytes are one too few, just enough, or more.
    writes two [] (lent 5) 14 0 (lent 5)
    ∷ writes two [] (lent 6) 0 6 (journal_with 0 [])
    ∷ writes two [] (lent 9) 0 6 (journal_with 0 (lent 3))
    -- The journal has no byte, or one; its edition is 0, or 4 to 7.
    ∷ reads [] 15 0 nothing
    ∷ reads (0x24 ∷ []) 15 0 nothing
    ∷ reads (0x04 ∷ 0x00 ∷ 0x00 ∷ 0x05 ∷ 0x00 ∷ 0x07 ∷ []) 15 0 nothing
    ∷ reads (0x84 ∷ 0x00 ∷ 0x00 ∷ 0x05 ∷ 0x00 ∷ 0x07 ∷ []) 15 0 nothing
    ∷ reads (0xA4 ∷ 0x00 ∷ 0x00 ∷ 0x05 ∷ 0x00 ∷ 0x07 ∷ []) 15 0 nothing
    ∷ reads (0xC4 ∷ 0x00 ∷ 0x00 ∷ 0x05 ∷ 0x00 ∷ 0x07 ∷ []) 15 0 nothing
    ∷ reads (0xE4 ∷ 0x00 ∷ 0x00 ∷ 0x05 ∷ 0x00 ∷ 0x07 ∷ []) 15 0 nothing
    -- The zones field is 0; the records are 1,001; they are 1,000, but missing.
    ∷ reads (0x20 ∷ 0x00 ∷ 0x00 ∷ 0x05 ∷ []) 16 0 nothing
    ∷ reads (0x27 ∷ 0xE9 ∷ 0x00 ∷ 0x05 ∷ 0x00 ∷ 0x07 ∷ []) 16 0 nothing
    ∷ reads (0x27 ∷ 0xE8 ∷ 0x00 ∷ 0x05 ∷ 0x00 ∷ 0x07 ∷ []) 17 0 nothing
    -- There is a byte too many, or one too few.
    ∷ reads (0x24 ∷ 0x00 ∷ 0x00 ∷ 0x05 ∷ 0x00 ∷ 0x07 ∷ 0x00 ∷ []) 17 0 nothing
    ∷ reads (0x24 ∷ 0x00 ∷ 0x00 ∷ 0x05 ∷ 0x00 ∷ []) 17 0 nothing
    -- The stocks are 65,535 together, or 65,536.
    ∷ reads (0x24 ∷ 0x00 ∷ 0xFF ∷ 0xFF ∷ 0x00 ∷ 0x00 ∷ []) 0 0
    (run_with (65535 ∷ 0 ∷ []) (zone 65535 1 0 None ∷ zone 0 2 0 None ∷ []) [] [])
    ∷ reads (0x24 ∷ 0x00 ∷ 0xFF ∷ 0xFF ∷ 0x00 ∷ 0x01 ∷ []) 4 0 nothing
    -- There is no record; a message; a message and its receipt.
    ∷ reads (journal_with 0 []) 0 0 two
    ∷ reads (journal_with 1 (0x01 ∷ 0x01 ∷ [])) 0 0
    (two_with (zone 4 1 1 None ∷ zone 7 2 0 None ∷ []) (channel 1 2 (message 1 false ∷ []) ∷ []) (0x0101 ∷ []))
    ∷ reads (journal_with 2 (0x01 ∷ 0x01 ∷ 0x41 ∷ 0x00 ∷ [])) 0 0
    (two_with (zone 4 1 1 None ∷ zone 8 3 1 None ∷ []) [] (0x0101 ∷ 0x4100 ∷ []))
    -- The kind is 3, which edition 1 does not use; a receipt has cars; a start has a second zone, or cars.
    ∷ refuses 0xC0 0x00 18
    ∷ refuses 0x41 0x01 18
    ∷ refuses 0x81 0x00 18
    ∷ refuses 0x80 0x01 18
    -- Zone 3, which is off the site, receives, sends or starts; a zone sends to itself.
    ∷ refuses 0x02 0x01 19
    ∷ refuses 0x51 0x00 19
    ∷ refuses 0x90 0x00 19
    ∷ refuses 0x00 0x01 19
    -- The channel is empty; the stock does not cover the cars.
    ∷ refuses 0x48 0x00 19
    ∷ refuses 0x01 0x05 19
    -- "wrong zones alone meet 19": this receipt has cars as well.
    ∷ refuses 0x42 0x01 18
    -- The first record that is refused decides.
    ∷ reads (journal_with 2 (0x48 ∷ 0x00 ∷ 0xC0 ∷ 0x00 ∷ [])) 19 0 nothing
    -- The program prints a refused journal's number, then a refused recording's, then a recording.
    ∷ prints [] "refused 15\n"
    ∷ prints (journal_with 1 (0xC0 ∷ 0x00 ∷ [])) "refused 18\n"
    ∷ prints (0x24 ∷ 0x00 ∷ 0xFF ∷ 0xFF ∷ 0x00 ∷ 0x01 ∷ []) "refused 4\n"
    ∷ prints (journal_with 0 []) "refused 12\n"
    ∷ prints (journal_with 3 (0x08 ∷ 0x01 ∷ 0x48 ∷ 0x00 ∷ 0x80 ∷ 0x00 ∷ [])) "refused 13\n"
    ∷ prints (journal_with 1 (0x80 ∷ 0x00 ∷ [])) "24 00 80 00 00 05 00 00 00 07\n"
    ∷ []

-- No calls lead to these: a stock that the journal does not explain, and cars above 65,535.
abbrev pub unexplained : Run
unexplained = two_with (zone 6 1 0 (permanent 6 0) ∷ zone 7 2 0 None ∷ []) [] (0x8000 ∷ [])

abbrev pub unsound : Run
unsound = two_with (zone 65535 1 0 None ∷ zone 0 2 0 None ∷ []) (channel 1 2 (message 1 false ∷ []) ∷ []) []

abbrev pub states : List Row
states =
    -- Recording and journal writing replay the journal; a message does not.
    records unexplained [] (lent 10) 1 0 0 (lent 10)
    ∷ writes unexplained [] (lent 8) 1 0 (lent 8)
    ∷ gives unexplained [] (Send 1 2 6) 0 (two_with
    (zone 0 1 1 (permanent 6 0) ∷ zone 7 2 0 None ∷ [])
    (channel 1 2 (message 6 true ∷ []) ∷ [])
    (0x8000 ∷ 0x0106 ∷ []))
    -- Every call asks first whether the state is sound.
    ∷ gives unsound [] (Send 1 3 0) 1 unsound
    ∷ gives unsound [] (Receive 1 2) 1 unsound
    ∷ gives unsound [] (Start 1) 1 unsound
    ∷ records unsound [] [] 1 0 0 []
    ∷ writes unsound [] [] 1 0 []
    ∷ []

-- Those of edition 1 and of the zone part; and all.
abbrev pub first_edges : List Row
first_edges =
    map part_row zones.table ++ openings ++ cases ++ refusals ++ sixteen ++ thousand ++ starts ++ full_channels ++ no_cars ++ recorded_channels
    ++ journals ++ states

abbrev pub table : List Row
table = first_edges ++ editions ++ gates ++ searches ++ remaining ++ empties ++ page_rows ++ conversions
