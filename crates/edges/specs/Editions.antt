-- The worked edges of editions: which are opened and sound, and what a message of 0 cars, in edition 2 a line check, leaves as it was.
use Rattle.std.specs.Prelude.{true, false, List, [], ◌∷◌, ◌++◌, ℕ, replicate}
use Rattle.rules.specs.Site.{message}
use Rattle.rules.specs.declared.Checkpoint.TheVariants.{None}
use Rattle.rules.specs.declared.Local.{Local}
use Rattle.run.specs.declared.Run.{Run}
use Rattle.run.specs.declared.SiteCall.TheVariants.{Send, Receive, Start}
use Rattle.edges.specs.Rows.{
  Row,
  opens_in,
  gives,
  records,
  writes,
  reads,
  prints,
  zone,
  mutable,
  permanent,
  times,
  Channel,
  channel,
  run_in,
  nothing,
}

-- Lent bytes before a call are 255 each.
abbrev pub lent : ℕ → List ℕ
lent n = replicate n 0xFF

-- Runs of two zones, opened with 5 and 7 cars, in an edition.
abbrev pub pair_in : ℕ → List Local → List Channel → List ℕ → Run
pair_in edition = run_in edition (5 ∷ 7 ∷ [])

abbrev pub pair : ℕ → Run
pair edition = pair_in edition (zone 5 1 0 None ∷ zone 7 2 0 None ∷ []) [] []

abbrev pub named : List Row
named =
    -- Editions 1 to 3 are opened, 0, 4 to 7 and 255 are not; what is handed back then has edition 1.
    opens_in 0 2 (5 ∷ 7 ∷ []) 15 nothing
    ∷ opens_in 1 2 (5 ∷ 7 ∷ []) 0 (pair 1)
    ∷ opens_in 2 2 (5 ∷ 7 ∷ []) 0 (pair 2)
    ∷ opens_in 3 2 (5 ∷ 7 ∷ []) 0 (pair 3)
    ∷ opens_in 4 2 (5 ∷ 7 ∷ []) 15 nothing
    ∷ opens_in 5 2 (5 ∷ 7 ∷ []) 15 nothing
    ∷ opens_in 6 2 (5 ∷ 7 ∷ []) 15 nothing
    ∷ opens_in 7 2 (5 ∷ 7 ∷ []) 15 nothing
    ∷ opens_in 255 2 (5 ∷ 7 ∷ []) 15 nothing
    -- 15 is asked before 2, 3 and 4, and these of every edition.
    ∷ opens_in 4 9 [] 15 nothing
    ∷ opens_in 0 2 (5 ∷ []) 15 nothing
    ∷ opens_in 7 2 (65535 ∷ 1 ∷ []) 15 nothing
    ∷ opens_in 2 9 [] 2 nothing
    ∷ opens_in 2 2 (5 ∷ []) 3 nothing
    ∷ opens_in 2 2 (65535 ∷ 1 ∷ []) 4 nothing
    ∷ opens_in 3 9 [] 2 nothing
    ∷ opens_in 3 2 (5 ∷ []) 3 nothing
    ∷ opens_in 3 2 (65535 ∷ 1 ∷ []) 4 nothing
    -- A run of an edition that is not defined is not sound.
    ∷ gives (pair 0) [] (Send 1 2 1) 1 (pair 0)
    ∷ gives (pair 4) [] (Receive 1 2) 1 (pair 4)
    ∷ gives (pair 7) [] (Start 1) 1 (pair 7)
    ∷ records (pair 4) [] (lent 10) 1 0 0 (lent 10)
    ∷ writes (pair 0) [] (lent 6) 1 0 (lent 6)
    -- A journal has its run's edition, and so has a recording.
    ∷ writes (pair 2) [] (lent 6) 0 6 (0x44 ∷ 0x00 ∷ 0x00 ∷ 0x05 ∷ 0x00 ∷ 0x07 ∷ [])
    ∷ reads (0x44 ∷ 0x00 ∷ 0x00 ∷ 0x05 ∷ 0x00 ∷ 0x07 ∷ []) 0 0 (pair 2)
    ∷ reads (0x44 ∷ 0x01 ∷ 0x00 ∷ 0x05 ∷ 0x00 ∷ 0x07 ∷ 0x48 ∷ 0x00 ∷ []) 19 0 nothing
    ∷ records (pair 2) (Start 1 ∷ []) (lent 10) 0 10 12 (0x44 ∷ 0x00 ∷ 0x80 ∷ 0x00 ∷ 0x00 ∷ 0x05 ∷ 0x00 ∷ 0x00 ∷ 0x00 ∷ 0x07 ∷ [])
    ∷ []

-- Runs of three zones of edition 2, opened with 10, 20 and 30 cars.
abbrev pub checked_with : List Local → List Channel → List ℕ → Run
checked_with = run_in 2 (10 ∷ 20 ∷ 30 ∷ [])

abbrev pub as_opened : List Local
as_opened = zone 10 1 0 None ∷ zone 20 2 0 None ∷ zone 30 4 0 None ∷ []

abbrev pub checkable : Run
checkable = checked_with as_opened [] []

-- Zone 1 has started, and so has its checkpoint.
abbrev pub started_zones : List Local
started_zones = zone 10 1 0 (permanent 10 0) ∷ zone 20 2 0 None ∷ zone 30 4 0 None ∷ []

-- What edition 1 makes of the same calls is in `no_cars`.
abbrev pub checks : List Row
checks =
    -- A check joins the channel, and leaves it, and no zone changes.
    opens_in 2 3 (10 ∷ 20 ∷ 30 ∷ []) 0 checkable
    ∷ gives checkable [] (Send 1 2 0) 0 (checked_with as_opened (channel 1 2 (message 0 false ∷ []) ∷ []) (0x0100 ∷ []))
    ∷ gives checkable (Send 1 2 0 ∷ []) (Receive 1 2) 0 (checked_with as_opened [] (0x0100 ∷ 0x4100 ∷ []))
    -- Sent by a zone with a checkpoint it bears the flag, and makes no checkpoint.
    ∷ gives checkable (Start 1 ∷ []) (Send 1 2 0) 0 (checked_with started_zones (channel 1 2 (message 0 true ∷ []) ∷ []) (0x8000 ∷ 0x0100 ∷ []))
    ∷ gives checkable (Start 1 ∷ Send 1 2 0 ∷ []) (Receive 1 2) 0 (checked_with started_zones [] (0x8000 ∷ 0x0100 ∷ 0x4100 ∷ []))
    -- So zone 2 sends without the flag. A zone with a mutable checkpoint keeps it, and sends with the flag.
    ∷ gives checkable (Start 1 ∷ Send 1 2 0 ∷ Receive 1 2 ∷ []) (Send 2 3 0) 0
    (checked_with started_zones (channel 2 3 (message 0 false ∷ []) ∷ []) (0x8000 ∷ 0x0100 ∷ 0x4100 ∷ 0x0A00 ∷ []))
    ∷ gives checkable (Start 1 ∷ Send 1 2 3 ∷ Receive 1 2 ∷ Send 1 2 0 ∷ Receive 1 2 ∷ []) (Send 2 3 0) 0 (checked_with
    (zone 7 1 1 (permanent 10 0) ∷ zone 23 2 1 (mutable 20 0) ∷ zone 30 4 0 None ∷ [])
    (channel 2 3 (message 0 true ∷ []) ∷ [])
    (0x8000 ∷ 0x0103 ∷ 0x4100 ∷ 0x0100 ∷ 0x4100 ∷ 0x0A00 ∷ []))
    -- A message with cars is what it was.
    ∷ gives checkable (Send 1 2 4 ∷ []) (Receive 1 2) 0 (checked_with
    (zone 6 1 1 None ∷ zone 24 3 1 None ∷ zone 30 4 0 None ∷ [])
    []
    (0x0104 ∷ 0x4100 ∷ []))
    -- A recorded channel does not show a check, before the start or behind it.
    ∷ records checkable (Send 1 2 0 ∷ Send 1 2 3 ∷ Send 1 2 0 ∷ Start 1 ∷ Send 1 2 0 ∷ []) (lent 16) 0 16 60
    (0x48 ∷ 0x01 ∷ 0x80 ∷ 0x01 ∷ 0x00 ∷ 0x07 ∷ 0x00 ∷ 0x00 ∷ 0x00 ∷ 0x14 ∷ 0x00 ∷ 0x00 ∷ 0x00 ∷ 0x1E ∷ 0x01 ∷ 0x03 ∷ [])
    ∷ []

-- Sixteen checks wait on the channel from zone 1 to zone 2.
abbrev pub sixteen_checks : Run
sixteen_checks = checked_with as_opened (channel 1 2 (replicate 16 (message 0 false)) ∷ []) (replicate 16 0x0100)

-- Five hundred checks were sent and received.
abbrev pub thousand_records : Run
thousand_records = pair_in 2 (zone 5 1 0 None ∷ zone 7 2 0 None ∷ []) [] (times 500 (0x0100 ∷ 0x4100 ∷ []))

abbrev pub many_checks : List Row
many_checks =
    -- The 16th check has a place, the 17th none; 7 is asked before 8.
    gives checkable (replicate 15 (Send 1 2 0)) (Send 1 2 0) 0 sixteen_checks
    ∷ gives sixteen_checks [] (Send 1 2 0) 8 sixteen_checks
    ∷ gives sixteen_checks [] (Send 1 2 11) 7 sixteen_checks
    -- They use up the records and no own event.
    ∷ gives (pair 2) (Send 1 2 0 ∷ times 499 (Receive 1 2 ∷ Send 1 2 0 ∷ [])) (Receive 1 2) 0 thousand_records
    ∷ gives thousand_records [] (Send 1 2 0) 6 thousand_records
    ∷ gives thousand_records [] (Receive 1 2) 6 thousand_records
    ∷ gives thousand_records [] (Start 1) 6 thousand_records
    ∷ []

-- Journals of two zones with 5 and 7 cars, behind the first byte: a check, received; then zone 2 starts. A check; then zone 1 starts.
abbrev pub heard_of : List ℕ
heard_of = 0x03 ∷ 0x00 ∷ 0x05 ∷ 0x00 ∷ 0x07 ∷ 0x01 ∷ 0x00 ∷ 0x41 ∷ 0x00 ∷ 0x88 ∷ 0x00 ∷ []

abbrev pub shown_on : List ℕ
shown_on = 0x02 ∷ 0x00 ∷ 0x05 ∷ 0x00 ∷ 0x07 ∷ 0x01 ∷ 0x00 ∷ 0x80 ∷ 0x00 ∷ []

-- One of three zones with 10, 20 and 30 cars: zone 1, which depends on zone 2, starts and sends zone 3 a check; zone 3 takes it and hands cars
-- to zone 2, which takes them, then the request of zone 1; then zone 3 takes that of zone 2. Had the check given zone 3 a checkpoint, its
-- message would not have made zone 2 depend on it, and the last channel would be empty.
abbrev pub marked_by : List ℕ
marked_by =
    0x09 ∷ 0x00 ∷ 0x0A ∷ 0x00 ∷ 0x14 ∷ 0x00 ∷ 0x1E
    ∷ 0x08 ∷ 0x04 ∷ 0x48 ∷ 0x00 ∷ 0x80 ∷ 0x00 ∷ 0x02 ∷ 0x00 ∷ 0x42 ∷ 0x00
    ∷ 0x11 ∷ 0x05 ∷ 0x51 ∷ 0x00 ∷ 0x41 ∷ 0x00 ∷ 0x4A ∷ 0x00 ∷ []

abbrev pub journals_of_checks : List Row
journals_of_checks =
    -- Edition 2, then edition 1.
    prints (0x44 ∷ heard_of) "44 00 00 00 00 05 80 00 00 07\n"
    ∷ prints (0x24 ∷ heard_of) "refused 13\n"
    ∷ prints (0x44 ∷ shown_on) "44 00 80 00 00 05 00 00 00 07\n"
    ∷ prints (0x24 ∷ shown_on) "24 01 80 01 00 05 00 00 00 07 01 00\n"
    ∷ prints (0x48 ∷ marked_by) "48 00 80 01 00 0E 80 02 00 15 80 01 00 19\n"
    ∷ reads (0x28 ∷ marked_by) 19 8 nothing
    -- The 17th of the checks on one channel is refused, at position 16.
    ∷ reads (0x44 ∷ 0x11 ∷ 0x00 ∷ 0x05 ∷ 0x00 ∷ 0x07 ∷ times 17 (0x01 ∷ 0x00 ∷ [])) 19 16 nothing
    ∷ []

abbrev pub editions : List Row
editions = named ++ checks ++ many_checks ++ journals_of_checks
