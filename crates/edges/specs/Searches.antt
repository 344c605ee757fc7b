-- The worked edges of the search for a full channel among those that must take a request (request 2.3): which zone it names, and what a start
-- answers there, which is the same in whatever order the zones are looked at.
use Rattle.std.specs.Prelude.{false, List, [], ◌∷◌, ◌++◌, ℕ, replicate}
use Rattle.rules.specs.Site.{Item, message, request}
use Rattle.rules.specs.declared.Checkpoint.TheVariants.{None}
use Rattle.rules.specs.declared.Local.{Local}
use Rattle.run.specs.declared.Run.{Run}
use Rattle.run.specs.declared.SiteCall.TheVariants.{Send, Receive, Start}
use Rattle.edges.specs.Rows.{Row, opens, gives, receives, names, zone, permanent, Channel, channel, run_with}

-- Runs of three zones, opened with 1 car each.
abbrev pub ones_with : List Local → List Channel → List ℕ → Run
ones_with = run_with (1 ∷ 1 ∷ 1 ∷ [])

abbrev pub ones : Run
ones = ones_with (zone 1 1 0 None ∷ zone 1 2 0 None ∷ zone 1 4 0 None ∷ []) [] []

abbrev pub of_no_cars : ℕ → List Item
of_no_cars n = replicate n (message 0 false)

-- Zone 1 depends on both others and has sent 16 messages to each, and more has been called since.
abbrev pub heard_with : List Local → List Item → List Item → List ℕ → Run
heard_with zones to_second to_third more = ones_with
    zones
    (channel 1 2 to_second ∷ channel 1 3 to_third ∷ [])
    (0x0800 ∷ 0x4800 ∷ 0x1000 ∷ 0x5000 ∷ replicate 16 0x0100 ++ replicate 16 0x0200 ++ more)

-- Both channels are full; a receipt has made a place on that to zone 3, or on that to zone 2.
abbrev pub both_full : Run
both_full = heard_with (zone 1 7 34 None ∷ zone 1 2 1 None ∷ zone 1 4 1 None ∷ []) (of_no_cars 16) (of_no_cars 16) []

abbrev pub second_full : Run
second_full = heard_with
    (zone 1 7 34 None ∷ zone 1 2 1 None ∷ zone 1 5 2 None ∷ [])
    (of_no_cars 16)
    (of_no_cars 15)
    (0x4200 ∷ [])

abbrev pub third_full : Run
third_full = heard_with
    (zone 1 7 34 None ∷ zone 1 3 2 None ∷ zone 1 4 1 None ∷ [])
    (of_no_cars 15)
    (of_no_cars 16)
    (0x4100 ∷ [])

-- Runs of eight zones without cars, of which only zone 4 has changed.
abbrev pub empty_with : ℕ → List Channel → List ℕ → Run
empty_with events = run_with
    (replicate 8 0)
    (
    zone 0 1 0 None
    ∷ zone 0 2 0 None
    ∷ zone 0 4 0 None
    ∷ zone 0 8 events None
    ∷ zone 0 16 0 None
    ∷ zone 0 32 0 None
    ∷ zone 0 64 0 None
    ∷ zone 0 128 0 None
    ∷ []
    )

abbrev pub empty : Run
empty = empty_with 0 [] []

-- The channels of zone 4 to the lowest and to the highest zone are full.
abbrev pub ends : Run
ends = empty_with 32 (channel 4 1 (of_no_cars 16) ∷ channel 4 8 (of_no_cars 16) ∷ []) (replicate 16 0x1800 ++ replicate 16 0x1F00)

abbrev pub searches : List Row
searches =
    opens 3 (1 ∷ 1 ∷ 1 ∷ []) 0 ones
    ∷ gives ones (Send 2 1 0 ∷ Receive 2 1 ∷ Send 3 1 0 ∷ Receive 3 1 ∷ replicate 16 (Send 1 2 0) ++ replicate 15 (Send 1 3 0)) (Send 1 3 0) 0
    both_full
    ∷ receives both_full [] 1 3 15 second_full
    ∷ receives both_full [] 1 2 15 third_full
    -- Of zones 2 and 3 "the highest such zone whose line is full", "and none exactly when all have a place".
    ∷ names both_full [] 1 6 3
    ∷ names second_full [] 1 6 2
    ∷ names third_full [] 1 6 3
    ∷ names second_full (Receive 1 2 ∷ []) 1 6 0
    -- A start answers 10 where one is named, whichever it is.
    ∷ gives both_full [] (Start 1) 10 both_full
    ∷ gives second_full [] (Start 1) 10 second_full
    ∷ gives third_full [] (Start 1) 10 third_full
    ∷ gives second_full (Receive 1 2 ∷ []) (Start 1) 0 (heard_with
    (zone 1 7 34 (permanent 1 34) ∷ zone 1 3 2 None ∷ zone 1 5 2 None ∷ [])
    (of_no_cars 15 ++ (request 7 ∷ []))
    (of_no_cars 15 ++ (request 7 ∷ []))
    (0x4200 ∷ 0x4100 ∷ 0x8000 ∷ []))
    -- A full channel to a zone that is not of the set does not count, nor does another zone's channel. Of nobody none is named.
    ∷ names both_full [] 1 2 2
    ∷ names third_full [] 1 2 0
    ∷ names both_full [] 2 5 0
    ∷ names both_full [] 1 0 0
    -- The highest zone of all, and the lowest.
    ∷ opens 8 (replicate 8 0) 0 empty
    ∷ gives empty (replicate 16 (Send 4 1 0) ++ replicate 15 (Send 4 8 0)) (Send 4 8 0) 0 ends
    ∷ names ends [] 4 0xFF 8
    ∷ names ends [] 4 0x81 8
    ∷ names ends [] 4 0x7F 1
    ∷ names ends [] 4 0x7E 0
    ∷ []
