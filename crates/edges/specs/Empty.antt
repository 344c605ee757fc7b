-- The worked edges of openings without stocks (request 2.5): an empty car park, whose journal has a word for each zone.
use Rattle.std.specs.Prelude.{List, [], ◌∷◌, ◌++◌, ℕ, replicate}
use Rattle.rules.specs.declared.Direction.TheVariants.{In}
use Rattle.run.specs.declared.Run.{Run}
use Rattle.run.specs.declared.SiteCall.{SiteCall}
use Rattle.run.specs.declared.SiteCall.TheVariants.{Send, Receive, Start, Gate}
use Rattle.edges.specs.Rows.{Row, opens_in, gives, writes, reads, records, records_journal, prints, run_in, nothing}

-- An empty car park by its edition and zone count: each zone is as a run keeps one that the site lacks, with stock 0, and it has heard itself alone.
abbrev pub empty : ℕ → ℕ → Run
empty edition count = run_in edition (replicate count 0) [] [] []

abbrev pub openings : List Row
openings =
    opens_in 1 2 [] 0 (empty 1 2)
    ∷ opens_in 1 3 [] 0 (empty 1 3)
    ∷ opens_in 2 8 [] 0 (empty 2 8)
    ∷ opens_in 3 8 [] 0 (empty 3 8)
    -- As many zeros as zones.
    ∷ opens_in 1 2 (0 ∷ 0 ∷ []) 0 (empty 1 2)
    ∷ opens_in 1 3 (0 ∷ 0 ∷ 0 ∷ []) 0 (empty 1 3)
    ∷ opens_in 2 8 (replicate 8 0) 0 (empty 2 8)
    -- Any other number of zeros.
    ∷ opens_in 1 3 (0 ∷ []) 3 nothing
    ∷ opens_in 1 3 (0 ∷ 0 ∷ []) 3 nothing
    ∷ opens_in 1 3 (0 ∷ 0 ∷ 0 ∷ 0 ∷ []) 3 nothing
    ∷ opens_in 2 8 (replicate 7 0) 3 nothing
    ∷ opens_in 2 8 (replicate 9 0) 3 nothing
    -- 2 and 15 are asked without stocks, too; and they come before 3.
    ∷ opens_in 1 9 [] 2 nothing
    ∷ opens_in 3 1 [] 2 nothing
    ∷ opens_in 1 0 [] 2 nothing
    ∷ opens_in 7 3 [] 15 nothing
    ∷ opens_in 0 0 [] 15 nothing
    ∷ opens_in 1 9 (0 ∷ []) 2 nothing
    ∷ opens_in 2 1 (0 ∷ 0 ∷ []) 2 nothing
    ∷ opens_in 7 3 (0 ∷ []) 15 nothing
    ∷ opens_in 0 9 (0 ∷ []) 15 nothing
    ∷ []

-- Zone 3 has no car to hand over. Five cars drive in at zone 1, two go on to zone 2, one comes back, and zone 2 starts; "68 07 00 00 00 00 00 00
-- C0 05 01 02 41 00 08 01 88 00 48 00 48 00".
abbrev pub first_cars : List SiteCall
first_cars =
    Send 3 1 1 ∷ Gate In 1 5 ∷ Send 1 2 2 ∷ Receive 1 2 ∷ Send 2 1 1 ∷ Start 2 ∷ Receive 2 1 ∷ Receive 2 1 ∷ []

abbrev pub first_journal : List ℕ
first_journal =
    0x68 ∷ 0x07 ∷ replicate 6 0x00
    ++ (0xC0 ∷ 0x05 ∷ 0x01 ∷ 0x02 ∷ 0x41 ∷ 0x00 ∷ 0x08 ∷ 0x01 ∷ 0x88 ∷ 0x00 ∷ 0x48 ∷ 0x00 ∷ 0x48 ∷ 0x00 ∷ [])

-- Zone 3 is shown with its opening stock, 0.
abbrev pub first_recording : List ℕ
first_recording = 0x68 ∷ 0x00 ∷ 0x80 ∷ 0x03 ∷ 0x00 ∷ 0x04 ∷ 0x80 ∷ 0x02 ∷ 0x00 ∷ 0x01 ∷ replicate 4 0x00

abbrev pub journals : List Row
journals =
    writes (empty 1 2) [] (replicate 7 0xEE) 0 6 (0x24 ∷ replicate 5 0x00 ++ (0xEE ∷ []))
    ∷ writes (empty 1 3) [] (replicate 8 0xEE) 0 8 (0x28 ∷ replicate 7 0x00)
    ∷ writes (empty 1 3) [] (replicate 7 0xEE) 14 0 (replicate 7 0xEE)
    ∷ writes (empty 2 8) [] (replicate 18 0xEE) 0 18 (0x5C ∷ replicate 17 0x00)
    ∷ writes (empty 3 8) [] (replicate 18 0xEE) 0 18 (0x7C ∷ replicate 17 0x00)
    -- That of a refused opening.
    ∷ writes nothing [] (replicate 6 0xEE) 0 6 (0x24 ∷ replicate 5 0x00)
    -- Reading has no empty list: a word for each zone must be there.
    ∷ reads (0x28 ∷ replicate 7 0x00) 0 0 (empty 1 3)
    ∷ reads (0x28 ∷ 0x00 ∷ []) 17 0 nothing
    -- Calls on an empty car park.
    ∷ gives (empty 2 8) [] (Send 8 7 1) 7 (empty 2 8)
    ∷ records (empty 1 3) [] (replicate 14 0xEE) 12 0 0 (replicate 14 0xEE)
    ∷ records (empty 1 3) (Start 1 ∷ []) (replicate 14 0xEE) 0 14 0 (0x28 ∷ 0x00 ∷ 0x80 ∷ replicate 11 0x00)
    ∷ writes (empty 3 3) first_cars (replicate 22 0xEE) 0 22 first_journal
    ∷ records (empty 3 3) first_cars (replicate 14 0xEE) 0 14 5 first_recording
    ∷ records_journal first_journal (replicate 15 0xEE) 0 0 14 5 (first_recording ++ (0xEE ∷ []))
    ∷ prints first_journal "68 00 80 03 00 04 80 02 00 01 00 00 00 00\n"
    ∷ []

abbrev pub empties : List Row
empties = openings ++ journals
