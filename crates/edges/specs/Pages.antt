-- The worked edges of pages (request 2.6): the bytes that are lent, the lines that are left out, the order of lines, the total, the refusals.
use Rattle.std.specs.Prelude.{List, [], ◌∷◌, ◌++◌, ℕ}
use Prim.Native.String.{String}
use Rattle.rules.specs.declared.Checkpoint.TheVariants.{None}
use Rattle.run.specs.declared.Run.{Run}
use Rattle.run.specs.declared.SiteCall.{SiteCall}
use Rattle.run.specs.declared.SiteCall.TheVariants.{Send, Receive, Start}
use Rattle.journal.specs.Claims.{case_a}
use Rattle.text.specs.Codes.{codes_of}
use Rattle.edges.specs.Editions.{lent}
use Rattle.edges.specs.Gates.{journal_above, journal_of_three}
use Rattle.edges.specs.Rows.{Row, pages, pages_journal, prints_page, zone, run_in}

-- Sites that were just opened: stocks 10, 20, 30; stocks 5 and 7.
abbrev pub three : Run
three = run_in 1 (10 ∷ 20 ∷ 30 ∷ []) (zone 10 1 0 None ∷ zone 20 2 0 None ∷ zone 30 4 0 None ∷ []) [] []

abbrev pub pair : Run
pair = run_in 1 (5 ∷ 7 ∷ []) (zone 5 1 0 None ∷ zone 7 2 0 None ∷ []) [] []

-- Case A: its calls, and "Case A gives".
abbrev pub calls_a : List SiteCall
calls_a = Send 1 2 4 ∷ Receive 1 2 ∷ Send 3 2 5 ∷ Send 1 3 2 ∷ Start 2 ∷ Send 2 3 7 ∷ Receive 2 3 ∷ Receive 1 3 ∷ Receive 2 1 ∷ []

abbrev pub lines_a : List String
lines_a = "Z1 F    2      4\n" ∷ "Z2 F    1     24\n" ∷ "Z3 -    0     30\n" ∷ "L13     1      2\n" ∷ "T             60\n" ∷ []

abbrev pub lent_bytes : List Row
lent_bytes =
    pages three calls_a (lent 85) 0 85 (codes_of lines_a)
    -- One byte too few, none, and five more.
    ∷ pages three calls_a (lent 84) 14 0 (lent 84)
    ∷ pages three calls_a [] 14 0 []
    ∷ pages three calls_a (lent 90) 0 85 (codes_of lines_a ++ lent 5)
    ∷ pages_journal case_a (lent 85) 0 0 85 (codes_of lines_a)
    ∷ pages_journal case_a (lent 84) 14 0 0 (lent 84)
    ∷ pages_journal case_a (lent 90) 0 0 85 (codes_of lines_a ++ lent 5)
    ∷ prints_page case_a lines_a
    ∷ []

-- Zones 1 and 2 are firm. A car and four cars went from zone 2 to zone 1, which took the first, two from zone 1 to zone 3, three from zone 2 to
-- zone 3.
abbrev pub calls_order : List SiteCall
calls_order = Send 2 1 1 ∷ Receive 2 1 ∷ Send 1 3 2 ∷ Send 2 1 4 ∷ Send 2 3 3 ∷ Start 1 ∷ Receive 1 2 ∷ []

-- Eight zones, zone 1 with 40 cars and the others with 9 each; zone 1 hands k cars to zone k, and starts.
abbrev pub journal_eight : List ℕ
journal_eight =
    0x3C ∷ 0x08 ∷ 0x00 ∷ 0x28 ∷ 0x00 ∷ 0x09 ∷ 0x00 ∷ 0x09 ∷ 0x00 ∷ 0x09 ∷ 0x00 ∷ 0x09 ∷ 0x00 ∷ 0x09 ∷ 0x00 ∷ 0x09 ∷ 0x00 ∷ 0x09
    ∷ 0x01 ∷ 0x02 ∷ 0x02 ∷ 0x03 ∷ 0x03 ∷ 0x04 ∷ 0x04 ∷ 0x05 ∷ 0x05 ∷ 0x06 ∷ 0x06 ∷ 0x07 ∷ 0x07 ∷ 0x08 ∷ 0x80 ∷ 0x00 ∷ []

-- Messages of 0 cars from zone 1 to zones 2 and 3, one of four to zone 3, a start by zone 1; the first byte names the edition.
abbrev pub journal_checks : ℕ → List ℕ
journal_checks first =
    first ∷ 0x04 ∷ 0x00 ∷ 0x05 ∷ 0x00 ∷ 0x07 ∷ 0x00 ∷ 0x09 ∷ 0x01 ∷ 0x00 ∷ 0x02 ∷ 0x00 ∷ 0x02 ∷ 0x04 ∷ 0x80 ∷ 0x00 ∷ []

-- One of 0 cars from zone 1 to zone 2, a start by zone 1.
abbrev pub journal_check : ℕ → List ℕ
journal_check first = first ∷ 0x02 ∷ 0x00 ∷ 0x05 ∷ 0x00 ∷ 0x07 ∷ 0x01 ∷ 0x00 ∷ 0x80 ∷ 0x00 ∷ []

abbrev pub shown_lines : List Row
shown_lines =
    -- By sender, then receiver.
    pages three calls_order (lent 119) 0 119
    (codes_of (
    "Z1 F    2      9\n" ∷ "Z2 F    3     12\n" ∷ "Z3 -    0     30\n" ∷ "L13     1      2\n" ∷ "L21     1      4\n" ∷ "L23     1      3\n"
    ∷ "T             60\n" ∷ []
    ))
    ∷ prints_page journal_eight (
    "Z1 F    7      5\n" ∷ "Z2 -    0      9\n" ∷ "Z3 -    0      9\n" ∷ "Z4 -    0      9\n" ∷ "Z5 -    0      9\n" ∷ "Z6 -    0      9\n"
    ∷ "Z7 -    0      9\n" ∷ "Z8 -    0      9\n" ∷ "L12     1      2\n" ∷ "L13     1      3\n" ∷ "L14     1      4\n" ∷ "L15     1      5\n"
    ∷ "L16     1      6\n" ∷ "L17     1      7\n" ∷ "L18     1      8\n" ∷ "T            103\n" ∷ []
    )
    -- In edition 1 a message of 0 cars is an item, and its channel has a line; from edition 2 on it is none.
    ∷ prints_page (journal_checks 0x28) (
    "Z1 F    3      1\n" ∷ "Z2 -    0      7\n" ∷ "Z3 -    0      9\n" ∷ "L12     1      0\n" ∷ "L13     2      4\n" ∷ "T             21\n" ∷ []
    )
    ∷ prints_page (journal_checks 0x48) (
    "Z1 F    1      1\n" ∷ "Z2 -    0      7\n" ∷ "Z3 -    0      9\n" ∷ "L13     1      4\n" ∷ "T             21\n" ∷ []
    )
    ∷ prints_page (journal_check 0x24) ("Z1 F    1      5\n" ∷ "Z2 -    0      7\n" ∷ "L12     1      0\n" ∷ "T             12\n" ∷ [])
    ∷ prints_page (journal_check 0x44) ("Z1 F    0      5\n" ∷ "Z2 -    0      7\n" ∷ "T             12\n" ∷ [])
    -- The total is the recorded one: above 65,535, and less than the present one, which is 110.
    ∷ prints_page journal_above ("Z1 -    0  65535\n" ∷ "Z2 F    1    255\n" ∷ "T          65790\n" ∷ [])
    ∷ prints_page journal_of_three ("Z1 F    3      8\n" ∷ "Z2 F    2     15\n" ∷ "Z3 -    0     30\n" ∷ "T             53\n" ∷ [])
    ∷ []

-- Each question before the ones behind it: mostly no byte is lent, so that 14 would be answered no too.
abbrev pub asked : List Row
asked =
    pages (run_in 1 (5 ∷ 7 ∷ []) (zone 6 1 0 None ∷ zone 7 2 0 None ∷ []) [] []) [] [] 1 0 []
    ∷ pages (run_in 4 (5 ∷ 7 ∷ []) (zone 5 1 0 None ∷ zone 7 2 0 None ∷ []) [] []) [] (lent 3) 1 0 (lent 3)
    ∷ pages pair [] [] 12 0 []
    ∷ pages pair (Send 2 1 1 ∷ Receive 2 1 ∷ Start 1 ∷ []) [] 13 0 []
    ∷ pages pair (Start 1 ∷ []) (lent 50) 14 0 (lent 50)
    ∷ pages pair (Start 1 ∷ []) (lent 51) 0 51 (codes_of ("Z1 F    0      5\n" ∷ "Z2 -    0      7\n" ∷ "T             12\n" ∷ []))
    ∷ pages_journal [] (lent 2) 15 0 0 (lent 2)
    ∷ pages_journal (0x20 ∷ 0x00 ∷ []) [] 16 0 0 []
    ∷ pages_journal (0x24 ∷ 0x00 ∷ []) [] 17 0 0 []
    ∷ pages_journal (0x24 ∷ 0x00 ∷ 0xFF ∷ 0xFF ∷ 0x00 ∷ 0x01 ∷ []) [] 4 0 0 []
    ∷ pages_journal (0x24 ∷ 0x02 ∷ 0x00 ∷ 0x05 ∷ 0x00 ∷ 0x07 ∷ 0x80 ∷ 0x00 ∷ 0xC0 ∷ 0x00 ∷ []) (lent 1) 18 1 0 (lent 1)
    ∷ pages_journal (0x24 ∷ 0x02 ∷ 0x00 ∷ 0x05 ∷ 0x00 ∷ 0x07 ∷ 0x80 ∷ 0x00 ∷ 0x01 ∷ 0x06 ∷ []) [] 19 1 0 []
    ∷ pages_journal (0x24 ∷ 0x00 ∷ 0x00 ∷ 0x05 ∷ 0x00 ∷ 0x07 ∷ []) [] 12 0 0 []
    ∷ pages_journal (0x24 ∷ 0x03 ∷ 0x00 ∷ 0x05 ∷ 0x00 ∷ 0x07 ∷ 0x08 ∷ 0x01 ∷ 0x48 ∷ 0x00 ∷ 0x80 ∷ 0x00 ∷ []) [] 13 0 0 []
    ∷ prints_page [] ("refused 15\n" ∷ [])
    ∷ prints_page (0x24 ∷ 0x00 ∷ 0xFF ∷ 0xFF ∷ 0x00 ∷ 0x01 ∷ []) ("refused 4\n" ∷ [])
    ∷ prints_page (0x24 ∷ 0x00 ∷ 0x00 ∷ 0x05 ∷ 0x00 ∷ 0x07 ∷ []) ("refused 12\n" ∷ [])
    ∷ []

abbrev pub page_rows : List Row
page_rows = lent_bytes ++ shown_lines ++ asked
