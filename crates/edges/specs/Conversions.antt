-- The worked edges of conversions (request 2.7): case A there and back, the bytes that are lent, journals without a start or with a request
-- under way, recordings before and after, the refusals and their order.
use Rattle.std.specs.Prelude.{List, [], ◌∷◌, ◌++◌, ℕ}
use Rattle.journal.specs.Claims.{case_a}
use Rattle.text.specs.Codes.{codes_of}
use Rattle.conversion.specs.declared.Conversion.{Conversion}
use Rattle.conversion.specs.declared.Conversion.TheVariants.{Upgrade, Downgrade}
use Rattle.edges.specs.Editions.{lent, heard_of, marked_by}
use Rattle.edges.specs.Gates.{journal_in}
use Rattle.edges.specs.Pages.{lines_a, journal_eight}
use Rattle.edges.specs.Rows.{Row, records_journal, pages_journal, converts}

-- Case A's journal under edition 3.
abbrev pub converted_a : List ℕ
converted_a =
    0x68 ∷ 0x09 ∷ 0x00 ∷ 0x0A ∷ 0x00 ∷ 0x14 ∷ 0x00 ∷ 0x1E
    ∷ 0x01 ∷ 0x04 ∷ 0x41 ∷ 0x00 ∷ 0x11 ∷ 0x05 ∷ 0x02 ∷ 0x02 ∷ 0x88 ∷ 0x00
    ∷ 0x0A ∷ 0x07 ∷ 0x4A ∷ 0x00 ∷ 0x42 ∷ 0x00 ∷ 0x48 ∷ 0x00 ∷ []

-- Its recording behind the first byte, in both editions.
abbrev pub shown_a : List ℕ
shown_a = 0x01 ∷ 0x80 ∷ 0x02 ∷ 0x00 ∷ 0x04 ∷ 0x80 ∷ 0x01 ∷ 0x00 ∷ 0x18 ∷ 0x00 ∷ 0x00 ∷ 0x00 ∷ 0x1E ∷ 0x02 ∷ 0x02 ∷ []

abbrev pub there_and_back : List Row
there_and_back =
    -- The lent bytes are just enough, one too few, none, or more: the later ones are kept.
    converts Upgrade case_a (lent 26) 0 0 26 converted_a
    ∷ converts Upgrade case_a (lent 25) 14 0 0 (lent 25)
    ∷ converts Upgrade case_a [] 14 0 0 []
    ∷ converts Upgrade case_a (lent 29) 0 0 26 (converted_a ++ lent 3)
    ∷ converts Downgrade converted_a (lent 26) 0 0 26 case_a
    ∷ converts Downgrade converted_a (lent 25) 14 0 0 (lent 25)
    ∷ converts Downgrade converted_a [] 14 0 0 []
    ∷ converts Downgrade converted_a (lent 29) 0 0 26 (case_a ++ lent 3)
    -- "a complete recording has the same zones, stocks and lines", and the page, which shows no edition, is that of case A.
    ∷ records_journal case_a (lent 16) 0 0 16 60 (0x28 ∷ shown_a)
    ∷ records_journal converted_a (lent 16) 0 0 16 60 (0x68 ∷ shown_a)
    ∷ pages_journal converted_a (lent 85) 0 0 85 (codes_of lines_a)
    ∷ []

-- A message of 1 car is received, and no zone starts; zone 1, which depends on zone 2, has started, and its request is under way.
abbrev pub unstarted : ℕ → List ℕ
unstarted first = journal_in first 2 (0x01 ∷ 0x01 ∷ 0x41 ∷ 0x00 ∷ [])

abbrev pub under_way : ℕ → List ℕ
under_way first = journal_in first 3 (0x08 ∷ 0x01 ∷ 0x48 ∷ 0x00 ∷ 0x80 ∷ 0x00 ∷ [])

-- The journal of eight zones under edition 3.
abbrev pub converted_eight : List ℕ
converted_eight =
    0x7C ∷ 0x08 ∷ 0x00 ∷ 0x28 ∷ 0x00 ∷ 0x09 ∷ 0x00 ∷ 0x09 ∷ 0x00 ∷ 0x09 ∷ 0x00 ∷ 0x09 ∷ 0x00 ∷ 0x09 ∷ 0x00 ∷ 0x09 ∷ 0x00 ∷ 0x09
    ∷ 0x01 ∷ 0x02 ∷ 0x02 ∷ 0x03 ∷ 0x03 ∷ 0x04 ∷ 0x04 ∷ 0x05 ∷ 0x05 ∷ 0x06 ∷ 0x06 ∷ 0x07 ∷ 0x07 ∷ 0x08 ∷ 0x80 ∷ 0x00 ∷ []

-- Three zones with 10, 20 and 30 cars: zone 1 receives 3 cars from zone 2, which receives 5 from zone 3 and sends it 6. Zone 1 starts and sends 2
-- to zone 3, whose receipt of them makes a mutable checkpoint; it sends 4 to zone 2, whose receipt makes one too. Zone 2 receives the request and
-- sends one to zone 3, which receives the 6 cars and then the request.
abbrev pub marks_passed : (first : ℕ) → List ℕ
marks_passed first =
    first ∷ 0x0D ∷ 0x00 ∷ 0x0A ∷ 0x00 ∷ 0x14 ∷ 0x00 ∷ 0x1E
    ∷ 0x08 ∷ 0x03 ∷ 0x48 ∷ 0x00 ∷ 0x11 ∷ 0x05 ∷ 0x51 ∷ 0x00 ∷ 0x0A ∷ 0x06 ∷ 0x80 ∷ 0x00
    ∷ 0x02 ∷ 0x02 ∷ 0x42 ∷ 0x00 ∷ 0x11 ∷ 0x04 ∷ 0x51 ∷ 0x00 ∷ 0x41 ∷ 0x00 ∷ 0x4A ∷ 0x00 ∷ 0x4A ∷ 0x00 ∷ []

-- Its recording: 13, 16 and 25 cars with 1, 3 and 1 own events, and the 6 cars on the channel from zone 2 to zone 3.
abbrev pub shown_passed : (first : ℕ) → List ℕ
shown_passed first =
    first ∷ 0x01 ∷ 0x80 ∷ 0x01 ∷ 0x00 ∷ 0x0D ∷ 0x80 ∷ 0x03 ∷ 0x00 ∷ 0x10 ∷ 0x80 ∷ 0x01 ∷ 0x00 ∷ 0x19 ∷ 0x0A ∷ 0x06 ∷ []

abbrev pub other_journals : List Row
other_journals =
    -- There is no record; no start; a request under way.
    converts Upgrade (journal_in 0x24 0 []) (lent 6) 0 0 6 (journal_in 0x64 0 [])
    ∷ converts Downgrade (journal_in 0x64 0 []) (lent 6) 0 0 6 (journal_in 0x24 0 [])
    ∷ converts Upgrade (unstarted 0x24) (lent 10) 0 0 10 (unstarted 0x64)
    ∷ converts Downgrade (unstarted 0x64) (lent 10) 0 0 10 (unstarted 0x24)
    ∷ converts Upgrade (under_way 0x24) (lent 12) 0 0 12 (under_way 0x64)
    ∷ converts Downgrade (under_way 0x64) (lent 12) 0 0 12 (under_way 0x24)
    -- Eight zones; the stocks are 65,535 together.
    ∷ converts Upgrade journal_eight (lent 34) 0 0 34 converted_eight
    ∷ converts Downgrade converted_eight (lent 34) 0 0 34 journal_eight
    ∷ converts Upgrade (0x24 ∷ 0x00 ∷ 0xFF ∷ 0xFF ∷ 0x00 ∷ 0x00 ∷ []) (lent 6) 0 0 6 (0x64 ∷ 0x00 ∷ 0xFF ∷ 0xFF ∷ 0x00 ∷ 0x00 ∷ [])
    -- From edition 3, all messages with cars, and checkpoints made by messages and by requests: its recording before and after.
    ∷ records_journal (marks_passed 0x68) (lent 16) 0 0 16 60 (shown_passed 0x68)
    ∷ converts Downgrade (marks_passed 0x68) (lent 34) 0 0 34 (marks_passed 0x28)
    ∷ records_journal (marks_passed 0x28) (lent 16) 0 0 16 60 (shown_passed 0x28)
    ∷ []

-- A journal of at most twelve bytes is refused, and the twelve lent bytes stay.
abbrev pub refuses : Conversion → (journal : List ℕ) → (n position : ℕ) → Row
refuses c journal n position = converts c journal (lent 12) n position 0 (lent 12)

-- A start by zone 1 is the only record.
abbrev pub start_only : (first : ℕ) → List ℕ
start_only first = journal_in first 1 (0x80 ∷ 0x00 ∷ [])

abbrev pub other_editions : List Row
other_editions =
    -- No byte; one byte, which names the edition.
    refuses Upgrade [] 15 0
    ∷ refuses Downgrade [] 15 0
    ∷ refuses Upgrade (0x24 ∷ []) 15 0
    ∷ refuses Downgrade (0x64 ∷ []) 15 0
    -- "A journal of another edition than the one it converts from meets 15": editions 0, 2, 4, 7 and the one that it converts to.
    ∷ refuses Upgrade (start_only 0x04) 15 0
    ∷ refuses Upgrade (start_only 0x44) 15 0
    ∷ refuses Upgrade (start_only 0x64) 15 0
    ∷ refuses Upgrade (start_only 0x84) 15 0
    ∷ refuses Upgrade (start_only 0xE4) 15 0
    ∷ refuses Downgrade (start_only 0x04) 15 0
    ∷ refuses Downgrade (start_only 0x24) 15 0
    ∷ refuses Downgrade (start_only 0x44) 15 0
    ∷ refuses Downgrade (start_only 0x84) 15 0
    ∷ refuses Downgrade (start_only 0xE4) 15 0
    -- 15 comes first: here before 16, 4, 18, 22 and 14.
    ∷ refuses Upgrade (0x60 ∷ 0x00 ∷ 0x00 ∷ 0x05 ∷ []) 15 0
    ∷ refuses Upgrade (0x64 ∷ 0x00 ∷ 0xFF ∷ 0xFF ∷ 0x00 ∷ 0x01 ∷ []) 15 0
    ∷ refuses Downgrade (journal_in 0x24 1 (0xC0 ∷ 0x01 ∷ [])) 15 0
    ∷ refuses Downgrade (journal_in 0x44 1 (0x01 ∷ 0x00 ∷ [])) 15 0
    ∷ converts Upgrade (journal_in 0x64 1 (0xC0 ∷ 0x01 ∷ [])) [] 15 0 0 []
    ∷ []

abbrev pub readings_own : List Row
readings_own =
    -- The zones field is 0; the records are 1,001; they are 1,000, but missing.
    refuses Upgrade (0x20 ∷ 0x00 ∷ 0x00 ∷ 0x05 ∷ []) 16 0
    ∷ refuses Downgrade (0x60 ∷ 0x00 ∷ 0x00 ∷ 0x05 ∷ []) 16 0
    ∷ refuses Upgrade (0x27 ∷ 0xE9 ∷ 0x00 ∷ 0x05 ∷ 0x00 ∷ 0x07 ∷ []) 16 0
    ∷ refuses Upgrade (0x27 ∷ 0xE8 ∷ 0x00 ∷ 0x05 ∷ 0x00 ∷ 0x07 ∷ []) 17 0
    -- There is a byte too many, or one too few.
    ∷ refuses Upgrade (journal_in 0x24 0 (0x00 ∷ [])) 17 0
    ∷ refuses Downgrade (journal_in 0x64 1 (0xC0 ∷ [])) 17 0
    -- The stocks are 65,536 together.
    ∷ refuses Upgrade (0x24 ∷ 0x00 ∷ 0xFF ∷ 0xFF ∷ 0x00 ∷ 0x01 ∷ []) 4 0
    ∷ refuses Downgrade (0x64 ∷ 0x00 ∷ 0xFF ∷ 0xFF ∷ 0x00 ∷ 0x01 ∷ []) 4 0
    -- "kind 3 is not used" in edition 1; a receipt has cars; a gate has another direction. 18 of a later record comes before 22 and 23 of an
    -- earlier one.
    ∷ refuses Upgrade (journal_in 0x24 1 (0xC0 ∷ 0x00 ∷ [])) 18 0
    ∷ refuses Upgrade (journal_in 0x24 2 (0x01 ∷ 0x00 ∷ 0xC0 ∷ 0x01 ∷ [])) 18 1
    ∷ refuses Downgrade (journal_in 0x64 1 (0x41 ∷ 0x01 ∷ [])) 18 0
    ∷ refuses Downgrade (journal_in 0x64 2 (0xC0 ∷ 0x01 ∷ 0xC2 ∷ 0x00 ∷ [])) 18 1
    -- So does 19: the channel is empty; the stock does not cover the cars, or the exit.
    ∷ refuses Upgrade (journal_in 0x24 1 (0x48 ∷ 0x00 ∷ [])) 19 0
    ∷ refuses Upgrade (journal_in 0x24 2 (0x01 ∷ 0x00 ∷ 0x01 ∷ 0x06 ∷ [])) 19 1
    ∷ refuses Downgrade (journal_in 0x64 1 (0xC1 ∷ 0x06 ∷ [])) 19 0
    ∷ refuses Downgrade (journal_in 0x64 3 (0x01 ∷ 0x00 ∷ 0xC0 ∷ 0x01 ∷ 0x01 ∷ 0x07 ∷ [])) 19 2
    -- In edition 1 the message of 0 cars makes a checkpoint, and the last record is refused; in edition 3 reading accepts all, and 22 follows.
    ∷ converts Upgrade (0x28 ∷ marked_by) (lent 26) 19 8 0 (lent 26)
    ∷ converts Downgrade (0x68 ∷ marked_by) (lent 26) 22 0 0 (lent 26)
    ∷ []

abbrev pub own_refusals : List Row
own_refusals =
    -- "with 22 a journal holding a hand-over of 0 cars": never received; received.
    refuses Upgrade (journal_in 0x24 1 (0x01 ∷ 0x00 ∷ [])) 22 0
    ∷ refuses Downgrade (journal_in 0x64 1 (0x01 ∷ 0x00 ∷ [])) 22 0
    ∷ refuses Upgrade (0x24 ∷ heard_of) 22 0
    ∷ refuses Downgrade (0x64 ∷ heard_of) 22 0
    -- "and then with 23 one holding a gate record on its way to edition 1": one of 0 cars too, which is no hand-over of 0.
    ∷ refuses Downgrade (journal_in 0x64 2 (0xC0 ∷ 0x02 ∷ 0x80 ∷ 0x00 ∷ [])) 23 0
    ∷ refuses Downgrade (journal_in 0x64 1 (0xC0 ∷ 0x00 ∷ [])) 23 0
    ∷ refuses Downgrade (journal_in 0x64 2 (0x01 ∷ 0x02 ∷ 0xC1 ∷ 0x00 ∷ [])) 23 0
    -- 22 before 23, whatever their positions.
    ∷ refuses Downgrade (journal_in 0x64 2 (0xC0 ∷ 0x00 ∷ 0x01 ∷ 0x00 ∷ [])) 22 0
    ∷ refuses Downgrade (journal_in 0x64 2 (0x01 ∷ 0x00 ∷ 0xC0 ∷ 0x00 ∷ [])) 22 0
    -- "14 comes last, for the bytes written to."
    ∷ converts Upgrade (journal_in 0x24 1 (0x01 ∷ 0x00 ∷ [])) [] 22 0 0 []
    ∷ converts Downgrade (journal_in 0x64 1 (0x01 ∷ 0x00 ∷ [])) [] 22 0 0 []
    ∷ converts Downgrade (journal_in 0x64 1 (0xC0 ∷ 0x00 ∷ [])) [] 23 0 0 []
    ∷ converts Upgrade (start_only 0x24) (lent 7) 14 0 0 (lent 7)
    ∷ []

abbrev pub conversions : List Row
conversions = there_and_back ++ other_journals ++ other_editions ++ readings_own ++ own_refusals
