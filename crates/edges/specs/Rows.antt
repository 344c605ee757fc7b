-- The rows of the table of edges: what a row looks at, and the whole answer that is expected. The runs of a row are written out, by none of
-- the definitions that it looks at.
use Rattle.std.specs.Prelude.{true, false, cond, List, [], ◌∷◌, ◌++◌, map, ℕ, zero, suc, ◌+◌, ◌-◌, ◌*◌, ◌^◌, eqb, length, take, replicate}
use Prim.Native.String.{String}
use Rattle.rules.specs.Site.{Item, message, request}
use Rattle.rules.specs.declared.Checkpoint.{Checkpoint}
use Rattle.rules.specs.declared.Checkpoint.TheVariants.{None, Mutable, Permanent}
use Rattle.rules.specs.declared.Local.{Local}
use Rattle.rules.specs.Questions.{index}
use Rattle.channel.specs.Channels.{highest_full}
use Rattle.run.specs.Calls.{answer}
use Rattle.run.specs.Lists.{after}
use Rattle.run.specs.Opening.{terms_as, opening_as, open_call}
use Rattle.run.specs.declared.Opening.{Opening}
use Rattle.run.specs.declared.Run.{Run}
use Rattle.run.specs.declared.SiteCall.{SiteCall}
use Rattle.run.specs.declared.SiteCall.TheVariants.{Receive}
use Rattle.run.specs.Answer.{Answer}
use Rattle.journal.specs.Reading.{read_call}
use Rattle.journal.specs.Writing.{Output, write_call, PositionedOutput}
use Rattle.journal.specs.Answers.{Reading}
use Rattle.recording.specs.Call.{RecordOutput, record_call}
use Rattle.recording.specs.Journal.{JournalOutput, record_journal}
use Rattle.text.specs.Codes.{codes, codes_of}
use Rattle.zone.proofs.Examples as zones
use Rattle.page.specs.Call.{page_call}
use Rattle.page.specs.Journal.{page_journal}
use Rattle.page.specs.Layout.{most_page_bytes}
use Rattle.conversion.specs.Call.{convert_call}
use Rattle.conversion.specs.declared.Conversion.{Conversion}
use Rattle.report.specs.Report.{report_text}
use Rattle.report.specs.Wall.{wall_text}

-- What a row looks at: an answer of the zone part; an opening; a call on a run, its recording, its page or its journal, each after some calls on
-- it; the reading of a journal; its recording, its page or its conversion; the programs' texts of a journal; the search for a full channel from a
-- zone to those of a set, after some calls on a run. A row holds this and not its answer, so that the check computes each run only once.
pub data RowCall : Type 0 where
  Part : zones.Reply → RowCall
  Open : Opening → RowCall
  Call : Run → List SiteCall → SiteCall → RowCall
  Record : Run → List SiteCall → (lent : List ℕ) → RowCall
  Write : Run → List SiteCall → (lent : List ℕ) → RowCall
  Read : (journal : List ℕ) → RowCall
  RecordJournal : (journal lent : List ℕ) → RowCall
  Print : (journal : List ℕ) → RowCall
  Page : Run → List SiteCall → (lent : List ℕ) → RowCall
  PageJournal : (journal lent : List ℕ) → RowCall
  PrintPage : (journal : List ℕ) → RowCall
  Search : Run → List SiteCall → (zone set : ℕ) → RowCall
  Convert : Conversion → (journal lent : List ℕ) → RowCall

pub data Reply : Type 0 where
  part : zones.Reply → Reply
  site : Answer → Reply
  output : Output → Reply
  recorded : RecordOutput → Reply
  reading : Reading → Reply
  journal_recorded : JournalOutput → Reply
  text : List ℕ → Reply
  positioned_output : PositionedOutput → Reply
  found : ℕ → Reply

-- The answer, by the definitions that the contracts cite.
abbrev pub reply : RowCall → Reply
reply (Part r) = part r
reply (Open o) = site (open_call o)
reply (Call r cs c) = site (answer c (after cs r))
reply (Record r cs lent) = recorded (record_call (after cs r) lent)
reply (Write r cs lent) = output (write_call (after cs r) lent)
reply (Read journal) = reading (read_call journal)
reply (RecordJournal journal lent) = journal_recorded (record_journal journal lent)
reply (Print journal) = text (report_text journal)
reply (Page r cs lent) = output (page_call (after cs r) lent)
reply (PageJournal journal lent) = positioned_output (page_journal journal lent)
reply (PrintPage journal) = text (wall_text journal (replicate most_page_bytes 0))
reply (Search r cs zone set) = found (highest_full (after cs r).channels (index zone) set)
reply (Convert conversion journal lent) = positioned_output (convert_call conversion journal lent)

pub record Row : Type 0 where
  pub call : RowCall
  pub expected : Reply

abbrev pub answers : List Row → List Reply
answers [] = []
answers (r ∷ rs) = reply r.call ∷ answers rs

abbrev pub expectations : List Row → List Reply
expectations [] = []
expectations (r ∷ rs) = r.expected ∷ expectations rs

-- A row of the zone part's own table.
abbrev pub part_row : zones.Row → Row
part_row r = record { call = Part r.answer; expected = part r.expected }

-- An opening by its edition, zone count and stocks, with the refusal's number and the run; and one of edition 1.
abbrev pub opens_in : ℕ → ℕ → List ℕ → ℕ → Run → Row
opens_in edition count stocks n r = record {
  call = Open (opening_as (terms_as edition count) stocks);
  expected = site (record { refusal = n; remaining = 0; run = r });
}

abbrev pub opens : ℕ → List ℕ → ℕ → Run → Row
opens = opens_in 1

-- A call on a run after some calls that answers that nothing remains, with the refusal's number and the run.
abbrev pub gives : Run → List SiteCall → SiteCall → ℕ → Run → Row
gives r cs c n r' = record { call = Call r cs c; expected = site (record { refusal = n; remaining = 0; run = r' }) }

-- An accepted receipt by its two zones, with how many items remain on its channel and the run.
abbrev pub receives : Run → List SiteCall → (from to remaining : ℕ) → Run → Row
receives r cs from to n r' = record { call = Call r cs (Receive from to); expected = site (record { refusal = 0; remaining = n; run = r' }) }

-- A recording of a run after some calls: the refusal's number, the number of bytes written, the recorded total, 0 beside a refusal, and all
-- the lent bytes after it.
abbrev pub records : Run → List SiteCall → List ℕ → ℕ → ℕ → ℕ → List ℕ → Row
records r cs lent n number total bytes = record {
  call = Record r cs lent;
  expected = recorded (record { answer = record { refusal = n; written = number; total = total }; bytes = bytes });
}

-- A journal of it: the same without a total.
abbrev pub writes : Run → List SiteCall → List ℕ → ℕ → ℕ → List ℕ → Row
writes r cs lent n number bytes = record {
  call = Write r cs lent;
  expected = output (record { answer = record { refusal = n; written = number }; bytes = bytes });
}

-- A reading that answers that nothing remains, with the refusal's number, the record's position and the run.
abbrev pub reads : List ℕ → ℕ → ℕ → Run → Row
reads journal n position r = record {
  call = Read journal;
  expected = reading (record { refusal = n; position = position; remaining = 0; run = r });
}

-- An accepted one, with how many items remained at the last receipt and the run.
abbrev pub tells : List ℕ → (remaining : ℕ) → Run → Row
tells journal n r = record { call = Read journal; expected = reading (record { refusal = 0; position = 0; remaining = n; run = r }) }

-- A journal's recording: the refusal's number, the record's position, the number of bytes written, the recorded total, and all the lent bytes
-- after it.
abbrev pub records_journal : List ℕ → List ℕ → ℕ → ℕ → ℕ → ℕ → List ℕ → Row
records_journal journal lent n position number total bytes = record {
  call = RecordJournal journal lent;
  expected = journal_recorded (record { answer = record { refusal = n; position = position; written = number; total = total }; bytes = bytes });
}

-- What the program prints of a journal.
abbrev pub prints : List ℕ → String → Row
prints journal line = record { call = Print journal; expected = text (codes line) }

-- The page of a run after some calls: the refusal's number, the number of bytes written, and all the lent bytes after it.
abbrev pub pages : Run → List SiteCall → List ℕ → ℕ → ℕ → List ℕ → Row
pages r cs lent n number bytes = record {
  call = Page r cs lent;
  expected = output (record { answer = record { refusal = n; written = number }; bytes = bytes });
}

-- A journal's page: the same with the record's position.
abbrev pub pages_journal : List ℕ → List ℕ → ℕ → ℕ → ℕ → List ℕ → Row
pages_journal journal lent n position number bytes = record {
  call = PageJournal journal lent;
  expected = positioned_output (record { answer = record { refusal = n; position = position; written = number }; bytes = bytes });
}

-- What the page's program, which lends 1,105 bytes, prints of a journal.
abbrev pub prints_page : List ℕ → List String → Row
prints_page journal printed = record { call = PrintPage journal; expected = text (codes_of printed) }

-- The conversion of a journal: the refusal's number, the record's position, the number of bytes written, and all the lent bytes after it.
abbrev pub converts : Conversion → (journal lent : List ℕ) → ℕ → ℕ → ℕ → List ℕ → Row
converts conversion journal lent n position number bytes = record {
  call = Convert conversion journal lent;
  expected = positioned_output (record { answer = record { refusal = n; position = position; written = number }; bytes = bytes });
}

-- A search after some calls on a run: the zone that would send, the set, and the number of the zone that is named, 0 for none.
abbrev pub names : Run → List SiteCall → ℕ → ℕ → ℕ → Row
names r cs zone set n = record { call = Search r cs zone set; expected = found n }

-- A zone: its stock, dependency set, own events and checkpoint.
abbrev pub zone : ℕ → ℕ → ℕ → Checkpoint → Local
zone stock deps events checkpoint = record { stock = stock; deps = deps; events = events; checkpoint = checkpoint }

-- The checkpoints, by the stock and the own events that they keep.
abbrev pub mutable : ℕ → ℕ → Checkpoint
mutable stock events = Mutable (record { stock = stock; events = events })

abbrev pub permanent : ℕ → ℕ → Checkpoint
permanent stock events = Permanent (record { stock = stock; events = events })

-- The list n times.
abbrev pub times : {A : Type 0} → ℕ → List A → List A
times zero xs = []
times (suc n) xs = xs ++ times n xs

-- The channel from one zone to another, both by number, with its items.
pub record Channel : Type 0 where
  pub from : ℕ
  pub to : ℕ
  pub items : List Item

abbrev pub channel : ℕ → ℕ → List Item → Channel
channel from to items = record { from = from; to = to; items = items }

-- The word that stands for an item.
abbrev pub word : Item → ℕ
word (message cars false) = cars
word (message cars true) = 256 + cars
word (request set) = 512 + set

-- The words of the channel at index k; the one from zone a to zone b is at (a - 1) * 8 + (b - 1).
abbrev pub channel_words_at : List Channel → ℕ → List ℕ
channel_words_at [] k = []
channel_words_at (l ∷ ls) k = cond (eqb k ((l.from - 1) * 8 + (l.to - 1))) (map word l.items) (channel_words_at ls k)

-- n numbers: those of the list, then zeros.
abbrev pub padded : ℕ → List ℕ → List ℕ
padded n xs = take n (xs ++ replicate n 0)

-- The 16 words of each of n channels from index k on, and the lengths of these channels.
abbrev pub channel_words_from : ℕ → ℕ → List Channel → List ℕ
channel_words_from k zero ls = []
channel_words_from k (suc n) ls = padded 16 (channel_words_at ls k) ++ channel_words_from (suc k) n ls

abbrev pub lengths_from : ℕ → ℕ → List Channel → List ℕ
lengths_from k zero ls = []
lengths_from k (suc n) ls = length (channel_words_at ls k) ∷ lengths_from (suc k) n ls

-- n zones from index k on: those of the list, then what a run keeps for zones that the site does not have.
abbrev pub zones_from : ℕ → ℕ → List Local → List Local
zones_from k zero zs = []
zones_from k (suc n) [] = zone 0 (2 ^ k) 0 None ∷ zones_from (suc k) n []
zones_from k (suc n) (z ∷ zs) = z ∷ zones_from (suc k) n zs

-- A run: its edition, its opening stocks, its zones, its channels that are not empty, and the words of its records; and one of edition 1.
abbrev pub run_in : ℕ → List ℕ → List Local → List Channel → List ℕ → Run
run_in edition opening zones channels records = record {
  head = record {
    opening = record { terms = record { edition = edition; count = length opening }; stocks = padded 8 opening };
    records = length records;
    zones = zones_from 0 8 zones;
  };
  channels = record { items = channel_words_from 0 64 channels; lens = lengths_from 0 64 channels };
  journal = padded 1000 records;
}

abbrev pub run_with : List ℕ → List Local → List Channel → List ℕ → Run
run_with = run_in 1

-- "a run of 2 zones with stock 0 and no records", of edition 1.
abbrev pub nothing : Run
nothing = run_with (0 ∷ 0 ∷ []) (zone 0 1 0 None ∷ zone 0 2 0 None ∷ []) [] []
