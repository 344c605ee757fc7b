-- The site's calls over plain structs: each is the site's call between two conversions.
use Rattle.std.specs.Prelude.{Bool, cond, List, [], ◌∷◌, ℕ, leb, eqb, get_or}
use Rattle.rules.specs.Below.{all_below, list_below}
use Rattle.rules.specs.Limits.{most_zones}
use Rattle.rules.specs.declared.Local.{Local}
use Rattle.run.specs.State.{head_as, locals, edition_of, count_of, no_local}
use Rattle.run.specs.Answer.{Answer}
use Rattle.run.specs.declared.Run.{Run}
use Rattle.journal.specs.Reading.{read_call}
use Rattle.journal.specs.Writing.{Output, write_call}
use Rattle.journal.specs.Answers.{JournalWritten, Written}
use Rattle.page.specs.Call.{page_call}
use Rattle.recording.specs.Call.{RecordOutput, record_call}
use Rattle.site.specs.Lent.{run_in}
use Rattle.zone_c.specs.Plain.{mark_of, kind_of, saved_of}
use Rattle.site_c.specs.declared.PlainAnswer.{PlainAnswer}
use Rattle.site_c.specs.declared.PlainHead.{PlainHead}
use Rattle.site_c.specs.declared.PlainLocal.{PlainLocal}
use Rattle.site_c.specs.declared.PlainReading.{PlainReading}
use Rattle.site_c.specs.declared.PlainRun.{PlainRun}
use Rattle.site_c.specs.declared.PlainHeadAnswer.{PlainHeadAnswer}
use Rattle.site_c.specs.declared.PlainWritten.{PlainWritten}
use Rattle.run.specs.Calls.{answer}
use Rattle.run.specs.Opening.{open_call, terms_as, opening_as}
use Rattle.run.specs.declared.SiteCall.{SiteCall}
use Rattle.recording.specs.Answers.{Recorded, JournalRecorded}
use Rattle.run.specs.declared.Head.{Head}

abbrev pub local_of : PlainLocal → Local
local_of p = record { stock = p.stock; deps = p.deps; events = p.events; checkpoint = mark_of p.mark p.saved }

abbrev pub plain_local : Local → PlainLocal
plain_local z = record {
  stock = z.stock;
  events = z.events;
  deps = z.deps;
  mark = kind_of z.checkpoint;
  saved = saved_of z.checkpoint;
}

-- The value that a read behind the end of the zones would give.
abbrev pub no_plain : PlainLocal
no_plain = record { stock = 0; events = 0; deps = 0; mark = 0; saved = record { stock = 0; events = 0 } }

abbrev pub plain_at : List PlainLocal → ℕ → PlainLocal
plain_at zones i = get_or zones i no_plain

unfoldable pub locals_of : List PlainLocal → List Local
locals_of zones = list_below most_zones (λ i. local_of (plain_at zones i))

unfoldable pub plain_locals : List Local → List PlainLocal
plain_locals zones = list_below most_zones (λ i. plain_local (get_or zones i no_local))

-- Is every mark kind 0, 1 or 2, at all eight indices?
unfoldable pub are_kinds : List PlainLocal → Bool
are_kinds zones = all_below most_zones (λ i. leb (plain_at zones i).mark 2)

abbrev pub head_of : PlainHead → Head
head_of p = head_as (opening_as (terms_as p.edition p.count) p.opening) p.records (locals_of p.zones)

abbrev pub plain_head : Head → PlainHead
plain_head h = record {
  count = count_of h;
  edition = edition_of h;
  records = h.records;
  zones = plain_locals (locals h);
  opening = h.opening.stocks;
}

-- The run of a head and the lent arrays.
abbrev pub plain_in : PlainHead → List ℕ → List ℕ → List ℕ → PlainRun
plain_in p items lens journal = record { head = p; items = items; lens = lens; journal = journal }

abbrev pub run_of : PlainRun → Run
run_of p = run_in (head_of p.head) p.items p.lens p.journal

abbrev pub plain_run : Run → PlainRun
plain_run r = record { head = plain_head r.head; items = r.channels.items; lens = r.channels.lens; journal = r.journal }

-- A whole answer of the engine, as C gets it.
abbrev pub plain_answer : Answer → PlainAnswer
plain_answer a = record { refusal = a.refusal; remaining = a.remaining; run = plain_run a.run }

-- A refused run is left as it came.
abbrev pub refused_plain : PlainRun → ℕ → PlainAnswer
refused_plain p n = record { refusal = n; remaining = 0; run = p }

unfoldable pub answer_plain : PlainRun → Answer → PlainAnswer
answer_plain p a = cond (eqb a.refusal 0) (plain_answer a) (refused_plain p a.refusal)

-- The answer on the whole run, of what a call answers and leaves in the lent arrays.
abbrev pub answer_in : PlainHeadAnswer → List ℕ → List ℕ → List ℕ → PlainAnswer
answer_in t items lens journal = record { refusal = t.refusal; remaining = t.remaining; run = plain_in t.head items lens journal }

-- A mark kind above 2 is unsound: question 1 is answered no.
abbrev pub if_kinds : PlainRun → PlainAnswer → PlainAnswer
if_kinds p a = cond (are_kinds p.head.zones) a (refused_plain p 1)

-- A refused opening hands back a run too: 2 zones with stock 0, in edition 1.
abbrev pub open_plain : ℕ → ℕ → List ℕ → PlainAnswer
open_plain edition count stocks = plain_answer (open_call (opening_as (terms_as edition count) stocks))

-- A call with any arguments, and the run after a list of them, refused ones included.
unfoldable pub call_plain : SiteCall → PlainRun → PlainAnswer
call_plain c p = if_kinds p (answer_plain p (answer c (run_of p)))

abbrev pub after_plain : List SiteCall → PlainRun → PlainRun
after_plain [] p = p
after_plain (c ∷ cs) p = after_plain cs (call_plain c p).run

-- What a call that writes answers, and the lent bytes after it.
pub record PlainOutput : Type 0 where
  pub answer : PlainWritten
  pub bytes : List ℕ

-- Only reading names a position, and only a recording has a total.
abbrev pub written_of : Written → PlainWritten
written_of w = record { refusal = w.refusal; position = 0; written = w.written; total = 0 }

abbrev pub plain_output : Output → PlainOutput
plain_output o = record { answer = written_of o.answer; bytes = o.bytes }

abbrev pub recording_of : Recorded → PlainWritten
recording_of w = record { refusal = w.refusal; position = 0; written = w.written; total = w.total }

abbrev pub plain_recording : RecordOutput → PlainOutput
plain_recording o = record { answer = recording_of o.answer; bytes = o.bytes }

abbrev pub refused_plain_output : List ℕ → ℕ → ℕ → PlainOutput
refused_plain_output lent n position = record { answer = record { refusal = n; position = position; written = 0; total = 0 }; bytes = lent }

unfoldable pub record_plain : PlainRun → List ℕ → PlainOutput
record_plain p lent = cond (are_kinds p.head.zones) (plain_recording (record_call (run_of p) lent)) (refused_plain_output lent 1 0)

unfoldable pub write_plain : PlainRun → List ℕ → PlainOutput
write_plain p lent = cond (are_kinds p.head.zones) (plain_output (write_call (run_of p) lent)) (refused_plain_output lent 1 0)

unfoldable pub page_plain : PlainRun → List ℕ → PlainOutput
page_plain p lent = cond (are_kinds p.head.zones) (plain_output (page_call (run_of p) lent)) (refused_plain_output lent 1 0)

abbrev pub read_plain : List ℕ → PlainReading
read_plain bytes =
    let t = read_call bytes in
    record { refusal = t.refusal; position = t.position; remaining = t.remaining; run = plain_run t.run }

-- A journal's recording; its page and its conversion.
abbrev pub recorded_plain : JournalRecorded → PlainWritten
recorded_plain w = record { refusal = w.refusal; position = w.position; written = w.written; total = w.total }

abbrev pub positioned_plain : JournalWritten → PlainWritten
positioned_plain w = record { refusal = w.refusal; position = w.position; written = w.written; total = 0 }
