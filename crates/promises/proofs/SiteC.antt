-- What the site engine for C (c/cut/site.h) promises, for every byte pattern of the structs and of what is lent.
use mathlib.Core.Path.{◌≡◌}
use Rattle.run.specs.declared.SiteCall.TheVariants.{Send, Receive, Start, Gate}
use Rattle.rules.specs.declared.Direction.TheVariants.{In, Out}
use Rattle.recording.specs.Journal.{record_journal}
use Rattle.page.specs.Journal.{page_journal}
use Rattle.conversion.specs.Call.{convert_call}
use Rattle.conversion.specs.declared.Conversion.TheVariants.{Upgrade, Downgrade}
use Rattle.site_c.specs.Plain.{answer_in, plain_in, open_plain, call_plain, record_plain, page_plain, write_plain, read_plain, recorded_plain, positioned_plain}
use Rattle.site_c.specs.contracts as contracts
use Rattle.site_c.proofs as part
use Rattle.promises.specs.Promise.{Keeps}

pub cut-site-open : Keeps contracts.cut_site_open.ended part.cut_site_open.Symbol.name part.cut_site_open.Symbol.code
    (λ _ edition count stocks r. r ≡ open_plain edition count stocks.now)
cut-site-open _ = part.cut_site_open.Met.met

pub cut-site-send : Keeps contracts.cut_site_send.ended part.cut_site_send.Symbol.name part.cut_site_send.Symbol.code
    (λ _ head items lens journal from to cars r.
    answer_in r items.exit.now lens.exit.now journal.exit.now ≡ call_plain (Send from to cars) (plain_in head items.entry.now lens.entry.now journal.entry.now))
cut-site-send _ = part.cut_site_send.Met.met

pub cut-site-receive : Keeps contracts.cut_site_receive.ended part.cut_site_receive.Symbol.name part.cut_site_receive.Symbol.code
    (λ _ head items lens journal from to r.
    answer_in r items.exit.now lens.exit.now journal.exit.now ≡ call_plain (Receive from to) (plain_in head items.entry.now lens.entry.now journal.entry.now))
cut-site-receive _ = part.cut_site_receive.Met.met

pub cut-site-start : Keeps contracts.cut_site_start.ended part.cut_site_start.Symbol.name part.cut_site_start.Symbol.code
    (λ _ head items lens journal zone r.
    answer_in r items.exit.now lens.exit.now journal.exit.now ≡ call_plain (Start zone) (plain_in head items.entry.now lens.entry.now journal.entry.now))
cut-site-start _ = part.cut_site_start.Met.met

pub cut-site-enter : Keeps contracts.cut_site_enter.ended part.cut_site_enter.Symbol.name part.cut_site_enter.Symbol.code
    (λ _ head items lens journal zone cars r.
    answer_in r items.exit.now lens.exit.now journal.exit.now ≡ call_plain (Gate In zone cars) (plain_in head items.entry.now lens.entry.now journal.entry.now))
cut-site-enter _ = part.cut_site_enter.Met.met

pub cut-site-leave : Keeps contracts.cut_site_leave.ended part.cut_site_leave.Symbol.name part.cut_site_leave.Symbol.code
    (λ _ head items lens journal zone cars r.
    answer_in r items.exit.now lens.exit.now journal.exit.now ≡ call_plain (Gate Out zone cars) (plain_in head items.entry.now lens.entry.now journal.entry.now))
cut-site-leave _ = part.cut_site_leave.Met.met

pub cut-site-record : Keeps contracts.cut_site_record.ended part.cut_site_record.Symbol.name part.cut_site_record.Symbol.code
    (λ _ head items lens journal out r.
    (r ≡ (record_plain (plain_in head items.now lens.now journal.now) out.entry.now).answer) × (out.exit.now ≡ (record_plain (plain_in head items.now lens.now journal.now) out.entry.now).bytes))
cut-site-record _ = part.cut_site_record.Met.met

pub cut-site-page : Keeps contracts.cut_site_page.ended part.cut_site_page.Symbol.name part.cut_site_page.Symbol.code
    (λ _ head items lens journal out r.
    (r ≡ (page_plain (plain_in head items.now lens.now journal.now) out.entry.now).answer) × (out.exit.now ≡ (page_plain (plain_in head items.now lens.now journal.now) out.entry.now).bytes))
cut-site-page _ = part.cut_site_page.Met.met

pub cut-journal-write : Keeps contracts.cut_journal_write.ended part.cut_journal_write.Symbol.name part.cut_journal_write.Symbol.code
    (λ _ head items lens journal out r.
    (r ≡ (write_plain (plain_in head items.now lens.now journal.now) out.entry.now).answer) × (out.exit.now ≡ (write_plain (plain_in head items.now lens.now journal.now) out.entry.now).bytes))
cut-journal-write _ = part.cut_journal_write.Met.met

pub cut-journal-read : Keeps contracts.cut_journal_read.ended part.cut_journal_read.Symbol.name part.cut_journal_read.Symbol.code
    (λ _ bytes r. r ≡ read_plain bytes.now)
cut-journal-read _ = part.cut_journal_read.Met.met

pub cut-journal-record : Keeps contracts.cut_journal_record.ended part.cut_journal_record.Symbol.name part.cut_journal_record.Symbol.code
    (λ _ bytes out r. (r ≡ recorded_plain (record_journal bytes.now out.entry.now).answer) × (out.exit.now ≡ (record_journal bytes.now out.entry.now).bytes))
cut-journal-record _ = part.cut_journal_record.Met.met

pub cut-journal-page : Keeps contracts.cut_journal_page.ended part.cut_journal_page.Symbol.name part.cut_journal_page.Symbol.code
    (λ _ bytes out r. (r ≡ positioned_plain (page_journal bytes.now out.entry.now).answer) × (out.exit.now ≡ (page_journal bytes.now out.entry.now).bytes))
cut-journal-page _ = part.cut_journal_page.Met.met

pub cut-journal-upgrade : Keeps contracts.cut_journal_upgrade.ended part.cut_journal_upgrade.Symbol.name part.cut_journal_upgrade.Symbol.code
    (λ _ bytes out r. (r ≡ positioned_plain (convert_call Upgrade bytes.now out.entry.now).answer) × (out.exit.now ≡ (convert_call Upgrade bytes.now out.entry.now).bytes))
cut-journal-upgrade _ = part.cut_journal_upgrade.Met.met

pub cut-journal-downgrade : Keeps contracts.cut_journal_downgrade.ended part.cut_journal_downgrade.Symbol.name part.cut_journal_downgrade.Symbol.code
    (λ _ bytes out r. (r ≡ positioned_plain (convert_call Downgrade bytes.now out.entry.now).answer) × (out.exit.now ≡ (convert_call Downgrade bytes.now out.entry.now).bytes))
cut-journal-downgrade _ = part.cut_journal_downgrade.Met.met
