-- The conversion of a true run's journal: its calls and the lent bytes decide the number, the result is accepted, and recording what it is read
-- as shows what demand 3 asks, in the target edition, and the same as recording the run that was written.
use mathlib.Core.Path.{◌≡◌, refl, sym, ◌∙◌, ap, ap₂, subst}
use mathlib.Core.Bool.{Bool, true, false, ◌&&◌}
use mathlib.Core.List.{List, [], ◌∷◌, map}
use Prim.Native.Nat.{ℕ, suc, ◌+◌, ◌*◌}
use lib.ListN.{length, take}
use borrow.Author.Tests.{eq-eqb}
use Rattle.rules.specs.Below.{every}
use Rattle.rules.specs.Change.{cons-if}
use Rattle.rules.specs.Questions.{refusal}
use Rattle.rules.specs.Site.{Call}
use Rattle.run.specs.Calls.{answer, record_of}
use Rattle.run.specs.Claims.{AllTyped, accepted_records, filled}
use Rattle.run.specs.Lists.{call_of, is_accepted, after, accepted_calls}
use Rattle.run.specs.Opening.{terms_as, opening_as, open_call}
use Rattle.run.specs.Answer.{Answer}
use Rattle.run.specs.declared.Opening.{Opening}
use Rattle.run.specs.declared.Run.{Run}
use Rattle.run.specs.declared.SiteCall.{SiteCall}
use Rattle.run.specs.declared.SiteCall.TheVariants.{Send, Receive, Start, Gate}
use Rattle.journal.specs.Format.{journal_bytes, has_kind, calls_in, record_words, opened_with}
use Rattle.journal.specs.Reading.{terms_in, records_in, read_call}
use Rattle.journal.specs.Writing.{Output, refused_output, written_output}
use Rattle.journal.specs.Answers.{JournalWritten, Reading, Written}
use Rattle.journal.proofs.Accepted.{read-tells, read-replayed}
use Rattle.journal.proofs.TrueRuns.{true-tells, true-length, true-read}
use Rattle.journal.proofs.WrittenBack.{write_bytes}
use Rattle.recording.specs.Call.{rule_calls_in, record_call}
use Rattle.recording.specs.Shown.{shown_in}
use Rattle.recording.proofs.Read.{read_whole}
use Rattle.conversion.specs.Call.{is_loaded, convert_questions, convert_from, convert_call}
use Rattle.conversion.specs.Claims.{Converted, run_under}
use Rattle.conversion.specs.Editions.{source_of, target_of, with_edition}
use Rattle.conversion.specs.declared.Conversion.{Conversion}
use Rattle.conversion.proofs.Converts.{conversion-converts}
use Rattle.promises.specs.Answers.{OpenAnswers, WriteAnswers, ConvertAnswers}
use Rattle.demand.specs.Conversion.{is_loaded_s, has_kind_s, ConversionDemand}
use Rattle.demand.specs.Demand.{Demand}
use Rattle.demand.specs.Made.{Made}
use Rattle.demand.proofs.Calls.{made-comes}
use Rattle.demand.proofs.Recorded.{number-asked, replayed-demand, opening-is, calls_are}

-- The conversion's tests of the calls, on the calls as the rules have them.
loaded-is : (c : SiteCall) → is_loaded c ≡ is_loaded_s (call_of c)
loaded-is (Send from to cars) = refl
loaded-is (Receive from to) = refl
loaded-is (Start zone) = refl
loaded-is (Gate direction zone cars) = refl

kind-is : (edition : ℕ) (c : SiteCall) → has_kind edition c ≡ has_kind_s edition (call_of c)
kind-is edition (Send from to cars) = refl
kind-is edition (Receive from to) = refl
kind-is edition (Start zone) = refl
kind-is edition (Gate direction zone cars) = refl

every-is : (test : SiteCall → Bool) (ruled : Call → Bool) → ((c : SiteCall) → test c ≡ ruled (call_of c))
    → (cs : List SiteCall) → every test cs ≡ every ruled (map call_of cs)
every-is test ruled e [] = refl
every-is test ruled e (c ∷ cs) = ap₂ ◌&&◌ (e c) (every-is test ruled e cs)

-- There are as many records as accepted calls.
as_many : (cs : List SiteCall) (r : Run) → length (accepted_records cs r) ≡ length (accepted_calls cs r)
as_many [] r = refl
as_many (c ∷ cs) r = go (is_accepted c r) (as_many cs (answer c r).run)
  where
    go : (b : Bool) → length (accepted_records cs (answer c r).run) ≡ length (accepted_calls cs (answer c r).run)
        → length (cons-if b (record_of c) (accepted_records cs (answer c r).run)) ≡ length (cons-if b (call_of c) (accepted_calls cs (answer c r).run))
    go true h = ap suc h
    go false h = h

-- A journal in the source edition that reading accepts: 15 and reading's own questions are answered yes, so that three are left.
left-to-ask : (source target : ℕ) (journal lent : List ℕ) → (terms_in journal).edition ≡ source → (read_call journal).refusal ≡ 0
    → (convert_from source target journal lent).answer.refusal ≡ refusal (convert_questions target journal lent)
unfolding convert_from
left-to-ask source target journal lent e ok =
    rw (eq-eqb (terms_in journal).edition source e, eq-eqb (read_call journal).refusal 0 ok)
    (number-asked (convert_questions target journal lent) (refused_output lent) (written_output lent (with_edition target journal))
    (λ (o : Output). o.answer.refusal) (λ n. refl) refl)

-- The journal of a true run, by the definitions.
module _ (c : Conversion) (count : ℕ) (stocks : List ℕ) (opened : (open_call (opening_as (terms_as (source_of c) count) stocks)).refusal ≡ 0)
    (calls : List SiteCall) (typed : AllTyped calls) where
  abbrev source : Opening
  source = opening_as (terms_as (source_of c) count) stocks

  abbrev target : Opening
  target = opening_as (terms_as (target_of c) count) stocks

  abbrev last : Run
  last = after calls (open_call source).run

  abbrev journal : List ℕ
  journal = journal_bytes last

  abbrev accepted : List Call
  accepted = accepted_calls calls (open_call source).run

  -- It reads back as the same run, so that it has the run's edition.
  ok : (read_call journal).refusal ≡ 0
  ok = ap (λ (t : Reading). t.refusal) (true-read source calls opened typed)

  read_is : (read_call journal).run ≡ last
  read_is = ap (λ (t : Reading). t.run) (true-read source calls opened typed)

  edition-is : (terms_in journal).edition ≡ source_of c
  edition-is =
      ap (λ (o : Opening). o.terms.edition)
      (sym (read-tells journal ok).opening ∙ ap opened_with read_is ∙ opening-is source opened calls typed)

  -- Its records stand for the accepted calls, and are as many.
  calls_is : rule_calls_in (records_in journal) ≡ accepted
  calls_is = ap rule_calls_in (sym (read-tells journal ok).records ∙ ap record_words read_is) ∙ calls_are source opened calls typed

  long-is : length journal ≡ 2 + 2 * count + 2 * length accepted
  long-is =
      true-length source calls opened typed
      ∙ ap (λ (n : ℕ). 2 + 2 * count + 2 * n) ((true-tells source calls opened).number ∙ as_many calls (open_call source).run)

  -- Its conversion, where that is accepted: the result is read as the same run under the target edition.
  module _ (lent : List ℕ) (z : (convert_call c journal lent).answer.refusal ≡ 0) where
    abbrev result : List ℕ
    result = take (convert_call c journal lent).answer.written (convert_call c journal lent).bytes

    abbrev read : Run
    read = (read_call result).run

    converted : Converted (source_of c) (target_of c) journal result
    converted = conversion-converts c journal lent z

    under-is : read ≡ run_under (target_of c) last
    under-is = ap (λ (t : Reading). t.run) converted.read ∙ ap (run_under (target_of c)) read_is

    under-opening : opened_with read ≡ filled target
    under-opening =
        ap opened_with under-is
        ∙ ap (λ (o : Opening). opening_as (terms_as (target_of c) o.terms.count) o.stocks) (opening-is source opened calls typed)

    under-calls : rule_calls_in (record_words read) ≡ accepted
    under-calls = ap (λ (r : Run). rule_calls_in (record_words r)) under-is ∙ calls_are source opened calls typed

    under-demand : (other : List ℕ) → Demand (filled target) accepted read other (record_call read other).answer (record_call read other).bytes
    under-demand other =
        let done = record_call read other in
        subst (λ (x : Opening). Demand x accepted read other done.answer done.bytes) under-opening
        (subst (λ (x : List Call). Demand (opened_with read) x read other done.answer done.bytes) under-calls
        (replayed-demand read (read_whole result [] converted.accepted) (read-replayed result converted.accepted) other))

    -- Recording it beside the run that was written, lent as many bytes.
    abbrev Same : Run → (first second : List ℕ) → Type 0
    Same r first second =
        let u = record_call r first in
        let v = record_call read second in
        (v.answer ≡ u.answer) × (u.answer.refusal ≡ 0 → shown_in (take v.answer.written v.bytes) ≡ shown_in (take u.answer.written u.bytes))

    under_same : (first second : List ℕ) → length second ≡ length first → Same last first second
    under_same first second h =
        subst (λ (r : Run). Same r first second) read_is ((converted.answers first second h).0, converted.shown first second h)

  true-conversion : (lent : List ℕ)
      → ConversionDemand (filled target) accepted last lent (convert_call c journal lent).answer (convert_call c journal lent).bytes
  true-conversion lent = record {
    number = let edition = target_of c in let found = calls_in (records_in journal) in
        left-to-ask (source_of c) edition journal lent edition-is ok
        ∙ rw (every-is is_loaded is_loaded_s loaded-is found, every-is (has_kind edition) (has_kind_s edition) (kind-is edition) found, calls_is, long-is);
    accepted = λ z t e. ap (λ (x : Reading). x.refusal) e ∙ (converted lent z).accepted;
    recorded = λ z t e other shown v f. rw (f.0, f.1, e) (under-demand lent z other);
    same = λ z t e first second before shown u v h f g. rw (f.0, f.1, g.0, g.1, e) (under_same lent z first second h);
  }

-- An accepted opening in the source edition; a list of calls, refused ones included, each on the run that the one before it handed back; then the
-- journal is written, and what was written is converted: each known by what it answers alone.
pub conversion-demand : (c : Conversion) (count : ℕ) (stocks : List ℕ) (a : Answer) → OpenAnswers (terms_as (source_of c) count) stocks a → a.refusal ≡ 0
    → (calls : List SiteCall) (cs : List Call) (r : Run) → Made a.run calls cs r
    → (given left : List ℕ) (v : Written) → WriteAnswers r given v left → v.refusal ≡ 0
    → (lent bytes : List ℕ) (w : JournalWritten) → ConvertAnswers c (take v.written left) lent w bytes
    → ConversionDemand (filled (opening_as (terms_as (target_of c) count) stocks)) cs r lent w bytes
conversion-demand c count stocks a e z calls cs r m given left v f y lent bytes w g =
    let o = opening_as (terms_as (source_of c) count) stocks in
    let h = made-comes m in
    let opened : (open_call o).refusal ≡ 0 = subst (λ (x : Answer). x.refusal ≡ 0) e z in
    let k : cs ≡ accepted_calls calls (open_call o).run = h.calls ∙ ap (λ (x : Answer). accepted_calls calls x.run) e in
    let q : r ≡ after calls (open_call o).run = h.result ∙ ap (λ (x : Answer). after calls x.run) e in
    let j : take v.written left ≡ journal_bytes (after calls (open_call o).run) =
    ap₂ (λ (x : Written) (l : List ℕ). take x.written l) f.0 f.1
    ∙ write_bytes r given (subst (λ (x : Written). x.refusal ≡ 0) f.0 y)
    ∙ ap journal_bytes q in
    rw (g.0, g.1, k, j, q) (true-conversion c count stocks opened calls h.typed lent)
