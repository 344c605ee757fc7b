-- The premises of demand 3 are met: every list of calls can be made from every opening, every recording call and page call has an answer, and
-- case A, with its page and with further calls, a case with a line check in edition 2, one with gates in edition 3 and one from an opening without
-- stocks are instances whose recordings are complete. So are those of the claim on conversions: every writing, conversion and reading has an
-- answer, and case A, its journal converted to edition 3, and case A's calls in edition 3, their journal converted to edition 1, are instances
-- whose recordings are complete.
use mathlib.Core.Path.{◌≡◌, refl, ap}
use mathlib.Core.List.{List, [], ◌∷◌, ◌++◌}
use Prim.Native.Nat.{ℕ}
use native.Mathlib.Omega.{arith}
use lib.ListN.{take, drop, replicate}
use Rattle.rules.specs.Cut.{Cut}
use Rattle.run.specs.Calls.{answer}
use Rattle.run.specs.Claims.{AllTyped, filled}
use Rattle.run.specs.Lists.{after, accepted_calls}
use Rattle.run.specs.Opening.{terms_as, opening_as, opening_of, open_call}
use Rattle.run.specs.declared.Opening.{Opening}
use Rattle.run.specs.declared.Run.{Run}
use Rattle.run.specs.declared.SiteCall.{SiteCall}
use Rattle.run.specs.declared.SiteCall.TheVariants.{Send, Receive, Start, Gate}
use Rattle.rules.specs.declared.Direction.TheVariants.{In, Out}
use Rattle.run.specs.declared.Terms.{Terms}
use Rattle.journal.specs.Claims.{case_a}
use Rattle.journal.specs.Reading.{read_call}
use Rattle.journal.specs.Writing.{Output, PositionedOutput, write_call}
use Rattle.journal.specs.Answers.{Reading}
use Rattle.recording.specs.Call.{RecordOutput, record_call}
use Rattle.recording.specs.Shown.{shown_in}
use Rattle.text.specs.Codes.{codes}
use Rattle.words.specs.Bytes.{word_at}
use Rattle.words.specs.Header.{zones_in}
use Rattle.page.specs.Call.{page_call}
use Rattle.page.specs.Layout.{page_with}
use Rattle.conversion.specs.Call.{convert_call}
use Rattle.conversion.specs.Editions.{source_of, target_of}
use Rattle.conversion.specs.declared.Conversion.{Conversion}
use Rattle.conversion.specs.declared.Conversion.TheVariants.{Upgrade, Downgrade}
use Rattle.run.proofs.Computed.{calls_computed}
use Rattle.journal.proofs.Computed.{write_computed}
use Rattle.recording.proofs.Computed.{record_computed}
use Rattle.page.proofs.Computed.{page_computed}
use Rattle.conversion.proofs.Computed.{convert_computed}
use Rattle.promises.specs.Answers.{OpenAnswers, RecordAnswers, PageAnswers, ReadAnswers, WriteAnswers, ConvertAnswers}
use Rattle.demand.specs.Made.{Made, done, then}
use Rattle.demand.specs.Stays.{Stays}
use Rattle.demand.proofs.Converted.{conversion-demand}
use Rattle.demand.proofs.Paged.{page-demand}
use Rattle.demand.proofs.Stays.{recorded-stays}
use Rattle.demand.proofs.Three.{demand-three}

pub opens : (terms : Terms) (stocks : List ℕ) → OpenAnswers terms stocks (open_call (opening_as terms stocks))
opens terms stocks = refl

pub makes : (cs : List SiteCall) (r : Run) → AllTyped cs → Made r cs (accepted_calls cs r) (after cs r)
makes [] r t = done
makes (c ∷ cs) r t = then (answer c r) t.0 refl (makes cs (answer c r).run t.1)

pub records : (r : Run) (lent : List ℕ) → RecordAnswers r lent (record_call r lent).answer (record_call r lent).bytes
records r lent = (refl, refl)

-- So demand 3 says of every list of calls whose recording is complete that this, as the bytes written show it, is a consistent cut.
abbrev recorded_by : Opening → List SiteCall → ℕ → RecordOutput
recorded_by o cs lent = record_call (after cs (open_call o).run) (replicate lent 0)

recorded-cut : (o : Opening) (cs : List SiteCall) (lent : ℕ) → AllTyped cs → (open_call o).refusal ≡ 0
    → (recorded_by o cs lent).answer.refusal ≡ 0
    → Cut (opening_of (filled o)) (accepted_calls cs (open_call o).run) (shown_in (take (recorded_by o cs lent).answer.written (recorded_by o cs lent).bytes))
recorded-cut o cs lent typed opened answered =
    let r = after cs (open_call o).run in
    let x = recorded_by o cs lent in
    (demand-three o.terms o.stocks (open_call o) (opens o.terms o.stocks) opened cs _ r (makes cs (open_call o).run typed)
    (replicate lent 0) x.bytes x.answer (records r (replicate lent 0))).cut answered

pub pages : (r : Run) (lent : List ℕ) → PageAnswers r lent (page_call r lent).answer (page_call r lent).bytes
pages r lent = (refl, refl)

abbrev paged_by : Opening → List SiteCall → ℕ → Output
paged_by o cs lent = page_call (after cs (open_call o).run) (replicate lent 0)

pub writes : (r : Run) (lent : List ℕ) → WriteAnswers r lent (write_call r lent).answer (write_call r lent).bytes
writes r lent = (refl, refl)

pub conversions : (c : Conversion) (journal lent : List ℕ)
    → ConvertAnswers c journal lent (convert_call c journal lent).answer (convert_call c journal lent).bytes
conversions c journal lent = (refl, refl)

pub reads : (journal : List ℕ) → ReadAnswers journal (read_call journal)
reads journal = refl

-- The journal after a list of calls, its conversion, what the result is read as, and the recording of that.
abbrev written_by : Opening → List SiteCall → ℕ → Output
written_by o cs lent = write_call (after cs (open_call o).run) (replicate lent 0)

abbrev converted_by : Conversion → Opening → List SiteCall → ℕ → PositionedOutput
converted_by c o cs lent = convert_call c (take (written_by o cs lent).answer.written (written_by o cs lent).bytes) (replicate lent 0)

abbrev reread_by : Conversion → Opening → List SiteCall → ℕ → Reading
reread_by c o cs lent = read_call (take (converted_by c o cs lent).answer.written (converted_by c o cs lent).bytes)

abbrev rerecorded_by : Conversion → Opening → List SiteCall → (lent room : ℕ) → RecordOutput
rerecorded_by c o cs lent room = record_call (reread_by c o cs lent).run (replicate room 0)

converted-cut : (c : Conversion) (count : ℕ) (list : List ℕ) (cs : List SiteCall) (lent room : ℕ) → AllTyped cs
    → let o = opening_as (terms_as (source_of c) count) list in
    (open_call o).refusal ≡ 0 → (written_by o cs lent).answer.refusal ≡ 0 → (converted_by c o cs lent).answer.refusal ≡ 0
    → let x = rerecorded_by c o cs lent room in
    x.answer.refusal ≡ 0
    → Cut (opening_of (filled (opening_as (terms_as (target_of c) count) list))) (accepted_calls cs (open_call o).run) (shown_in (take x.answer.written x.bytes))
converted-cut c count list cs lent room typed opened written converted answered =
    let o = opening_as (terms_as (source_of c) count) list in
    let r = after cs (open_call o).run in
    let v = written_by o cs lent in
    let w = converted_by c o cs lent in
    let t = reread_by c o cs lent in
    let x = rerecorded_by c o cs lent room in
    ((conversion-demand c count list (open_call o) (opens o.terms list) opened cs _ r (makes cs (open_call o).run typed)
    (replicate lent 0) v.bytes v.answer (writes r (replicate lent 0)) written
    (replicate lent 0) w.bytes w.answer (conversions c (take v.answer.written v.bytes) (replicate lent 0))
    ).recorded converted t (reads (take w.answer.written w.bytes))
    (replicate room 0) x.bytes x.answer (records t.run (replicate room 0))).cut answered

-- Case A: stocks 10, 20, 30 and its nine calls, with a refused one between.
abbrev pub opening_a : Opening
opening_a = opening_as (terms_as 1 3) (10 ∷ 20 ∷ 30 ∷ [])

abbrev pub calls_a : List SiteCall
calls_a =
    Send 1 2 4 ∷ Receive 1 2 ∷ Send 3 2 5 ∷ Send 1 3 2 ∷ Start 2 ∷ Start 1 ∷ Send 2 3 7 ∷ Receive 2 3 ∷ Receive 1 3 ∷ Receive 2 1 ∷ []

typed_a : AllTyped calls_a
typed_a = (omega arith, (tt, (omega arith, (omega arith, (tt, (tt, (omega arith, (tt, (tt, (tt, tt))))))))))

opened_a : (open_call opening_a).refusal ≡ 0
unfolding calls_computed
opened_a = refl

answered_a : (recorded_by opening_a calls_a 16).answer.refusal ≡ 0
unfolding record_computed
answered_a = refl

pub case-a : Cut (opening_of opening_a) (accepted_calls calls_a (open_call opening_a).run)
    (shown_in (take (recorded_by opening_a calls_a 16).answer.written (recorded_by opening_a calls_a 16).bytes))
case-a = recorded-cut opening_a calls_a 16 typed_a opened_a answered_a

-- And further calls, a second start among them, which is refused: its recording stays.
abbrev pub further_a : List SiteCall
further_a = Receive 3 2 ∷ Start 3 ∷ Send 2 1 6 ∷ Receive 2 1 ∷ []

pub case_stays : let r = after calls_a (open_call opening_a).run in
    Stays opening_a (accepted_calls calls_a (open_call opening_a).run) (accepted_calls further_a r) r (after further_a r)
case_stays =
    let r = after calls_a (open_call opening_a).run in
    let x = recorded_by opening_a calls_a 16 in
    recorded-stays opening_a.terms opening_a.stocks (open_call opening_a) (opens opening_a.terms opening_a.stocks) opened_a calls_a _ r
    (makes calls_a (open_call opening_a).run typed_a) (replicate 16 0) x.bytes x.answer (records r (replicate 16 0)) answered_a
    further_a _ (after further_a r) (makes further_a r (tt, (tt, (omega arith, (tt, tt)))))

-- Its page, and that this is what the bytes of its recording show.
page_a : paged_by opening_a calls_a 86
    ≡ record {
      answer = record { refusal = 0; written = 85 };
      bytes =
          codes "Z1 F    2      4\n"
          ++ (codes "Z2 F    1     24\n" ++ (codes "Z3 -    0     30\n" ++ (codes "L13     1      2\n" ++ (codes "T             60\n" ++ (0 ∷ [])))));
    }
unfolding record_computed page_computed page_call
page_a = refl

pub case-page : let v = recorded_by opening_a calls_a 16 in
    let w = paged_by opening_a calls_a 86 in
    let shown = take v.answer.written v.bytes in
    take w.answer.written w.bytes ≡ page_with (zones_in (word_at shown 0)) (shown_in shown) v.answer.total
case-page =
    let r = after calls_a (open_call opening_a).run in
    let v = recorded_by opening_a calls_a 16 in
    let w = paged_by opening_a calls_a 86 in
    (page-demand opening_a.terms opening_a.stocks (open_call opening_a) (opens opening_a.terms opening_a.stocks) opened_a calls_a _ r
    (makes calls_a (open_call opening_a).run typed_a) (replicate 86 0) w.bytes w.answer (pages r (replicate 86 0)) (replicate 16 0) v.bytes v.answer
    (records r (replicate 16 0))).shows (ap (λ (x : Output). x.answer.refusal) page_a) answered_a

-- Its journal, and its conversion to edition 3: "28 09 .." becomes "68 09 ..".
written_a : written_by opening_a calls_a 26 ≡ record { answer = record { refusal = 0; written = 26 }; bytes = case_a }
unfolding write_computed
written_a = refl

converted_a : converted_by Upgrade opening_a calls_a 26 ≡ record { answer = record { refusal = 0; position = 0; written = 26 }; bytes = 104 ∷ drop 1 case_a }
unfolding record_computed convert_computed
converted_a = refl

-- "68 01 80 02 00 04 80 01 00 18 00 00 00 1E 02 02": of the recording too the edition alone is another one.
shown_a : rerecorded_by Upgrade opening_a calls_a 26 16
    ≡ record {
      answer = record { refusal = 0; written = 16; total = 60 };
      bytes = 104 ∷ 1 ∷ 128 ∷ 2 ∷ 0 ∷ 4 ∷ 128 ∷ 1 ∷ 0 ∷ 24 ∷ 0 ∷ 0 ∷ 0 ∷ 30 ∷ 2 ∷ 2 ∷ [];
    }
unfolding record_computed convert_computed
shown_a = refl

pub case-converted : let x = rerecorded_by Upgrade opening_a calls_a 26 16 in
    Cut (opening_of (opening_as (terms_as 3 3) (10 ∷ 20 ∷ 30 ∷ []))) (accepted_calls calls_a (open_call opening_a).run) (shown_in (take x.answer.written x.bytes))
case-converted =
    converted-cut Upgrade 3 (10 ∷ 20 ∷ 30 ∷ []) calls_a 26 16 typed_a opened_a (ap (λ (x : Output). x.answer.refusal) written_a)
    (ap (λ (x : PositionedOutput). x.answer.refusal) converted_a) (ap (λ (x : RecordOutput). x.answer.refusal) shown_a)

-- The same stocks in edition 2. Zone 3 sends zone 1 a line check that stays on its line. Zone 1, which depends on zone 2, starts, and sends
-- zone 3 a line check with the flag; zone 3 takes it, and hands cars to zone 2, which takes them before the request of zone 1. So zone 3 is
-- recorded too, with the event before the request.
abbrev pub opening_check : Opening
opening_check = opening_as (terms_as 2 3) (10 ∷ 20 ∷ 30 ∷ [])

abbrev pub calls_check : List SiteCall
calls_check =
    Send 3 1 0 ∷ Send 2 1 4 ∷ Receive 2 1 ∷ Start 1 ∷ Send 1 3 0 ∷ Receive 1 3 ∷ Send 3 2 5 ∷ Receive 3 2 ∷ Receive 1 2 ∷ Receive 2 3 ∷ []

typed_check : AllTyped calls_check
typed_check = (omega arith, (omega arith, (tt, (tt, (omega arith, (tt, (omega arith, (tt, (tt, (tt, tt))))))))))

opened_check : (open_call opening_check).refusal ≡ 0
unfolding calls_computed
opened_check = refl

-- "48 00 80 01 00 0E 80 02 00 15 80 01 00 19": no check is shown.
shown_check : recorded_by opening_check calls_check 14
    ≡ record {
      answer = record { refusal = 0; written = 14; total = 60 };
      bytes = 72 ∷ 0 ∷ 128 ∷ 1 ∷ 0 ∷ 14 ∷ 128 ∷ 2 ∷ 0 ∷ 21 ∷ 128 ∷ 1 ∷ 0 ∷ 25 ∷ [];
    }
unfolding record_computed
shown_check = refl

pub case-check : Cut (opening_of opening_check) (accepted_calls calls_check (open_call opening_check).run)
    (shown_in (take (recorded_by opening_check calls_check 14).answer.written (recorded_by opening_check calls_check 14).bytes))
case-check = recorded-cut opening_check calls_check 14 typed_check opened_check (ap (λ (x : RecordOutput). x.answer.refusal) shown_check)

-- The same stocks in edition 3, the calls of the journal "68 09 00 0A 00 14 00 1E C0 03 01 04 41 00 C9 09 88 00 C8 32 C1 01 48 00 C0 07" with
-- an exit beyond the stock between, which is refused. Cars drive in at zone 1 and out at zone 2 before zone 2 starts, which depends on zone
-- 1; inside are also an exit at zone 1 before its mark, and not inside the entries behind the marks.
abbrev pub opening_gates : Opening
opening_gates = opening_as (terms_as 3 3) (10 ∷ 20 ∷ 30 ∷ [])

abbrev pub calls_gates : List SiteCall
calls_gates =
    Gate In 1 3 ∷ Send 1 2 4 ∷ Receive 1 2 ∷ Gate Out 2 9 ∷ Start 2 ∷ Gate Out 3 31 ∷ Gate In 2 50 ∷ Gate Out 1 1 ∷ Receive 2 1 ∷ Gate In 1 7 ∷ []

typed_gates : AllTyped calls_gates
typed_gates = (omega arith, (omega arith, (tt, (omega arith, (tt, (omega arith, (omega arith, (omega arith, (tt, (omega arith, tt))))))))))

opened_gates : (open_call opening_gates).refusal ≡ 0
unfolding calls_computed
opened_gates = refl

-- "68 00 80 03 00 08 80 02 00 0F 00 00 00 1E", and the total 53 = 60 + 3 - 9 - 1.
shown_gates : recorded_by opening_gates calls_gates 14
    ≡ record {
      answer = record { refusal = 0; written = 14; total = 53 };
      bytes = 104 ∷ 0 ∷ 128 ∷ 3 ∷ 0 ∷ 8 ∷ 128 ∷ 2 ∷ 0 ∷ 15 ∷ 0 ∷ 0 ∷ 0 ∷ 30 ∷ [];
    }
unfolding record_computed
shown_gates = refl

pub case-gates : Cut (opening_of opening_gates) (accepted_calls calls_gates (open_call opening_gates).run)
    (shown_in (take (recorded_by opening_gates calls_gates 14).answer.written (recorded_by opening_gates calls_gates 14).bytes))
case-gates = recorded-cut opening_gates calls_gates 14 typed_gates opened_gates (ap (λ (x : RecordOutput). x.answer.refusal) shown_gates)

-- The same opening and the calls of case A: their journal, and its conversion to edition 1, which is that of case A.
written_back : written_by opening_gates calls_a 26 ≡ record { answer = record { refusal = 0; written = 26 }; bytes = 104 ∷ drop 1 case_a }
unfolding write_computed
written_back = refl

converted_back : converted_by Downgrade opening_gates calls_a 26 ≡ record { answer = record { refusal = 0; position = 0; written = 26 }; bytes = case_a }
unfolding record_computed convert_computed
converted_back = refl

-- "28 01 80 02 00 04 80 01 00 18 00 00 00 1E 02 02", the recording of case A.
shown_back : rerecorded_by Downgrade opening_gates calls_a 26 16
    ≡ record {
      answer = record { refusal = 0; written = 16; total = 60 };
      bytes = 40 ∷ 1 ∷ 128 ∷ 2 ∷ 0 ∷ 4 ∷ 128 ∷ 1 ∷ 0 ∷ 24 ∷ 0 ∷ 0 ∷ 0 ∷ 30 ∷ 2 ∷ 2 ∷ [];
    }
unfolding record_computed convert_computed
shown_back = refl

pub case-converted-back : let x = rerecorded_by Downgrade opening_gates calls_a 26 16 in
    Cut (opening_of opening_a) (accepted_calls calls_a (open_call opening_gates).run) (shown_in (take x.answer.written x.bytes))
case-converted-back =
    converted-cut Downgrade 3 (10 ∷ 20 ∷ 30 ∷ []) calls_a 26 16 typed_a opened_gates (ap (λ (x : Output). x.answer.refusal) written_back)
    (ap (λ (x : PositionedOutput). x.answer.refusal) converted_back) (ap (λ (x : RecordOutput). x.answer.refusal) shown_back)

-- An empty car park, opened without stocks in edition 3, the calls of the journal "68 07 00 00 00 00 00 00 C0 05 01 02 41 00 08 01 88 00 48 00
-- 48 00" behind a message of a car that zone 3 does not have. Cars drive in at zone 1 and go on to zone 2, which starts.
abbrev pub opening_empty : Opening
opening_empty = opening_as (terms_as 3 3) []

abbrev pub calls_empty : List SiteCall
calls_empty =
    Send 3 1 1 ∷ Gate In 1 5 ∷ Send 1 2 2 ∷ Receive 1 2 ∷ Send 2 1 1 ∷ Start 2 ∷ Receive 2 1 ∷ Receive 2 1 ∷ []

typed_empty : AllTyped calls_empty
typed_empty = (omega arith, (omega arith, (omega arith, (tt, (omega arith, (tt, (tt, (tt, tt))))))))

opened_empty : (open_call opening_empty).refusal ≡ 0
unfolding calls_computed
opened_empty = refl

-- "68 00 80 03 00 04 80 02 00 01 00 00 00 00": zone 3 is shown with its opening stock, 0. The total is that of the entry, 5.
shown_empty : recorded_by opening_empty calls_empty 14
    ≡ record {
      answer = record { refusal = 0; written = 14; total = 5 };
      bytes = 104 ∷ 0 ∷ 128 ∷ 3 ∷ 0 ∷ 4 ∷ 128 ∷ 2 ∷ 0 ∷ 1 ∷ 0 ∷ 0 ∷ 0 ∷ 0 ∷ [];
    }
unfolding record_computed
shown_empty = refl

pub case-empty : Cut (opening_of (opening_as (terms_as 3 3) (0 ∷ 0 ∷ 0 ∷ []))) (accepted_calls calls_empty (open_call opening_empty).run)
    (shown_in (take (recorded_by opening_empty calls_empty 14).answer.written (recorded_by opening_empty calls_empty 14).bytes))
case-empty = recorded-cut opening_empty calls_empty 14 typed_empty opened_empty (ap (λ (x : RecordOutput). x.answer.refusal) shown_empty)
