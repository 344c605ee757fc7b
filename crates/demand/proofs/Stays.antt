-- A complete recording never changes: over the facts that the functions promise, whatever is called after it, refused calls included.
use mathlib.Core.Path.{◌≡◌, sym, ◌∙◌, ap, subst}
use mathlib.Core.Bool.{true}
use mathlib.Core.List.{List, ◌++◌}
use Prim.Native.Nat.{ℕ}
use Rattle.rules.specs.Cut.{Complete, run}
use Rattle.rules.specs.Site.{Call, open_s}
use Rattle.run.specs.Claims.{WholeRun, filled}
use Rattle.run.specs.Lists.{after, accepted_calls}
use Rattle.run.specs.Opening.{opening_as, opening_of, open_call}
use Rattle.run.specs.Answer.{Answer}
use Rattle.run.specs.declared.Opening.{Opening}
use Rattle.run.specs.declared.Run.{Run}
use Rattle.run.specs.declared.SiteCall.{SiteCall}
use Rattle.run.specs.declared.Terms.{Terms}
use Rattle.journal.specs.Format.{opened_with, record_words}
use Rattle.journal.specs.Writing.{Output, is_replayed}
use Rattle.journal.proofs.TrueRuns.{true-replayed}
use Rattle.recording.specs.Call.{RecordOutput, rule_calls_in}
use Rattle.recording.specs.Answers.{Recorded}
use Rattle.recording.proofs.Stays.{SameRecording, same-record, further-stays, same-recording}
use Rattle.page.proofs.Outcome.{same-page}
use Rattle.promises.specs.Answers.{OpenAnswers, RecordAnswers}
use Rattle.demand.specs.Made.{Made}
use Rattle.demand.specs.Stays.{Stays}
use Rattle.demand.proofs.Calls.{Comes, made-comes, made-append}
use Rattle.demand.proofs.Recorded.{whole, opening-is, calls_are}
use Rattle.demand.proofs.Three.{demand-three}

-- The run r after the accepted calls cs from the opening o: its journal replays to it, and tells this opening and these calls.
record Tells (o : Opening) (cs : List Call) (r : Run) : Type 0 where
  whole : WholeRun r
  replayed : is_replayed r ≡ true
  opening : opened_with r ≡ o
  calls : rule_calls_in (record_words r) ≡ cs

made_tells : (o : Opening) (a : Answer) → a ≡ open_call o → a.refusal ≡ 0 → (cs : List SiteCall) (accepted : List Call) (r : Run)
    → Comes a.run cs accepted r → Tells (filled o) accepted r
made_tells o a e z cs accepted r h =
    let opened : (open_call o).refusal ≡ 0 = subst (λ (x : Answer). x.refusal ≡ 0) e z in
    let k : accepted ≡ accepted_calls cs (open_call o).run = h.calls ∙ ap (λ (x : Answer). accepted_calls cs x.run) e in
    let q : r ≡ after cs (open_call o).run = h.result ∙ ap (λ (x : Answer). after cs x.run) e in
    rw (k, q) (record {
      whole = whole o opened cs h.typed;
      replayed = true-replayed o cs opened h.typed;
      opening = opening-is o opened cs h.typed;
      calls = calls_are o opened cs h.typed;
    })

-- The calls cs, after which the recording is complete, and the further calls ds.
module _ (o : Opening) (cs ds : List Call) (r t : Run) (first : Tells o cs r) (both : Tells o (cs ++ ds) t)
    (complete : Complete (run cs (open_s (opening_of o)))) where
  abbrev told : List Call
  told = rule_calls_in (record_words r)

  opening : opened_with t ≡ opened_with r
  opening = both.opening ∙ sym first.opening

  calls : rule_calls_in (record_words t) ≡ rule_calls_in (record_words r) ++ ds
  calls = both.calls ∙ ap (λ (l : List Call). l ++ ds) (sym first.calls)

  done : Complete (run (rule_calls_in (record_words r)) (open_s (opening_of (opened_with r))))
  done =
      subst (λ (x : Opening). Complete (run told (open_s (opening_of x)))) (sym first.opening)
      (subst (λ (l : List Call). Complete (run l (open_s (opening_of o)))) (sym first.calls) complete)

  same : SameRecording r t
  same = same-recording r t first.whole both.whole first.replayed both.replayed opening ds calls done

  -- In the first run's own terms, and in those of the lists.
  told-stays : Stays (opened_with r) (rule_calls_in (record_words r)) ds r t
  told-stays =
      let further = further-stays r t first.whole both.whole first.replayed both.replayed opening ds calls done in
      record {
        complete = further.0;
        recording = further.1;
        recorded = λ lent before after u w e f. (
          f.0 ∙ ap (λ (x : RecordOutput). x.answer) (same-record r t same lent) ∙ sym e.0,
          f.1 ∙ ap (λ (x : RecordOutput). x.bytes) (same-record r t same lent) ∙ sym e.1,
        );
        paged = λ lent before after u w e f. (
          f.0 ∙ ap (λ (x : Output). x.answer) (same-page r t same lent) ∙ sym e.0,
          f.1 ∙ ap (λ (x : Output). x.bytes) (same-page r t same lent) ∙ sym e.1,
        );
      }

  stays : Stays o cs ds r t
  stays =
      subst (λ (x : Opening). Stays x cs ds r t) first.opening
      (subst (λ (l : List Call). Stays (opened_with r) l ds r t) first.calls told-stays)

-- "From then on it never changes". An accepted opening; a list of calls, refused ones included, each on the run that the one before it handed back,
-- after which the recording is complete; and any further list of calls on the run that the first handed back.
module _ (terms : Terms) (stocks : List ℕ) (a : Answer) (opens : OpenAnswers terms stocks a) (opened : a.refusal ≡ 0)
    (cs : List SiteCall) (accepted : List Call) (r : Run) (made : Made a.run cs accepted r) where
  pub recording-stays : Complete (run accepted (open_s (opening_of (filled (opening_as terms stocks)))))
      → (ds : List SiteCall) (more : List Call) (t : Run) → Made r ds more t
      → Stays (filled (opening_as terms stocks)) accepted more r t
  recording-stays complete ds more t further =
      stays (filled (opening_as terms stocks)) accepted more r t
      (made_tells (opening_as terms stocks) a opens opened cs accepted r (made-comes made))
      (made_tells (opening_as terms stocks) a opens opened (cs ++ ds) (accepted ++ more) t (made-comes (made-append made further))) complete

  -- It is complete once a recording call on the first run has answered 0.
  pub recorded-stays : (lent bytes : List ℕ) (w : Recorded) → RecordAnswers r lent w bytes → w.refusal ≡ 0
      → (ds : List SiteCall) (more : List Call) (t : Run) → Made r ds more t
      → Stays (filled (opening_as terms stocks)) accepted more r t
  recorded-stays lent bytes w e z = recording-stays ((demand-three terms stocks a opens opened cs accepted r made lent bytes w e).only-complete z)
