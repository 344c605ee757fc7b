-- The page call after a list of calls: what it writes is the page of what the recording shows.
use mathlib.Core.Path.{◌≡◌, refl, sym, ◌∙◌, ap, ap₂, subst}
use mathlib.Core.Bool.{true, false≢true}
use mathlib.Core.Logic.{◌⊎◌, inl, inr}
use mathlib.Core.List.{List, [], append-nil}
use Prim.Native.Nat.{ℕ}
use lib.ListN.{length, take, drop}
use lib.Seq.{take-append_seam}
use Rattle.rules.specs.Site.{Site, Call}
use Rattle.rules.specs.Zone.{is_permanent}
use Rattle.run.specs.Claims.{AllTyped, WholeRun, filled}
use Rattle.run.specs.Lists.{after, accepted_calls}
use Rattle.run.specs.Opening.{opening_as, open_call}
use Rattle.run.specs.State.{count_of}
use Rattle.run.specs.Answer.{Answer}
use Rattle.run.specs.declared.Opening.{Opening}
use Rattle.run.specs.declared.Run.{Run}
use Rattle.run.specs.declared.SiteCall.{SiteCall}
use Rattle.run.specs.declared.Terms.{Terms}
use Rattle.words.specs.Bytes.{word_at}
use Rattle.words.specs.Header.{zones_in}
use Rattle.journal.specs.Format.{opened_with, record_words}
use Rattle.journal.specs.Writing.{is_replayed, Output, refused_output, written_output, PositionedOutput, positioned}
use Rattle.journal.specs.Answers.{Written}
use Rattle.journal.proofs.TrueRuns.{true-replayed}
use Rattle.recording.specs.Call.{rule_calls_in, snapshot_of, record_call}
use Rattle.recording.specs.Shown.{shown_in}
use Rattle.recording.specs.Answers.{Recorded}
use Rattle.recording.proofs.Complete.{complete-if, if-complete}
use Rattle.recording.proofs.Zones.{site-is}
use Rattle.page.specs.Call.{page_of, page_call}
use Rattle.page.specs.Claims.{NothingCut}
use Rattle.page.specs.Layout.{page_with}
use Rattle.page.proofs.Enough.{page-most}
use Rattle.page.proofs.Outcome.{Refused, Drawn, run-outcome}
use Rattle.page.proofs.Whole.{nothing-cut, page-shows}
use Rattle.promises.specs.Answers.{OpenAnswers, RecordAnswers, PageAnswers}
use Rattle.demand.specs.Made.{Made}
use Rattle.demand.specs.Page.{PageDemand}
use Rattle.demand.proofs.Calls.{made-comes}
use Rattle.demand.proofs.Recorded.{ByNumber, by-questions, bytes_of, none-permanent, written, answered, whole, opening-is, calls_are}

-- Of a run whose journal replays to it, in the run's own terms.
module _ (r : Run) (w : WholeRun r) (e : is_replayed r ≡ true) (lent other : List ℕ) where
  by_number : ByNumber r (page_of r) lent (page_call r lent).answer.refusal
  unfolding page_call
  by_number =
      by-questions r (page_of r) lent (refused_output lent) (written_output lent (page_of r)) (λ (o : Output). o.answer.refusal) (λ n. refl) refl e

  -- What is written.
  page-written : (page_call r lent).answer.refusal ≡ 0 → take (page_call r lent).answer.written (page_call r lent).bytes ≡ page_of r
  page-written z = go (run-outcome r lent)
    where
      go : Refused lent 0 (positioned 0 (page_call r lent)) ⊎ Drawn lent r (positioned 0 (page_call r lent))
          → take (page_call r lent).answer.written (page_call r lent).bytes ≡ page_of r
      go (inl h) = absurd (h.some (sym (ap (λ (o : PositionedOutput). o.answer.refusal) h.output) ∙ z))
      go (inr h) =
          ap (λ (o : PositionedOutput). take o.answer.written o.bytes) h.output
          ∙ take-append_seam (page_of r) (drop (length (page_of r)) lent)

  -- The page by the bytes of the recording, and the total answered beside them.
  page-shown : (record_call r other).answer.refusal ≡ 0
      → let bytes = take (record_call r other).answer.written (record_call r other).bytes in
      page_of r ≡ page_with (zones_in (word_at bytes 0)) (shown_in bytes) (record_call r other).answer.total
  page-shown z =
      sym (ap₂ (λ (bytes : List ℕ) (n : ℕ). page_with (zones_in (word_at bytes 0)) (shown_in bytes) n)
      (written r w e other z ∙ sym (append-nil (bytes_of r))) (answered r w e other z)
      ∙ page-shows r w e [])

  replayed-page : PageDemand (opened_with r) (rule_calls_in (record_words r)) lent (page_call r lent).answer (page_call r lent).bytes
      (record_call r other).answer (record_call r other).bytes
  replayed-page = record {
    shows = λ z v. page-written z ∙ page-shown v;
    page = page-written;
    nothing-cut = λ z. let a = by_number.accepted z in
        subst (NothingCut (count_of r.head) (snapshot_of r)) (sym (page-written z)) (nothing-cut r w e a.0 a.1);
    only-complete = λ z. let a = by_number.accepted z in complete-if r w e a.0 a.1;
    if-complete = λ c n. let h = if-complete r w e c in by_number.accepts h.0 h.1 n;
    refusals = by_number.refusals;
    not-started = λ q z. ap (λ (s : Site). is_permanent (s.zone z).checkpoint) (sym (site-is r w e)) ∙ none-permanent r (by_number.twelve q) z;
    not-complete = λ q c. false≢true (sym (by_number.thirteen q) ∙ (if-complete r w e c).1);
    too_few = λ q. let a = by_number.fourteen q in (complete-if r w e a.0 a.1, a.2);
    enough = page-most r w e;
  }

-- Of a true run, in the terms of the list of calls.
module _ (o : Opening) (opened : (open_call o).refusal ≡ 0) (cs : List SiteCall) (typed : AllTyped cs) (lent other : List ℕ) where
  abbrev last : Run
  last = after cs (open_call o).run

  abbrev Claim : Opening → List Call → Type 0
  Claim x calls = PageDemand x calls lent (page_call last lent).answer (page_call last lent).bytes (record_call last other).answer (record_call last other).bytes

  pub true-page : PageDemand (filled o) (accepted_calls cs (open_call o).run) lent
      (page_call (after cs (open_call o).run) lent).answer (page_call (after cs (open_call o).run) lent).bytes
      (record_call (after cs (open_call o).run) other).answer (record_call (after cs (open_call o).run) other).bytes
  true-page =
      subst (λ (x : Opening). Claim x (accepted_calls cs (open_call o).run)) (opening-is o opened cs typed)
      (subst (Claim (opened_with last)) (calls_are o opened cs typed)
      (replayed-page last (whole o opened cs typed) (true-replayed o cs opened typed) lent other))

-- An accepted opening; a list of calls, refused ones included, each on the run that the one before it handed back; then a page call and a
-- recording call, each known by what it answers alone.
module _ (terms : Terms) (stocks : List ℕ) where
  abbrev opening : Opening
  opening = opening_as terms stocks

  pub page-demand : (a : Answer) → OpenAnswers terms stocks a → a.refusal ≡ 0
      → (cs : List SiteCall) (accepted : List Call) (r : Run) → Made a.run cs accepted r
      → (lent bytes : List ℕ) (w : Written) → PageAnswers r lent w bytes
      → (other shown : List ℕ) (v : Recorded) → RecordAnswers r other v shown
      → PageDemand (filled (opening_as terms stocks)) accepted lent w bytes v shown
  page-demand a e z cs accepted r m lent bytes w f other shown v g =
      let h = made-comes m in
      let opened : (open_call opening).refusal ≡ 0 = subst (λ (x : Answer). x.refusal ≡ 0) e z in
      let k : accepted ≡ accepted_calls cs (open_call opening).run = h.calls ∙ ap (λ (x : Answer). accepted_calls cs x.run) e in
      let q : r ≡ after cs (open_call opening).run = h.result ∙ ap (λ (x : Answer). after cs x.run) e in
      rw (f.0, f.1, g.0, g.1, k, q) (true-page opening opened cs h.typed lent other)
