-- Demand 3 of a true run and of the recording call's definition.
use mathlib.Core.Path.{◌≡◌, refl, sym, ◌∙◌, ap, ap₂, subst}
use mathlib.Core.Bool.{Bool, true, false, cond, false≢true}
use mathlib.Core.Logic.{inl, inr}
use mathlib.Core.List.{List, [], ◌∷◌, append-nil, map}
use Prim.Native.Nat.{ℕ, ◌+◌, ◌≤◌, ◌<◌}
use native.Mathlib.Omega.{arith}
use borrow.Author.Tests.{le-leb, leb-false, ltb-true}
use lib.Dec.{leb, ltb}
use lib.Seq.{take-append_seam}
use lib.ListN.{length, take, drop}
use Rattle.rules.specs.Change.{cons-if}
use Rattle.rules.specs.Below.{sum}
use Rattle.rules.specs.Cut.{Cut, Snapshot, moves, present, snapshot}
use Rattle.rules.specs.Opening as rules
use Rattle.rules.specs.Park.{inside, total, entries, exits}
use Rattle.rules.specs.Questions.{Question, ask, refusal, Among}
use Rattle.rules.specs.Site.{Site, Call, open_s}
use Rattle.rules.specs.Zone.{is_permanent, opened}
use Rattle.run.specs.Calls.{record_of, answer}
use Rattle.run.specs.Claims.{AllTyped, WholeRun, accepted_records, filled}
use Rattle.run.specs.Lists.{is_accepted, call_of, after, accepted_calls}
use Rattle.run.specs.Model.{site_of}
use Rattle.run.specs.Opening.{opening_of, open_call}
use Rattle.run.specs.State.{terms_of, count_of, zone_at, has_started}
use Rattle.run.proofs.BelowLaws.{any_none}
use Rattle.run.specs.declared.Opening.{Opening}
use Rattle.run.specs.declared.Run.{Run}
use Rattle.run.specs.declared.SiteCall.{SiteCall}
use Rattle.run.proofs.Filled.{opening-filled}
use Rattle.run.proofs.Whole.{open-whole, after-whole}
use Rattle.journal.specs.Format.{opened_with, opening_stocks, record_words, cons_call}
use Rattle.journal.specs.Format as format
use Rattle.std.specs.Prelude.{Option}
use Rattle.journal.specs.Writing.{is_replayed, written_output}
use Rattle.journal.proofs.Replays.{named}
use Rattle.journal.proofs.TrueRuns.{true-tells, true-replayed}
use Rattle.journal.proofs.Words.{decode-record}
use Rattle.words.specs.Bytes.{word_at}
use Rattle.words.specs.Header.{edition_in}
use Rattle.recording.specs.Call.{rule_calls_in, no_requests, snapshot_of, recorded_total, recording_questions, RecordOutput, with_total, not_recorded, record_call}
use Rattle.recording.specs.Layout.{recording_bytes}
use Rattle.recording.specs.Shown.{shown_in}
use Rattle.recording.proofs.Asked.{accepted}
use Rattle.recording.proofs.Complete.{complete-if, if-complete}
use Rattle.recording.proofs.Shows.{recording-shows, recording-edition, recording-balances, recording-cuts}
use Rattle.recording.proofs.Sized.{recording-most}
use Rattle.recording.proofs.Totals.{no-total}
use Rattle.recording.proofs.Zones.{site-is}
use Rattle.demand.specs.Demand.{Demand}

-- The records of the accepted calls stand for these calls.
calls-decoded : (cs : List SiteCall) (r : Run) → AllTyped cs → rule_calls_in (accepted_records cs r) ≡ accepted_calls cs r
calls-decoded [] r t = refl
calls-decoded (c ∷ cs) r t = go (is_accepted c r) refl (calls-decoded cs (answer c r).run t.1)
  where
    go : (b : Bool) → is_accepted c r ≡ b → rule_calls_in (accepted_records cs (answer c r).run) ≡ accepted_calls cs (answer c r).run
        → rule_calls_in (cons-if b (record_of c) (accepted_records cs (answer c r).run)) ≡ cons-if b (call_of c) (accepted_calls cs (answer c r).run)
    go true e h =
        ap (λ (x : Option SiteCall). map call_of (cons_call x (format.calls_in (accepted_records cs (answer c r).run)))) (decode-record c t.0 (named c r e))
        ∙ ap (λ (l : List Call). call_of c ∷ l) h
    go false e h = h

-- Questions 12 and 13 are answered yes; the bytes that question 14 is about.
abbrev Started : Run → Type 0
Started r = has_started r.head ≡ true

abbrev Free : Run → Type 0
Free r = no_requests (count_of r.head) r.channels ≡ true

abbrev pub bytes_of : Run → List ℕ
bytes_of r = recording_bytes (terms_of r.head) (snapshot_of r)

-- What each number means that a call with the recording's questions about these bytes answers, once question 1 is answered yes.
pub record ByNumber (r : Run) (bytes lent : List ℕ) (n : ℕ) : Type 0 where
  pub accepted : n ≡ 0 → Started r × Free r
  pub accepts : Started r → Free r → length bytes ≤ length lent → n ≡ 0
  pub refusals : Among n (0 ∷ 12 ∷ 13 ∷ 14 ∷ [])
  pub twelve : n ≡ 12 → has_started r.head ≡ false
  pub thirteen : n ≡ 13 → no_requests (count_of r.head) r.channels ≡ false
  pub fourteen : n ≡ 14 → Started r × Free r × (length lent < length bytes)

-- The number by the answers to questions 12, 13 and 14.
answered-by : (r : Run) (bytes lent : List ℕ) (x y z : Bool) → has_started r.head ≡ x → no_requests (count_of r.head) r.channels ≡ y
    → leb (length bytes) (length lent) ≡ z → ByNumber r bytes lent (cond x (cond y (cond z 0 14) 13) 12)
answered-by r bytes lent false y z e f g = record {
  accepted = λ (q : ◌≡◌ {A = ℕ} 12 0). absurd (omega arith);
  accepts = λ a b c. absurd (false≢true (sym e ∙ a));
  refusals = inr (inl refl);
  twelve = λ q. e;
  thirteen = λ (q : ◌≡◌ {A = ℕ} 12 13). absurd (omega arith);
  fourteen = λ (q : ◌≡◌ {A = ℕ} 12 14). absurd (omega arith);
}
answered-by r bytes lent true false z e f g = record {
  accepted = λ (q : ◌≡◌ {A = ℕ} 13 0). absurd (omega arith);
  accepts = λ a b c. absurd (false≢true (sym f ∙ b));
  refusals = inr (inr (inl refl));
  twelve = λ (q : ◌≡◌ {A = ℕ} 13 12). absurd (omega arith);
  thirteen = λ q. f;
  fourteen = λ (q : ◌≡◌ {A = ℕ} 13 14). absurd (omega arith);
}
answered-by r bytes lent true true false e f g = record {
  accepted = λ (q : ◌≡◌ {A = ℕ} 14 0). absurd (omega arith);
  accepts = λ a b c. absurd (false≢true (sym g ∙ le-leb _ _ c));
  refusals = inr (inr (inr (inl refl)));
  twelve = λ (q : ◌≡◌ {A = ℕ} 14 12). absurd (omega arith);
  thirteen = λ (q : ◌≡◌ {A = ℕ} 14 13). absurd (omega arith);
  fourteen = λ q. (e, f, leb-false (length bytes) (length lent) g);
}
answered-by r bytes lent true true true e f g = record {
  accepted = λ q. (e, f);
  accepts = λ a b c. refl;
  refusals = inl refl;
  twelve = λ (q : ◌≡◌ {A = ℕ} 0 12). absurd (omega arith);
  thirteen = λ (q : ◌≡◌ {A = ℕ} 0 13). absurd (omega arith);
  fourteen = λ (q : ◌≡◌ {A = ℕ} 0 14). absurd (omega arith);
}

-- The number that a call answers is that of the first "no" to its questions.
pub number-asked : {A : Type 0} (qs : List Question) (refused : ℕ → A) (x : A) (number : A → ℕ) → ((n : ℕ) → number (refused n) ≡ n) → number x ≡ 0
    → number (ask qs refused x) ≡ refusal qs
number-asked [] refused x number f z = z
number-asked (q ∷ qs) refused x number f z = go q.yes (number-asked qs refused x number f z)
  where
    go : (b : Bool) → number (ask qs refused x) ≡ refusal qs → number (cond b (ask qs refused x) (refused q.number)) ≡ cond b (refusal qs) q.number
    go true h = h
    go false h = f q.number

pub by-questions : {A : Type 0} (r : Run) (bytes lent : List ℕ) (refused : ℕ → A) (x : A) (number : A → ℕ) → ((n : ℕ) → number (refused n) ≡ n)
    → number x ≡ 0 → is_replayed r ≡ true → ByNumber r bytes lent (number (ask (recording_questions r bytes lent) refused x))
by-questions r bytes lent refused x number f z e =
    subst (ByNumber r bytes lent) (sym (number-asked (recording_questions r bytes lent) refused x number f z))
    (rw e (answered-by r bytes lent (has_started r.head) (no_requests (count_of r.head) r.channels) (leb (length bytes) (length lent)) refl refl refl))

-- No zone is permanent where none of the site is.
pub none-permanent : (r : Run) → has_started r.head ≡ false → (z : ℕ) → is_permanent ((site_of r).zone z).checkpoint ≡ false
unfolding has_started
none-permanent r e z = go (ltb z (count_of r.head)) refl
  where
    go : (b : Bool) → ltb z (count_of r.head) ≡ b → is_permanent (cond b (zone_at r.head z) (opened z 0)).checkpoint ≡ false
    go true h = any_none (count_of r.head) (λ i. is_permanent (zone_at r.head i).checkpoint) e z (ltb-true z (count_of r.head) h)
    go false h = refl

-- Demand 3 of a run whose journal replays to it, in the run's own terms.
module _ (r : Run) (w : WholeRun r) (e : is_replayed r ≡ true) (lent : List ℕ) where
  by_number : ByNumber r (bytes_of r) lent (record_call r lent).answer.refusal
  unfolding record_call
  by_number =
      by-questions r (bytes_of r) lent (not_recorded lent) (with_total (recorded_total r) (written_output lent (bytes_of r))) (λ (o : RecordOutput). o.answer.refusal)
      (λ n. refl) refl e

  -- The bytes written, and the total answered.
  pub written : (record_call r lent).answer.refusal ≡ 0 → take (record_call r lent).answer.written (record_call r lent).bytes ≡ bytes_of r
  written z = rw (accepted r lent z).output (take-append_seam (bytes_of r) (drop (length (bytes_of r)) lent))

  pub answered : (record_call r lent).answer.refusal ≡ 0 → (record_call r lent).answer.total ≡ recorded_total r
  answered z = ap (λ (o : RecordOutput). o.answer.total) (accepted r lent z).output

  pub replayed-shown : (record_call r lent).answer.refusal ≡ 0 → shown_in (take (record_call r lent).answer.written (record_call r lent).bytes) ≡ snapshot_of r
  replayed-shown z = ap shown_in (written z ∙ sym (append-nil (bytes_of r))) ∙ recording-shows r w e []

  pub replayed-demand : Demand (opened_with r) (rule_calls_in (record_words r)) r lent (record_call r lent).answer (record_call r lent).bytes
  replayed-demand = record {
    only-complete = λ z. let a = by_number.accepted z in complete-if r w e a.0 a.1;
    if-complete = λ c n. let h = if-complete r w e c in by_number.accepts h.0 h.1 n;
    cut = λ z. let a = by_number.accepted z in
        subst (λ (bytes : List ℕ). Cut (opening_of (opened_with r)) (rule_calls_in (record_words r)) (shown_in bytes)) (append-nil (bytes_of r) ∙ sym (written z))
        (recording-cuts r w e a.0 a.1 []);
    shows-total = λ z. answered z ∙ ap (λ (x : Snapshot). total (count_of r.head) x.park) (sym (replayed-shown z));
    balances = λ z. let a = by_number.accepted z in
        subst (λ (x : Snapshot). let inner = inside x.events (moves (rule_calls_in (record_words r)) (open_s (opening_of (opened_with r)))) in
        (record_call r lent).answer.total + exits inner ≡ sum (opening_stocks r) + entries inner) (sym (replayed-shown z))
        (ap (λ (n : ℕ). n + exits (inside (snapshot_of r).events (moves (rule_calls_in (record_words r)) (open_s (opening_of (opened_with r)))))) (answered z)
        ∙ recording-balances r w e a.0 a.1);
    no-total = no-total r lent;
    shows-edition = λ z. ap (λ (bytes : List ℕ). edition_in (word_at bytes 0)) (written z ∙ sym (append-nil (bytes_of r)))
        ∙ recording-edition r w e [];
    ends = ap present (sym (site-is r w e));
    refusals = by_number.refusals;
    not-started = λ q z. ap (λ (s : Site). is_permanent (s.zone z).checkpoint) (sym (site-is r w e)) ∙ none-permanent r (by_number.twelve q) z;
    not-complete = λ q c. false≢true (sym (by_number.thirteen q) ∙ (if-complete r w e c).1);
    too_few = λ q. let a = by_number.fourteen q in (complete-if r w e a.0 a.1, a.2);
    enough = recording-most r w e;
  }

-- Demand 3 of a true run, in the terms of the list of calls.
module _ (o : Opening) (opened : (open_call o).refusal ≡ 0) (cs : List SiteCall) (typed : AllTyped cs) where
  abbrev last : Run
  last = after cs (open_call o).run

  abbrev calls : List Call
  calls = accepted_calls cs (open_call o).run

  pub whole : WholeRun (after cs (open_call o).run)
  whole = after-whole cs (open_call o).run (open-whole o)

  pub opening-is : opened_with (after cs (open_call o).run) ≡ filled o
  opening-is = (true-tells o cs opened).opening

  pub calls_are : rule_calls_in (record_words (after cs (open_call o).run)) ≡ accepted_calls cs (open_call o).run
  calls_are = ap rule_calls_in (true-tells o cs opened).records ∙ calls-decoded cs (open_call o).run typed

  pub true-demand : (lent : List ℕ)
      → Demand (filled o) (accepted_calls cs (open_call o).run) (after cs (open_call o).run) lent
      (record_call (after cs (open_call o).run) lent).answer (record_call (after cs (open_call o).run) lent).bytes
  true-demand lent =
      let done = record_call last lent in
      subst (λ (x : Opening). Demand x calls last lent done.answer done.bytes) opening-is
      (subst (λ (x : List Call). Demand (opened_with last) x last lent done.answer done.bytes) calls_are
      (replayed-demand last whole (true-replayed o cs opened typed) lent))

  -- The bytes written show the recording of the rules.
  pub true-shown : (lent : List ℕ) → (record_call (after cs (open_call o).run) lent).answer.refusal ≡ 0
      → shown_in (take (record_call (after cs (open_call o).run) lent).answer.written (record_call (after cs (open_call o).run) lent).bytes)
      ≡ snapshot (opening_of o) (accepted_calls cs (open_call o).run)
  true-shown lent z =
      replayed-shown last whole (true-replayed o cs opened typed) lent z
      ∙ ap₂ (λ (x : Opening) (y : List Call). snapshot (opening_of x) y) opening-is calls_are
      ∙ ap (λ (x : rules.Opening). snapshot x calls) (opening-filled o)
