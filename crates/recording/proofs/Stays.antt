-- The recording of a run that goes on from one with a complete recording is the same: its calls are answered alike, and write the same bytes.
use mathlib.Core.Path.{◌≡◌, sym, ◌∙◌, ap, ap₂, subst}
use mathlib.Core.Bool.{true}
use mathlib.Core.List.{List, ◌++◌}
use Prim.Native.Nat.{ℕ}
use Rattle.rules.specs.Cut.{Allowed, Complete, Snapshot, run, snapshot}
use Rattle.rules.specs.Park.{total}
use Rattle.rules.specs.Questions.{Question, ask}
use Rattle.rules.specs.Site.{Call, open_s}
use Rattle.rules.proofs.Stays.{complete-stays}
use Rattle.run.specs.Claims.{WholeRun}
use Rattle.run.specs.Opening.{opening_of}
use Rattle.run.specs.State.{terms_of, count_of, has_started}
use Rattle.run.specs.declared.Opening.{Opening}
use Rattle.run.specs.declared.Run.{Run}
use Rattle.run.specs.declared.Terms.{Terms}
use Rattle.journal.specs.Format.{opened_with, record_words}
use Rattle.journal.specs.Writing.{is_replayed, written_output}
use Rattle.recording.specs.Call.{rule_calls_in, snapshot_of, no_requests, recording_questions, RecordOutput, with_total, not_recorded, record_call}
use Rattle.recording.specs.Layout.{recording_bytes}
use Rattle.recording.proofs.Complete.{if-complete}
use Rattle.recording.proofs.Zones.{calls-allowed}

-- What the recording's calls ask of the run t and show of it is what they ask of r and show of it.
pub record SameRecording (r t : Run) : Type 0 where
  pub replayed : is_replayed t ≡ is_replayed r
  pub started : has_started t.head ≡ has_started r.head
  pub free : no_requests (count_of t.head) t.channels ≡ no_requests (count_of r.head) r.channels
  pub terms : terms_of t.head ≡ terms_of r.head
  pub shown : snapshot_of t ≡ snapshot_of r

pub same-questions : (r t : Run) → SameRecording r t → (bytes lent : List ℕ) → recording_questions t bytes lent ≡ recording_questions r bytes lent
same-questions r t same bytes lent = rw (same.replayed, same.started, same.free)

pub same-record : (r t : Run) → SameRecording r t → (lent : List ℕ) → record_call t lent ≡ record_call r lent
unfolding record_call
same-record r t same lent =
    ap (λ (qs : List Question). ask qs (not_recorded lent) (output (terms_of t.head) (snapshot_of t)))
    (same-questions r t same (recording_bytes (terms_of t.head) (snapshot_of t)) lent)
    ∙ ap₂ (λ (x : Terms) (y : Snapshot). ask (recording_questions r (recording_bytes x y) lent) (not_recorded lent) (output x y))
    same.terms same.shown
  where
    output : Terms → Snapshot → RecordOutput
    output x y = with_total (total x.count y.park) (written_output lent (recording_bytes x y))

-- Two runs whose journals replay to them; the second has the opening of the first and its calls, and then the calls ds.
module _ (r t : Run) (whole-r : WholeRun r) (whole-t : WholeRun t) (is-r : is_replayed r ≡ true) (is-t : is_replayed t ≡ true)
    (opening : opened_with t ≡ opened_with r) (ds : List Call) (calls : rule_calls_in (record_words t) ≡ rule_calls_in (record_words r) ++ ds)
    (complete : Complete (run (rule_calls_in (record_words r)) (open_s (opening_of (opened_with r))))) where
  abbrev both : List Call
  both = rule_calls_in (record_words r) ++ ds

  -- By the rules: the opening and all the calls.
  pub further-stays : Complete (run both (open_s (opening_of (opened_with r)))) × (snapshot (opening_of (opened_with r)) both ≡ snapshot_of r)
  further-stays =
      complete-stays (opening_of (opened_with r)) (rule_calls_in (record_words r)) ds
      (subst (λ (cs : List Call). Allowed cs (open_s (opening_of (opened_with r)))) calls
      (subst (λ (o : Opening). Allowed (rule_calls_in (record_words t)) (open_s (opening_of o))) opening (calls-allowed t whole-t is-t))) complete

  -- So over the runs.
  pub same-recording : SameRecording r t
  same-recording =
      let first = if-complete r whole-r is-r complete in
      let later = if-complete t whole-t is-t
      (subst (λ (o : Opening). Complete (run (rule_calls_in (record_words t)) (open_s (opening_of o)))) (sym opening)
      (subst (λ (cs : List Call). Complete (run cs (open_s (opening_of (opened_with r))))) (sym calls) further-stays.0)) in
      record {
        replayed = is-t ∙ sym is-r;
        started = later.0 ∙ sym first.0;
        free = later.1 ∙ sym first.1;
        terms = ap (λ (o : Opening). o.terms) opening;
        shown = ap₂ (λ (o : Opening) (cs : List Call). snapshot (opening_of o) cs) opening calls ∙ further-stays.1;
      }
