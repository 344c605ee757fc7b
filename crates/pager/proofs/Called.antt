-- The page calls by what the recording call answers, which is lent 2,034 bytes of the call's own.
use mathlib.Core.Path.{◌≡◌, refl, sym, ap, ap₂, subst, ◌∙◌}
use mathlib.Core.Bool.{Bool, true, false, cond}
use mathlib.Core.Logic.{◌≢◌}
use mathlib.Core.List.{List, [], ◌++◌}
use Prim.Native.Nat.{ℕ, zero, suc, ◌/◌, ◌<◌, ◌≤◌}
use native.Mathlib.Omega.{arith}
use lib.Dec.{eqb}
use lib.ListN.{length, drop, length-append}
use borrow.Author.Tests.{eqb-true, eqb-false}
use Rattle.rules.proofs.Lists.{All, all_append, all_map}
use Rattle.channel.specs.Channels.{is_channel}
use Rattle.run.specs.Claims.{WholeRun}
use Rattle.run.specs.State.{terms_of, count_of}
use Rattle.run.specs.declared.Run.{Run}
use Rattle.journal.specs.Reading.{read_call}
use Rattle.journal.specs.Writing.{is_replayed, Output, refused_output, written_output, PositionedOutput, positioned}
use Rattle.journal.specs.Answers.{Written}
use Rattle.recording.specs.Call.{snapshot_of, recorded_total, record_call}
use Rattle.recording.specs.Journal.{JournalOutput, output_of, unread_output, record_journal}
use Rattle.recording.specs.Layout.{join_below, channel_words, item_words, recording_bytes}
use Rattle.recording.specs.Answers.{JournalRecorded, Recorded}
use Rattle.recording.proofs.Asked.{accepted, refused-alike}
use Rattle.recording.proofs.Bounds.{words-on}
use Rattle.recording.proofs.Read.{read_whole}
use Rattle.recording.proofs.Shows.{snapshot-fits, zones-shown, number-shown, items_shown}
use Rattle.recording.proofs.Sized.{recording-length}
use Rattle.page.specs.Call.{page_of, page_call}
use Rattle.page.specs.Journal.{page_journal}
use Rattle.page.proofs.Whole.{page-shows}
use Rattle.pager.specs.InnerLines.{Holds, page_in, sized_page}

all-joined : (P : ℕ → Type 0) (n : ℕ) (f : ℕ → List ℕ) → ((k : ℕ) → k < n → All P (f k)) → All P (join_below n f)
all-joined P zero f h = tt
all-joined P (suc n) f h = all_append P (join_below n f) (f n) (all-joined P n f (λ k b. h k (omega arith))) (h n (omega arith))

-- What a recording shows, whatever stands behind it.
module _ (r : Run) (w : WholeRun r) (e : is_replayed r ≡ true) (rest : List ℕ) where
  abbrev bytes : List ℕ
  bytes = recording_bytes (terms_of r.head) (snapshot_of r)

  on-channels : All (λ w. w / 256 < 64) (item_words (count_of r.head) (snapshot_of r))
  unfolding item_words
  on-channels = all-joined _ 64 (λ k. cond (is_channel (count_of r.head) k) (channel_words (snapshot_of r) k) []) (λ k h. at k h (is_channel (count_of r.head) k))
    where
      at : (k : ℕ) → k < 64 → (b : Bool) → All (λ w. w / 256 < 64) (cond b (channel_words (snapshot_of r) k) [])
      at k h true = all_map (λ w. w / 256 ≡ k) (λ w. w / 256 < 64) (channel_words (snapshot_of r) k) (λ w q. omega arith) (words-on r w e k h)
      at k h false = tt

  holds : Holds (recording_bytes (terms_of r.head) (snapshot_of r) ++ rest)
  holds =
      let t = terms_of r.head in
      let s = snapshot_of r in
      let fits = snapshot-fits r w e in
      let on = words-on r w e in
      record {
        room = omega (arith, zones-shown t s fits on rest, number-shown t s fits on rest, recording-length t s, length-append bytes rest);
        channels = subst (All (λ w. w / 256 < 64)) (sym (items_shown t s fits on rest)) on-channels;
      }

  page-is : page_in (recording_bytes (terms_of r.head) (snapshot_of r) ++ rest) (recorded_total r) ≡ page_of r
  unfolding page_in
  page-is = page-shows r w e rest

-- The page call on a run.
module _ (r : Run) (w : WholeRun r) (own lent : List ℕ) where
  refused-page : 2034 ≤ length own → (record_call r own).answer.refusal ≢ 0 → page_call r lent ≡ refused_output lent (record_call r own).answer.refusal
  unfolding page_call
  refused-page most z = refused-alike r own w most (refused_output lent) (written_output lent (page_of r)) (page_of r) lent z

  recorded-page : (record_call r own).answer.refusal ≡ 0
      → Holds (record_call r own).bytes × (sized_page lent (page_in (record_call r own).bytes (record_call r own).answer.total) ≡ page_call r lent)
  unfolding page_call sized_page
  recorded-page z =
      let a = accepted r own z in
      let rest = drop (length (recording_bytes (terms_of r.head) (snapshot_of r))) own in (
        rw a.output (holds r w a.replayed rest),
        rw (a.output, page-is r w a.replayed rest, a.replayed, a.started, a.free),
      )

  module _ (done : Recorded) (e : done ≡ (record_call r own).answer) where
    pub run-refused : 2034 ≤ length own → (p : Written) → done.refusal ≢ 0 → p ≡ record { refusal = done.refusal; written = 0 }
        → (p ≡ (page_call r lent).answer) × (lent ≡ (page_call r lent).bytes)
    run-refused most p z f =
        let h = refused-page most (subst (λ (d : Recorded). d.refusal ≢ 0) e z) in
        (f ∙ ap (λ (d : Recorded). record { refusal = d.refusal; written = 0 }) e ∙ ap (λ (o : Output). o.answer) (sym h), ap (λ (o : Output). o.bytes) (sym h))

    module _ (out : List ℕ) (f : out ≡ (record_call r own).bytes) (z : done.refusal ≡ 0) where
      recorded : Holds (record_call r own).bytes × (sized_page lent (page_in (record_call r own).bytes (record_call r own).answer.total) ≡ page_call r lent)
      recorded = recorded-page (ap (λ (d : Recorded). d.refusal) (sym e) ∙ z)

      pub run_holds : Holds out
      run_holds = subst Holds (sym f) recorded.0

      pub run-page : sized_page lent (page_in out done.total) ≡ page_call r lent
      run-page = ap₂ (λ (b : List ℕ) (d : Recorded). sized_page lent (page_in b d.total)) f e ∙ recorded.1

-- The page call on a journal.
module _ (journal own lent : List ℕ) where
  abbrev read : Run
  read = (read_call journal).run

  abbrev recorded_if : Bool → JournalOutput
  recorded_if b = cond b (output_of (record_call read own)) (unread_output own (read_call journal).refusal (read_call journal).position)

  abbrev page_if : Bool → PositionedOutput
  page_if b =
      cond b (positioned 0 (page_call read lent)) (positioned (read_call journal).position (refused_output lent (read_call journal).refusal))

  whole : eqb (read_call journal).refusal 0 ≡ true → WholeRun read
  whole h = read_whole journal [] (eqb-true (read_call journal).refusal 0 h)

  refused-if : 2034 ≤ length own → (b : Bool) → eqb (read_call journal).refusal 0 ≡ b → (recorded_if b).answer.refusal ≢ 0
      → (record { refusal = (recorded_if b).answer.refusal; position = (recorded_if b).answer.position; written = 0 } ≡ (page_if b).answer)
      × (lent ≡ (page_if b).bytes)
  refused-if most true h z = rw (refused-page read (whole h) own lent most z) (refl, refl)
  refused-if most false h z = (refl, refl)

  recorded-if : (b : Bool) → eqb (read_call journal).refusal 0 ≡ b → (recorded_if b).answer.refusal ≡ 0
      → Holds (recorded_if b).bytes × (positioned 0 (sized_page lent (page_in (recorded_if b).bytes (recorded_if b).answer.total)) ≡ page_if b)
  recorded-if true h z = let p = recorded-page read (whole h) own lent z in (p.0, ap (positioned 0) p.1)
  recorded-if false h z = absurd (eqb-false (read_call journal).refusal 0 h z)

  module _ (done : JournalRecorded) (e : done ≡ (record_journal journal own).answer) where
    pub journal-refused : 2034 ≤ length own → done.refusal ≢ 0
        → (record { refusal = done.refusal; position = done.position; written = 0 } ≡ (page_journal journal lent).answer)
        × (lent ≡ (page_journal journal lent).bytes)
    unfolding record_journal page_journal
    journal-refused most z =
        let h = refused-if most (eqb (read_call journal).refusal 0) refl (subst (λ (d : JournalRecorded). d.refusal ≢ 0) e z) in
        (ap (λ (d : JournalRecorded). record { refusal = d.refusal; position = d.position; written = 0 }) e ∙ h.0, h.1)

    module _ (out : List ℕ) (f : out ≡ (record_journal journal own).bytes) (z : done.refusal ≡ 0) where
      read-recorded : Holds (record_journal journal own).bytes
          × (positioned 0 (sized_page lent (page_in (record_journal journal own).bytes (record_journal journal own).answer.total)) ≡ page_journal journal lent)
      unfolding record_journal page_journal
      read-recorded = recorded-if (eqb (read_call journal).refusal 0) refl (ap (λ (d : JournalRecorded). d.refusal) (sym e) ∙ z)

      pub journal-holds : Holds out
      journal-holds = subst Holds (sym f) read-recorded.0

      pub journal-page : (p : Written) (after : List ℕ) → p ≡ (sized_page lent (page_in out done.total)).answer
          → after ≡ (sized_page lent (page_in out done.total)).bytes
          → (record { refusal = p.refusal; position = 0; written = p.written } ≡ (page_journal journal lent).answer)
          × (after ≡ (page_journal journal lent).bytes)
      journal-page p after g h =
          let q = ap₂ (λ (b : List ℕ) (d : JournalRecorded). positioned 0 (sized_page lent (page_in b d.total))) f e ∙ read-recorded.1 in (
            ap (λ (w : Written). record { refusal = w.refusal; position = 0; written = w.written }) g ∙ ap (λ (o : PositionedOutput). o.answer) q,
            h ∙ ap (λ (o : PositionedOutput). o.bytes) q,
          )
