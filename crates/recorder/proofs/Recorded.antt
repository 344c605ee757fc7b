-- The words that are written for a run that question 1 passes are those of its recording by the rules.
use mathlib.Core.Path.{◌≡◌, refl, sym, ◌∙◌, ap, ap₂, subst}
use mathlib.Core.Bool.{true, cond, false}
use mathlib.Core.Logic.{◌≢◌}
use mathlib.Core.List.{List, [], ◌∷◌, ◌++◌}
use Prim.Native.Nat.{ℕ, suc, ◌<◌, ◌-◌, ◌≤◌}
use native.Mathlib.Omega.{arith}
use lib.Dec.{ltb}
use lib.ListN.{length, take, get_or, drop, length-append, length-take, length-drop}
use lib.Seq.{length-take-le, take_at}
use borrow.Author.Tests.{lt-ltb, eq-eqb, ne_eqb}
use Rattle.rules.specs.Cut.{events_of}
use Rattle.run.specs.Claims.{WholeRun}
use Rattle.run.specs.State.{zone_at, has_started, terms_of, count_of}
use Rattle.run.specs.declared.Run.{Run}
use Rattle.run.proofs.BelowLaws.{list_at}
use Rattle.words.specs.Bytes.{words_bytes}
use Rattle.journal.specs.Format.{header_of}
use Rattle.recording.specs.Answers.{Recorded}
use Rattle.recording.specs.InnerTotal.{total_in}
use Rattle.recording.proofs.Shows.{recording-total}
use Rattle.journal.specs.Answers.{Reading}
use Rattle.journal.specs.Reading.{opening_in, records_in, records_of}
use Rattle.journal.proofs.Accepted.{read-tells, read-replayed}
use Rattle.recording.proofs.Read.{read_whole}
use Rattle.recording.specs.Journal.{record_journal}
use Rattle.words.proofs.ByteLaws.{words-length}
use Rattle.journal.specs.InnerOrdinals.{ordinals_of}
use Rattle.journal.specs.Writing.{is_replayed}
use Rattle.recording.specs.Call.{snapshot_of, recorded_total, no_requests, record_call}
use Rattle.recording.specs.Layout.{join_below, zone_words, item_words, recording_bytes}
use Rattle.recording.proofs.Bounds.{run_sound, items-few, events-few}
use Rattle.recording.proofs.Zones.{words_at, first_run, events-are, zone-words-are, item-words-are}
use Rattle.items.specs.InnerItems.{all_words, words_at as items_at_index}
use Rattle.recorder.specs.InnerWords.{zones_words, shown_events, items_words, recorded_bytes, Fitting, sized_output, written_total, Replayed}
use Rattle.journal.specs.Reading.{read_call, opening_in}
use Rattle.run.specs.Opening.{opened_run}
use Rattle.recording.specs.Journal.{record_journal}
use Rattle.run.specs.declared.Opening.{Opening}

ordinals-length : (ws : List ℕ) (r : Run) → length (ordinals_of ws r) ≡ length ws
ordinals-length [] r = refl
ordinals-length (w ∷ ws) r = ap suc (ordinals-length ws _)

module _ (r : Run) (w : WholeRun r) (e : is_replayed r ≡ true) where
  -- The own-event ordinals of the records.
  abbrev pub ordinals_at : List ℕ
  ordinals_at = ordinals_of (words_at r) (first_run r)

  shown-at : (i : ℕ) → i < count_of r.head → get_or (shown_events r.head) i 0 ≡ events_of (zone_at r.head i).checkpoint
  unfolding shown_events
  shown-at i h =
      list_at 8 (λ j. cond (ltb j (count_of r.head)) (events_of (zone_at r.head j).checkpoint) 0) 0 i (omega (arith, (run_sound r w e).most))
      ∙ rw (lt-ltb i (count_of r.head) h)

  items-are : item_words (count_of r.head) (snapshot_of r) ≡ items_words r.head (words_at r) ordinals_at
  unfolding all_words items_at_index
  items-are = item-words-are r w e (shown_events r.head) shown-at

  zones-are : join_below (count_of r.head) (zone_words (snapshot_of r)) ≡ zones_words r.head
  unfolding zones_words
  zones-are = zone-words-are r w e

  pub bytes-are : recorded_bytes r.head (words_at r) ordinals_at ≡ recording_bytes (terms_of r.head) (snapshot_of r)
  unfolding recorded_bytes recording_bytes
  bytes-are =
      ap₂ (λ (zs is : List ℕ). words_bytes (header_of (terms_of r.head) (length is) ∷ zs ++ is)) (sym zones-are) (sym items-are)

  records-length : length (words_at r) ≡ r.head.records
  records-length = length-take-le r.head.records r.journal (omega (arith, w.journal, (run_sound r w e).records))

  pub fitting : Fitting r.head (words_at r) ordinals_at
  fitting = record {
    edition = (run_sound r w e).edition;
    fewest = omega (arith, (run_sound r w e).fewest);
    most = (run_sound r w e).most;
    events = λ i h. omega (arith, events-few r w e i, events-are r w e i h);
    records = omega (arith, records-length, (run_sound r w e).records);
    numbers = ordinals-length (words_at r) (first_run r);
    items = omega (arith, ap length items-are, items-few r w e, (run_sound r w e).records);
  }

  -- The ordinals stand at the front of what was lent for them.
  pub ordinals-records : length ordinals_at ≡ r.head.records
  ordinals-records = ordinals-length (words_at r) (first_run r) ∙ records-length

  pub ordinals-front : (rest : List ℕ) → take r.head.records (ordinals_at ++ rest) ≡ ordinals_at
  ordinals-front rest = take_at ordinals_at rest r.head.records ordinals-records

  -- The total that they show is the recorded one.
  total-is : (lent : List ℕ) → written_total r.head (words_at r) ordinals_at lent ≡ recorded_total r
  total-is lent =
      ap₂ (λ (n : ℕ) (bytes : List ℕ). total_in (count_of r.head) n (bytes ++ drop (length bytes) lent)) (ap length (sym items-are)) bytes-are
      ∙ recording-total r w e _

  -- After questions 1, 12 and 13 what is left is question 14 and these bytes.
  pub sized-is : (lent ws ns : List ℕ) → ws ≡ words_at r → ns ≡ ordinals_at → has_started r.head ≡ true
      → no_requests (count_of r.head) r.channels ≡ true
      → sized_output lent (written_total r.head ws ns lent) (recorded_bytes r.head ws ns) ≡ record_call r lent
  unfolding record_call sized_output
  sized-is lent ws ns p q started free = rw (p, q, total-is lent, bytes-are, e, started, free)

  -- What was lent for the ordinals has them at its front, and its length.
  pub replayed-from : (ordinals after : List ℕ) → length ordinals ≡ 1000 → after ≡ ordinals_at ++ drop r.head.records ordinals
      → Replayed r after × (length after ≡ 1000)
  replayed-from ordinals after l q = (
    record { whole = w; asked = e; numbers = ap (take r.head.records) q ∙ ordinals-front _ },
    ap length q ∙ omega (
      arith,
      length-append ordinals_at (drop r.head.records ordinals),
      length-drop r.head.records ordinals,
      ordinals-records,
      (run_sound r w e).records,
    ),
  )

-- The refusals behind question 1.
module _ (r : Run) (e : is_replayed r ≡ true) (lent : List ℕ) (w : Recorded) where
  pub refused-12 : has_started r.head ≡ false → w ≡ record { refusal = 12; written = 0; total = 0 }
      → (w ≡ (record_call r lent).answer) × (lent ≡ (record_call r lent).bytes)
  unfolding record_call
  refused-12 s q = rw (e, s) (q, refl)

  pub refused-13 : has_started r.head ≡ true → no_requests (count_of r.head) r.channels ≡ false → w ≡ record { refusal = 13; written = 0; total = 0 }
      → (w ≡ (record_call r lent).answer) × (lent ≡ (record_call r lent).bytes)
  unfolding record_call
  refused-13 s f q = rw (e, s, f) (q, refl)

pub refused-1 : (r : Run) (lent : List ℕ) (w : Recorded) → is_replayed r ≡ false → w ≡ record { refusal = 1; written = 0; total = 0 }
    → (w ≡ (record_call r lent).answer) × (lent ≡ (record_call r lent).bytes)
unfolding record_call
refused-1 r lent w e q = rw e (q, refl)

-- The records and the ordinals that are passed on are those of the run.
module _ (r : Run) (ordinals : List ℕ) (p : Replayed r ordinals) where
  less_none : r.head.records - 0 ≡ r.head.records
  less_none = omega arith

  words_are : take (r.head.records - 0) r.journal ≡ words_at r
  words_are = ap (λ (n : ℕ). take n r.journal) less_none

  ordinals-are : take (r.head.records - 0) ordinals ≡ ordinals_at r p.whole p.asked
  ordinals-are = ap (λ (n : ℕ). take n ordinals) less_none ∙ p.numbers

  pub enough-ordinals : r.head.records ≤ length ordinals
  enough-ordinals = omega (arith, length-take r.head.records ordinals, ap length p.numbers, ordinals-records r p.whole p.asked)

  pub enough-words : r.head.records ≤ length r.journal
  enough-words = omega (arith, p.whole.journal, (run_sound r p.whole p.asked).records)

  pub parts-fit : Fitting r.head (take (r.head.records - 0) r.journal) (take (r.head.records - 0) ordinals)
  parts-fit =
      subst (λ (ws : List ℕ). Fitting r.head ws (take (r.head.records - 0) ordinals)) (sym words_are)
      (subst (Fitting r.head (words_at r)) (sym ordinals-are) (fitting r p.whole p.asked))

  pub parts-written : (lent : List ℕ) → has_started r.head ≡ true → no_requests (count_of r.head) r.channels ≡ true
      → sized_output lent (written_total r.head (take (r.head.records - 0) r.journal) (take (r.head.records - 0) ordinals) lent)
      (recorded_bytes r.head (take (r.head.records - 0) r.journal) (take (r.head.records - 0) ordinals)) ≡ record_call r lent
  parts-written lent s f = sized-is r p.whole p.asked lent _ _ words_are ordinals-are s f

-- The same of a run that was just read.
module _ (bytes : List ℕ) (t : Reading) (q : t ≡ read_call bytes) (z : t.refusal ≡ 0) where
  accepted : (read_call bytes).refusal ≡ 0
  accepted = ap (λ (x : Reading). x.refusal) (sym q) ∙ z

  pub read-from : (ordinals after : List ℕ) → length ordinals ≡ 1000
      → after ≡ ordinals_of (records_in bytes) (opened_run (opening_in bytes)) ++ drop (records_of bytes) ordinals
      → Replayed t.run after × (length after ≡ 1000)
  read-from ordinals after l e =
      let r = (read_call bytes).run in
      let w = read_whole bytes [] accepted in
      let k = read-replayed bytes accepted in
      let h = read-tells bytes accepted in
      let n : records_of bytes ≡ r.head.records = sym (words-length bytes _ _) ∙ sym h.number in
      let f : after ≡ ordinals_at r w k ++ drop r.head.records ordinals =
      e ∙ ap₂ (λ (ws : List ℕ) (o : Opening). ordinals_of ws (opened_run o) ++ drop (records_of bytes) ordinals) (sym h.records) (sym h.opening)
      ∙ ap (λ (n : ℕ). ordinals_at r w k ++ drop n ordinals) n in
      subst (λ (x : Reading). Replayed x.run after × (length after ≡ 1000)) (sym q) (replayed-from r w k ordinals after l f)

  pub journal-recorded : (lent : List ℕ) (w : Recorded) (out : List ℕ) → w ≡ (record_call t.run lent).answer → out ≡ (record_call t.run lent).bytes
      → (record { refusal = w.refusal; position = 0; written = w.written; total = w.total } ≡ (record_journal bytes lent).answer)
      × (out ≡ (record_journal bytes lent).bytes)
  unfolding record_journal
  journal-recorded lent w out f g = rw (f, g, q, eq-eqb _ _ accepted) (refl, refl)

pub journal-refused : (bytes lent : List ℕ) (t : Reading) → t ≡ read_call bytes → t.refusal ≢ 0
    → (record { refusal = t.refusal; position = t.position; written = 0; total = 0 } ≡ (record_journal bytes lent).answer)
    × (lent ≡ (record_journal bytes lent).bytes)
unfolding record_journal
journal-refused bytes lent t q z = rw (q, ne_eqb _ _ (subst (λ (x : Reading). x.refusal ≢ 0) q z)) (refl, refl)
