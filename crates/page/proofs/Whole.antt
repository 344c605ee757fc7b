-- Every number of a complete recording fits its column, and the page is what the recording's bytes show.
use mathlib.Core.Path.{◌≡◌, ap₂}
use mathlib.Core.Bool.{true}
use mathlib.Core.List.{List, ◌++◌}
use Prim.Native.Nat.{ℕ, ◌/◌, ◌%◌}
use native.Mathlib.Omega.{arith}
use Rattle.rules.specs.Cut.{Snapshot}
use Rattle.run.specs.Claims.{WholeRun}
use Rattle.run.specs.State.{has_started, terms_of, count_of}
use Rattle.run.specs.declared.Run.{Run}
use Rattle.words.specs.Bytes.{word_at}
use Rattle.words.specs.Header.{zones_in}
use Rattle.journal.specs.Writing.{is_replayed}
use Rattle.recording.specs.Call.{snapshot_of, no_requests, recorded_total}
use Rattle.recording.specs.Layout.{recording_bytes}
use Rattle.recording.specs.Shown.{shown_in}
use Rattle.recording.proofs.Bounds.{words-on, stock-few, events-few}
use Rattle.recording.proofs.Most.{total-most, channel-most, items-most}
use Rattle.recording.proofs.Shows.{snapshot-fits, zones-shown, recording-shows}
use Rattle.page.specs.Call.{page_of}
use Rattle.page.specs.Claims.{NothingCut}
use Rattle.page.specs.Layout.{page_with}
use Rattle.page.proofs.ReadBack.{events-read, stock-read, items-read, cars-read, total-read}

module _ (r : Run) (w : WholeRun r) (e : is_replayed r ≡ true) where
  -- At most 1,000 events and items, 65,535 cars in a zone, 320,280 on a channel and in all.
  pub nothing-cut : has_started r.head ≡ true → no_requests (count_of r.head) r.channels ≡ true
      → NothingCut (count_of r.head) (snapshot_of r) (page_of r)
  nothing-cut s q =
      let count = count_of r.head in
      let shown = snapshot_of r in
      let n = recorded_total r in
      record {
        events = λ i b. events-read count shown n i b (omega (arith, events-few r w e i));
        stock = λ i b. stock-read count shown n i b (omega (arith, stock-few r w e i));
        items = λ k b some. items-read count shown n k b some (omega (arith, items-most r w e (k / 8) (k % 8)));
        cars = λ k b some. cars-read count shown n k b some (omega (arith, channel-most r w e (k / 8) (k % 8), total-most r w e s q));
        whole = total-read count shown n (omega (arith, total-most r w e s q));
      }

  -- The zones, events, stocks and items that the recording's bytes show, whatever stands behind them, make the page, with the recorded total.
  pub page-shows : (rest : List ℕ)
      → let bytes = recording_bytes (terms_of r.head) (snapshot_of r) ++ rest in
      page_with (zones_in (word_at bytes 0)) (shown_in bytes) (recorded_total r) ≡ page_of r
  page-shows rest =
      ap₂ (λ (n : ℕ) (s : Snapshot). page_with n s (recorded_total r)) (zones-shown (terms_of r.head) (snapshot_of r) (snapshot-fits r w e) (words-on r w e) rest) (recording-shows r w e rest)
