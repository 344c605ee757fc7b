-- What is claimed of a page call after a list of calls from an accepted opening, beside a recording call on the same run.
use Rattle.std.specs.Prelude.{◌≡◌, false, List, [], ◌∷◌, ℕ, ◌≤◌, ◌<◌, length, take}
use Rattle.rules.specs.Cut.{Complete, run, snapshot}
use Rattle.rules.specs.Questions.{Among}
use Rattle.rules.specs.Site.{Call, open_s}
use Rattle.rules.specs.Zone.{is_permanent}
use Rattle.run.specs.Opening.{opening_of}
use Rattle.run.specs.declared.Opening.{Opening}
use Rattle.words.specs.Bytes.{word_at}
use Rattle.words.specs.Header.{zones_in}
use Rattle.journal.specs.Answers.{Written}
use Rattle.recording.specs.Shown.{shown_in}
use Rattle.recording.specs.Answers.{Recorded}
use Rattle.page.specs.Claims.{NothingCut}
use Rattle.page.specs.Layout.{most_page_bytes, page_with, page_text}

-- o: the opening; cs: the accepted calls in order; lent: the bytes lent to the page call; w, bytes: what it answered, and the lent bytes after
-- it; v, shown: what the recording call answered, and the bytes lent to it, after it.
pub record PageDemand (o : Opening) (cs : List Call) (lent : List ℕ) (w : Written) (bytes : List ℕ) (v : Recorded) (shown : List ℕ) : Type 0 where
  -- The page is what the recording's bytes show: the zones, firm or not, with their events and stocks, the items, and the total that the
  -- recording call answers.
  pub shows : w.refusal ≡ 0 → v.refusal ≡ 0
      → take w.written bytes ≡ page_with (zones_in (word_at (take v.written shown) 0)) (shown_in (take v.written shown)) v.total
  -- It is the page of the recording of the rules, and every number of that is read back from it.
  pub page : w.refusal ≡ 0 → take w.written bytes ≡ page_text o.terms.count (snapshot (opening_of o) cs)
  pub nothing-cut : w.refusal ≡ 0 → NothingCut o.terms.count (snapshot (opening_of o) cs) (take w.written bytes)
  -- "Questions are those of the recording, 14 for the page's bytes."
  pub only-complete : w.refusal ≡ 0 → Complete (run cs (open_s (opening_of o)))
  pub if-complete : Complete (run cs (open_s (opening_of o))) → length (page_text o.terms.count (snapshot (opening_of o) cs)) ≤ length lent → w.refusal ≡ 0
  pub refusals : Among w.refusal (0 ∷ 12 ∷ 13 ∷ 14 ∷ [])
  pub not-started : w.refusal ≡ 12 → (z : ℕ) → is_permanent ((run cs (open_s (opening_of o))).zone z).checkpoint ≡ false
  pub not-complete : w.refusal ≡ 13 → Complete (run cs (open_s (opening_of o))) → ⊥
  pub too_few : w.refusal ≡ 14 → Complete (run cs (open_s (opening_of o))) × (length lent < length (page_text o.terms.count (snapshot (opening_of o) cs)))
  -- 1,105 bytes are enough for any page.
  pub enough : length (page_text o.terms.count (snapshot (opening_of o) cs)) ≤ most_page_bytes
