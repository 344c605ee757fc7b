-- 1,105 bytes are enough for any page: no site has more than 56 channels.
use mathlib.Core.Path.{◌≡◌, refl, ap, subst}
use mathlib.Core.Bool.{Bool, true, false, cond}
use mathlib.Core.Logic.{◌≢◌}
use mathlib.Core.List.{List, [], ◌∷◌}
use Prim.Native.Nat.{ℕ, ◌/◌, ◌%◌, ◌≤◌}
use native.Mathlib.Omega.{arith}
use lib.Dec.{eqb}
use lib.ListN.{length}
use borrow.Author.Tests.{eqb-true, le-leb}
use Rattle.rules.specs.Cut.{Snapshot}
use Rattle.rules.specs.Questions.{question, ask}
use Rattle.rules.proofs.Sums.{sum-le}
use Rattle.run.specs.Claims.{WholeRun}
use Rattle.run.specs.State.{has_started, count_of}
use Rattle.run.specs.declared.Run.{Run}
use Rattle.run.proofs.Parts.{on_site, between}
use Rattle.journal.specs.Reading.{read_call}
use Rattle.journal.specs.Writing.{is_replayed, Output, refused_output, written_output}
use Rattle.journal.proofs.Accepted.{read-replayed}
use Rattle.recording.specs.Call.{snapshot_of, no_requests, recorded_total}
use Rattle.recording.proofs.Read.{read_whole}
use Rattle.recording.proofs.Shows.{Fits, snapshot-fits}
use Rattle.page.specs.Layout.{lines_of, lines_before, channel_lines, most_page_bytes}
use Rattle.page.specs.Call.{page_of, page_call}
use Rattle.page.proofs.Lines.{page-length}

-- A channel has one line at most, and none from a zone to itself.
one_line : (cs : List ℕ) → lines_of cs ≤ 1
one_line [] = omega arith
one_line (c ∷ cs) = omega arith

pub lines-most : (count : ℕ) (s : Snapshot) → Fits count s → channel_lines s ≤ 56
unfolding channel_lines lines_before
lines-most count s fits = sum-le 64 _ (λ k. cond (eqb (k / 8) (k % 8)) 0 1) (λ k h. at k (eqb (k / 8) (k % 8)) refl)
  where
    none : (i : ℕ) (p : Bool) → on_site count i i ≡ p → p ≡ false
    none i true o = absurd ((between count i i o).apart refl)
    none i false o = refl

    at : (k : ℕ) (p : Bool) → eqb (k / 8) (k % 8) ≡ p → lines_of (s.park.channel (k / 8) (k % 8)) ≤ cond p 0 1
    at k true e =
        let same = eqb-true (k / 8) (k % 8) e in
        let empty = fits.channel-off (k / 8) (k / 8) (none (k / 8) (on_site count (k / 8) (k / 8)) refl) in
        omega (arith, ap lines_of (subst (λ (j : ℕ). s.park.channel (k / 8) j ≡ []) same empty))
    at k false e = one_line (s.park.channel (k / 8) (k % 8))

pub page-most : (r : Run) → WholeRun r → is_replayed r ≡ true → length (page_of r) ≤ most_page_bytes
page-most r w e =
    let fits = snapshot-fits r w e in
    omega (arith, page-length (count_of r.head) (snapshot_of r) (recorded_total r), lines-most (count_of r.head) (snapshot_of r) fits, fits.most)

-- So the page of a run that was read from a journal is never refused with 1, and with 1,105 bytes never with 14.
never : (b c : Bool) (lent : List ℕ) (x : Output) → x.answer.refusal ≡ 0
    → let o = ask (question 1 true ∷ question 12 b ∷ question 13 c ∷ question 14 true ∷ []) (refused_output lent) x in
    (o.answer.refusal ≢ 1) × (o.answer.refusal ≢ 14)
never false c lent x e = (λ (q : ◌≡◌ {A = ℕ} 12 1). absurd (omega arith), λ (q : ◌≡◌ {A = ℕ} 12 14). absurd (omega arith))
never true false lent x e = (λ (q : ◌≡◌ {A = ℕ} 13 1). absurd (omega arith), λ (q : ◌≡◌ {A = ℕ} 13 14). absurd (omega arith))
never true true lent x e = (λ q. absurd (omega (arith, e, q)), λ q. absurd (omega (arith, e, q)))

pub page-never : (journal lent : List ℕ) → (read_call journal).refusal ≡ 0 → most_page_bytes ≤ length lent
    → ((page_call (read_call journal).run lent).answer.refusal ≢ 1) × ((page_call (read_call journal).run lent).answer.refusal ≢ 14)
unfolding page_call
page-never journal lent e h =
    let read = (read_call journal).run in
    let m = page-most read (read_whole journal lent e) (read-replayed journal e) in
    rw (read-replayed journal e, le-leb (length (page_of read)) (length lent) (omega (arith, m, h)))
    (never (has_started read.head) (no_requests (count_of read.head) read.channels) lent (written_output lent (page_of read)) refl)
