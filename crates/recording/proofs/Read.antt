-- The recording of a run that was read from a journal is never refused with 1, and with 2,034 bytes never with 14.
use mathlib.Core.Path.{◌≡◌, refl, sym, subst}
use mathlib.Core.Bool.{Bool, true, false, cond}
use mathlib.Core.Logic.{◌≢◌}
use mathlib.Core.List.{List}
use Prim.Native.Nat.{ℕ, ◌≤◌}
use native.Mathlib.Omega.{arith}
use lib.Dec.{leb}
use lib.ListN.{length}
use borrow.Author.Tests.{le-leb}
use Rattle.run.specs.Claims.{WholeRun}
use Rattle.run.specs.State.{has_started, terms_of, count_of}
use Rattle.run.specs.declared.Run.{Run}
use Rattle.run.proofs.Whole.{after-whole, open-whole}
use Rattle.journal.specs.Format.{calls_in}
use Rattle.journal.specs.Reading.{records_in, read_call, opening_in}
use Rattle.journal.specs.Writing.{written_output}
use Rattle.journal.proofs.Accepted.{read-comes, read-replayed}
use Rattle.recording.specs.Call.{no_requests, snapshot_of, RecordOutput, with_total, not_recorded, recorded_total, record_call}
use Rattle.recording.specs.Layout.{most_recording_bytes, recording_bytes}
use Rattle.recording.proofs.Sized.{recording-most}

-- What is left of the recording call's questions.
abbrev asked : Bool → Bool → Bool → List ℕ → RecordOutput → RecordOutput
asked started free enough lent x = cond started (cond free (cond enough x (not_recorded lent 14)) (not_recorded lent 13)) (not_recorded lent 12)

never-1 : (a b c : Bool) (lent : List ℕ) (x : RecordOutput) → x.answer.refusal ≡ 0 → (asked a b c lent x).answer.refusal ≢ 1
never-1 true true true lent x e h = absurd (omega (arith, e, h))
never-1 true true false lent x e h = absurd (omega (arith, h))
never-1 true false c lent x e h = absurd (omega (arith, h))
never-1 false b c lent x e h = absurd (omega (arith, h))

never-14 : (a b : Bool) (lent : List ℕ) (x : RecordOutput) → x.answer.refusal ≡ 0 → (asked a b true lent x).answer.refusal ≢ 14
never-14 true true lent x e h = absurd (omega (arith, e, h))
never-14 true false lent x e h = absurd (omega (arith, h))
never-14 false b lent x e h = absurd (omega (arith, h))

module _ (bytes lent : List ℕ) (e : (read_call bytes).refusal ≡ 0) where
  abbrev read : Run
  read = (read_call bytes).run

  abbrev shown : List ℕ
  shown = recording_bytes (terms_of read.head) (snapshot_of read)

  pub read-never-1 : (record_call read lent).answer.refusal ≢ 1
  unfolding record_call
  read-never-1 =
      rw (read-replayed bytes e)
      (never-1 (has_started read.head) (no_requests (count_of read.head) read.channels) (leb (length shown) (length lent)) lent (with_total (recorded_total read) (written_output lent shown)) refl)

  pub read_whole : WholeRun read
  read_whole = let h = read-comes bytes e in subst WholeRun (sym h.result) (after-whole (calls_in (records_in bytes)) _ (open-whole (opening_in bytes)))

  pub read-never-14 : most_recording_bytes ≤ length lent → (record_call read lent).answer.refusal ≢ 14
  unfolding record_call
  read-never-14 h =
      let m = recording-most read read_whole (read-replayed bytes e) in
      rw (read-replayed bytes e, le-leb (length shown) (length lent) (omega (arith, m, h)))
      (never-14 (has_started read.head) (no_requests (count_of read.head) read.channels) lent (with_total (recorded_total read) (written_output lent shown)) refl)
