-- The number of bytes of a recording, and their bound.
use mathlib.Core.Path.{◌≡◌, refl, ◌∙◌}
use mathlib.Core.Bool.{true}
use Prim.Native.Nat.{ℕ, zero, suc, ◌+◌, ◌*◌, ◌≤◌}
use native.Mathlib.Omega.{arith}
use lib.ListN.{length, length-append}
use Rattle.rules.specs.Cut.{Snapshot}
use Rattle.run.specs.Claims.{WholeRun}
use Rattle.run.specs.declared.Run.{Run}
use Rattle.journal.specs.Writing.{is_replayed}
use Rattle.words.proofs.ByteLaws.{bytes-length}
use Rattle.recording.specs.Call.{snapshot_of}
use Rattle.recording.specs.Layout.{most_recording_bytes, join_below, zone_words, item_words, recording_words, recording_bytes}
use Rattle.recording.proofs.Bounds.{run_sound, items-few}
use Rattle.run.specs.State.{terms_of}
use Rattle.run.specs.declared.Terms.{Terms}

pub zones-length : (count : ℕ) (s : Snapshot) → length (join_below count (zone_words s)) ≡ 2 * count
zones-length zero s = refl
zones-length (suc n) s =
    let q = zones-length n s in
    omega (arith, length-append (join_below n (zone_words s)) (zone_words s n))

pub recording-length : (t : Terms) (s : Snapshot)
    → length (recording_bytes t s) ≡ 2 + 4 * t.count + 2 * length (item_words t.count s)
unfolding recording_bytes
recording-length t s =
    bytes-length (recording_words t s)
    ∙ omega (arith, length-append (join_below t.count (zone_words s)) (item_words t.count s), zones-length t.count s)

pub recording-most : (r : Run) → WholeRun r → is_replayed r ≡ true → length (recording_bytes (terms_of r.head) (snapshot_of r)) ≤ most_recording_bytes
recording-most r w e =
    omega (arith, recording-length (terms_of r.head) (snapshot_of r), items-few r w e, (run_sound r w e).records, (run_sound r w e).most)
