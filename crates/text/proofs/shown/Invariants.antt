-- Storing the bytes that are left gives what storing all of them gives.
use Rattle.std.proofs.Common.{◌≡◌, ◌*◌, drop}
use Rattle.std.proofs.lemmas.List.Edits.{sets}
use Rattle.text.proofs.Laws.{spaced}
use Rattle.text.proofs.shown.Given as goal

abbrev pub invariant-loop-i : goal.invariant-loop-i
invariant-loop-i l = sets l.out (3 * l.i) (spaced (drop l.i l.bytes)) ≡ sets l.initial.out 0 (spaced l.bytes)
