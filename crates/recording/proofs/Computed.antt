-- What a recording is computed by, named once: a computed example that says `unfolding record_computed` unfolds all of it.
use mathlib.Core.List.{List}
use Prim.Native.Nat.{ℕ}
use Rattle.run.specs.declared.Run.{Run}
use Rattle.journal.proofs.Computed.{write_computed}
use Rattle.recording.specs.Call.{RecordOutput, no_requests, record_call}
use Rattle.recording.specs.Layout.{item_words, recording_bytes}

unfoldable pub record_computed : Run → List ℕ → RecordOutput
unfolding write_computed no_requests item_words recording_bytes record_call
record_computed r lent = record_call r lent
