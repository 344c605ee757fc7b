-- What a page is computed by, named once: a computed example that says `unfolding page_computed` unfolds all of it.
use mathlib.Core.List.{List}
use Prim.Native.Nat.{ℕ}
use Rattle.rules.specs.Cut.{Snapshot}
use Rattle.text.specs.Text.{digit_code, column_text}
use Rattle.page.specs.Layout.{zone_text, channel_text, channels_text, total_text, page_with, page_text}

unfoldable pub page_computed : ℕ → Snapshot → List ℕ
unfolding digit_code column_text zone_text channel_text channels_text total_text page_with
page_computed count s = page_text count s
