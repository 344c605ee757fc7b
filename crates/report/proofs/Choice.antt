-- Which conversion an argument names, by its length and its bytes.
use mathlib.Core.Path.{◌≡◌, refl}
use mathlib.Core.Bool.{false}
use mathlib.Core.Logic.{◌≢◌}
use mathlib.Core.List.{List, [], ◌∷◌}
use Prim.Native.Nat.{ℕ}
use native.Mathlib.Omega.{arith}
use borrow.Author.Tests.{ne_eqb}
use lib.ListN.{length, get_or}
use Rattle.std.specs.Prelude.{None, Some}
use Rattle.std.proofs.lemmas.Slice.Eq.{HasBytesAt, text_from_reads}
use Rattle.text.specs.Codes.{codes}
use Rattle.words.specs.Bytes.{same_words}
use Rattle.words.proofs.SameLaws.{other_length}
use Rattle.conversion.specs.declared.Conversion.TheVariants.{Upgrade, Downgrade}
use Rattle.report.specs.Choice.{chosen_by}

-- Texts that begin otherwise are not the same.
other-front : (s t : List ℕ) (c : ℕ) → get_or s 0 0 ≢ c → same_words s (c ∷ t) ≡ false
other-front [] t c h = refl
other-front (x ∷ xs) t c h = rw (ne_eqb x c h) refl

pub chosen_upgrade : (s : List ℕ) → length s ≡ 7 → HasBytesAt s 0 (codes "upgrade") → chosen_by s ≡ Some Upgrade
unfolding chosen_by
chosen_upgrade s n h = rw (text_from_reads s (codes "upgrade") n h) refl

pub chosen_downgrade : (s : List ℕ) → length s ≡ 9 → HasBytesAt s 0 (codes "downgrade") → chosen_by s ≡ Some Downgrade
unfolding chosen_by
chosen_downgrade s n h = rw (text_from_reads s (codes "downgrade") n h) refl

pub chosen_other_length : (s : List ℕ) → length s ≢ 7 → length s ≢ 9 → chosen_by s ≡ None
unfolding chosen_by
chosen_other_length s m n = rw (other_length s (codes "upgrade") m, other_length s (codes "downgrade") n) refl

pub chosen_other_seven : (s : List ℕ) → length s ≡ 7 → get_or s 0 0 ≢ 117 → chosen_by s ≡ None
unfolding chosen_by
chosen_other_seven s m n = rw (other-front s (codes "pgrade") 117 n, other_length s (codes "downgrade") (λ e. omega (arith, e, m))) refl

pub chosen_other_nine : (s : List ℕ) → length s ≡ 9 → get_or s 0 0 ≢ 100 → chosen_by s ≡ None
unfolding chosen_by
chosen_other_nine s m n = rw (other_length s (codes "upgrade") (λ e. omega (arith, e, m)), other-front s (codes "owngrade") 100 n) refl

pub ruleset chosen_cases = (chosen_upgrade, chosen_downgrade, chosen_other_length, chosen_other_seven, chosen_other_nine)
