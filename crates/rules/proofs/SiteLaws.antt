-- Sites are equal when their editions, zones and channels are.
use mathlib.Core.Path.{◌≡◌}
use Prim.Native.Nat.{ℕ}
use Rattle.rules.specs.Site.{Site}

pub site≡ : (s t : Site) → s.edition ≡ t.edition → ((k : ℕ) → s.zone k ≡ t.zone k) → ((i j : ℕ) → s.channel i j ≡ t.channel i j) → s ≡ t
site≡ s t e p q = λ x. record { edition = e x; zone = λ k. p k x; channel = λ i j. q i j x }
