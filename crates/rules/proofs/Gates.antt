-- What a gate call does to a site by the rules, whatever the marks and whatever the cars, 0 too: one own event and a changed stock for its
-- zone, and nothing else.
use mathlib.Core.Path.{◌≡◌, refl}
use mathlib.Core.List.{[], ◌∷◌}
use Prim.Native.Nat.{ℕ, ◌+◌}
use lib.Dec.{eqb}
use Rattle.rules.specs.Zone.{through, gated}
use Rattle.rules.specs.Site.{Site, gate, step_s}
use Rattle.rules.specs.Park.{pass}
use Rattle.rules.specs.Cut.{move_of}
use Rattle.rules.specs.declared.Local.{Local}
use Rattle.rules.specs.declared.Direction.{Direction}
use Rattle.rules.proofs.Tests.{eqb_refl}
use Rattle.rules.proofs.Guarded.{on_same}

module _ (d : Direction) (a cars : ℕ) (s : Site) where
  abbrev pub after : Site
  after = step_s (gate d a cars) s

  -- "It is an own event, also with 0 cars, and changes that zone's stock by a signed amount."
  pub gate-event : (after.zone a).events ≡ (s.zone a).events + 1
  gate-event = rw (eqb_refl a)

  pub gate-stock : (after.zone a).stock ≡ through d cars (s.zone a).stock
  gate-stock = rw (eqb_refl a)

  -- It is fed to the park, and starts no request, sets no mark and adds nothing to a heard set, of this zone or another.
  pub gate-move : move_of (gate d a cars) s ≡ pass d a cars ∷ []
  gate-move = refl

  pub gate-channel : (i j : ℕ) → after.channel i j ≡ s.channel i j
  gate-channel i j = refl

  pub gate-checkpoint : (k : ℕ) → (after.zone k).checkpoint ≡ (s.zone k).checkpoint
  gate-checkpoint k = on_same (λ (z : Local). z.checkpoint) (eqb k a) (gated d cars) (s.zone k) refl

  pub gate-deps : (k : ℕ) → (after.zone k).deps ≡ (s.zone k).deps
  gate-deps k = on_same (λ (z : Local). z.deps) (eqb k a) (gated d cars) (s.zone k) refl
