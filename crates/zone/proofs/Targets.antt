-- What the sets of an accepted step say: the zone itself is never a target, and there are as many requests as zones in the set.
use mathlib.Core.Path.{◌≡◌, refl, ◌∙◌}
use mathlib.Core.Bool.{Bool, true, false, not, ◌&&◌, ◌||◌}
use Prim.Native.Nat.{ℕ, ◌<◌}
use lib.ListN.{length}
use Rattle.rules.specs.Sets.{has, members, size}
use Rattle.rules.specs.Zone.{is_permanent, targets}
use Rattle.rules.specs.declared.Local.{Local}
use Rattle.rules.proofs.Checkpoints.{has-targets}
use Rattle.rules.proofs.Members.{members-length}
use Rattle.rules.proofs.SetLaws.{has-nobody}
use Rattle.rules.proofs.Tests.{eqb_refl}
use Rattle.local.specs.Requesting.{requested_by, started_by}

-- "itself never counted".
targets-others : (me set : ℕ) (z : Local) → has (targets me set z) me ≡ false
targets-others me set z = has-targets me set z me ∙ rw (eqb_refl me) (last (has z.deps me) (has set me))
  where
    last : (p q : Bool) → p && not (q || true) ≡ false
    last true true = refl
    last true false = refl
    last false q = refl

pub request-others : (me set : ℕ) (z : Local) → has (requested_by me set z).to me ≡ false
unfolding requested_by
request-others me set z = go (is_permanent z.checkpoint) refl
  where
    go : (b : Bool) → is_permanent z.checkpoint ≡ b → has (requested_by me set z).to me ≡ false
    go true e = rw e (has-nobody me)
    go false e = rw e (targets-others me set z)

pub start-others : (me : ℕ) (z : Local) → has (started_by me z).to me ≡ false
unfolding started_by
start-others me z = targets-others me 0 z

-- "The number sent is the number of zones in that difference".
pub requests-counted : (to : ℕ) → to < 256 → size to ≡ length (members to)
requests-counted to h = members-length to h
