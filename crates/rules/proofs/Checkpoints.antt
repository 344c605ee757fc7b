-- What the rules do to one zone: when it has a checkpoint, when its checkpoint is permanent, what its checkpoint keeps, and who is in its
-- dependency set.
use mathlib.Core.Path.{◌≡◌, refl, sym, ◌∙◌, ap}
use mathlib.Core.Bool.{Bool, true, false, ◌&&◌, ◌||◌, not, or-false, true≢false}
use Prim.Native.Nat.{ℕ}
use lib.Dec.{eqb}
use Rattle.rules.specs.Sets.{has, only}
use Rattle.rules.specs.Zone.{has_checkpoint, is_permanent, saved, deps_after, checkpoint_after, with_checkpoint, started, made_permanent, requested, targets, carried}
use Rattle.rules.specs.declared.Local.{Local}
use Rattle.rules.specs.declared.Saved.{Saved}
use Rattle.rules.specs.declared.Checkpoint.{Checkpoint}
use Rattle.rules.specs.declared.Checkpoint.TheVariants.{None, Mutable, Permanent}
use Rattle.rules.proofs.SetLaws.{has-union, has-difference, has-only}

pub permanent-has-checkpoint : (k : Checkpoint) → is_permanent k ≡ true → has_checkpoint k ≡ true
permanent-has-checkpoint None e = e
permanent-has-checkpoint (Mutable s) e = refl
permanent-has-checkpoint (Permanent s) e = refl

-- A message gives the zone a checkpoint if it has the flag, and never makes one permanent.
pub has-checkpoint-after : (k : Checkpoint) (now : Saved) (flag : Bool) → has_checkpoint (checkpoint_after k now flag) ≡ has_checkpoint k || flag
has-checkpoint-after None now true = refl
has-checkpoint-after None now false = refl
has-checkpoint-after (Mutable s) now flag = refl
has-checkpoint-after (Permanent s) now flag = refl

pub permanent-after : (k : Checkpoint) (now : Saved) (flag : Bool) → is_permanent (checkpoint_after k now flag) ≡ is_permanent k
permanent-after None now true = refl
permanent-after None now false = refl
permanent-after (Mutable s) now flag = refl
permanent-after (Permanent s) now flag = refl

-- A request makes it permanent.
pub permanent-made : (k : Checkpoint) (now : Saved) → is_permanent (made_permanent k now) ≡ true
permanent-made None now = refl
permanent-made (Mutable s) now = refl
permanent-made (Permanent s) now = refl

pub has-checkpoint-made : (k : Checkpoint) (now : Saved) → has_checkpoint (made_permanent k now) ≡ true
has-checkpoint-made k now = permanent-has-checkpoint (made_permanent k now) (permanent-made k now)

-- A zone without a checkpoint starts as if it received a request.
pub started-requested : (z : Local) → has_checkpoint z.checkpoint ≡ false → started z ≡ requested z
started-requested z e = ap (λ (k : Checkpoint). with_checkpoint k z) (go z.checkpoint e)
  where
    go : (k : Checkpoint) → has_checkpoint k ≡ false → Permanent (saved z) ≡ made_permanent k (saved z)
    go None e = refl
    go (Mutable s) e = absurd (true≢false e)
    go (Permanent s) e = absurd (true≢false e)

-- The sender of a message without the flag joins the dependency set of a zone without a checkpoint; nobody else ever joins one.
pub has-deps_after : (k : Checkpoint) (deps from : ℕ) (flag : Bool) (i : ℕ)
    → has (deps_after k deps from flag) i ≡ has deps i || (not (has_checkpoint k || flag) && eqb i from)
has-deps_after None deps from true i = sym (or-false (has deps i))
has-deps_after None deps from false i = has-union deps (only from) i ∙ ap (λ (t : Bool). has deps i || t) (has-only from i)
has-deps_after (Mutable s) deps from flag i = sym (or-false (has deps i))
has-deps_after (Permanent s) deps from flag i = sym (or-false (has deps i))

-- The targets of a zone, and whom its request names.
pub has-targets : (me set : ℕ) (z : Local) (i : ℕ) → has (targets me set z) i ≡ has z.deps i && not (has set i || eqb i me)
has-targets me set z i =
    has-difference z.deps _ i
    ∙ ap (λ (t : Bool). has z.deps i && not t) (has-union set (only me) i ∙ ap (λ (t : Bool). has set i || t) (has-only me i))

pub has-carried : (set : ℕ) (z : Local) (i : ℕ) → has (carried set z) i ≡ has z.deps i || has set i
has-carried set z i = has-union z.deps set i
