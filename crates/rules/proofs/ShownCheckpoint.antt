-- What a recording shows of a checkpoint, and what depends on that alone.
use mathlib.Core.Path.{◌≡◌, refl, sym, ◌∙◌, ap}
use mathlib.Core.Bool.{Bool, true, false}
use Rattle.rules.specs.Zone.{checkpoint_after}
use Rattle.rules.specs.declared.Checkpoint.{Checkpoint}
use Rattle.rules.specs.declared.Checkpoint.TheVariants.{None, Mutable, Permanent}
use Rattle.rules.specs.declared.Saved.{Saved}

-- A mutable checkpoint ("provisional") is shown as none.
abbrev pub shown : Checkpoint → Checkpoint
shown None = None
shown (Mutable s) = None
shown (Permanent s) = Permanent s

-- What does not tell a mutable checkpoint from none depends on what is shown alone.
pub by-shown : {A : Type 0} (f : Checkpoint → A) → ((s : Saved) → f (Mutable s) ≡ f None) → (c d : Checkpoint) → shown c ≡ shown d
    → f c ≡ f d
by-shown {A} f e c d q = is c ∙ ap f q ∙ sym (is d)
  where
    is : (c : Checkpoint) → f c ≡ f (shown c)
    is None = refl
    is (Mutable s) = e s
    is (Permanent s) = refl

-- An own event changes nothing of it: the receipt of a message with the flag makes a mutable checkpoint at most.
pub after-shown : (k : Checkpoint) (now : Saved) (flag : Bool) → shown (checkpoint_after k now flag) ≡ shown k
after-shown None now true = refl
after-shown None now false = refl
after-shown (Mutable s) now flag = refl
after-shown (Permanent s) now flag = refl
