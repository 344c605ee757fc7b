-- Laws of a change that is made only where a test holds: what it keeps, what it commutes with, what carries it over.
use mathlib.Core.Path.{◌≡◌, refl}
use mathlib.Core.Bool.{Bool, true, false, ◌&&◌}
use Rattle.rules.specs.Change.{on}

module _ {A : Type 0} where
  pub on-true : (p : Bool) (g : A → A) (v : A) → p ≡ true → on p g v ≡ g v
  on-true p g v e = rw e

  pub on-false : (p : Bool) (g : A → A) (v : A) → p ≡ false → on p g v ≡ v
  on-false p g v e = rw e

  -- A change that leaves this value, and two that agree at it.
  pub on-still : (p : Bool) (g : A → A) (v : A) → g v ≡ v → on p g v ≡ v
  on-still true g v e = e
  on-still false g v e = refl

  pub on_both : (p : Bool) (g h : A → A) (v : A) → g v ≡ h v → on p g v ≡ on p h v
  on_both true g h v e = e
  on_both false g h v e = refl

  -- What the change keeps, the guarded change keeps.
  pub on-keeps {κ} : (P : A → Type κ) (p : Bool) (g : A → A) (v : A) → (P v → P (g v)) → P v → P (on p g v)
  on-keeps P true g v f h = f h
  on-keeps P false g v f h = h

  -- What holds before it, if it holds after the change.
  pub on-back {κ} : (P : A → Type κ) (p : Bool) (g : A → A) (v : A) → (P (g v) → P v) → P (on p g v) → P v
  on-back P true g v f h = f h
  on-back P false g v f h = h

  -- Two changes at different places.
  pub on-apart : (p q : Bool) (g h : A → A) (v : A) → p && q ≡ false → on q h (on p g v) ≡ on p g (on q h v)
  on-apart true true g h v e = cc
  on-apart true false g h v e = refl
  on-apart false q g h v e = refl

  -- Two changes that agree in either order at this value.
  pub on-swap : (p q : Bool) (g h : A → A) (v : A) → h (g v) ≡ g (h v) → on q h (on p g v) ≡ on p g (on q h v)
  on-swap true true g h v e = e
  on-swap true false g h v e = refl
  on-swap false q g h v e = refl

  pub on-swap-at : (p q : Bool) (g h : A → A) (v : A) → (q ≡ true → h (g v) ≡ g (h v)) → on q h (on p g v) ≡ on p g (on q h v)
  on-swap-at p true g h v e = on-swap p true g h v (e refl)
  on-swap-at p false g h v e = refl

module _ {A B : Type 0} where
  -- f carries the change g to the change h.
  pub on-map : (f : A → B) (p : Bool) (g : A → A) (h : B → B) (v : A) → f (g v) ≡ h (f v) → f (on p g v) ≡ on p h (f v)
  on-map f true g h v e = e
  on-map f false g h v e = refl

  pub on-map-at : (f : A → B) (p : Bool) (g : A → A) (h : B → B) (v : A) → (p ≡ true → f (g v) ≡ h (f v))
      → f (on p g v) ≡ on p h (f v)
  on-map-at f true g h v e = e refl
  on-map-at f false g h v e = refl

  -- f sees nothing of the change g.
  pub on_same : (f : A → B) (p : Bool) (g : A → A) (v : A) → f (g v) ≡ f v → f (on p g v) ≡ f v
  on_same f true g v e = e
  on_same f false g v e = refl

  pub on-same-at : (f : A → B) (p : Bool) (g : A → A) (v : A) → (p ≡ true → f (g v) ≡ f v) → f (on p g v) ≡ f v
  on-same-at f true g v e = e refl
  on-same-at f false g v e = refl
