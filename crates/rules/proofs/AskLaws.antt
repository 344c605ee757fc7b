-- Laws of a list of questions: a call is accepted exactly when every answer is yes, else refused with one of the list's numbers.
use mathlib.Core.Path.{◌≡◌, refl, sym, ◌∙◌}
use mathlib.Core.Bool.{Bool, true, false, cond, ◌&&◌, not}
use mathlib.Core.Logic.{◌≢◌, ◌⊎◌, inl, inr}
use mathlib.Core.List.{List, [], ◌∷◌, ◌++◌}
use Prim.Native.Nat.{ℕ}
use lib.Dec.{eqb}
use borrow.Author.Tests.{eqb-false, not-true}
use Rattle.rules.specs.Questions.{Question, ask, refusal, Among}
use Rattle.rules.proofs.Tests.{and_left, and_right}

-- Every question of a list is answered yes.
abbrev pub AllYes : List Question → Type 0
AllYes [] = Unit {0}
AllYes (q ∷ qs) = (q.yes ≡ true) × AllYes qs

abbrev pub numbers : List Question → List ℕ
numbers [] = []
numbers (q ∷ qs) = q.number ∷ numbers qs

-- Two lists of questions, one after the other.
pub yes_both : (xs ys : List Question) → AllYes (xs ++ ys) → AllYes xs × AllYes ys
yes_both [] ys h = (tt, h)
yes_both (x ∷ xs) ys h = let r = yes_both xs ys h.1 in ((h.0, r.0), r.1)

-- A number that is not among those of a list.
abbrev pub lacks : ℕ → List ℕ → Bool
lacks m [] = true
lacks m (x ∷ xs) = not (eqb x m) && lacks m xs

pub not-among : (n m : ℕ) (xs : List ℕ) → Among n xs → lacks m xs ≡ true → n ≢ m
not-among n m [] h e = absurd h
not-among n m (x ∷ xs) (inl h) e =
    λ q. eqb-false x m (not-true (eqb x m) (and_left (not (eqb x m)) (lacks m xs) e)) (sym h ∙ q)
not-among n m (x ∷ xs) (inr h) e = not-among n m xs h (and_right (not (eqb x m)) (lacks m xs) e)

pub ask-cases : {A : Type 0} (qs : List Question) (f : ℕ → A) (x : A)
    → (AllYes qs × (ask qs f x ≡ x)) ⊎ ((n : ℕ) × Among n (numbers qs) × (ask qs f x ≡ f n))
ask-cases [] f x = inl (tt, refl)
ask-cases {A} (q ∷ qs) f x = go q.yes refl (ask-cases qs f x)
  where
    go : (b : Bool) → q.yes ≡ b → (AllYes qs × (ask qs f x ≡ x)) ⊎ ((n : ℕ) × Among n (numbers qs) × (ask qs f x ≡ f n))
        → (AllYes (q ∷ qs) × (cond b (ask qs f x) (f q.number) ≡ x))
        ⊎ ((n : ℕ) × Among n (numbers (q ∷ qs)) × (cond b (ask qs f x) (f q.number) ≡ f n))
    go true e (inl h) = inl ((e, h.0), h.1)
    go true e (inr h) = inr (h.0, inr h.1, h.2)
    go false e h = inr (q.number, inl refl, refl)

pub ask-yes : {A : Type 0} (qs : List Question) (f : ℕ → A) (x : A) → AllYes qs → ask qs f x ≡ x
ask-yes [] f x h = refl
ask-yes (q ∷ qs) f x h = rw h.0 (ask-yes qs f x h.1)

-- Behind questions that are answered yes, the others decide.
pub ask-behind : {A : Type 0} (xs ys : List Question) (f : ℕ → A) (x : A) → AllYes xs → ask (xs ++ ys) f x ≡ ask ys f x
ask-behind [] ys f x h = refl
ask-behind (q ∷ xs) ys f x h = rw h.0 (ask-behind xs ys f x h.1)

-- The first number decides: 0 where every answer is yes, else what is refused with it.
pub all_yes : (qs : List Question) → lacks 0 (numbers qs) ≡ true → refusal qs ≡ 0 → AllYes qs
all_yes [] l e = tt
all_yes (q ∷ qs) l e = go q.yes refl (all_yes qs (and_right (not (eqb q.number 0)) _ l)) e
  where
    go : (b : Bool) → q.yes ≡ b → (refusal qs ≡ 0 → AllYes qs) → cond b (refusal qs) q.number ≡ 0 → (q.yes ≡ true) × AllYes qs
    go true y rest e = (y, rest e)
    go false y rest e = absurd (eqb-false q.number 0 (not-true (eqb q.number 0) (and_left _ (lacks 0 (numbers qs)) l)) e)

pub ask-refused : {A : Type 0} (qs : List Question) (f : ℕ → A) (x : A) → refusal qs ≢ 0 → ask qs f x ≡ f (refusal qs)
ask-refused [] f x h = absurd (h refl)
ask-refused {A} (q ∷ qs) f x h = go q.yes (ask-refused qs f x) h
  where
    go : (b : Bool) → (refusal qs ≢ 0 → ask qs f x ≡ f (refusal qs)) → cond b (refusal qs) q.number ≢ 0
        → cond b (ask qs f x) (f q.number) ≡ f (cond b (refusal qs) q.number)
    go true rest h = rest h
    go false rest h = refl

pub refusal-among : (qs : List Question) → Among (refusal qs) (0 ∷ numbers qs)
refusal-among [] = inl refl
refusal-among (q ∷ qs) = go q.yes (refusal-among qs)
  where
    go : (b : Bool) → Among (refusal qs) (0 ∷ numbers qs) → Among (cond b (refusal qs) q.number) (0 ∷ q.number ∷ numbers qs)
    go true (inl h) = inl h
    go true (inr h) = inr (inr h)
    go false h = inr (inl refl)

-- Two calls with the same questions are accepted together, and refused with the same number.
pub ask-both : {A B : Type 0} (qs : List Question) (f : ℕ → A) (x : A) (g : ℕ → B) (y : B)
    → ((ask qs f x ≡ x) × (ask qs g y ≡ y)) ⊎ ((n : ℕ) × Among n (numbers qs) × (ask qs f x ≡ f n) × (ask qs g y ≡ g n))
ask-both [] f x g y = inl (refl, refl)
ask-both (q ∷ qs) f x g y = go q.yes (ask-both qs f x g y)
  where
    go : (b : Bool) → ((ask qs f x ≡ x) × (ask qs g y ≡ y)) ⊎ ((n : ℕ) × Among n (numbers qs) × (ask qs f x ≡ f n) × (ask qs g y ≡ g n))
        → ((cond b (ask qs f x) (f q.number) ≡ x) × (cond b (ask qs g y) (g q.number) ≡ y))
        ⊎ ((n : ℕ) × Among n (numbers (q ∷ qs)) × (cond b (ask qs f x) (f q.number) ≡ f n) × (cond b (ask qs g y) (g q.number) ≡ g n))
    go true (inl h) = inl h
    go true (inr h) = inr (h.0, inr h.1, h.2, h.3)
    go false h = inr (q.number, inl refl, refl, refl)
