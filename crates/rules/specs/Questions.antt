-- "A call goes through its list from left to right; the first "no" gives the number. Success is 0."
use Rattle.std.specs.Prelude.{◌≡◌, ◌⊎◌, Bool, cond, ◌&&◌, List, [], ◌∷◌, ℕ, ◌-◌, leb}
use Rattle.rules.specs.Limits.{fewest_zones, most_zones}

-- A question by its number (docs/RULES.md, section 7), and whether its answer is yes.
pub record Question : Type 0 where
  pub number : ℕ
  pub yes : Bool

abbrev pub question : ℕ → Bool → Question
question n b = record { number = n; yes = b }

-- The number of the first "no"; 0 where there is none.
abbrev pub refusal : List Question → ℕ
refusal [] = 0
refusal (q ∷ qs) = cond q.yes (refusal qs) q.number

-- The answer of a call: what is accepted where every answer is yes, else what is refused with the first number.
abbrev pub ask : {A : Type 0} → List Question → (ℕ → A) → A → A
ask [] refused accepted = accepted
ask (q ∷ qs) refused accepted = cond q.yes (ask qs refused accepted) (refused q.number)

-- The number is one of the list.
abbrev pub Among : ℕ → List ℕ → Type 0
Among n [] = ⊥
Among n (x ∷ xs) = (n ≡ x) ⊎ Among n xs

-- The index of a zone: its number less one.
abbrev pub index : ℕ → ℕ
index number = number - 1

-- Question 2: "Is the zone count 2 to 8?"
unfoldable pub is_count : ℕ → Bool
is_count count = leb fewest_zones count && leb count most_zones

-- Question 5, of one named zone: is it on a site of so many zones?
unfoldable pub is_on : ℕ → ℕ → Bool
is_on count zone = leb 1 zone && leb zone count
