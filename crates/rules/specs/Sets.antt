-- Sets of zones. A zone's index is its number less one; a set is a number in which the zone at index i is the bit of weight 2 ^ i.
use Rattle.std.specs.Prelude.{Bool, cond, List, [], ◌∷◌, ◌++◌, ℕ, zero, suc, ◌/◌, ◌%◌, ◌^◌, eqb, ltb}
use Rattle.std.specs.Int.Bits.{bit_and, bit_or, bit_xor}
use Rattle.std.specs.Int.Count.{ones}
use Rattle.rules.specs.Limits.{most_zones}

-- Is the zone at index i in the set?
unfoldable pub has : ℕ → ℕ → Bool
has set i = eqb (set / 2 ^ i % 2) 1

-- The set of nobody.
abbrev pub nobody : ℕ
nobody = 0

-- The set of the zone at index i alone.
abbrev pub only : ℕ → ℕ
only i = 2 ^ i

abbrev pub union : ℕ → ℕ → ℕ
union a b = bit_or a b

-- The members of a that are not in b.
abbrev pub difference : ℕ → ℕ → ℕ
difference a b = bit_xor a (bit_and a b)

-- Does the set name only zones of a site of n zones?
abbrev pub within : ℕ → ℕ → Bool
within set n = ltb set (2 ^ n)

-- The number of members.
abbrev pub size : ℕ → ℕ
size set = ones set

-- The indices below n that are in the set, lowest first.
abbrev pub members_below : ℕ → ℕ → List ℕ
members_below zero set = []
members_below (suc n) set = members_below n set ++ cond (has set n) (n ∷ []) []

-- The members of a set of zones of a site, lowest first.
unfoldable pub members : ℕ → List ℕ
members set = members_below most_zones set
