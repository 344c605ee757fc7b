-- What a text's writer answers lies within the lent bytes.
use mathlib.Core.Path.{◌≡◌, sym, ap, ◌∙◌}
use mathlib.Core.List.{List}
use Prim.Native.Nat.{ℕ, ◌≤◌}
use native.Mathlib.Omega.{arith}
use lib.ListN.{length, drop, take, length-append}
use lib.Seq.{length-take-le}
use Rattle.text.specs.Text.{fitting, Prints}

pub prints-within : (text lent after : List ℕ) (r : ℕ) → Prints text lent after r → r ≤ length after
prints-within text lent after r p =
    omega (arith, p.number, ap length p.bytes ∙ length-append (fitting text lent) (drop r lent))

pub prints-taken : (text lent after : List ℕ) (r : ℕ) → Prints text lent after r → r ≡ length (take r after)
prints-taken text lent after r p = sym (length-take-le r after (prints-within text lent after r p))
