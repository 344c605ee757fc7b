-- What an opening fixes, as far as the rules speak of it.
use Rattle.std.specs.Prelude.{ℕ}

-- The edition, and the opening stock of each zone, by index.
pub record Opening : Type 0 where
  pub edition : ℕ
  pub stocks : ℕ → ℕ
