-- `scan::is_item_sound` meets its contract: a set of zones of the site, and every message, has a word below the limit.
use Rattle.std.proofs.Common.{◌≡◌, ◌≤◌, ◌*◌, ◌^◌, ◌%◌, ℕ, arith}
use lib.Pow.{pow_mono}
use Rattle.scan.proofs.Laws.{word-sound}
use Rattle.scan.proofs.is_item_sound.Goals as goal

-- A site's sets are bytes.
limit_is : (count : ℕ) → count ≤ 8 → 1 * 2 ^ count % 65536 ≡ 2 ^ count
limit_is count h = let small : 2 ^ count ≤ 256 = pow_mono {i = count} {j = 8} h in omega arith

pub returns : goal.returns
returns c = rw (limit_is c.args.count c.requires) (word-sound c.args.count c.args.word)
