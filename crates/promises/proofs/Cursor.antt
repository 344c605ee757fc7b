-- What the cursor promises to whoever goes through a journal record by record.
use mathlib.Core.Path.{◌≡◌}
use Rattle.cursor.specs.Cursor.{next_of}
use Rattle.cursor.specs.contracts as contracts
use Rattle.cursor.proofs as part
use Rattle.promises.specs.Promise.{Keeps}

pub new : Keeps contracts.new.ended part.new.Symbol.name part.new.Symbol.code
    (λ _ bytes at r. (r.bytes ≡ bytes) × (r.at ≡ at))
new _ = part.new.Met.met

pub peek : Keeps contracts.peek.ended part.peek.Symbol.name part.peek.Symbol.code
    (λ _ c r. r ≡ next_of c.bytes.now c.at)
peek _ = part.peek.Met.met

pub next-record : Keeps contracts.next_record.ended part.next_record.Symbol.name part.next_record.Symbol.code
    (λ _ bytes at r. r ≡ next_of bytes.now at)
next-record _ = part.next_record.Met.met

pub record-at : Keeps contracts.record_at.ended part.record_at.Symbol.name part.record_at.Symbol.code
    (λ _ bytes at r. r ≡ next_of bytes.now at)
record-at _ = part.record_at.Met.met
