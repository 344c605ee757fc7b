-- The rules of a request and of a start, with what is sent. "The zone part ... answers the set to be sent requests and the set these
-- carry, both empty when no request is sent."
use Rattle.std.specs.Prelude.{cond, ℕ, eqb}
use Rattle.rules.specs.Sets.{nobody}
use Rattle.rules.specs.Zone.{is_permanent, requested, started, targets, carried, with_checkpoint}
use Rattle.rules.specs.declared.Local.{Local}
use Rattle.rules.specs.declared.Saved.{Saved}
use Rattle.rules.specs.declared.Checkpoint.TheVariants.{Permanent}
use Rattle.local.specs.declared.Requesting.{Requesting}

-- A local state, and requests to some zones, carrying a set.
abbrev pub requesting_as : Local → ℕ → ℕ → Requesting
requesting_as z to set = record { local = z; to = to; carried = cond (eqb to 0) 0 set }

-- Receipt of a request by the zone at index me: "a firm zone drops it".
unfoldable pub requested_by : ℕ → ℕ → Local → Requesting
requested_by me set z =
    cond (is_permanent z.checkpoint) (requesting_as z nobody nobody) (requesting_as (requested z) (targets me set z) (carried set z))

-- Start by the zone at index me.
unfoldable pub started_by : ℕ → Local → Requesting
started_by me z = requesting_as (started z) (targets me nobody z) (carried nobody z)

-- A permanent checkpoint that keeps these values, and the requests after a received set: the common part of both.
unfoldable pub turned : Saved → ℕ → ℕ → Local → Requesting
turned kept me set z = requesting_as (with_checkpoint (Permanent kept) z) (targets me set z) (carried set z)
