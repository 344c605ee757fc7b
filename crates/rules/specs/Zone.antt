-- The rules of one zone (docs/RULES.md, section 4). Zones are named by index: the number less one.
use Rattle.std.specs.Prelude.{Bool, true, false, ℕ, ◌+◌, ◌-◌}
use Rattle.rules.specs.Change.{on}
use Rattle.rules.specs.Edition.{is_traffic}
use Rattle.rules.specs.Sets.{only, union, difference}
use Rattle.rules.specs.declared.Local.{Local}
use Rattle.rules.specs.declared.Saved.{Saved}
use Rattle.rules.specs.declared.Checkpoint.{Checkpoint}
use Rattle.rules.specs.declared.Checkpoint.TheVariants.{None, Mutable, Permanent}
use Rattle.rules.specs.declared.Direction.{Direction}
use Rattle.rules.specs.declared.Direction.TheVariants.{In, Out}

-- Has the zone a checkpoint of either kind ("either mark")?
abbrev pub has_checkpoint : Checkpoint → Bool
has_checkpoint None = false
has_checkpoint (Mutable s) = true
has_checkpoint (Permanent s) = true

-- Is the checkpoint permanent ("firm")?
abbrev pub is_permanent : Checkpoint → Bool
is_permanent None = false
is_permanent (Mutable s) = false
is_permanent (Permanent s) = true

-- At first: a stock, a dependency set ("heard set") of itself alone, no own events, no checkpoint.
abbrev pub opened : ℕ → ℕ → Local
opened me stock = record { stock = stock; deps = only me; events = 0; checkpoint = None }

-- "A mark keeps the stock and the number of own events at that moment."
abbrev pub saved : Local → Saved
saved z = record { stock = z.stock; events = z.events }

-- Hand-over that is traffic, the sender's side: "the sender's stock falls by the cars". It is an own event, starts and requests are none.
abbrev pub sent : ℕ → Local → Local
sent cars z = record {
  stock = z.stock - cars;
  deps = z.deps;
  events = z.events + 1;
  checkpoint = z.checkpoint;
}

-- The dependency set after a message with this flag ("marked bit") from a zone: "with no mark and bit 0, the sender joins the heard
-- set"; "Once marked, a zone's heard set never changes".
abbrev pub deps_after : Checkpoint → ℕ → ℕ → Bool → ℕ
deps_after None deps from false = union deps (only from)
deps_after None deps from true = deps
deps_after (Mutable s) deps from flag = deps
deps_after (Permanent s) deps from flag = deps

-- The checkpoint after a message with this flag: "with no mark and bit 1, the zone takes a provisional mark".
abbrev pub checkpoint_after : Checkpoint → Saved → Bool → Checkpoint
checkpoint_after None now false = None
checkpoint_after None now true = Mutable now
checkpoint_after (Mutable s) now flag = Mutable s
checkpoint_after (Permanent s) now flag = Permanent s

-- Receipt of a hand-over that is traffic: "the receiver's stock rises. Before that:" the dependency set or the checkpoint.
abbrev pub received : ℕ → ℕ → Bool → Local → Local
received from cars flag z = record {
  stock = z.stock + cars;
  deps = deps_after z.checkpoint z.deps from flag;
  events = z.events + 1;
  checkpoint = checkpoint_after z.checkpoint (saved z) flag;
}

-- Both in an edition: a hand-over that is no traffic there, a line check, leaves either zone as it is.
abbrev pub sent_under : ℕ → ℕ → Local → Local
sent_under edition cars z = on (is_traffic edition cars) (sent cars) z

abbrev pub received_under : ℕ → ℕ → ℕ → Bool → Local → Local
received_under edition from cars flag z = on (is_traffic edition cars) (received from cars flag) z

-- The cars that must be in the stock for cars to go through the gate: those that drive out.
abbrev pub needed : Direction → ℕ → ℕ
needed In cars = 0
needed Out cars = cars

-- "changes that zone's stock by a signed amount": the stock after them.
abbrev pub through : Direction → ℕ → ℕ → ℕ
through In cars stock = stock + cars
through Out cars stock = stock - cars

-- Cars go through the gate: "It is an own event, also with 0 cars". The dependency set and the checkpoint stay.
abbrev pub gated : Direction → ℕ → Local → Local
gated direction cars z = record {
  stock = through direction cars z.stock;
  deps = z.deps;
  events = z.events + 1;
  checkpoint = z.checkpoint;
}

-- The zone with another checkpoint.
abbrev pub with_checkpoint : Checkpoint → Local → Local
with_checkpoint checkpoint z = record { stock = z.stock; deps = z.deps; events = z.events; checkpoint = checkpoint }

-- Start: "the zone takes a firm mark".
abbrev pub started : Local → Local
started z = with_checkpoint (Permanent (saved z)) z

-- Receipt of a request: "A provisional mark turns firm, keeping its stock and event number. An unmarked zone takes a firm mark."
abbrev pub made_permanent : Checkpoint → Saved → Checkpoint
made_permanent None now = Permanent now
made_permanent (Mutable s) now = Permanent s
made_permanent (Permanent s) now = Permanent s

abbrev pub requested : Local → Local
requested z = with_checkpoint (made_permanent z.checkpoint (saved z)) z

-- "In these two cases the zone sends a request to every zone of its heard set, other than itself, that is not in the received set".
-- A start has the targets of a zone that received the set of nobody: "each other zone of that set".
abbrev pub targets : ℕ → ℕ → Local → ℕ
targets me set z = difference z.deps (union set (only me))

-- "each carries the union of both sets".
abbrev pub carried : ℕ → Local → ℕ
carried set z = union z.deps set
