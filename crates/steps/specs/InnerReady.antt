-- A call over the parts of a run: of the zones only the one that acts is passed, and the channels are lent.
use Rattle.std.specs.Prelude.{◌≡◌, true, ℕ, ◌+◌, ◌<◌, ◌≤◌, ◌^◌}
use Rattle.rules.specs.Limits.{most_zones, most_cars, most_records}
use Rattle.rules.specs.Questions.{index, is_on}
use Rattle.rules.specs.declared.Local.{Local}
use Rattle.channel.specs.Channels.{channel_index, len_of, first_of}
use Rattle.channel.specs.Words.{item_of, cars_in, set_in}
use Rattle.channel.specs.declared.Channels.{Channels}
use Rattle.run.specs.Calls.{is_pair}
use Rattle.run.specs.State.{terms_of, count_of, zone_at, stocks, cars_on_channels, parts_sound}
use Rattle.run.specs.declared.Head.{Head}
use Rattle.run.specs.declared.SiteCall.{SiteCall}
use Rattle.run.specs.declared.SiteCall.TheVariants.{Send, Receive, Start, Gate}
use Rattle.run.specs.declared.Terms.{Terms}

-- The parts are those of a head of which question 1 was answered yes, with the zone z at index `at`.
pub record Stands (h : Head) (terms : Terms) (records at : ℕ) (z : Local) (l : Channels) : Type 0 where
  pub opened : terms_of h ≡ terms
  pub number : h.records ≡ records
  pub acting : zone_at h at ≡ z
  pub sound : parts_sound h l ≡ true

pub record Ready (terms : Terms) (records at : ℕ) (z : Local) (l : Channels) : Type 0 where
  pub head : Head
  pub stands : Stands head terms records at z l

-- The same of a call that looks at no channel: such channels there are, and with them the stocks and the cars on lines are so many.
pub record Weighed (terms : Terms) (records at : ℕ) (z : Local) (held : ℕ) : Type 0 where
  pub channels : Channels
  pub ready : Ready terms records at z channels
  pub sum : held ≡ stocks ready.head + cars_on_channels (count_of ready.head) channels

-- What the effect of a call rests on, so that no count wraps: its zones are on a site, and there is room for what it takes.
abbrev pub Fits : SiteCall → Local → Channels → Type 0
Fits (Send from to cars) z l = (is_pair most_zones from to ≡ true) × (z.events < most_records)
Fits (Receive from to) z l =
    (is_pair most_zones from to ≡ true) × (z.events < most_records)
    × (0 < len_of l (channel_index (index from) (index to))
    → (z.stock + cars_in (item_of (first_of l (channel_index (index from) (index to)))) ≤ most_cars)
    × (set_in (item_of (first_of l (channel_index (index from) (index to)))) < 2 ^ most_zones))
Fits (Start zone) z l = is_on most_zones zone ≡ true
Fits (Gate direction zone cars) z l = z.events < most_records
