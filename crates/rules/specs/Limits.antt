-- The limits (docs/RULES.md, section 2), each named once.
use Rattle.std.specs.Prelude.{ℕ}

-- The zones of a site: "2 to 8 zones".
abbrev pub fewest_zones : ℕ
fewest_zones = 2

abbrev pub most_zones : ℕ
most_zones = 8

-- "A zone has a stock of cars (0 to 65,535)"; the same bound holds of stocks plus cars on channels.
abbrev pub most_cars : ℕ
most_cars = 65535

-- "A line has 16 places."
abbrev pub places : ℕ
places = 16

-- "at most 1,000 records"; the zone part counts own events by the same number.
abbrev pub most_records : ℕ
most_records = 1000
