-- The state of a run, and question 1 in the form that hand-over, receipt, start and gate calls ask.
use Rattle.std.specs.Prelude.{Bool, true, not, ◌&&◌, ◌||◌, cond, List, [], ◌∷◌, ℕ, ◌+◌, leb, get_or, set}
use Rattle.rules.specs.Below.{all_below, any_below, sum_below}
use Rattle.rules.specs.Edition.{is_edition}
use Rattle.rules.specs.Limits.{most_cars, most_records, places}
use Rattle.rules.specs.Questions.{is_count}
use Rattle.rules.specs.Sets.{within}
use Rattle.rules.specs.Site.{Item}
use Rattle.rules.specs.Zone.{is_permanent}
use Rattle.rules.specs.declared.Local.{Local}
use Rattle.rules.specs.declared.Checkpoint.TheVariants.{None}
use Rattle.channel.specs.Words.{cars_in, set_in}
use Rattle.channel.specs.Channels.{most_channels, is_channel, len_of, items_on}
use Rattle.channel.specs.declared.Channels.{Channels}
use Rattle.run.specs.declared.Head.{Head}
use Rattle.run.specs.declared.Run.{Run}
use Rattle.run.specs.declared.Terms.{Terms}
use Rattle.run.specs.declared.Opening.{Opening}

-- A run of its parts.
abbrev pub run_as : Head → Channels → List ℕ → Run
run_as head channels journal = record { head = head; channels = channels; journal = journal }

-- A head of its opening, a number of records, and its zones by index; and these zones of a head. How the zones are stored is said here and
-- in the code beside `Head` alone.
abbrev pub head_as : Opening → ℕ → List Local → Head
head_as opening records zones = record { opening = opening; records = records; zones = zones }

abbrev pub locals : Head → List Local
locals h = h.zones

-- The terms, the edition and the zone count of a head.
abbrev pub terms_of : Head → Terms
terms_of h = h.opening.terms

abbrev pub edition_of : Head → ℕ
edition_of h = (terms_of h).edition

abbrev pub count_of : Head → ℕ
count_of h = (terms_of h).count

-- The value that a read behind the end of the zones would give.
abbrev pub no_local : Local
no_local = record { stock = 0; deps = 0; events = 0; checkpoint = None }

-- The zone at an index, and the head with a zone put back there beside a number of records.
abbrev pub zone_at : Head → ℕ → Local
zone_at h i = get_or (locals h) i no_local

abbrev pub put_back : Head → ℕ → Local → ℕ → Head
put_back h i z records = head_as h.opening records (set (locals h) i z)

-- "no zone with more own events than there are records, every set naming only zones of the site": a zone's own part.
unfoldable pub local_sound : ℕ → ℕ → Local → Bool
local_sound count records z = leb z.events records && within z.deps count

unfoldable pub locals_sound : Head → Bool
locals_sound h = all_below (count_of h) (λ i. local_sound (count_of h) h.records (zone_at h i))

-- "every set naming only zones of the site": the requests of a channel.
abbrev pub sets_within : ℕ → List Item → Bool
sets_within count [] = true
sets_within count (x ∷ xs) = within (set_in x) count && sets_within count xs

-- "at most 16 items a line", with the sets of its requests.
unfoldable pub channel_sound : Terms → Channels → ℕ → Bool
channel_sound t l k = leb (len_of l k) places && sets_within t.count (items_on l k)

unfoldable pub channels_sound : Terms → Channels → Bool
channels_sound t l = all_below (most_channels) (λ k. not (is_channel t.count k) || channel_sound t l k)

-- The cars of a list of items.
abbrev pub cars_of : List Item → ℕ
cars_of [] = 0
cars_of (x ∷ xs) = cars_in x + cars_of xs

-- "stocks plus cars on lines".
unfoldable pub stocks : Head → ℕ
stocks h = sum_below (count_of h) (λ i. (zone_at h i).stock)

unfoldable pub cars_on_channels : ℕ → Channels → ℕ
cars_on_channels count l = sum_below (most_channels) (λ k. cond (is_channel count k) (cars_of (items_on l k)) 0)

abbrev pub all_cars : Run → ℕ
all_cars r = stocks r.head + cars_on_channels (count_of r.head) r.channels

-- Question 1 over the parts that it looks at, the edition with them ("Questions 1 and 15 allow the editions defined so far"), but neither
-- saved values in checkpoints nor storage that the site does not have.
unfoldable pub parts_sound : Head → Channels → Bool
parts_sound h l =
    is_edition (edition_of h) && is_count (count_of h) && leb h.records most_records && locals_sound h && channels_sound (terms_of h) l
    && leb (stocks h + cars_on_channels (count_of h) l) most_cars

abbrev pub is_sound : Run → Bool
is_sound r = parts_sound r.head r.channels

-- "A recording is started once a zone is firm".
unfoldable pub has_started : Head → Bool
has_started h = any_below (count_of h) (λ i. is_permanent (zone_at h i).checkpoint)
