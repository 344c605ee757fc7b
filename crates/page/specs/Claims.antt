-- What is claimed of a page: "Each line of the page has 16 characters and a line feed", and nothing is cut.
use Rattle.std.specs.Prelude.{◌≡◌, List, [], ◌∷◌, ◌++◌, ◌≢◌, ℕ, ◌+◌, ◌*◌, ◌<◌, length, take, drop}
use Rattle.rules.specs.Below.{sum}
use Rattle.rules.specs.Cut.{Snapshot}
use Rattle.rules.specs.Park.{total}
use Rattle.rules.proofs.Lists.{All}
use Rattle.channel.specs.Channels.{most_channels}
use Rattle.text.specs.Text.{line_feed, read_column}
use Rattle.page.specs.Layout.{line_bytes, channel_of, lines_before, channel_lines}

-- A line: 16 characters, none of them a line feed, and a line feed.
pub record Line (line : List ℕ) : Type 0 where
  pub text : List ℕ
  pub characters : length text ≡ 16
  pub unbroken : All (λ c. c ≢ line_feed) text
  pub ended : line ≡ text ++ (line_feed ∷ [])

-- A text that lines make up, one after another.
abbrev pub joined : List (List ℕ) → List ℕ
joined [] = []
joined (l ∷ ls) = l ++ joined ls

pub record OfLines (text : List ℕ) : Type 0 where
  pub lines : List (List ℕ)
  pub whole : joined lines ≡ text
  pub each : All Line lines

-- Nothing is cut: each number of a recording is read back from its place on the page. The zone at index i has the line behind i lines; a channel
-- with items that behind those of the zones and of the channels before it; the total the last.
abbrev pub column_at : (width line place : ℕ) → List ℕ → ℕ
column_at width line place page = read_column (take width (drop place (drop (line_bytes * line) page)))

pub record NothingCut (count : ℕ) (s : Snapshot) (page : List ℕ) : Type 0 where
  pub events : (i : ℕ) → i < count → column_at 4 i 5 page ≡ s.events i
  pub stock : (i : ℕ) → i < count → column_at 6 i 10 page ≡ s.park.stock i
  pub items : (k : ℕ) → k < most_channels → channel_of s k ≢ [] → column_at 4 (count + lines_before s k) 5 page ≡ length (channel_of s k)
  pub cars : (k : ℕ) → k < most_channels → channel_of s k ≢ [] → column_at 6 (count + lines_before s k) 10 page ≡ sum (channel_of s k)
  pub whole : column_at 6 (count + channel_lines s) 10 page ≡ total count s.park
