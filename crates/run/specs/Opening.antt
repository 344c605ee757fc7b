-- Opening a site: what it is opened with is one value, from the caller's terms and stocks down to the rules' opening.
use Rattle.std.specs.Prelude.{Bool, true, List, [], ◌∷◌, ℕ, leb, eqb, length, get_or, replicate}
use Rattle.rules.specs.Below.{list_below, sum}
use Rattle.rules.specs.Edition.{first_edition, is_edition}
use Rattle.rules.specs.Limits.{fewest_zones, most_zones, most_cars, most_records}
use Rattle.rules.specs.Opening as rules
use Rattle.rules.specs.Questions.{Question, question, ask, is_count}
use Rattle.rules.specs.Zone.{opened}
use Rattle.rules.specs.declared.Local.{Local}
use Rattle.channel.specs.Channels.{most_channels, most_words, channels_as}
use Rattle.channel.specs.declared.Channels.{Channels}
use Rattle.run.specs.State.{head_as, run_as}
use Rattle.run.specs.Answer.{Answer}
use Rattle.run.specs.declared.Head.{Head}
use Rattle.run.specs.declared.Opening.{Opening}
use Rattle.run.specs.declared.Run.{Run}
use Rattle.run.specs.declared.Terms.{Terms}

abbrev pub terms_as : ℕ → ℕ → Terms
terms_as edition count = record { edition = edition; count = count }

-- An opening of its terms and a list of stocks, which may have any length: questions 15 and 2 to 4 judge it.
abbrev pub opening_as : Terms → List ℕ → Opening
opening_as terms stocks = record { terms = terms; stocks = stocks }

-- The stock of the zone at an index: 0 behind the end of the list, so that an empty one "means stock 0 in every zone".
abbrev pub stock_at : Opening → ℕ → ℕ
stock_at o i = get_or o.stocks i 0

-- The same opening as the rules have it.
abbrev pub opening_of : Opening → rules.Opening
opening_of o = record { edition = o.terms.edition; stocks = stock_at o }

-- The head of an opening: zones that the site does not have are kept as zones opened with stock 0.
abbrev pub opened_zones : Opening → List Local
opened_zones o = list_below most_zones (λ i. opened i (stock_at o i))

abbrev pub opened_head : Opening → Head
opened_head o = head_as (opening_as o.terms (list_below most_zones (stock_at o))) 0 (opened_zones o)

abbrev pub no_channels : Channels
no_channels = channels_as (replicate most_words 0) (replicate most_channels 0)

-- The first run with a head: no item on a channel, and no record.
abbrev pub first_run : Head → Run
first_run h = run_as h no_channels (replicate most_records 0)

unfoldable pub opened_run : Opening → Run
opened_run o = first_run (opened_head o)

-- Question 3: "Are there as many stocks as zones?" And of an empty list "question 3 passes it".
abbrev pub is_stock_list : (count : ℕ) → List ℕ → Bool
is_stock_list count [] = true
is_stock_list count (stock ∷ stocks) = eqb (length (stock ∷ stocks)) count

-- "Open: 2, 3, 4.", and "15, for the edition named, comes first in opening".
abbrev pub open_questions : Opening → List Question
open_questions o =
    question 15 (is_edition o.terms.edition)
    ∷ question 2 (is_count o.terms.count)
    ∷ question 3 (is_stock_list o.terms.count o.stocks)
    ∷ question 4 (leb (sum o.stocks) most_cars)
    ∷ []

-- "A refused opening or reading hands back, beside the number, a run of 2 zones with stock 0 and no records", which "has edition 1".
abbrev pub fallback : Opening
fallback = opening_as (terms_as first_edition fewest_zones) (0 ∷ 0 ∷ [])

abbrev pub unopened : ℕ → Answer
unopened n = record { refusal = n; remaining = 0; run = opened_run fallback }

unfoldable pub open_call : Opening → Answer
open_call o = ask (open_questions o) unopened (record { refusal = 0; remaining = 0; run = opened_run o })
