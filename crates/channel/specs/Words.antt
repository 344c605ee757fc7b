-- The word that stands for an item on a channel: a message of cars is the cars, and 256 more with the flag; a request is 512 more than
-- its set. Every word is an item; a word above 767 is a request whose set names a zone that no site has.
use Rattle.std.specs.Prelude.{Bool, cond, ℕ, ◌+◌, ◌-◌, ◌%◌, leb, ltb}
use Rattle.rules.specs.Site.{Item, message, request}

-- What the flag adds to the cars, and what a request has beside its set.
abbrev pub flag_weight : ℕ
flag_weight = 256

abbrev pub request_weight : ℕ
request_weight = 512

unfoldable pub item_of : ℕ → Item
item_of word = cond (ltb word request_weight) (message (word % flag_weight) (leb flag_weight word)) (request (word - request_weight))

unfoldable pub message_word : Bool → ℕ → ℕ
message_word flag cars = cond flag flag_weight 0 + cars

abbrev pub request_word : ℕ → ℕ
request_word set = request_weight + set

-- The cars of an item, and the set that it names; a request has no cars, and a message names nobody.
abbrev pub cars_in : Item → ℕ
cars_in (message cars flag) = cars
cars_in (request set) = 0

abbrev pub set_in : Item → ℕ
set_in (message cars flag) = 0
set_in (request set) = set
