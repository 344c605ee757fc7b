-- `scan::examined` meets its contract: the questions of a run's parts, one after another.
use Rattle.std.proofs.Common.{◌≡◌, ◌+◌, ◌<◌, ◌≤◌, ℕ, true, false, sym, ◌∙◌, ap₂}
use borrow.Author.Tests.{lt-leb, le-leb}
use Rattle.rules.specs.Edition.{is_edition}
use Rattle.rules.specs.Questions.{is_count}
use Rattle.rules.proofs.QuestionLaws.{count-high}
use Rattle.channel.specs.declared.Channels.{Channels}
use Rattle.run.specs.State.{terms_of, edition_of, count_of, locals_sound, channels_sound, stocks, cars_on_channels, parts_sound}
use Rattle.run.specs.declared.Head.{Head}
use lib.Dec.{leb}
use Rattle.scan.proofs.Laws.{then-sound, some-is, none-is, is-none}
use Rattle.scan.proofs.examined.Goals as goal

module _ (h : Head) (l : Channels) where
  no-edition : is_edition (edition_of h) ≡ false → parts_sound h l ≡ false
  unfolding parts_sound
  no-edition e = rw e

  no-count : is_edition (edition_of h) ≡ true → is_count (count_of h) ≡ false → parts_sound h l ≡ false
  unfolding parts_sound
  no-count d e = rw (d, e)

  module _ (d : is_edition (edition_of h) ≡ true) (e : is_count (count_of h) ≡ true) where
    long : 1000 < h.records → parts_sound h l ≡ false
    unfolding parts_sound
    long r = rw (d, e, lt-leb _ _ r)

    module _ (r : h.records ≤ 1000) where
      no-locals : locals_sound h ≡ false → parts_sound h l ≡ false
      unfolding parts_sound
      no-locals f = rw (d, e, le-leb _ _ r, f)

      no-channels : locals_sound h ≡ true → channels_sound (terms_of h) l ≡ false → parts_sound h l ≡ false
      unfolding parts_sound
      no-channels f g = rw (d, e, le-leb _ _ r, f, g)

      module _ (f : locals_sound h ≡ true) (g : channels_sound (terms_of h) l ≡ true) (m n : ℕ) (p : m ≡ stocks h) (q : n ≡ cars_on_channels (count_of h) l) where
        all-parts : leb (m + n) 65535 ≡ parts_sound h l
        unfolding parts_sound
        all-parts = rw (d, e, le-leb _ _ r, f, g, ← p, ← q)

pub returns-then-not-is_edition : goal.returns-then-not-is_edition
returns-then-not-is_edition c = is-none _ _ (no-edition _ _ (sym c.is_edition.ensures ∙ c.if-not-is_edition.true))

pub returns-then-not-is_count : goal.returns-then-not-is_count
returns-then-not-is_count c =
    is-none _ _ (no-count _ _ (sym c.is_edition.ensures ∙ c.if-not-is_edition.false) (sym c.is_count.ensures ∙ c.if-not-is_count.true))

pub returns-then-head-gt-MOST_RECORDS : goal.returns-then-head-gt-MOST_RECORDS
returns-then-head-gt-MOST_RECORDS c =
    is-none _ _
    (long _ _ (sym c.is_edition.ensures ∙ c.if-not-is_edition.false) (sym c.is_count.ensures ∙ c.if-not-is_count.false) c.if-head-gt-MOST_RECORDS.true)

pub zones_of-requires : goal.zones_of-requires
zones_of-requires c = count-high _ (sym c.is_count.ensures ∙ c.if-not-is_count.false)

pub returns-in_err-held : goal.returns-in_err-held
returns-in_err-held c =
    c.from_residual.ensures
    ∙ is-none _ _
    (no-locals _ _ (sym c.is_edition.ensures ∙ c.if-not-is_edition.false) (sym c.is_count.ensures ∙ c.if-not-is_count.false) c.if-head-gt-MOST_RECORDS.false
    (none-is _ _ c.in_err-held.ensures.held))

pub channels-requires : goal.channels-requires
channels-requires c = count-high _ (sym c.is_count.ensures ∙ c.if-not-is_count.false)

pub returns-in_err-moving : goal.returns-in_err-moving
returns-in_err-moving c =
    c.from_residual-in_err-moving.ensures
    ∙ is-none _ _
    (no-channels _ _ (sym c.is_edition.ensures ∙ c.if-not-is_edition.false) (sym c.is_count.ensures ∙ c.if-not-is_count.false) c.if-head-gt-MOST_RECORDS.false
    (some-is _ _ _ c.in_ok-held.ensures.held).0
    (none-is _ _ c.in_err-moving.ensures.held))

pub returns : goal.returns
returns c =
    let z = some-is _ _ _ c.in_ok-held.ensures.held in
    let l = some-is _ _ _ c.in_ok-moving.ensures.held in
    then-sound _ _ _ _ _ c.then_some.ensures
    (all-parts _ _ (sym c.is_edition.ensures ∙ c.if-not-is_edition.false) (sym c.is_count.ensures ∙ c.if-not-is_count.false) c.if-head-gt-MOST_RECORDS.false z.0 l.0 _ _ z.1 l.1)
    (ap₂ ◌+◌ z.1 l.1)
