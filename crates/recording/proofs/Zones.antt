-- A run that question 1 passes for recording stands where its opening and the calls of its records lead by the rules, so that its zones
-- and its records show the recording of the rules.
use mathlib.Core.Path.{◌≡◌, refl, sym, ◌∙◌, ap, ap₂, subst}
use mathlib.Core.Bool.{Bool, true, false, cond, ◌&&◌, not}
use mathlib.Core.List.{List, [], ◌∷◌, ◌++◌}
use Prim.Native.Nat.{ℕ, zero, suc, ◌+◌, ◌/◌, ◌%◌, ◌<◌}
use native.Mathlib.Omega.{arith}
use lib.Dec.{ltb, eqb}
use lib.ListN.{get_or}
use lib.Seq.{get_or-take}
use borrow.Author.Tests.{ltb-true}
use Rattle.rules.specs.Zone.{is_permanent}
use Rattle.rules.specs.Site.{Site, open_s}
use Rattle.rules.specs.Cut.{Allowed, run, events_of, stock_of}
use Rattle.rules.specs.declared.Local.{Local}
use Rattle.rules.proofs.Tests.{and_left, and_right}
use Rattle.run.specs.Claims.{WholeRun}
use Rattle.run.specs.Model.{site_of}
use Rattle.run.specs.State.{zone_at, count_of}
use Rattle.run.specs.declared.Run.{Run}
use Rattle.run.proofs.Outcome.{is_open}
use Rattle.run.proofs.Parts.{zone-on}
use Rattle.run.proofs.Refine.{opened-site}
use Rattle.run.proofs.Whole.{opened-whole}
use Rattle.journal.specs.Format.{journal_bytes, opened_with, record_words}
use Rattle.journal.specs.InnerOrdinals.{ordinals_of}
use Rattle.journal.specs.Reading.{replayed, records_in, read_call, opening_in}
use Rattle.journal.specs.Writing.{is_replayed}
use Rattle.journal.specs.Answers.{Reading}
use Rattle.journal.proofs.Accepted.{read-comes, read-tells}
use Rattle.journal.proofs.Front.{begins-read, read-begins}
use Rattle.journal.proofs.Same.{same_read, same-run, same-site}
use Rattle.recording.specs.Call.{rule_calls_in, snapshot_of}
use Rattle.recording.specs.Layout.{join_below, zone_words, channel_words, item_words}
use Rattle.recording.specs.InnerRecords.{items_at}
use Rattle.recording.proofs.Chain.{chain, leads}
use Rattle.recording.proofs.Link.{items-are}
use Rattle.run.specs.Opening.{open_call, opened_run, opening_as, opening_of}
use Rattle.channel.specs.Channels.{is_channel}
use Rattle.run.specs.declared.Opening.{Opening}

-- The records of a run, its first run, and the site of its opening.
abbrev pub words_at : Run → List ℕ
words_at r = record_words r

abbrev pub first_run : Run → Run
first_run r = opened_run (opened_with r)

abbrev pub first_site : Run → Site
first_site r = open_s (opening_of (opened_with r))

-- The opening is accepted, then the records in turn, and they lead to the same site.
pub record Reached (r : Run) : Type 0 where
  pub opened : (open_call (opened_with r)).refusal ≡ 0
  pub accepted : (replayed (words_at r) 0 0 (first_run r)).refusal ≡ 0
  pub site : site_of (replayed (words_at r) 0 0 (first_run r)).run ≡ site_of r

pub reached : (r : Run) → WholeRun r → is_replayed r ≡ true → Reached r
reached r w e =
    let bytes = journal_bytes r in
    let ok = same_read r w e in
    let same = same-run r w e in
    let tells = read-tells bytes ok in
    let opening : opening_in bytes ≡ opened_with r =
    sym tells.opening ∙ ap₂ opening_as same.terms same.opening in
    let words : records_in bytes ≡ words_at r = sym tells.records ∙ same.journal in
    let read : read_call bytes ≡ replayed (words_at r) 0 0 (first_run r) =
    begins-read bytes (read-begins bytes ok)
    ∙ ap₂ (λ (ws : List ℕ) (o : Opening). replayed ws 0 0 (opened_run o)) words opening in
    record {
      opened = ap (λ (o : Opening). (open_call o).refusal) (sym opening) ∙ (read-comes bytes ok).opened;
      accepted = ap (λ (x : Reading). x.refusal) (sym read) ∙ ok;
      site = ap (λ (x : Reading). site_of x.run) (sym read) ∙ same-site r w e;
    }

pub join-same : {A : Type 0} (n : ℕ) (f g : ℕ → List A) → ((k : ℕ) → k < n → f k ≡ g k) → join_below n f ≡ join_below n g
join-same zero f g h = refl
join-same (suc n) f g h = ap₂ ◌++◌ (join-same n f g (λ k b. h k (omega arith))) (h n (omega arith))

-- The two zones of a channel are on the site.
pub pair-at : (count k : ℕ) → is_channel count k ≡ true → (k / 8 < count) × (k % 8 < count)
unfolding is_channel
pair-at count k c =
    let f = and_left (ltb (k / 8) count && ltb (k % 8) count) (not (eqb (k / 8) (k % 8))) c in
    (ltb-true (k / 8) count (and_left (ltb (k / 8) count) (ltb (k % 8) count) f), ltb-true (k % 8) count (and_right (ltb (k / 8) count) _ f))

-- The two words of a zone.
abbrev pub words_of : Local → ℕ → List ℕ
words_of z opening =
    (cond (is_permanent z.checkpoint) 32768 0 + events_of z.checkpoint) ∷ stock_of z.checkpoint opening ∷ []

module _ (r : Run) (w : WholeRun r) (e : is_replayed r ≡ true) where
  pub first-site : site_of (first_run r) ≡ first_site r
  first-site = opened-site (opened_with r) (is_open (opened_with r) (reached r w e).opened).fits

  led : (run (rule_calls_in (words_at r)) (first_site r) ≡ site_of r) × Allowed (rule_calls_in (words_at r)) (first_site r)
  led =
      let h = reached r w e in
      let (q, a) = leads (chain (words_at r) 0 0 (first_run r) h.accepted) (opened-whole (opened_with r)) in
      subst (λ (s : Site). (run (rule_calls_in (words_at r)) s ≡ site_of r) × Allowed (rule_calls_in (words_at r)) s) first-site (q ∙ h.site, a)

  -- The site of the run, by the rules, and the calls as the rules ask.
  pub site-is : site_of r ≡ run (rule_calls_in (words_at r)) (first_site r)
  site-is = sym led.0

  pub calls-allowed : Allowed (rule_calls_in (words_at r)) (first_site r)
  calls-allowed = led.1

  -- What the recording shows of a zone of the site.
  zone-is : (i : ℕ) → i < count_of r.head → (run (rule_calls_in (words_at r)) (first_site r)).zone i ≡ zone_at r.head i
  zone-is i h = ap (λ (s : Site). s.zone i) led.0 ∙ zone-on r i h

  pub recorded-is : (i : ℕ) → i < count_of r.head → (snapshot_of r).recorded i ≡ is_permanent (zone_at r.head i).checkpoint
  recorded-is i h = ap (λ (z : Local). is_permanent z.checkpoint) (zone-is i h)

  pub events-are : (i : ℕ) → i < count_of r.head → (snapshot_of r).events i ≡ events_of (zone_at r.head i).checkpoint
  events-are i h = ap (λ (z : Local). events_of z.checkpoint) (zone-is i h)

  pub stock-is : (i : ℕ) → i < count_of r.head
      → (snapshot_of r).park.stock i ≡ stock_of (zone_at r.head i).checkpoint (get_or r.head.opening.stocks i 0)
  stock-is i h = ap₂ (λ (z : Local) (v : ℕ). stock_of z.checkpoint v) (zone-is i h) (get_or-take (count_of r.head) r.head.opening.stocks i 0 h)

  -- The items on the channel at an index, where sh lists the events shown of its two zones.
  pub items_of : (sh : List ℕ) (k : ℕ) → k < 64 → get_or sh (k / 8) 0 ≡ (snapshot_of r).events (k / 8)
      → get_or sh (k % 8) 0 ≡ (snapshot_of r).events (k % 8)
      → channel_words (snapshot_of r) k ≡ items_at k sh (words_at r) (ordinals_of (words_at r) (first_run r))
  items_of sh k h fi fj =
      let q = reached r w e in
      sym (items-are (opened_with r) (words_at r) 0 0 q.opened q.accepted sh k h fi fj)

  -- All words of a recording, by the zones' checkpoints and the records, where sh lists the events shown of the zones of the site.
  pub zone-words-are : join_below (count_of r.head) (zone_words (snapshot_of r)) ≡ join_below (count_of r.head) (λ i. words_of (zone_at r.head i) (get_or r.head.opening.stocks i 0))
  zone-words-are = join-same (count_of r.head) _ _ (λ i h. rw (recorded-is i h, events-are i h, stock-is i h))

  pub item-words-are : (sh : List ℕ) → ((i : ℕ) → i < count_of r.head → get_or sh i 0 ≡ events_of (zone_at r.head i).checkpoint)
      → item_words (count_of r.head) (snapshot_of r)
      ≡ join_below 64 (λ k. cond (is_channel (count_of r.head) k) (items_at k sh (words_at r) (ordinals_of (words_at r) (first_run r))) [])
  unfolding item_words
  item-words-are sh fits = join-same 64 _ _ (λ k h. go k h (is_channel (count_of r.head) k) refl)
    where
      go : (k : ℕ) → k < 64 → (p : Bool) → is_channel (count_of r.head) k ≡ p
          → cond p (channel_words (snapshot_of r) k) [] ≡ cond p (items_at k sh (words_at r) (ordinals_of (words_at r) (first_run r))) []
      go k h true c =
          let (x, y) = pair-at (count_of r.head) k c in
          items_of sh k h (fits (k / 8) x ∙ sym (events-are (k / 8) x)) (fits (k % 8) y ∙ sym (events-are (k % 8) y))
      go k h false c = refl
