-- The park whose messages carry a tag, whether they were sent before or after their sender's checkpoint: there an event that counts
-- as before may be moved forward past the events that count as after.
use mathlib.Core.Path.{◌≡◌, refl, sym, ◌∙◌, ap, subst}
use mathlib.Core.Bool.{Bool, true, false, ◌&&◌, true≢false}
use mathlib.Core.Logic.{◌≢◌}
use mathlib.Core.List.{List, [], ◌∷◌, tail}
use Prim.Native.Nat.{ℕ, ◌+◌, ◌≤◌}
use lib.Dec.{eqb}
use borrow.Author.Tests.{ne_eqb}
use Rattle.rules.specs.Change.{on, join}
use Rattle.rules.proofs.Tests.{not-both, apart, apart-receivers, both_true, other-receiver}
use Rattle.rules.proofs.Guarded.{on-apart, on-swap-at, on-false}
use Rattle.rules.proofs.Lists.{All}
use Rattle.rules.proofs.Acts.{Act}

-- A message on a channel; post: its sender had a checkpoint when it was sent.
pub record Tagged : Type 0 where
  pub cars : ℕ
  pub post : Bool

-- An own event of a zone, an act or a receipt; post: it comes after the zone's checkpoint.
pub data Event : Type 0 where
  acting : (act : Act) (post : Bool) → Event
  receiving : (from to cars : ℕ) (post : Bool) → Event

abbrev pub zone_of : Event → ℕ
zone_of (acting x m) = x.zone
zone_of (receiving a b c m) = b

abbrev pub is_post : Event → Bool
is_post (acting x m) = m
is_post (receiving a b c m) = m

pub record TaggedPark : Type 0 where
  pub stock : ℕ → ℕ
  pub channel : ℕ → ℕ → List Tagged

abbrev pub tagged : ℕ → Bool → Tagged
tagged c m = record { cars = c; post = m }

abbrev pub acted_t : Act → Bool → TaggedPark → TaggedPark
acted_t x m S = record {
  stock = λ k. on (eqb k x.zone) x.change (S.stock k);
  channel = λ i j. on (x.goes i j) (join (tagged x.cars m)) (S.channel i j);
}

abbrev pub taken_t : ℕ → ℕ → ℕ → TaggedPark → TaggedPark
taken_t a b c S = record {
  stock = λ k. on (eqb k b) (λ v. v + c) (S.stock k);
  channel = λ i j. on (eqb i a && eqb j b) tail (S.channel i j);
}

-- The event e leads from S to T: the stock has what an act needs; a receipt that counts as before takes a message that does so too.
abbrev pub Step : Event → TaggedPark → TaggedPark → Type 0
Step (acting x m) S T = (x.needs ≤ S.stock x.zone) × (T ≡ acted_t x m S)
Step (receiving a b c m) S T =
    (l : Tagged) × (r : List Tagged) × (S.channel a b ≡ l ∷ r) × (m ≡ false → l.post ≡ false) × (T ≡ taken_t a b c S)
    × (l.cars ≡ c)

-- The stock of its zone changes so, and no other.
abbrev pub stock_by : Event → ℕ → ℕ
stock_by (acting x m) = x.change
stock_by (receiving a b c m) = λ n. n + c

pub step-stock : (e : Event) (S T : TaggedPark) → Step e S T → (k : ℕ) → T.stock k ≡ on (eqb k (zone_of e)) (stock_by e) (S.stock k)
step-stock (acting x m) S T s k = ap (λ (Y : TaggedPark). Y.stock k) s.1
step-stock (receiving a b c m) S T s k = ap (λ (Y : TaggedPark). Y.stock k) s.4

-- What lets e, then f be done as f, then e: they are of different zones; and a receipt f does not take what e sent, since f counts
-- as before, and e, if it sends on f's channel, as after.
abbrev pub Apart : Event → Event → Type 0
Apart (acting x m) (acting y n) = x.zone ≢ y.zone
Apart (acting x m) (receiving a b c n) = (x.zone ≢ b) × (n ≡ false) × (x.zone ≡ a → m ≡ true)
Apart (receiving a b c m) (acting y n) = b ≢ y.zone
Apart (receiving a b c m) (receiving x y d n) = b ≢ y

pub tagged≡ : (S T : TaggedPark) → ((k : ℕ) → S.stock k ≡ T.stock k) → ((i j : ℕ) → S.channel i j ≡ T.channel i j) → S ≡ T
tagged≡ S T p q = λ i. record { stock = λ k. p k i; channel = λ x y. q x y i }

ne-sym : (a b : ℕ) → a ≢ b → b ≢ a
ne-sym a b ne e = ne (sym e)

-- tail and join agree at a channel that is not empty.
tail-join : (l : List Tagged) (z h : Tagged) (t : List Tagged) → l ≡ h ∷ t → tail (join z l) ≡ join z (tail l)
tail-join [] z h t e = cc
tail-join (x ∷ l) z h t e = refl

acted-acted : (x : Act) (m : Bool) (y : Act) (n : Bool) (S : TaggedPark) → x.zone ≢ y.zone
    → acted_t y n (acted_t x m S) ≡ acted_t x m (acted_t y n S)
acted-acted x m y n S ne = tagged≡ _ _
    (λ k. on-apart (eqb k x.zone) (eqb k y.zone) _ _ (S.stock k) (apart x.zone y.zone ne k))
    (λ i j. on-apart (x.goes i j) (y.goes i j) _ _ (S.channel i j)
    (not-both (x.goes i j) (y.goes i j) (λ e f. ne (x.from i j e ∙ sym (y.from i j f)))))

taken-taken : (a b c x y d : ℕ) (S : TaggedPark) → b ≢ y → taken_t x y d (taken_t a b c S) ≡ taken_t a b c (taken_t x y d S)
taken-taken a b c x y d S ne = tagged≡ _ _
    (λ k. on-apart (eqb k b) (eqb k y) _ _ (S.stock k) (apart b y ne k))
    (λ i j. on-apart (eqb i a && eqb j b) (eqb i x && eqb j y) _ _ (S.channel i j) (apart-receivers a b x y ne i j))

taken-acted : (x : Act) (m : Bool) (a b c : ℕ) (S : TaggedPark) (l : Tagged) (r : List Tagged) → x.zone ≢ b → S.channel a b ≡ l ∷ r
    → taken_t a b c (acted_t x m S) ≡ acted_t x m (taken_t a b c S)
taken-acted x m a b c S l r ne e = tagged≡ _ _
    (λ k. on-apart (eqb k x.zone) (eqb k b) _ _ (S.stock k) (apart x.zone b ne k))
    (λ i j. on-swap-at (x.goes i j) (eqb i a && eqb j b) _ _ (S.channel i j)
    (λ t. let h = both_true i a j b t in tail-join (S.channel i j) _ l r (cc)))

-- The first message of a channel to which one sent after was joined, where the message taken was sent before.
first-message : (p : Bool) (s : List Tagged) (z l : Tagged) (r : List Tagged) → (p ≡ true → z.post ≡ true) → l.post ≡ false
    → on p (join z) s ≡ l ∷ r → (r' : List Tagged) × (s ≡ l ∷ r')
first-message false s z l r post pre e = (r, e)
first-message true [] z l r post pre e = let q : true ≡ false = cc (post refl) in absurd (true≢false q)
first-message true (x ∷ s) z l r post pre e = (s, cc)

join-cons : (p : Bool) (z l : Tagged) (r : List Tagged) → on p (join z) (l ∷ r) ≡ l ∷ on p (join z) r
join-cons true z l r = refl
join-cons false z l r = refl

-- The exchange of two events.
swap : (e f : Event) (S T U : TaggedPark) → Apart e f → Step e S T → Step f T U → (T' : TaggedPark) × Step f S T' × Step e T' U
swap (acting x m) (acting y n) S T U ne s t =
    let q : T.stock y.zone ≡ S.stock y.zone = ap (λ (Y : TaggedPark). Y.stock y.zone) s.1
    ∙ on-false (eqb y.zone x.zone) _ _ (ne_eqb y.zone x.zone (ne-sym x.zone y.zone ne)) in
    let q' : (acted_t y n S).stock x.zone ≡ S.stock x.zone
    = on-false (eqb x.zone y.zone) _ _ (ne_eqb x.zone y.zone ne) in (
      acted_t y n S,
      (rw q at t.0, refl),
      (rw q' s.0, t.1 ∙ ap (acted_t y n) s.1 ∙ acted-acted x m y n S ne),
    )
swap (acting x m) (receiving a b c n) S T U ne s t =
    let q : on (x.goes a b) _ (S.channel a b) ≡ t.0 ∷ t.1 = sym (ap (λ (Y : TaggedPark). Y.channel a b) s.1) ∙ t.2 in
    let r = first-message (x.goes a b) (S.channel a b) _ t.0 t.1 (λ h. ne.2 (x.from a b h)) (t.3 ne.1) q in
    let q' : (taken_t a b c S).stock x.zone ≡ S.stock x.zone = on-false (eqb x.zone b) _ _ (ne_eqb x.zone b ne.0) in (
      taken_t a b c S,
      (t.0, r.0, r.1, t.3, refl, t.5),
      (rw q' s.0, t.4 ∙ ap (taken_t a b c) s.1 ∙ taken-acted x m a b c S t.0 r.0 ne.0 r.1),
    )
swap (receiving a b c m) (acting y n) S T U ne s t =
    let q : T.stock y.zone ≡ S.stock y.zone = ap (λ (Y : TaggedPark). Y.stock y.zone) s.4
    ∙ on-false (eqb y.zone b) _ _ (ne_eqb y.zone b (ne-sym b y.zone ne)) in (
      acted_t y n S,
      (rw q at t.0, refl),
      (
        s.0,
        on (y.goes a b) (join (tagged y.cars n)) s.1,
        ap (on (y.goes a b) _) s.2 ∙ join-cons (y.goes a b) _ s.0 s.1,
        s.3,
        t.1 ∙ ap (acted_t y n) s.4 ∙ sym (taken-acted y n a b c S s.0 s.1 (ne-sym b y.zone ne) s.2),
        s.5,
      ),
    )
swap (receiving a b c m) (receiving x y d n) S T U ne s t =
    let q : S.channel x y ≡ t.0 ∷ t.1
    = sym (ap (λ (Y : TaggedPark). Y.channel x y) s.4
    ∙ on-false (eqb x a && eqb y b) _ _ (other-receiver a b x y (ne-sym b y ne))) ∙ t.2 in
    let q' : (taken_t x y d S).channel a b ≡ s.0 ∷ s.1 = on-false (eqb a x && eqb b y) _ _ (other-receiver x y a b ne) ∙ s.2 in (
      taken_t x y d S,
      (t.0, t.1, q, t.3, refl, t.5),
      (s.0, s.1, q', s.3, t.4 ∙ ap (taken_t x y d) s.4 ∙ taken-taken a b c x y d S ne, s.5),
    )

-- Events one after another, none refused.
abbrev pub Steps : List Event → TaggedPark → TaggedPark → Type 0
Steps [] S T = S ≡ T
Steps (e ∷ es) S U = (T : TaggedPark) × Step e S T × Steps es T U

pub steps-join : (es : List Event) (e : Event) (S T U : TaggedPark) → Steps es S T → Step e T U → Steps (join e es) S U
steps-join [] e S T U s t = (U, subst (λ (Y : TaggedPark). Step e Y U) (sym s) t, refl)
steps-join (x ∷ es) e S T U s t = (s.0, s.1, steps-join es e s.0 T U s.2 t)

-- f, done after the events es, may be done before them.
pub forward : (es : List Event) (f : Event) (S T U : TaggedPark) → All (λ e. Apart e f) es → Steps es S T → Step f T U
    → (S' : TaggedPark) × Step f S S' × Steps es S' U
forward [] f S T U h s t = (U, subst (λ (Y : TaggedPark). Step f Y U) (sym s) t, refl)
forward (e ∷ es) f S T U h s t =
    let r = forward es f s.0 T U h.1 s.2 t in
    let w = swap e f S s.0 r.0 h.0 s.1 r.1 in
    (w.0, w.1, (r.0, w.2, r.2))
