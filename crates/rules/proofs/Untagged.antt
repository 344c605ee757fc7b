-- The tagged park without its tags is the plain park, and a channel holds what was handed over and not taken.
use mathlib.Core.Path.{◌≡◌, refl, sym, ◌∙◌, ap}
use mathlib.Core.Bool.{Bool, true, false, ◌&&◌}
use mathlib.Core.List.{List, [], ◌∷◌, ◌++◌, append-nil, tail, map}
use mathlib.Core.Option.{some}
use Prim.Native.Nat.{ℕ, suc}
use lib.Dec.{eqb}
use lib.ListN.{length, drop}
use lib.Seq.{drop_at, append_snoc}
use Rattle.rules.specs.Change.{on, join, cons-if}
use Rattle.rules.specs.Park.{Park, Move, take, taken, take_if, step, replay, owner, hands, takes}
use Rattle.rules.specs.Cut.{channel_of}
use Rattle.rules.proofs.Tests.{both_true}
use Rattle.rules.proofs.Guarded.{on-map}
use Rattle.rules.proofs.Lists.{map-join, map_tail}
use Rattle.rules.proofs.Acts.{Act}
use Rattle.rules.proofs.Tagged.{Tagged, Event, acting, receiving, zone_of, TaggedPark, acted_t, taken_t, Step, Steps}

abbrev pub untag : Event → Move
untag (acting x m) = x.move
untag (receiving a b c m) = take a b

pub owner-untag : (e : Event) → owner (untag e) ≡ zone_of e
owner-untag (acting x m) = x.owned
owner-untag (receiving a b c m) = refl

abbrev pub cars_of : Tagged → ℕ
cars_of l = l.cars

abbrev pub plain : TaggedPark → Park
plain S = record { stock = S.stock; channel = λ i j. map cars_of (S.channel i j) }

pub park≡ : (p q : Park) → ((k : ℕ) → p.stock k ≡ q.stock k) → ((i j : ℕ) → p.channel i j ≡ q.channel i j) → p ≡ q
park≡ p q e f = λ i. record { stock = λ k. e k i; channel = λ x y. f x y i }

acted-channel : (x : Act) (m : Bool) (S : TaggedPark) (i j : ℕ)
    → (plain (acted_t x m S)).channel i j ≡ on (x.goes i j) (join x.cars) ((plain S).channel i j)
acted-channel x m S i j = on-map (map cars_of) (x.goes i j) _ _ (S.channel i j) (map-join cars_of (S.channel i j) _)

plain-taken : (a b c : ℕ) (S : TaggedPark) → plain (taken_t a b c S) ≡ taken a b c (plain S)
plain-taken a b c S = park≡ _ _ (λ k. refl)
    (λ i j. on-map (map cars_of) (eqb i a && eqb j b) _ _ (S.channel i j) (map_tail cars_of (S.channel i j)))

plain_step_lem : (e : Event) (S T : TaggedPark) → Step e S T → step (untag e) (plain S) ≡ some (plain T)
plain_step_lem (acting x m) S T s =
    x.stepped (plain S) s.0 ∙ ap some (sym (ap plain s.1 ∙ park≡ _ _ (λ k. refl) (acted-channel x m S)))
plain_step_lem (receiving a b c m) S T s =
    ap (λ (l : List ℕ). take_if l a b (plain S)) (ap (map cars_of) s.2)
    ∙ ap (λ (k : ℕ). some (taken a b k (plain S))) s.5 ∙ ap some (sym (ap plain s.4 ∙ plain-taken a b c S))

pub plain-steps : (es : List Event) (S T : TaggedPark) → Steps es S T → replay (map untag es) (some (plain S)) ≡ some (plain T)
plain-steps [] S T s = ap (λ (Y : TaggedPark). some (plain Y)) s
plain-steps (e ∷ es) S T s = ap (replay (map untag es)) (plain_step_lem e S s.0 s.1) ∙ plain-steps es s.0 T s.2

join-append : (p : Bool) (l h : List ℕ) (c : ℕ) → on p (join c) l ++ h ≡ l ++ cons-if p c h
join-append true l h c = append_snoc l c h
join-append false l h c = refl

-- What has left a channel: the first ones of what was on it and what was handed over, as many as were taken.
Left : ℕ → ℕ → List Move → List ℕ → List ℕ → Type 0
Left i j ms before after = (g : List ℕ) × (length g ≡ takes i j ms) × (before ++ hands i j ms ≡ g ++ after)

left-take : (i j a b : ℕ) (ms : List Move) (before mid after : List ℕ) (p : Bool) → eqb i a && eqb j b ≡ p
    → mid ≡ on p tail before → (p ≡ true → (x : ℕ) × (r : List ℕ) × (before ≡ x ∷ r))
    → Left i j ms mid after → Left i j (take a b ∷ ms) before after
unfolding Left
left-take i j a b ms before mid after true t e h (g, n, q) =
    let (x, r, w) = h refl in
    (x ∷ g, rw t (ap suc n), cc)
left-take i j a b ms before mid after false t e h (g, n, q) = (g, rw t n, cc)

left : (i j : ℕ) (es : List Event) (S T : TaggedPark) → Steps es S T
    → Left i j (map untag es) (map cars_of (S.channel i j)) (map cars_of (T.channel i j))
unfolding Left
left i j [] S T s = ([], refl, append-nil _ ∙ ap (λ (Y : TaggedPark). map cars_of (Y.channel i j)) s)
left i j (acting x m ∷ es) S T s =
    let ms = map untag es in
    let r = left i j es s.0 T s.2 in
    let w = ap (λ (Y : TaggedPark). map cars_of (Y.channel i j)) s.1.1 ∙ acted-channel x m S i j in (
      r.0,
      r.1 ∙ sym (x.none-taken i j ms),
      ap (λ (l : List ℕ). map cars_of (S.channel i j) ++ l) (x.handed-over i j ms)
          ∙ sym (join-append (x.goes i j) _ _ x.cars) ∙ sym (ap (λ (l : List ℕ). l ++ hands i j ms) w) ∙ r.2,
    )
left i j (receiving a b c m ∷ es) S T s =
    let u = s.1 in
    left-take i j a b (map untag es) _ _ _ (eqb i a && eqb j b) refl
    (ap (λ (Y : Park). Y.channel i j) (ap plain u.4 ∙ plain-taken a b c S))
    (λ t. let h = both_true i a j b t in
    (u.0.cars, map cars_of u.1, ap (map cars_of) (ap (λ k. S.channel k j) h.0 ∙ ap (λ k. S.channel a k) h.1 ∙ u.2)))
    (left i j es s.0 T s.2)

-- From an empty channel: what was handed over, without the first ones, as many as were taken.
pub channel-after : (i j : ℕ) (es : List Event) (S T : TaggedPark) → S.channel i j ≡ [] → Steps es S T
    → (plain T).channel i j ≡ channel_of (map untag es) i j
unfolding Left
channel-after i j es S T e s =
    let (g, n, q) = left i j es S T s in
    let w : hands i j (map untag es) ≡ g ++ map cars_of (T.channel i j)
    = ap (λ (l : List Tagged). map cars_of l ++ hands i j (map untag es)) (sym e) ∙ q in
    sym (ap (drop (takes i j (map untag es))) w ∙ drop_at g (map cars_of (T.channel i j)) _ n)
