-- Requests: whoever a permanent zone depends on, or a request names, is permanent or has a request coming; and every permanent zone
-- is reached from the initiator by dependencies.
use mathlib.Core.Path.{◌≡◌, refl, sym, ◌∙◌, ap, subst}
use mathlib.Core.Bool.{Bool, true, false, ◌&&◌, false≢true, true≢false}
use mathlib.Core.Logic.{◌⊎◌, inl, inr}
use mathlib.Core.List.{List, [], ◌∷◌, tail}
use mathlib.Core.Option.{none, some}
use Prim.Native.Nat.{ℕ}
use lib.Dec.{eqb}
use borrow.Author.Tests.{eqb-true}
use Rattle.rules.specs.Opening.{Opening}
use Rattle.rules.specs.Change.{on, join}
use Rattle.rules.specs.Sets.{has, nobody}
use Rattle.rules.specs.Zone.{is_permanent, deps_after, received, requested, targets, carried}
use Rattle.rules.specs.Site.{Item, message, request, pop_s, waits}
use Rattle.rules.specs.declared.Local.{Local}
use Rattle.rules.specs.declared.Checkpoint.{Checkpoint}
use Rattle.rules.specs.declared.Checkpoint.TheVariants.{None, Mutable, Permanent}
use Rattle.rules.proofs.SetLaws.{has-nobody}
use Rattle.rules.proofs.Tests.{Same, same?, and_left, and_right, or_cases, or_left, eqb_refl, both_true}
use Rattle.rules.proofs.Guarded.{on-keeps, on_same, on-true, on-false}
use Rattle.rules.proofs.Lists.{All, all_join, all_tail, all_map}
use Rattle.rules.proofs.Checkpoints.{permanent-after, permanent-made, has-deps_after, has-targets, has-carried}
use Rattle.rules.proofs.Tagged.{Event}
use Rattle.rules.proofs.History.{History, open_h, IsPermanent, Depends, own_h, own-checkpoint, own-deps, receive_h, check_h, pop_h, turn_h, begin_h, at-channel}
use Rattle.rules.proofs.Kept.{Kept, some≢none}

-- The first item of a channel has left it; zones and log may have changed.
abbrev took_h : ℕ → ℕ → (ℕ → Local) → List Event → History → History
took_h a b zone log h = record {
  now = record { edition = h.now.edition; zone = zone; channel = (pop_s a b h.now).channel };
  initiator = h.initiator;
  log = log;
}

-- Permanent, or a request is coming.
abbrev pub Due : History → ℕ → Type 0
Due h i = IsPermanent h i ⊎ ((k : ℕ) × (waits (h.now.channel k i) ≡ true))

-- What is true of an item on the channel from i to j; D: who is due.
abbrev Fair : (ℕ → Type 0) → History → ℕ → ℕ → Item → Type 0
Fair D h i j (message c flag) = Unit {0}
Fair D h i j (request set) = IsPermanent h i × Depends h i j × ((k : ℕ) → has set k ≡ true → D k)

-- The zones X have the initiator and, with each permanent zone, all that it depends on.
abbrev Starts : (ℕ → Type 0) → History → Type 0
Starts X h = (a : ℕ) → h.initiator ≡ some a → X a

abbrev Shut : (ℕ → Type 0) → History → Type 0
Shut X h = (i j : ℕ) → IsPermanent h j → X j → Depends h j i → X i

abbrev pub Reach : History → Type 1
Reach h = (X : ℕ → Type 0) → Starts X h → Shut X h → (z : ℕ) → IsPermanent h z → X z

pub record Flow (D : ℕ → Type 0) (h : History) : Type 1 where
  pub fair : (i j : ℕ) → All (Fair D h i j) (h.now.channel i j)
  pub wanted : (j i : ℕ) → IsPermanent h j → Depends h j i → D i
  pub reach : Reach h
  pub quiet : h.initiator ≡ none → (z : ℕ) → IsPermanent h z → ⊥

waits-join : (l : List Item) (x : Item) → waits l ≡ true → waits (join x l) ≡ true
waits-join [] x e = absurd (false≢true e)
waits-join (message c flag ∷ l) x e = waits-join l x e
waits-join (request set ∷ l) x e = refl

waits-last : (l : List Item) (set : ℕ) → waits (join (request set) l) ≡ true
waits-last [] set = refl
waits-last (message c flag ∷ l) set = waits-last l set
waits-last (request q ∷ l) set = refl

waits-tail : (l : List Item) (c : ℕ) (flag : Bool) (r : List Item) → l ≡ message c flag ∷ r → waits l ≡ true → waits (tail l) ≡ true
waits-tail [] c flag r e w = w
waits-tail (message d n ∷ l) c flag r e w = w
waits-tail (request q ∷ l) c flag r e w = cc

-- A zone once permanent stays so, and dependency sets only grow.
record Grows (h t : History) : Type 0 where
  permanents : (k : ℕ) → IsPermanent h k → IsPermanent t k
  dependencies : (k i : ℕ) → Depends h k i → Depends t k i

fair-grows : (D E : ℕ → Type 0) (h t : History) → Grows h t → ((k : ℕ) → D k → E k) → (i j : ℕ) (x : Item) → Fair D h i j x
    → Fair E t i j x
fair-grows D E h t g f i j (message c flag) q = tt
fair-grows D E h t g f i j (request set) q = (g.permanents i q.0, g.dependencies i j q.1, λ k e. f k (q.2 k e))

-- A request with a set makes zone b permanent.
module _ (b set : ℕ) (h : History) where
  abbrev is_target : ℕ → Bool
  is_target j = has (targets b set (h.now.zone b)) j

  abbrev sent_request : Item
  sent_request = request (carried set (h.now.zone b))

  turn-grows : Grows h (turn_h b set h)
  turn-grows = record {
    permanents = λ k p. on-keeps (λ (z : Local). is_permanent z.checkpoint ≡ true) (eqb k b) requested (h.now.zone k)
        (λ _. permanent-made (h.now.zone k).checkpoint _) p;
    dependencies = λ k i d. on_same (λ (z : Local). has z.deps i) (eqb k b) requested (h.now.zone k) refl ∙ d;
  }

  turn-permanent : IsPermanent (turn_h b set h) b
  turn-permanent =
      ap (λ (z : Local). is_permanent z.checkpoint) (on-true (eqb b b) requested (h.now.zone b) (eqb_refl b))
      ∙ permanent-made (h.now.zone b).checkpoint _

  turn-back : (k : ℕ) → IsPermanent (turn_h b set h) k → (k ≡ b) ⊎ IsPermanent h k
  turn-back k p = go (same? k b)
    where
      go : Same k b → (k ≡ b) ⊎ IsPermanent h k
      go (inl e) = inl e.0
      go (inr e) = inr (sym (ap (λ (z : Local). is_permanent z.checkpoint) (on-false (eqb k b) requested (h.now.zone k) e.1))
          ∙ p)

  turn-depends : (k i : ℕ) → Depends (turn_h b set h) k i → Depends h k i
  turn-depends k i d = sym (on_same (λ (z : Local). has z.deps i) (eqb k b) requested (h.now.zone k) refl) ∙ d

  -- All but b were due already.
  abbrev But : ℕ → Type 0
  But k = (k ≡ b) ⊎ Due h k

  turn-due : (k : ℕ) → But k → Due (turn_h b set h) k
  turn-due k (inl e) = inl (subst (IsPermanent (turn_h b set h)) (sym e) turn-permanent)
  turn-due k (inr (inl p)) = inl (turn-grows.permanents k p)
  turn-due k (inr (inr (i, w))) = inr (
    i,
    on-keeps (λ (l : List Item). waits l ≡ true) (eqb i b && is_target k) (join sent_request) (h.now.channel i k)
        (waits-join (h.now.channel i k) _) w,
  )

  -- Those that b depends on are due now: named by the request, or b itself, or a target.
  turn-depended : ((k : ℕ) → has set k ≡ true → But k) → (k : ℕ) → Depends h b k → Due (turn_h b set h) k
  turn-depended f k d = go (has set k) refl (same? k b)
    where
      go : (p : Bool) → has set k ≡ p → Same k b → Due (turn_h b set h) k
      go true e q = turn-due k (f k e)
      go false e (inl q) = turn-due k (inl q.0)
      go false e (inr q) =
          let t : eqb b b && is_target k ≡ true = rw (eqb_refl b) (has-targets b set (h.now.zone b) k ∙ rw (d, e, q.1)) in
          inr (b, ap waits (on-true _ (join sent_request) (h.now.channel b k) t) ∙ waits-last (h.now.channel b k) _)

  turn-flow : (h.initiator ≡ none → ⊥) → ((k : ℕ) → has set k ≡ true → But k) → ((X : ℕ → Type 0) → Starts X h → Shut X h → X b)
      → Flow But h
      → Flow (Due (turn_h b set h)) (turn_h b set h)
  turn-flow st f x flow = record {
    fair = λ i j. fair-channel i j (eqb i b && is_target j) refl
        (all_map _ _ (h.now.channel i j) (fair-grows But (Due t) h t turn-grows turn-due i j) (flow.fair i j));
    wanted = λ j i hj hi. want j i (turn-back j hj) (turn-depends j i hi);
    reach = λ X starts shut z hz. reached X starts
        (λ i j hj xj hi. shut i j (turn-grows.permanents j hj) xj (turn-grows.dependencies j i hi)) z (turn-back z hz);
    quiet = λ e. absurd (st e);
  }
    where
      t : History
      t = turn_h b set h

      named : (k : ℕ) → has (carried set (h.now.zone b)) k ≡ true → Due t k
      named k e = go (or_cases (has (h.now.zone b).deps k) (has set k) (sym (has-carried set (h.now.zone b) k) ∙ e))
        where
          go : Depends h b k ⊎ (has set k ≡ true) → Due t k
          go (inl q) = turn-depended f k q
          go (inr q) = turn-due k (f k q)

      fair-channel : (i j : ℕ) (p : Bool) → eqb i b && is_target j ≡ p → All (Fair (Due t) t i j) (h.now.channel i j)
          → All (Fair (Due t) t i j) (on p (join sent_request) (h.now.channel i j))
      fair-channel i j false e l = l
      fair-channel i j true e l =
          let q = eqb-true i b (and_left (eqb i b) (is_target j) e) in
          let d : Depends h b j = and_left _ _ (sym (has-targets b set (h.now.zone b) j) ∙ and_right (eqb i b) (is_target j) e) in
          all_join _ (h.now.channel i j) _ l (
            subst (IsPermanent t) (sym q) turn-permanent,
            turn-grows.dependencies i j (subst (λ (w : ℕ). Depends h w j) (sym q) d),
            named,
          )

      want : (j i : ℕ) → (j ≡ b) ⊎ IsPermanent h j → Depends h j i → Due t i
      want j i (inl e) hi = turn-depended f i (subst (λ (w : ℕ). Depends h w i) e hi)
      want j i (inr hj) hi = turn-due i (flow.wanted j i hj hi)

      reached : (X : ℕ → Type 0) → Starts X h → Shut X h → (z : ℕ) → (z ≡ b) ⊎ IsPermanent h z → X z
      reached X starts shut z (inl e) = subst X (sym e) (x X starts shut)
      reached X starts shut z (inr hz) = flow.reach X starts shut z hz

flow-map : (D E : ℕ → Type 0) (h : History) → ((k : ℕ) → D k → E k) → Flow D h → Flow E h
flow-map D E h f flow = record {
  fair = λ i j. all_map _ _ (h.now.channel i j)
      (fair-grows D E h h (record { permanents = λ k e. e; dependencies = λ k i e. e }) f i j) (flow.fair i j);
  wanted = λ j i hj hi. f i (flow.wanted j i hj hi);
  reach = flow.reach;
  quiet = flow.quiet;
}

-- The first item of the channel from a to b leaves: all but b stay due.
module _ (a b : ℕ) (h : History) where
  pop-due : (k : ℕ) → Due h k → (k ≡ b) ⊎ Due (pop_h a b h) k
  pop-due k (inl p) = inr (inl p)
  pop-due k (inr (i, w)) = go (eqb i a && eqb k b) refl
    where
      go : (p : Bool) → eqb i a && eqb k b ≡ p → (k ≡ b) ⊎ Due (pop_h a b h) k
      go true e = inl (both_true i a k b e).1
      go false e = inr (inr (i, ap waits (on-false (eqb i a && eqb k b) tail (h.now.channel i k) e) ∙ w))

  pop-flow : Flow (Due h) h → Flow (λ k. (k ≡ b) ⊎ Due (pop_h a b h) k) (pop_h a b h)
  pop-flow flow = record {
    fair = λ i j. on-keeps (All _) (eqb i a && eqb j b) tail (h.now.channel i j) (all_tail _ (h.now.channel i j))
        (all_map _ _ (h.now.channel i j)
        (fair-grows (Due h) _ h (pop_h a b h) (record { permanents = λ k e. e; dependencies = λ k i e. e }) pop-due i j)
        (flow.fair i j));
    wanted = λ j i hj hi. pop-due i (flow.wanted j i hj hi);
    reach = flow.reach;
    quiet = flow.quiet;
  }

-- A step that makes nobody permanent and takes no request.
still-flow : (h t : History) → Grows h t → ((k : ℕ) → IsPermanent t k → IsPermanent h k)
    → ((k i : ℕ) → IsPermanent t k → Depends t k i → Depends h k i) → t.initiator ≡ h.initiator
    → ((k i : ℕ) → waits (h.now.channel i k) ≡ true → waits (t.now.channel i k) ≡ true)
    → ((i j : ℕ) → All (Fair (Due t) t i j) (h.now.channel i j) → All (Fair (Due t) t i j) (t.now.channel i j))
    → Flow (Due h) h → Flow (Due t) t
still-flow h t g back depended st wait fair flow = record {
  fair = λ i j. fair i j (all_map _ _ (h.now.channel i j) (fair-grows (Due h) (Due t) h t g due i j) (flow.fair i j));
  wanted = λ j i hj hi. due i (flow.wanted j i (back j hj) (depended j i hj hi));
  reach = λ X starts shut z hz. flow.reach X (λ a e. starts a (st ∙ e))
      (λ i j hj xj hi. shut i j (g.permanents j hj) xj (g.dependencies j i hi)) z (back z hz);
  quiet = λ e z hz. flow.quiet (sym st ∙ e) z (back z hz);
}
  where
    due : (k : ℕ) → Due h k → Due t k
    due k (inl e) = inl (g.permanents k e)
    due k (inr (i, w)) = inr (i, wait k i w)

-- A message is put on channels, and every zone keeps its checkpoint and its dependency set: an act, or a check.
put-flow : (h t : History) (goes : ℕ → ℕ → Bool) (c : ℕ) (flag : Bool)
    → ((k : ℕ) → (t.now.zone k).checkpoint ≡ (h.now.zone k).checkpoint) → ((k : ℕ) → (t.now.zone k).deps ≡ (h.now.zone k).deps)
    → t.initiator ≡ h.initiator
    → ((i j : ℕ) → t.now.channel i j ≡ on (goes i j) (join (message c flag)) (h.now.channel i j))
    → Flow (Due h) h → Flow (Due t) t
put-flow h t goes c flag checkpoints deps st put = still-flow h t
    (record { permanents = λ k e. same k ∙ e; dependencies = λ k i e. depends k i ∙ e })
    (λ k e. sym (same k) ∙ e) (λ k i _ e. sym (depends k i) ∙ e) st
    (λ k i w. rw (put i k) (on-keeps (λ (l : List Item). waits l ≡ true) (goes i k) (join y) (h.now.channel i k)
    (waits-join (h.now.channel i k) y) w))
    (λ i j q. rw (put i j) (on-keeps (All _) (goes i j) (join y) (h.now.channel i j)
    (λ q'. all_join _ (h.now.channel i j) y q' tt) q))
  where
    y : Item
    y = message c flag

    same : (k : ℕ) → is_permanent (t.now.zone k).checkpoint ≡ is_permanent (h.now.zone k).checkpoint
    same k = ap is_permanent (checkpoints k)

    depends : (k i : ℕ) → has (t.now.zone k).deps i ≡ has (h.now.zone k).deps i
    depends k i = ap (λ (d : ℕ). has d i) (deps k)

-- A permanent zone's dependency set stays.
permanent-deps : (k : Checkpoint) (deps from : ℕ) (flag : Bool) → is_permanent k ≡ true → deps_after k deps from flag ≡ deps
permanent-deps None deps from flag e = absurd (false≢true e)
permanent-deps (Mutable s) deps from flag e = refl
permanent-deps (Permanent s) deps from flag e = refl

-- The message that stands first on the channel from a to b leaves it.
took-flow : (a b c : ℕ) (flag : Bool) (l : List Item) (h : History) (zone : ℕ → Local) (log : List Event)
    → h.now.channel a b ≡ message c flag ∷ l
    → ((k : ℕ) → is_permanent (zone k).checkpoint ≡ is_permanent (h.now.zone k).checkpoint)
    → ((k : ℕ) → IsPermanent h k → (zone k).deps ≡ (h.now.zone k).deps)
    → ((k i : ℕ) → Depends h k i → has (zone k).deps i ≡ true)
    → Flow (Due h) h → Flow (Due (took_h a b zone log h)) (took_h a b zone log h)
took-flow a b c flag l h zone log e same deps more = still-flow h (took_h a b zone log h)
    (record { permanents = λ k q. same k ∙ q; dependencies = more })
    (λ k q. sym (same k) ∙ q)
    (λ k i p q. sym (ap (λ (d : ℕ). has d i) (deps k (sym (same k) ∙ p))) ∙ q)
    refl
    (λ k i w. wait k i (eqb i a && eqb k b) refl w)
    (λ i j q. on-keeps (All _) (eqb i a && eqb j b) tail (h.now.channel i j) (all_tail _ (h.now.channel i j)) q)
  where
    wait : (k i : ℕ) (p : Bool) → eqb i a && eqb k b ≡ p → waits (h.now.channel i k) ≡ true
        → waits (on p tail (h.now.channel i k)) ≡ true
    wait k i true q w = waits-tail (h.now.channel i k) c flag l (at-channel a b i k h _ q e) w
    wait k i false q w = w

receive-flow : (a b c : ℕ) (flag : Bool) (l : List Item) (h : History) → h.now.channel a b ≡ message c flag ∷ l
    → Flow (Due h) h → Flow (Due (receive_h a b c flag h)) (receive_h a b c flag h)
receive-flow a b c flag l h e = took-flow a b c flag l h t.now.zone t.log e same deps
    (λ k i q. on-keeps (λ (z : Local). has z.deps i ≡ true) (eqb k b) (received a c flag) (h.now.zone k)
    (λ w. has-deps_after (h.now.zone k).checkpoint (h.now.zone k).deps a flag i ∙ or_left _ _ w) q)
  where
    t : History
    t = receive_h a b c flag h

    same : (k : ℕ) → is_permanent (t.now.zone k).checkpoint ≡ is_permanent (h.now.zone k).checkpoint
    same k = on_same (λ (z : Local). is_permanent z.checkpoint) (eqb k b) (received a c flag) (h.now.zone k)
        (permanent-after (h.now.zone k).checkpoint _ flag)

    deps : (k : ℕ) → IsPermanent h k → (t.now.zone k).deps ≡ (h.now.zone k).deps
    deps k p = on_same (λ (z : Local). z.deps) (eqb k b) (received a c flag) (h.now.zone k)
        (permanent-deps (h.now.zone k).checkpoint _ a flag p)

pub flow-kept : Kept (λ h. Flow (Due h) h)
flow-kept = record {
  at_own = λ x h _ _. put-flow h (own_h x h) x.goes x.cars _ (own-checkpoint x h) (own-deps x h) refl (λ i j. refl);
  at-receive = λ a b c flag l h e _ flow. receive-flow a b c flag l h e flow;
  at-check = λ a b c h _. put-flow h (check_h a b c h) (λ i j. eqb i a && eqb j b) c _ (λ k. refl) (λ k. refl) refl (λ i j. refl);
  at-checked = λ a b c flag l h e _. took-flow a b c flag l h h.now.zone h.log e (λ k. refl) (λ k _. refl) (λ k i q. q);
  at_drop = λ a b set l h e p flow. flow-map _ (Due (pop_h a b h)) (pop_h a b h) (λ k. permanent-due a b h p k) (pop-flow a b h flow);
  at-request = λ a b set l h e p flow. let q = first a b set l h e (flow.fair a b) in
      turn-flow b set (pop_h a b h) (λ st. flow.quiet st a q.0) (λ k rk. pop-due a b h k (q.2 k rk))
      (λ X starts shut. shut b a q.0 (flow.reach X starts shut a q.0) q.1) (pop-flow a b h flow);
  at-start = λ a h e _ flow. turn-flow a nobody (begin_h a h) (λ st. some≢none st)
      (λ k q. absurd (false≢true (sym (has-nobody k) ∙ q))) (λ X starts shut. starts a refl)
      (record {
        fair = λ i j. all_map _ _ (h.now.channel i j)
            (fair-grows (Due h) _ h (begin_h a h) (record { permanents = λ k x. x; dependencies = λ k i x. x }) (λ k x. inr x) i j)
            (flow.fair i j);
        wanted = λ j i hj hi. inr (flow.wanted j i hj hi);
        reach = λ X starts shut z hz. absurd (flow.quiet e z hz);
        quiet = λ st. absurd (some≢none st);
      });
}
  where
    permanent-due : (a b : ℕ) (h : History) → IsPermanent h b → (k : ℕ) → (k ≡ b) ⊎ Due (pop_h a b h) k → Due (pop_h a b h) k
    permanent-due a b h p k (inl e) = inl (subst (IsPermanent h) (sym e) p)
    permanent-due a b h p k (inr d) = d

    first : (a b set : ℕ) (l : List Item) (h : History) → h.now.channel a b ≡ request set ∷ l
        → All (Fair (Due h) h a b) (h.now.channel a b)
        → Fair (Due h) h a b (request set)
    first a b set l h e q = (subst (All (Fair (Due h) h a b)) e q).0

pub flow-open : (v : Opening) → Flow (Due (open_h v)) (open_h v)
flow-open v = record {
  fair = λ i j. tt;
  wanted = λ j i p _. absurd (false≢true p);
  reach = λ X _ _ z p. absurd (false≢true p);
  quiet = λ _ z p. false≢true p;
}

-- With no request on its way, who is due is permanent.
pub due-permanent : (h : History) → ((i j : ℕ) → waits (h.now.channel i j) ≡ false) → (k : ℕ) → Due h k → IsPermanent h k
due-permanent h e k (inl p) = p
due-permanent h e k (inr (i, w)) = absurd (true≢false (sym w ∙ e i k))

-- A zone whose checkpoint is not permanent has sent no request that is still on its way.
pub flow-unsent : (D : ℕ → Type 0) (h : History) → Flow D h → (i j : ℕ) → is_permanent (h.now.zone i).checkpoint ≡ false
    → waits (h.now.channel i j) ≡ false
flow-unsent D h flow i j e = go (h.now.channel i j) (flow.fair i j)
  where
    go : (l : List Item) → All (Fair D h i j) l → waits l ≡ false
    go [] f = refl
    go (message c flag ∷ l) f = go l f.1
    go (request set ∷ l) f = absurd (true≢false (sym f.0.0 ∙ e))
