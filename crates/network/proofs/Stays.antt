-- A complete recording of a network never changes (docs/RULES.md, section 11): its zones go on showing it, whatever calls come after.
use mathlib.Core.Path.{◌≡◌, refl, sym, ◌∙◌, ap, subst}
use mathlib.Core.List.{List, [], ◌∷◌, ◌++◌}
use Prim.Native.Nat.{ℕ, ◌≤◌}
use native.Mathlib.Omega.{arith}
use Rattle.rules.specs.Opening.{Opening}
use Rattle.rules.specs.Site.{Call, open_s}
use Rattle.rules.specs.Cut.{Allowed, Complete, run, snapshot, shown_by}
use Rattle.rules.proofs.Lists.{cons-append}
use Rattle.rules.proofs.Stays.{complete-stays}
use Rattle.network.specs.Network.{Network, open_network, answer, is_accepted, made, after, accepted_calls, starts_in, network_site}
use Rattle.network.proofs.Network.{network-follows, network-shows}
use Rattle.network.proofs.Quiet.{starts, start_in, starts_more}
use Rattle.network.proofs.Polls.{by_append}

accepted-append : (cs ds : List Call) (net : Network) → accepted_calls (cs ++ ds) net ≡ accepted_calls cs net ++ accepted_calls ds (after cs net)
accepted-append [] ds net = refl
accepted-append (c ∷ cs) ds net = rw (accepted-append cs ds (made c net)) (sym (cons-append (is_accepted (answer c net)) c _ _))

-- Whatever the zone count, the opening, the calls cs and the further calls ds, if at most one start was accepted among all.
module _ (n : ℕ) (o : Opening) (cs ds : List Call) (one : starts_in (accepted_calls (cs ++ ds) (open_network n o)) ≤ 1) where
  abbrev first : List Call
  first = accepted_calls cs (open_network n o)

  abbrev more : List Call
  more = accepted_calls ds (after cs (open_network n o))

  abbrev all : List Call
  all = accepted_calls (cs ++ ds) (open_network n o)

  parts : all ≡ first ++ more
  parts = accepted-append cs ds (open_network n o)

  one-first : starts_in first ≤ 1
  one-first = omega (arith, one, by_append starts start_in (λ net. refl) starts_more cs ds (open_network n o))

  -- The recording stays complete, and what the zones show of it, with the lines by their events, stays what it was.
  pub network-stays : Complete (network_site o.edition (after cs (open_network n o)))
      → Complete (network_site o.edition (after (cs ++ ds) (open_network n o)))
      × (shown_by o all (network_site o.edition (after (cs ++ ds) (open_network n o)))
      ≡ shown_by o first (network_site o.edition (after cs (open_network n o))))
  network-stays done =
      let early = network-follows n o cs one-first in
      let late = network-follows n o (cs ++ ds) one in
      let stays = complete-stays o first more (subst (λ (l : List Call). Allowed l (open_s o)) parts late.0) (subst Complete early.1 done) in (
        subst Complete (sym late.1) (subst (λ (l : List Call). Complete (run l (open_s o))) (sym parts) stays.0),
        network-shows n o (cs ++ ds) one ∙ ap (snapshot o) parts ∙ stays.1 ∙ sym (network-shows n o cs one-first),
      )
