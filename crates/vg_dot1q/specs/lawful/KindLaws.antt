-- For `dot1q_kinds_are_lawful` and `dot1q_kinds_never_congest`: the visits of the VLAN kinds and of cross-connects keep the laws of visits, and
-- none drops a packet by congestion.
use Rattle.std.proofs.Common.{◌≡◌, ℕ, ◌<◌, ◌≤◌, true, length, arith}
use Rattle.std.specs.Prelude.{Some}
use Rattle.vg_model.specs.declared.kinds.Kind.{Kind}
use Rattle.vg_model.specs.declared.kinds.Kind.TheVariants as kinds
use Rattle.vg_model.specs.declared.kinds.Step.TheVariants.{Next}
use Rattle.vg_model.specs.Graph.{Graph, slots}
use Rattle.vg_model.specs.Packet.{Packet}
use Rattle.vg_model.specs.Tag.{is_tagged, cut, tagged, renumbered}
use Rattle.vg_model.specs.Visit.{Visit, next}
use Rattle.vg_model.specs.Valid.{IsVisitOf, IsKindSet}
use Rattle.vg_kinds.specs.Around.{IsVisited, AreLawful, IsUncongested, NeverCongest}
use Rattle.vg_kinds.proofs.AroundLemmas.{around_laws}
use Rattle.vg_kinds.proofs.StepLemmas.{as_it_was, with_interface, drops, goes_on, own_drop, own_next}
use Rattle.vg_dot1q.specs.Visit.{dot1q_visit_of, dot1q_visit}
use Rattle.vg_dot1q.specs.lawful.TagLemmas.{cut_is, tagged_is, renumbered_is}
use Rattle.vg_dot1q.specs.lawful.VisitCases.{match_cases, push_cases, rewrite_cases, cross_cases}

module _ (g : Graph) (n : ℕ) (p : Packet) (kind : Kind) (is : IsVisited g n p kind) where
  stays : (slot : ℕ) → slot < length (slots kind) → IsVisitOf g n p (Next slot, p)
  stays slot h = goes_on g n p kind is slot h p (as_it_was p is.packet)

  leaves_cut : 0 < length (slots kind) → is_tagged p ≡ true → p.room ≤ 124 → IsVisitOf g n p (Next 0, cut p)
  leaves_cut h has few = goes_on g n p kind is 0 h (cut p) (cut_is p is.packet has few)

  leaves_tagged : 0 < length (slots kind) → (id : ℕ) → 14 ≤ length p.bytes → 4 ≤ p.room → IsVisitOf g n p (next (tagged id p))
  leaves_tagged h id long room = goes_on g n p kind is 0 h (tagged id p) (tagged_is id p is.packet long room)

  leaves_renumbered : 0 < length (slots kind) → (id : ℕ) → is_tagged p ≡ true → IsVisitOf g n p (next (renumbered id p))
  leaves_renumbered h id has = goes_on g n p kind is 0 h (renumbered id p) (renumbered_is id p is.packet has)

  leaves_over : 0 < length (slots kind) → (interface : ℕ) → IsVisitOf g n p (next (record p { interface = Some interface }))
  leaves_over h interface = goes_on g n p kind is 0 h (record p { interface = Some interface }) (with_interface p interface is.packet)

-- a visit of a node of each kind
pub dot1q_lawful : AreLawful dot1q_visit_of
dot1q_lawful g n p (kinds.Dot1qMatch id) valid is =
    match_cases (IsVisitOf g n p) p (λ error _. drops g n p (kinds.Dot1qMatch id) is error) id.number
    (stays g n p (kinds.Dot1qMatch id) is 1 (omega arith)) (leaves_cut g n p (kinds.Dot1qMatch id) is (omega arith))
dot1q_lawful g n p (kinds.Dot1qPush id) valid is =
    push_cases (IsVisitOf g n p) p (λ error _. drops g n p (kinds.Dot1qPush id) is error) id.number
    (leaves_tagged g n p (kinds.Dot1qPush id) is (omega arith) id.number)
dot1q_lawful g n p (kinds.Dot1qRewrite id) valid is =
    rewrite_cases (IsVisitOf g n p) p (λ error _. drops g n p (kinds.Dot1qRewrite id) is error) id.number
    (leaves_renumbered g n p (kinds.Dot1qRewrite id) is (omega arith) id.number)
dot1q_lawful g n p (kinds.CrossConnect interface) valid is =
    cross_cases (IsVisitOf g n p) p (λ error _. drops g n p (kinds.CrossConnect interface) is error) interface g
    (leaves_over g n p (kinds.CrossConnect interface) is (omega arith) interface)
dot1q_lawful g n p kind valid is = tt

-- around visits that keep the laws
pub dot1q_laws : (inner : Visit) → IsKindSet inner → IsKindSet (dot1q_visit inner)
dot1q_laws inner lawful = around_laws dot1q_visit_of dot1q_lawful inner lawful

-- no visit of these kinds drops by congestion
pub dot1q_never : NeverCongest dot1q_visit_of
dot1q_never (kinds.Dot1qMatch id) g p = match_cases IsUncongested p (own_drop p) id.number (own_next 1 p) (λ _ _. own_next 0 (cut p))
dot1q_never (kinds.Dot1qPush id) g p = push_cases IsUncongested p (own_drop p) id.number (λ _ _. own_next 0 (tagged id.number p))
dot1q_never (kinds.Dot1qRewrite id) g p = rewrite_cases IsUncongested p (own_drop p) id.number (λ _. own_next 0 (renumbered id.number p))
dot1q_never (kinds.CrossConnect interface) g p = cross_cases IsUncongested p (own_drop p) interface g (own_next 0 (record p { interface = Some interface }))
dot1q_never kind g p = tt
