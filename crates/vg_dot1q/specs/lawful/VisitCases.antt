-- For `dot1q_kinds_are_lawful` and `dot1q_kinds_never_congest`: what holds of each drop and of each way on holds of a visit.
use Rattle.std.proofs.Common.{◌≡◌, ℕ, ◌≤◌, Bool, true, false, not, ◌||◌, ◌==◌, length, refl}
use Rattle.std.specs.Prelude.{◌≢◌, Some, if◌then◌else◌, nat_lt}
use Rattle.std.proofs.lemmas.Bool.{ltb-false, or_parts, not-false}
use Rattle.vg_model.specs.declared.kinds.DropError.{DropError}
use Rattle.vg_model.specs.declared.kinds.DropError.TheVariants as errors
use Rattle.vg_model.specs.declared.kinds.Step.{Step}
use Rattle.vg_model.specs.declared.kinds.Step.TheVariants.{Next}
use Rattle.vg_model.specs.Graph.{Graph}
use Rattle.vg_model.specs.Packet.{Packet}
use Rattle.vg_model.specs.Tag.{is_tagged, vlan_id, cut, tagged, renumbered}
use Rattle.vg_model.specs.Visit.{next, dropped}
use Rattle.vg_dot1q.specs.Visit.{dot1q_match, dot1q_push, dot1q_rewrite, cross_connect}

module _ (P : Step × Packet → Type 0) (p : Packet) (drops : (error : DropError) → error ≢ errors.Congestion → P (dropped error p)) where
  match_by : (b c : Bool) (x : Step × Packet) → P (Next 1, p) → (b ≡ false → c ≡ false → P x) → P (if b then (Next 1, p) else if c then dropped errors.BadLength p else x)
  match_by true c x on h = on
  match_by false true x on h = drops errors.BadLength (λ x. cc)
  match_by false false x on h = h refl refl

  pub match_cases : (id : ℕ) → P (Next 1, p) → (is_tagged p ≡ true → p.room ≤ 124 → P (Next 0, cut p)) → P (dot1q_match id p)
  match_cases id on h =
      let other = not (is_tagged p) || not (vlan_id p == id) in
      match_by other (nat_lt 124 p.room) (Next 0, cut p) on
      (λ same few. h (not-false _ (or_parts (not (is_tagged p)) (not (vlan_id p == id)) same).0) (ltb-false 124 p.room few))

  push_by : (b c : Bool) (x : Step × Packet) → (b ≡ false → c ≡ false → P x) → P (if b then dropped errors.Short p else if c then dropped errors.TooLong p else x)
  push_by true c x h = drops errors.Short (λ x. cc)
  push_by false true x h = drops errors.TooLong (λ x. cc)
  push_by false false x h = h refl refl

  pub push_cases : (id : ℕ) → (14 ≤ length p.bytes → 4 ≤ p.room → P (next (tagged id p))) → P (dot1q_push id p)
  push_cases id h =
      push_by (nat_lt (length p.bytes) 14) (nat_lt p.room 4) (next (tagged id p)) (λ long room. h (ltb-false (length p.bytes) 14 long) (ltb-false p.room 4 room))

  -- a drop by this error, or what follows
  unless_by : (b : Bool) (error : DropError) (x : Step × Packet) → error ≢ errors.Congestion → (b ≡ false → P x) → P (if b then dropped error p else x)
  unless_by true error x own h = drops error own
  unless_by false error x own h = h refl

  pub rewrite_cases : (id : ℕ) → (is_tagged p ≡ true → P (next (renumbered id p))) → P (dot1q_rewrite id p)
  rewrite_cases id h = unless_by (not (is_tagged p)) errors.UnknownType (next (renumbered id p)) (λ x. cc) (λ e. h (not-false _ e))

  pub cross_cases : (interface : ℕ) (g : Graph) → P (next (record p { interface = Some interface })) → P (cross_connect interface g p)
  cross_cases interface g h =
      unless_by (not (nat_lt interface (length g.interfaces))) errors.InterfaceDown (next (record p { interface = Some interface })) (λ x. cc) (λ _. h)
