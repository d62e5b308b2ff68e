-- For `a_set_around_another_is_lawful` and `a_set_around_another_never_congests`: what holds of a set's own visits and of those of the
-- other set holds of the two together.
use Rattle.std.proofs.Common.{◌≡◌, ℕ, refl}
use Rattle.std.specs.Prelude.{Option, Some, None, IfSome, option_and_then, unwrap_or}
use Rattle.vg_model.specs.declared.kinds.Kind.{Kind}
use Rattle.vg_model.specs.declared.kinds.Step.{Step}
use Rattle.vg_model.specs.Graph.{Graph, kind_at}
use Rattle.vg_model.specs.Packet.{Packet}
use Rattle.vg_model.specs.Valid.{IsVisitOf, IsKindSet}
use Rattle.vg_model.specs.Visit.{Visit}
use Rattle.vg_kinds.specs.Around.{OwnVisit, around, AreLawful, IsUncongested, NeverCongest}

-- what a set makes of a visit itself, or what the other set makes of it
either : (P : Step × Packet → Type 0) (o : Option (Step × Packet)) (other : Step × Packet) → IfSome o P → P other → P (unwrap_or o other)
either P None other own left = left
either P (Some after) other own left = own

-- at a node of any kind, or none
by_kind : (P : Step × Packet → Type 0) (own : Kind → Option (Step × Packet)) (o : Option Kind) (other : Step × Packet)
    → ((kind : Kind) → o ≡ Some kind → IfSome (own kind) P) → P other → P (unwrap_or (option_and_then own o) other)
by_kind P own None other h left = left
by_kind P own (Some kind) other h left = either P (own kind) other (h kind refl) left

pub around_laws : (own : OwnVisit) → AreLawful own → (inner : Visit) → IsKindSet inner → IsKindSet (around own inner)
around_laws own lawful inner is g n p valid target packet =
    by_kind (IsVisitOf g n p) (λ kind. own kind g p) (kind_at g n) (inner g n p)
    (λ kind node. lawful g n p kind valid (record { packet = packet; node = node })) (is g n p valid target packet)

pub around_uncongested : (own : OwnVisit) → NeverCongest own → (inner : Visit) (g : Graph) (n : ℕ) (p : Packet) → IsUncongested (inner g n p)
    → IsUncongested (around own inner g n p)
around_uncongested own never inner g n p left =
    by_kind IsUncongested (λ kind. own kind g p) (kind_at g n) (inner g n p) (λ kind _. never kind g p) left
