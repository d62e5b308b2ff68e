use Rattle.std.proofs.Common.{◌∙◌}
use Rattle.vg_model.proofs.SlotLemmas.{named_place}
use Rattle.vg_model.proofs.kinds.Kind.slot.Goals as goal

pub returns-in_err-place : goal.returns-in_err-place
returns-in_err-place c = c.from_residual.ensures ∙ named_place _ _ _ _ _ c.in_err-place.ensures.place c.slot_names.ensures.names

pub returns : goal.returns
returns c = named_place _ _ _ _ _ c.in_ok-place.ensures.place c.slot_names.ensures.names
