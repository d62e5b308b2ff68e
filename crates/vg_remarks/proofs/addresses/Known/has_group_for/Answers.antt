-- For what `Known::has_group_for` answers: what is covered by one of the groups is covered by one of those that are kept.
use Rattle.std.proofs.Common.{◌∙◌}
use Rattle.std.specs.Prelude.{filter}
use Rattle.vg_remarks.specs.Addresses.{is_multicast}
use Rattle.vg_remarks.proofs.AddressLemmas.{group_led}
use Rattle.vg_remarks.proofs.addresses.Known.has_group_for.Goals as goal

pub returns : goal.returns
returns c = λ led known. c.contains.ensures (filter is_multicast led) known.groups ∙ group_led led c.args.address
