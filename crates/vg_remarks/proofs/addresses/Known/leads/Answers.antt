-- For what `Known::leads` answers: what is covered by one of the prefixes is covered by one of those that are kept.
use Rattle.std.proofs.Common.{◌∙◌}
use Rattle.std.specs.Prelude.{filter}
use Rattle.vg_remarks.specs.Addresses.{may_be_special}
use Rattle.vg_remarks.proofs.AddressLemmas.{led_special}
use Rattle.vg_remarks.proofs.addresses.Known.leads.Goals as goal

pub returns : goal.returns
returns c = λ led known. c.contains.ensures (filter may_be_special led) known.special ∙ led_special led c.args.address c.requires
