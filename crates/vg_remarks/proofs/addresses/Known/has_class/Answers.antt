-- For what `Known::has_class` answers: an address with an ordinary first byte has a class where it is a last address.
use Rattle.std.proofs.Common.{◌∙◌, ap, sym}
use Rattle.std.specs.Prelude.{is_some}
use Rattle.vg_remarks.proofs.AddressLemmas.{class_elsewhere}
use Rattle.vg_remarks.proofs.addresses.Known.has_class.Goals as goal

pub returns-then-is_special : goal.returns-then-is_special
returns-then-is_special c = λ led known. c.is_some.ensures ∙ ap is_some (c.class.ensures led known)

pub returns : goal.returns
returns c = λ led known. c.is_directed.ensures led known ∙ sym (class_elsewhere led c.args.address (sym c.is_special.ensures ∙ c.if-is_special.false))
