use Rattle.std.proofs.Common.{sym, ap, ◌∙◌}
use Rattle.vg_script.specs.Classes.{◌>>=◌, vlan_of}
use Rattle.vg_script.proofs.ClassLemmas.{vlan_is}
use Rattle.vg_script.proofs.classes.vlan_behind.Goals as goal

pub returns : goal.returns
returns c = sym (ap (λ o. o >>= vlan_of) (sym c.in_ok-number.ensures) ∙ vlan_is _)
