-- For what `is_remarkable` answers: something is said of a packet where its destination has a class.
use Rattle.std.proofs.Common.{◌∙◌, ap, sym}
use Rattle.std.specs.Prelude.{is_some}
use Rattle.vg_remarks.specs.Packets.{said_of}
use Rattle.vg_remarks.proofs.PacketLemmas.{said_where}
use Rattle.vg_remarks.proofs.packets.is_remarkable.Goals as goal

pub returns-in-None : goal.returns-in-None
returns-in-None c = λ led known number. ap (λ to. is_some (said_of led number to)) c.in-None.ensures

pub returns-in-Some : goal.returns-in-Some
returns-in-Some c = λ led known number.
    c.has_class.ensures led known
    ∙ (sym (said_where led number c.in-Some.address) ∙ ap (λ to. is_some (said_of led number to)) c.in-Some.ensures)
