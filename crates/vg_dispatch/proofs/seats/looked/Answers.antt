use Rattle.std.proofs.Common.{refl, sym, subst}
use Rattle.vg_dispatch.specs.Workers.{seat_of}
use Rattle.vg_dispatch.specs.Turned.{Looks}
use Rattle.vg_dispatch.proofs.SeatLemmas.{checks_look, polls_look}
use Rattle.vg_dispatch.proofs.seats.looked.Goals as goal

pub returns-in-Run : goal.returns-in-Run
returns-in-Run c =
    subst (λ s. Looks (seat_of s) (seat_of c.check.result)) (sym c.in-Run.is)
    (checks_look (λ p book h. h) (λ p. refl) (λ p. refl) c.in-Run.running c.check.result c.check.ensures)

pub returns-in-Parked : goal.returns-in-Parked
returns-in-Parked c =
    subst (λ s. Looks (seat_of s) (seat_of c.poll.result)) (sym c.in-Parked.is)
    (polls_look (λ p book h. h) (λ p. refl) (λ p. refl) c.in-Parked.parked c.poll.result c.poll.ensures)
