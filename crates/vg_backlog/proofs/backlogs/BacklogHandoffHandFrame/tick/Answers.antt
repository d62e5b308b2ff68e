use Rattle.std.proofs.Common.{arith, sym}
use Rattle.vg_backlog.proofs.AdvanceLemmas.{advances_accepted, advances_fewer, advances_shorter, advances_same, advances_rises, advances_steps, advances_full}
use Rattle.vg_backlog.proofs.PushLemmas.{closed_more}
use Rattle.vg_backlog.proofs.backlogs.BacklogHandoffHandFrame.tick.Goals as goal

pub returns-clause-accepted : goal.returns-clause-accepted
returns-clause-accepted c = advances_accepted _ _ _ _ c.advance.ensures.advances

pub returns-clause-room : goal.returns-clause-room
returns-clause-room c =
    let fewer = advances_fewer _ _ _ _ c.advance.ensures.advances in
    let same = c.advance.ensures.same.1 in
    omega (arith, fewer, same)

pub returns-clause-gate : goal.returns-clause-gate
returns-clause-gate c =
    let fewer = advances_fewer _ _ _ _ c.advance.ensures.advances in
    let same = c.advance.ensures.same.1 in
    let shorter = advances_shorter _ _ _ _ c.advance.ensures.advances in
    λ packets. closed_more c.advance.new.self c.args.self.now packets (sym c.advance.ensures.same.0) shorter (omega (arith, fewer, same))

pub returns-clause-end : goal.returns-clause-end
returns-clause-end c = advances_same _ _ _ _ c.advance.ensures.advances

pub returns-clause-head_rises : goal.returns-clause-head_rises
returns-clause-head_rises c = advances_rises _ _ _ _ c.advance.ensures.advances

pub returns-clause-steps : goal.returns-clause-steps
returns-clause-steps c = advances_steps _ _ _ _ c.advance.ensures.advances

pub returns-clause-waiting : goal.returns-clause-waiting
returns-clause-waiting c = advances_shorter _ _ _ _ c.advance.ensures.advances

pub returns-clause-ticks : goal.returns-clause-ticks
returns-clause-ticks c = advances_full _ _ _ _ c.advance.ensures.advances
