use Rattle.vg_backlog.proofs.PushLemmas.{closed_more, tells}
use Rattle.vg_backlog.proofs.backlogs.BacklogHandoffHandFrame.push.Goals as goal

pub returns-clause-accepted : goal.returns-clause-accepted
returns-clause-accepted c = (tells c.args.item c.args.self.now c.hand.new.self c.hand.ensures.same.1 c.hand.ensures.behind c.hand.ensures.first).accepted

pub returns-clause-room_after : goal.returns-clause-room_after
returns-clause-room_after c = (tells c.args.item c.args.self.now c.hand.new.self c.hand.ensures.same.1 c.hand.ensures.behind c.hand.ensures.first).room_after

pub returns-clause-room_most : goal.returns-clause-room_most
returns-clause-room_most c = (tells c.args.item c.args.self.now c.hand.new.self c.hand.ensures.same.1 c.hand.ensures.behind c.hand.ensures.first).room_most

pub returns-clause-gate : goal.returns-clause-gate
returns-clause-gate c =
    let told = tells c.args.item c.args.self.now c.hand.new.self c.hand.ensures.same.1 c.hand.ensures.behind c.hand.ensures.first in
    λ packets. closed_more c.args.self.now c.hand.new.self packets c.hand.ensures.same.0 told.held told.room_most

pub returns-clause-end : goal.returns-clause-end
returns-clause-end c = (tells c.args.item c.args.self.now c.hand.new.self c.hand.ensures.same.1 c.hand.ensures.behind c.hand.ensures.first).end

pub returns-clause-head_rises : goal.returns-clause-head_rises
returns-clause-head_rises c = (tells c.args.item c.args.self.now c.hand.new.self c.hand.ensures.same.1 c.hand.ensures.behind c.hand.ensures.first).rises

pub returns-clause-steps : goal.returns-clause-steps
returns-clause-steps c = (tells c.args.item c.args.self.now c.hand.new.self c.hand.ensures.same.1 c.hand.ensures.behind c.hand.ensures.first).steps

pub returns-clause-waiting : goal.returns-clause-waiting
returns-clause-waiting c =
    let told = tells c.args.item c.args.self.now c.hand.new.self c.hand.ensures.same.1 c.hand.ensures.behind c.hand.ensures.first in
    (told.held, told.one)
