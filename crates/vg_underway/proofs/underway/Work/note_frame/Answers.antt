use Rattle.std.proofs.Common.{ap, subst, arith, ◌≤◌, ◌∙◌, ◌-◌, length}
use Rattle.vg_counters.specs.Notes.{noted}
use Rattle.vg_underway.proofs.VisitedLemmas.{note_more, note_none}
use Rattle.vg_underway.proofs.underway.Work.note_frame.Goals as goal

pub loop-index-preserved : goal.loop-index-preserved
loop-index-preserved c =
    note_more c.args.self.now c.loop-index.self c.args.node c.loop-index.index-index c.as_slice-index-items.result.now c.get_mut-packet.result.now c.note.new.self (omega arith)
    c.loop-index.invariant c.get_mut-packet.ensures.buffer
    (c.note.ensures ∙ ap (λ number. noted number (length c.legs.result.now - 1) c.args.node c.loop-index.self.trace) c.number.ensures
    ∙ ap (λ legs. noted c.get_mut-packet.result.now.packet.number (length legs - 1) c.args.node c.loop-index.self.trace) c.legs.ensures.legs)

pub returns-else-packets-gt0 : goal.returns-else-packets-gt0
returns-else-packets-gt0 c =
    note_none c.args.self.now c.args.node c.args.frame.now (subst (λ n. n ≤ 0) c.packets.ensures c.if-packets-gt0.false)
