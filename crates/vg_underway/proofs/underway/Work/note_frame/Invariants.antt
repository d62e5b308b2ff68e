use Rattle.std.proofs.Common.{◌≡◌, take}
use Rattle.vg_underway.specs.Traced.{noted_frame}
use Rattle.vg_underway.proofs.underway.Work.note_frame.Given as goal

abbrev pub invariant-loop-index : goal.invariant-loop-index
invariant-loop-index l = l.self ≡ record l.initial.self { trace = noted_frame l.initial.self.memory l.node (take l.index-index l.index-items) l.initial.self.trace }
