use Rattle.std.proofs.Common.{◌∙◌, length, sym, ap}
use Rattle.vg_backlog.specs.Queues.{Store}
use Rattle.vg_backlog.proofs.QueueLemmas.{frames_are}
use Rattle.vg_backlog.proofs.waiting.Waiting.len.Goals as goal

pub returns : goal.returns
returns c =
    c.len.ensures ∙ c.self.inside.heads.ok.0 ∙ sym (frames_are c.self.inside.heads.items c.self.inside.buffers.items) ∙ ap (λ (s : Store). length s.frames) c.self.view_is
