use Rattle.std.proofs.Common.{◌∙◌, sym, ap}
use Rattle.vg_backlog.specs.Books.{packets_in}
use Rattle.vg_backlog.specs.Queues.{Store}
use Rattle.vg_backlog.proofs.QueueLemmas.{packets_are}
use Rattle.vg_backlog.proofs.waiting.Waiting.packets.Goals as goal

pub returns : goal.returns
returns c =
    c.len.ensures ∙ c.self.inside.buffers.ok.0 ∙ sym (packets_are c.self.inside.heads.items c.self.inside.buffers.items c.self.invariant.0) ∙ ap (λ (s : Store). packets_in s.frames) c.self.view_is
