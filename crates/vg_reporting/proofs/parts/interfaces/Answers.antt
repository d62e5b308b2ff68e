use Rattle.vg_graph.proofs.ListLemmas.{all_append}
use Rattle.vg_model.specs.declared.kinds.Interface.{Interface}
use Rattle.vg_reporting.proofs.CountLemmas.{counted_more}
use Rattle.vg_reporting.proofs.parts.interfaces.Goals as goal

pub loop-n-preserved : goal.loop-n-preserved
loop-n-preserved c =
    let more = counted_more (λ (interface : Interface). interface.name) c.args.graph.now.interfaces c.args.counts.now.sends c.loop-n.n c.interface_at.result.now c.interface_at.ensures in
    let same = c.copied-name.ensures.same in
    let count = c.sends.ensures in
    let number = c.from.ensures in
    let pushed = c.in_ok-push.ensures.items in
    record {
      counts = cc;
      names = rw c.in_ok-push.ensures.items (all_append _ _ _ c.loop-n.invariant.names c.copied-name.ensures.name);
    }
