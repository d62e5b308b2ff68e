use Rattle.vg_model.specs.declared.kinds.Interface.{Interface}
use Rattle.vg_reporting.proofs.NameLemmas.{names_more}
use Rattle.vg_reporting.proofs.parts.interface_names.Goals as goal

pub loop-n-preserved : goal.loop-n-preserved
loop-n-preserved c =
    let more = names_more (λ (interface : Interface). interface.name) c.args.graph.now.interfaces c.loop-n.n c.interface_at.result.now c.interface_at.ensures in
    let same = c.copied.ensures.same in
    let pushed = c.in_ok-push.ensures.items in
    cc
