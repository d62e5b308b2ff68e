use Rattle.vg_reporting.proofs.NameLemmas.{are_named, lines_named}
use Rattle.vg_reporting.proofs.parts.lines.Goals as goal

pub of_fates-requires : goal.of_fates-requires
of_fates-requires c =
    are_named c.args.graph.now c.in_ok-interfaces.interfaces.items c.in_ok-nodes.nodes.items c.args.fates c.in_ok-interfaces.ensures c.in_ok-nodes.ensures c.requires

pub returns : goal.returns
returns c =
    lines_named c.args.graph.now c.in_ok-interfaces.interfaces.items c.in_ok-nodes.nodes.items c.args.fates c.of_fates.result c.in_ok-interfaces.ensures c.in_ok-nodes.ensures c.of_fates.ensures
