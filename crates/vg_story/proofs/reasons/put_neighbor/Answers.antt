-- For `put_neighbor`: its clause.
use Rattle.std.proofs.Common.{◌++◌, sym, ap, ◌∙◌, append-nil, arith}
use Rattle.std.proofs.lemmas.Option.{slice_get_past}
use Rattle.vg_story.specs.Reasons.{neighbor, neighbor_at}
use Rattle.vg_story.proofs.reasons.put_neighbor.Goals as goal

pub returns-else-number-adjacencies : goal.returns-else-number-adjacencies
returns-else-number-adjacencies c =
    let pieces = c.args.pieces.now.items in
    let g = c.args.fork.now.graph in
    let none = slice_get_past g.adjacencies c.in-Some.number (omega arith) in
    sym (append-nil pieces)
    ∙ ap (λ a. pieces ++ neighbor_at g c.in-Some.number a) (sym none)
    ∙ ap (λ n. pieces ++ neighbor g n) (sym c.in-Some.is)
