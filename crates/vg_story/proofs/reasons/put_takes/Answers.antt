-- For `put_takes`: its clause.
use Rattle.std.proofs.Common.{◌++◌, sym, ap, ◌∙◌, append-nil, arith}
use Rattle.std.proofs.lemmas.Option.{slice_get_past}
use Rattle.vg_story.specs.Reasons.{takes}
use Rattle.vg_story.proofs.reasons.put_takes.Goals as goal

pub returns-then-number-interfaces : goal.returns-then-number-interfaces
returns-then-number-interfaces c =
    let pieces = c.args.pieces.now.items in
    let none = slice_get_past c.args.fork.now.graph.interfaces c.args.number (omega arith) in
    sym (append-nil pieces) ∙ ap (λ o. pieces ++ takes c.args.number o) (sym none)
