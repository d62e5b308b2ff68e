-- For the clause of `put_arc_line`: the line in its pieces.
use Rattle.std.proofs.Common.{◌≡◌, ◌∷◌, [], ◌++◌, ap, ◌∙◌}
use Rattle.std.specs.Prelude.{codes, unwrap_or, slice_get}
use Rattle.std.proofs.lemmas.Result.{on_ok_weaker}
use Rattle.vg_model.specs.Graph.{slots}
use Rattle.vg_draw.specs.Drawing.{node_id, packets_of, arc_count, carrying}
use Rattle.vg_draw.proofs.LineLemmas.{four_steps, carrying_same}
use Rattle.vg_draw.proofs.lines.put_arc_line.Goals as goal

pub returns : goal.returns
returns c =
    let word = unwrap_or (slice_get (slots c.args.kind) c.args.slot) [] in
    let same : c.as_bytes.result.now ≡ word = cc (c.as_bytes.ensures.value, ap (λ o. unwrap_or o []) c.slot_name.ensures) in
    on_ok_weaker c.put-2.result (four_steps c.args.out.now.items (codes "  ") (node_id c.args.number) (codes " -> ") (node_id c.args.target) (codes " [")
    (carrying (packets_of c.args.report.now) word (arc_count c.args.report.now c.args.name.now c.args.kind)) (codes "];" ++ 10 ∷ [])
    c.in_ok-put_begin.ensures c.in_ok-put_id.ensures c.in_ok-put.ensures
    (c.in_ok-put_carrying.ensures ∙ ap (λ text. c.put.new.out.items ++ text) (carrying_same c.packets_of.ensures same c.arc_count.ensures))) c.put-2.ensures
