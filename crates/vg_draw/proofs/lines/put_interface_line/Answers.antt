-- For the clause of `put_interface_line`: the line in its pieces.
use Rattle.std.proofs.Common.{◌∷◌, [], ◌++◌, ap, ◌∙◌}
use Rattle.std.specs.Prelude.{codes}
use Rattle.std.proofs.lemmas.Result.{on_ok_weaker}
use Rattle.vg_draw.specs.Drawing.{interface_id, interface_label, down_text, packets_of, sent_count, sent_text}
use Rattle.vg_draw.proofs.LineLemmas.{eight_steps, sent_same}
use Rattle.vg_draw.proofs.lines.put_interface_line.Goals as goal

pub returns : goal.returns
returns c =
    on_ok_weaker c.put-4.result (eight_steps c.args.out.now.items (codes "  ") (interface_id c.args.number) (codes " [shape=house, label=" ++ 34 ∷ [])
    (interface_label c.args.interface.now) (34 ∷ []) (down_text c.args.interface.now.up) (codes "]; wire -> ") (interface_id c.args.number) (codes " [style=dashed")
    (sent_text (packets_of c.args.report.now) (sent_count c.args.report.now c.args.interface.now.name)) (codes "];" ++ 10 ∷ [])
    c.in_ok-put_begin.ensures c.in_ok-put_interface_label.ensures c.in_ok-put.ensures c.in_ok-put_down.ensures c.in_ok-put-2.ensures c.in_ok-put_id.ensures c.in_ok-put-3.ensures
    (c.in_ok-put_sent.ensures ∙ ap (λ text. c.put-3.new.out.items ++ text) (sent_same c.packets_of.ensures c.sent_count.ensures))) c.put-4.ensures
