-- For `put_there`: its clause.
use Rattle.std.proofs.Common.{◌∷◌, []}
use Rattle.std.specs.Prelude.{codes, slice_get}
use Rattle.std.proofs.lemmas.Result.{on_ok_weaker}
use Rattle.vg_diff.specs.Lines.{number_at, drop_text, place_text}
use Rattle.vg_diff.specs.Texts.{line_begin}
use Rattle.vg_diff.proofs.LineLemmas.{four}
use Rattle.vg_diff.proofs.lines.put_there.Goals as goal

pub returns : goal.returns
returns c =
    let found = c.args.found.now in
    let number = number_at found.dropped.now c.args.dropped in
    on_ok_weaker c.put.result (λ e. cc (
      e,
      c.number_at-number.ensures,
      c.from.ensures,
      c.in_ok-put_begin.ensures,
      c.in_ok-put_drop.ensures,
      c.in_ok-put_place.ensures,
      four c.args.out.now.items (line_begin (codes "dropped-but-there") number) (drop_text (slice_get found.report.now.packets number)) (place_text found.starts.now c.args.got) (10 ∷ []),
    )) c.put.ensures
