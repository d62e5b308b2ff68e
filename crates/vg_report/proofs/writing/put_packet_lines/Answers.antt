-- For `put_packet_lines`: the lines of fates are the first ones, and one more line stands behind those so far.
use Rattle.std.proofs.Common.{◌++◌, ◌<◌, ◌∙◌, ap, length, sym, take, flat_map, arith}
use Rattle.std.proofs.lemmas.Option.{get_or_from_slice_get}
use Rattle.vg_report.specs.Text.{line_text, numbered, packet_line}
use Rattle.vg_report.specs.Seen.{line_seen}
use Rattle.vg_report.proofs.LineLemmas.{one_more_line}
use Rattle.vg_report.proofs.writing.put_packet_lines.Goals as goal

pub loop-number-init : goal.loop-number-init
loop-number-init c =
    c.in_ok-put_fate_lines.ensures
    ∙ ap (λ lines. c.args.out.now.items ++ flat_map line_text (numbered packet_line 0 lines))
    (sym (ap (λ n. take n c.args.packets.now) c.len-number.ensures.count ∙ c.named_fates-names.ensures.first))

pub loop-number-preserved : goal.loop-number-preserved
loop-number-preserved c =
    let inside : c.loop-number.number < length c.args.packets.now = omega (arith, c.loop-number-test.true, c.len-number-end.ensures) in
    one_more_line packet_line c.args.packets.now c.loop-number.number (line_seen c.get.result) c.args.out.now.items _ _
    inside (sym (get_or_from_slice_get c.args.packets.now c.loop-number.number _ (line_seen c.get.result) c.get.ensures)) c.loop-number.invariant c.in_ok-put_packet_line.ensures
