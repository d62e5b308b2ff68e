use Rattle.std.proofs.Common.{decimal}
use Rattle.std.proofs.lemmas.Result.{on_ok_weaker}
use Rattle.vg_report.specs.Text.{legs_word, congested_words, end_words}
use Rattle.vg_report.specs.Seen.{legs_seen, end_seen}
use Rattle.vg_report.proofs.LineLemmas.{packet_steps}
use Rattle.vg_report.proofs.writing.put_packet_line.Goals as goal

pub returns : goal.returns
returns c =
    on_ok_weaker c.put_end.result (λ e. cc (
      e,
      c.in_ok-put_long_front.ensures,
      c.as_slice.ensures.legs,
      c.in_ok-put_congested.ensures,
      packet_steps c.args.out.now.items (decimal c.args.number) (legs_word (legs_seen c.args.packet.now.legs)) (congested_words c.args.packet.now.congested) (end_words (end_seen c.args.packet.now.end)),
    ))
    c.put_end.ensures
