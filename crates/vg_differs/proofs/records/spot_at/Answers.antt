-- For `spot_at`: the record that the place is in, or that all end in front of it.
use Rattle.std.proofs.Common.{◌-◌, ap, ◌∙◌, inr, length, arith}
use Rattle.vg_capture.specs.declared.captures.Sent.{Sent}
use Rattle.vg_differs.specs.Records.{part_of, record_len}
use Rattle.vg_differs.proofs.RecordLemmas.{next_end, pair_at, all_end}
use Rattle.vg_differs.proofs.records.spot_at.Goals as goal

pub returns-then-place-start : goal.returns-then-place-start
returns-then-place-start c =
    let sent = c.args.sent.now in
    let one : Sent = c.index-sent-number.result in
    let bytes = c.as_slice-bytes.ensures in
    record {
      bytes = one.bytes;
      is = pair_at sent c.loop-number.number one (omega arith) c.index-sent-number.is;
      start = c.loop-number.invariant.start;
      len = ap record_len bytes;
      next = c.len_of.ensures;
      within = (c.loop-number.invariant.within, (let e = ap length bytes in omega (arith, e)));
      part = c.part_of.ensures ∙ ap (λ b. part_of b (c.args.place - c.loop-number.start)) bytes;
    }

pub loop-number-preserved : goal.loop-number-preserved
loop-number-preserved c =
    let sent = c.args.sent.now in
    let one : Sent = c.index-sent-number.result in
    let more = next_end sent c.loop-number.number one (omega arith) c.index-sent-number.is in
    let long = ap length c.as_slice-bytes.ensures in
    record { start = omega (arith, more, long, c.loop-number.invariant.start); within = omega (arith, long) }

pub returns : goal.returns
returns c =
    let all = all_end c.args.sent.now c.loop-number.number (omega arith) in
    inr (omega (arith, all, c.loop-number.invariant.start))
