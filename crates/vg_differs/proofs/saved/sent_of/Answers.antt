-- For the loop of `sent_of`: one packet more.
use Rattle.std.proofs.Common.{◌+◌, ◌++◌, [], drop, sym, ap, ◌∙◌, append_assoc, arith}
use Rattle.vg_capture.specs.Savefile.{pairs}
use Rattle.vg_check.specs.Saves.{sent_first, sent_from}
use Rattle.vg_differs.proofs.SentLemmas.{sent_next}
use Rattle.vg_differs.proofs.saved.sent_of.Goals as goal

pub loop-number-preserved : goal.loop-number-preserved
loop-number-preserved c =
    let trips = c.args.trips.now in
    let k = c.loop-number.number in
    let t = c.get.result in
    let later = sent_from (k + 1) (drop (k + 1) trips) in
    record {
      all =
          c.loop-number.invariant.all ∙ ap (λ l. pairs c.loop-number.sent.items ++ l) (sent_next trips k t c.get.ensures)
          ∙ sym (append_assoc (pairs c.loop-number.sent.items) (sent_first k t.packet.bytes t.outcome []) later)
          ∙ ap (λ l. l ++ later) (sym c.in_ok-put_sent.ensures.sent);
      within = c.in_ok-put_sent.ensures.within c.args.packets (omega arith) c.loop-number.invariant.within;
    }
