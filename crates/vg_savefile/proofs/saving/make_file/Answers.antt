use Rattle.std.proofs.Common.{◌≡◌, ◌+◌, ◌-◌, length, arith}
use Rattle.std.specs.Prelude.{flat_map}
use Rattle.vg_capture.specs.Savefile.{sent_in}
use Rattle.vg_underway.specs.SentEntries.{sent_by}
use Rattle.vg_savefile.specs.Packed.{records_len}
use Rattle.vg_savefile.proofs.PackedLemmas.{front_written}
use Rattle.vg_savefile.proofs.saving.make_file.Goals as goal

pub returns : goal.returns
returns c =
    let room : length c.args.header.now + records_len c.args.entries.items ≡ length c.args.list.now = c.requires.room in
    front_written c.args.header.now c.copy_from_slice.new.self c.spread.new.list c.args.list.now (flat_map (sent_in c.args.capture.now.packets) (sent_by c.args.entries.items c.args.list.now))
    (length c.args.list.now - records_len c.args.entries.items) c.copy_from_slice.ensures.after c.spread.ensures (omega (arith, room)) (omega arith)
