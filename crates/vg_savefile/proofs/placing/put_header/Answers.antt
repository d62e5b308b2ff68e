use Rattle.std.proofs.Common.{refl}
use Rattle.byteorder.specs.Endian.{little_bytes}
use Rattle.vg_savefile.proofs.PlaceLemmas.{four_behind}
use Rattle.vg_savefile.proofs.placing.put_header.Goals as goal

pub returns : goal.returns
returns c =
    four_behind c.args.list.now c.put_number.new.list c.put_number-2.new.list c.put_number-3.new.list c.put_number-4.new.list
    (little_bytes 4 c.args.marks.seconds) (little_bytes 4 c.args.marks.fraction) (little_bytes 4 c.args.len) (little_bytes 4 c.args.marks.original) c.args.at
    refl refl refl refl c.requires c.put_number.ensures c.put_number-2.ensures c.put_number-3.ensures c.put_number-4.ensures
