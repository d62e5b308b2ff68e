use Rattle.vg_capture.proofs.PlaceLemmas.{part_seen}
use Rattle.vg_capture.proofs.captures.Packets.stretch.Goals as goal

pub returns : goal.returns
returns c = part_seen c.self.inside.big c.self.inside.bytes c.as_slice.result.now c.self.inside.places.items c.deref.result.now c.args.self.now c.args.from c.args.count c.self.view_is c.as_slice.ensures c.deref.ensures.value
