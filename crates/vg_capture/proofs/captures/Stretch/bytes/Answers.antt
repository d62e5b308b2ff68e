use Rattle.std.proofs.Common.{refl}
use Rattle.vg_capture.proofs.PlaceLemmas.{bytes_there}
use Rattle.vg_capture.proofs.captures.Stretch.bytes.Goals as goal

pub returns : goal.returns
returns c = bytes_there c.self.inside.big c.self.inside.bytes.now c.self.inside.places.now c.args.self.now c.args.k _ _ c.self.view_is c.requires refl
