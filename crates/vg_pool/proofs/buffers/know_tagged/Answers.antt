use Rattle.std.proofs.Common.{length}
use Rattle.std.specs.Prelude.{nat_le}
use Rattle.std.proofs.lemmas.Bool.{leb-true, and_parts}
use Rattle.vg_pool.proofs.buffers.know_tagged.Goals as goal

pub returns : goal.returns
returns c = leb-true 18 (length c.args.buffer.now.packet.bytes) (and_parts (nat_le 18 (length c.args.buffer.now.packet.bytes)) _ c.requires).0
