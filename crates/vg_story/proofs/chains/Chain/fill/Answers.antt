-- For `Chain::fill`: what its calls require, its clause.
use Rattle.std.proofs.Common.{length, ap, ◌∙◌, arith}
use Rattle.vg_model.specs.Packet.{fresh}
use Rattle.vg_pool.proofs.BlockLemmas.{pieces_few, kept_whole}
use Rattle.vg_story.proofs.chains.Chain.fill.Goals as goal

pub fill-requires : goal.fill-requires
fill-requires c = λ short. (let few = pieces_few (length c.args.bytes.now) short in let five = c.self.invariant in omega (arith, few, five))

pub returns : goal.returns
returns c = ap (λ b. b.packet) c.fill.ensures ∙ ap (fresh c.args.number) (kept_whole c.args.bytes.now c.requires)
