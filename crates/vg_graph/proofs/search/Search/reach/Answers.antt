use Rattle.std.proofs.Common.{◌≡◌, ℕ, ◌<◌, Bool, true, false, ap, ◌∙◌, refl, lit<, length, get_or, arith}
use Rattle.std.specs.Prelude.{Some, slice_get}
use Rattle.std.proofs.lemmas.Option.{slice_get-get_or}
use Rattle.vg_graph.specs.Reach.{HasRoom}
use Rattle.vg_graph.specs.declared.search.Search.{Search}
use Rattle.vg_graph.proofs.SearchLemmas.{reach_old, reach_new, unreached_set}
use Rattle.vg_graph.proofs.search.Search.reach.Goals as goal

-- a mark that is read
mark : (s : Search) (node : ℕ) (b : Bool) → node < 64 → HasRoom s → get_or s.reached node false ≡ b → slice_get s.reached node ≡ Some b
mark s node b small room e = let within : node < length s.reached = omega (arith, small, room.marks) in slice_get-get_or s.reached node false within ∙ ap Some e

pub push-requires : goal.push-requires
push-requires c =
    let fewer = unreached_set c.args.self.now.reached c.args.node (mark c.args.self.now c.args.node false c.requires.small c.requires.room c.if-not-self-node.true) in
    let few : length c.args.self.now.waiting.items < 64 = omega (arith, fewer, c.requires.room.room) in
    (lit< tt, few)

pub returns-then-not-self-node : goal.returns-then-not-self-node
returns-then-not-self-node c =
    reach_new c.args.self.now _ c.args.node (mark c.args.self.now c.args.node false c.requires.small c.requires.room c.if-not-self-node.true) refl c.push.ensures.items

pub returns-else-not-self-node : goal.returns-else-not-self-node
returns-else-not-self-node c = reach_old c.args.self.now c.args.node (mark c.args.self.now c.args.node true c.requires.small c.requires.room c.if-not-self-node.false)
