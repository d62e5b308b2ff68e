use Rattle.std.proofs.Common.{◌≡◌, ℕ, true, sym, ap, ◌∙◌}
use Rattle.std.specs.Prelude.{not, Some, if◌then◌else◌}
use Rattle.std.specs.Option.{option_copied}
use Rattle.vg_model.specs.declared.kinds.DropError.TheVariants as errors
use Rattle.vg_model.specs.declared.kinds.HashKind.TheVariants.{Flow}
use Rattle.vg_model.specs.declared.kinds.Step.TheVariants.{Next}
use Rattle.vg_model.specs.declared.routes.RouteTo.TheVariants as routes
use Rattle.vg_model.specs.Members.{member}
use Rattle.vg_model.specs.Hash.{flow_hash}
use Rattle.vg_model.specs.Route.{best_route}
use Rattle.vg_model.specs.Packet.{Packet}
use Rattle.vg_model.specs.Visit.{datagram, destination, forwarded, dropped}
use Rattle.vg_nodes.proofs.nodes.ip4_lookup.ip4_lookup.Goals as goal

pub returns-in-Via-clause-visited : goal.returns-in-Via-clause-visited
returns-in-Via-clause-visited c =
    let p : Packet = c.args.buffer.now.packet in
    let hash : ℕ = flow_hash Flow p.bytes in
    let over : ℕ → Packet = λ number. record p { adjacency = Some number } in
    let to : c.destination_of.result ≡ destination (datagram p) = c.destination_of.ensures in
    let best : best_route c.args.fork.now.graph.routes (destination (datagram p)) ≡ Some (routes.Via c.in-Via.members) =
    ap (best_route c.args.fork.now.graph.routes) (sym to) ∙ sym c.target.ensures ∙ ap option_copied c.in-Some.is ∙ ap Some c.in-Via.is in
    let number : c.picked-adjacency.result ≡ member c.in-Via.members hash = c.picked-adjacency.ensures in
    let marked : p.checked ≡ true = sym c.checked.ensures ∙ c.if-not-checked.false in
    ap (λ (b : Packet). (Next 0, b)) (ap (λ b. b.packet) c.set_adjacency.ensures ∙ ap over number)
    ∙ ap (λ o. forwarded o hash p) (sym best)
    ∙ ap (λ b. if not b then dropped errors.Unchecked p else forwarded (best_route c.args.fork.now.graph.routes (destination (datagram p))) hash p) (sym marked)
