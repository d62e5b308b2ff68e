use Rattle.std.proofs.Common.{◌≡◌, ℕ, false, List, sym, ap, ◌∙◌}
use Rattle.std.specs.Prelude.{Some, if◌then◌else◌}
use Rattle.std.specs.Option.{option_copied}
use Rattle.vg_model.specs.declared.kinds.DropError.TheVariants as errors
use Rattle.vg_model.specs.declared.kinds.Step.TheVariants.{Next}
use Rattle.vg_model.specs.declared.routes.RouteTo.TheVariants as routes
use Rattle.vg_model.specs.Route.{best_route6}
use Rattle.vg_model.specs.Packet.{Packet}
use Rattle.vg_model.specs.Visit.{datagram, forwarded, dropped}
use Rattle.vg_ip6.specs.Header.{lacks_header, destination6, flow_hash6}
use Rattle.vg_ip6.proofs.nodes.ip6_lookup.ip6_lookup.Goals as goal

pub returns-in-Via-clause-visited : goal.returns-in-Via-clause-visited
returns-in-Via-clause-visited c =
    let p : Packet = c.args.buffer.now.packet in
    let d : List ℕ = datagram p in
    let over : ℕ → Packet = λ number. record p { adjacency = Some number } in
    let best : best_route6 c.args.fork.now.graph.routes6 (destination6 d) ≡ Some (routes.Via c.in-Via.members) =
    ap (best_route6 c.args.fork.now.graph.routes6) (sym c.destination_of.ensures) ∙ sym c.target6.ensures ∙ ap option_copied c.in-Some.is ∙ ap Some c.in-Via.is in
    let has : lacks_header d ≡ false = sym c.lacks_header.ensures ∙ c.if-lacks_header.false in
    ap (λ (b : Packet). (Next 0, b)) (ap (λ b. b.packet) c.set_adjacency.ensures ∙ ap over c.picked-adjacency.ensures)
    ∙ ap (λ o. forwarded o (flow_hash6 d) p) (sym best)
    ∙ ap (λ b. if b then dropped errors.Unchecked p else forwarded (best_route6 c.args.fork.now.graph.routes6 (destination6 d)) (flow_hash6 d) p) (sym has)
