use Rattle.std.proofs.Common.{ℕ, List, ◌++◌, ◌∷◌, [], length, sym, ap, subst, ◌∙◌, arith}
use Rattle.std.specs.VecDeque.{deque_capacity}
use Rattle.vg_journeys.specs.Accounts.{HandoffFrame}
use Rattle.vg_backlog.specs.declared.waiting.Head.{Head}
use Rattle.vg_backlog.specs.Books.{packets_in}
use Rattle.vg_backlog.specs.Queues.{Store, frames_of, AreOf}
use Rattle.vg_backlog.proofs.QueueLemmas.{frame_pushed, packets_are, heads_few}
use Rattle.vg_backlog.proofs.waiting.Waiting.push.Goals as goal

pub push_back_reserved-requires : goal.push_back_reserved-requires
push_back_reserved-requires c =
    let heads = c.self.inside.heads.items in
    let packets = c.self.inside.buffers.items in
    let few = heads_few heads packets c.self.invariant.0 in
    let capacity = c.self.invariant.1 in
    let all = packets_are heads packets c.self.invariant.0 in
    let same = ap (λ (s : Store). packets_in s.frames) c.self.view_is in
    let room = ap (λ (s : Store). s.room) c.self.view_is in
    let long = c.self.inside.heads.ok.0 in
    let some = c.generation.ensures.kept.some in
    let fits = c.requires in
    omega (arith, few, capacity, all, same, room, long, some, fits)

pub put_all-requires : goal.put_all-requires
put_all-requires c =
    let heads = c.self.inside.heads.items in
    let packets = c.self.inside.buffers.items in
    let all = packets_are heads packets c.self.invariant.0 in
    let same = ap (λ (s : Store). packets_in s.frames) c.self.view_is in
    let room = ap (λ (s : Store). s.room) c.self.view_is in
    let long = c.self.inside.buffers.ok.0 in
    let fits = c.requires in
    let into = ap length c.into_packets.ensures.packets in
    omega (arith, all, same, room, long, fits, into)

pub invariant_of-self : goal.invariant_of-self
invariant_of-self c =
    let heads = c.self.inside.heads.items in
    let packets = c.self.inside.buffers.items in
    let head : Head = record { node = c.node.result; count = c.count_packets.result; generation = c.generation.result } in
    let pushed = frame_pushed heads packets head c.args.frame c.self.invariant.0 c.node.ensures c.generation.ensures.generation c.count_packets.ensures.count c.generation.ensures.kept in
    let items = c.put_all.ensures.items ∙ ap (λ ps. packets ++ ps) c.into_packets.ensures.packets in
    let capacity = c.self.invariant.1 in
    let one = c.put_all.ensures.capacity in
    let other = c.push_back_reserved.ensures.capacity in
    (subst (λ hs. AreOf hs c.put_all.new.buffers.items) (sym c.push_back_reserved.ensures.items) (subst (AreOf (heads ++ head ∷ [])) (sym items) pushed.0), omega (arith, capacity, one, other))

pub returns : goal.returns
returns c =
    let heads = c.self.inside.heads.items in
    let packets = c.self.inside.buffers.items in
    let head : Head = record { node = c.node.result; count = c.count_packets.result; generation = c.generation.result } in
    let pushed = frame_pushed heads packets head c.args.frame c.self.invariant.0 c.node.ensures c.generation.ensures.generation c.count_packets.ensures.count c.generation.ensures.kept in
    let items = c.put_all.ensures.items ∙ ap (λ ps. packets ++ ps) c.into_packets.ensures.packets in
    let frames = ap (λ hs. frames_of hs c.put_all.new.buffers.items) c.push_back_reserved.ensures.items ∙ ap (frames_of (heads ++ head ∷ [])) items ∙ pushed.1
    ∙ ap (λ (s : Store). s.frames ++ c.args.frame ∷ []) c.self.view_is in
    let room = c.put_all.ensures.capacity ∙ ap (λ (s : Store). s.room) c.self.view_is in
    let store : List HandoffFrame → ℕ → Store = λ f r. record { frames = f; room = r } in
    ap (λ f. store f (deque_capacity c.put_all.new.buffers)) frames ∙ ap (store (c.args.self.now.frames ++ c.args.frame ∷ [])) room
