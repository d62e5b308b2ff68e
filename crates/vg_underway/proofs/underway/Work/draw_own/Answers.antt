use Rattle.std.proofs.Common.{◌≡◌, ℕ, ◌+◌, ◌<◌, ◌≤◌, ◌∷◌, ◌++◌, [], suc, List, length, add-one, sym, ap, subst, ◌∙◌, arith, inl, inr, append_assoc}
use Rattle.std.proofs.lemmas.Bool.{cases_lt}
use Rattle.vg_journeys.specs.Trips.{Arrival, Drawn}
use Rattle.vg_journeys.specs.Windows.{next_draws, mark_behind}
use Rattle.vg_underway.specs.Underway.{Setting, stationed}
use Rattle.std.specs.Prelude.{slice_index_or}
use Rattle.vg_model.specs.Journey.{longest_packet}
use Rattle.vg_model.specs.PoolBook.{CacheBook, pieces_of}
use Rattle.vg_pool.specs.Contents.{Contents, received}
use Rattle.vg_pool.proofs.BlockLemmas.{pieces_long}
use Rattle.vg_capture.specs.declared.captures.Captured.{Captured}
use Rattle.vg_underway.specs.Draws.{IsReady, IsEntered, CanDraw, CanDrawOwn, AreBelow, AreChained, kept_pieces}
use Rattle.vg_underway.proofs.ChainLemmas.{taken_out, kept_short, kept_long, chained_more}
use Rattle.vg_underway.specs.OwnPackets.{own_from, frames_of}
use Rattle.vg_underway.proofs.DrawLemmas.{IsTakenOut, allocated_few, can_draw, long_entered, short_entered}
use Rattle.vg_underway.proofs.PeerLemmas.{map_at}
use Rattle.vg_underway.proofs.OwnLemmas.{captured_there, next_drawn, own_step, below_more, behind_more}
use Rattle.vg_underway.proofs.underway.Work.draw_own.Goals as goal

pub draw-requires-clause-can : goal.draw-requires-clause-can
draw-requires-clause-can g c =
    let s : Setting = stationed g.K.KindSet.meaning c.args.fork.now.graph c.args.fork.now.generation c.args.station in
    let from : CanDrawOwn s c.args.mark c.args.limit c.args.most c.args.packets.now c.args.self.now c.args.cache.now = c.requires.can in
    let inv = c.draws.invariant in
    let low : c.draws.drew.mark < c.args.limit = (let test = c.if-drew-from.true in let is = c.from.ensures in omega (arith, test, is)) in
    let inside : c.draws.drew.mark < length c.args.packets.now = (let most = c.requires.limit in omega (arith, low, most)) in
    let there = captured_there c.args.packets.now c.draws.drew.mark c.bytes-bytes.result.now inside c.bytes-bytes.ensures in
    let below : AreBelow c.args.station.workers c.args.mark c.args.limit (suc c.draws.drew.count) = below_more c.args.station.workers c.args.mark c.args.limit c.draws.drew.count inv.below (subst (λ n. n < c.args.limit) inv.mark low) in
    let next = next_drawn c.args.station.workers c.args.mark c.draws.drew.count c.draws.drew.mark c.args.packets.now there.0 c.bytes-bytes.result.now inv.mark inside there.1 there.2 in
    let so_far : List Arrival = next_draws c.args.station.workers c.args.mark c.draws.drew.count (frames_of c.args.packets.now) in
    let ready : IsReady (from.before ++ next_draws c.args.station.workers c.args.mark (suc c.draws.drew.count) (frames_of c.args.packets.now)) from.start from.start_cache =
    from.ready (suc c.draws.drew.count) (let test = c.draws-test.true in omega (arith, test)) below in
    let out : IsTakenOut c.bytes-bytes.result.now c.draws.cache c.receive.new.self = taken_out c.bytes-bytes.result.now c.draws.cache c.receive.new.self c.in-Some.ensures.1 c.in-Some.ensures.2 in
    let chain : c.in-Some.buffer.pieces ≡ pieces_of (length c.bytes-bytes.result.now) = ap (λ (b : Contents). b.pieces) c.in-Some.ensures.0 in
    subst (λ n. CanDraw n c.draws.self c.receive.new.self) (sym chain)
    (can_draw s (from.before ++ next_draws c.args.station.workers c.args.mark (suc c.draws.drew.count) (frames_of c.args.packets.now)) (from.before ++ so_far) [] c.draws.drew.mark c.bytes-bytes.result.now from.start c.draws.self from.start_cache c.draws.cache
    c.requires.setting ready (inv.drawn from)
    (ap (λ n. from.before ++ next_draws c.args.station.workers c.args.mark n (frames_of c.args.packets.now)) (sym (add-one c.draws.drew.count)) ∙ ap (λ es. from.before ++ es) next ∙ sym (append_assoc from.before so_far (Drawn c.draws.drew.mark c.bytes-bytes.result.now ∷ [])))
    c.receive.new.self out.len out.freed)

pub draw-requires-clause-chain : goal.draw-requires-clause-chain
draw-requires-clause-chain g c = ap (λ (b : Contents). b.pieces) c.in-Some.ensures.0

pub draw-requires-clause-filled : goal.draw-requires-clause-filled
draw-requires-clause-filled g c =
    let bytes : List ℕ = c.bytes-bytes.result.now in
    let chain : c.in-Some.buffer.pieces ≡ pieces_of (length bytes) = ap (λ (b : Contents). b.pieces) c.in-Some.ensures.0 in
    c.in-Some.ensures.0 ∙ ap (λ n. received n c.draws.drew.mark bytes) (sym chain)

pub overflow_add-drew-in-draws-2 : goal.overflow_add-drew-in-draws-2
overflow_add-drew-in-draws-2 g c =
    let inv = c.draws.invariant in
    let low : c.draws.drew.mark < c.args.limit = (let test = c.if-drew-from.true in let is = c.from.ensures in omega (arith, test, is)) in
    let inside : c.draws.drew.mark < length c.args.packets.now = (let most = c.requires.limit in omega (arith, low, most)) in
    let there = captured_there c.args.packets.now c.draws.drew.mark c.bytes-bytes.result.now inside c.bytes-bytes.ensures in
    let step = own_step c.args.station.workers c.args.mark c.draws.drew.count c.draws.drew.mark c.args.packets.now there.0 c.requires.workers inside there.1 inv.own in
    let bytes = step.bytes in let most = step.most in let all = c.requires.bytes in let so_far = inv.bytes in
    let here = ap length there.2 in
    omega (arith, bytes, most, all, so_far, here)

pub draws-preserved : goal.draws-preserved
draws-preserved g c =
    let s : Setting = stationed g.K.KindSet.meaning c.args.fork.now.graph c.args.fork.now.generation c.args.station in
    let inv = c.draws.invariant in
    let low : c.draws.drew.mark < c.args.limit = (let test = c.if-drew-from.true in let is = c.from.ensures in omega (arith, test, is)) in
    let inside : c.draws.drew.mark < length c.args.packets.now = (let most = c.requires.limit in omega (arith, low, most)) in
    let there = captured_there c.args.packets.now c.draws.drew.mark c.bytes-bytes.result.now inside c.bytes-bytes.ensures in
    let below : AreBelow c.args.station.workers c.args.mark c.args.limit (suc c.draws.drew.count) = below_more c.args.station.workers c.args.mark c.args.limit c.draws.drew.count inv.below (subst (λ n. n < c.args.limit) inv.mark low) in
    let next = next_drawn c.args.station.workers c.args.mark c.draws.drew.count c.draws.drew.mark c.args.packets.now there.0 c.bytes-bytes.result.now inv.mark inside there.1 there.2 in
    let step = own_step c.args.station.workers c.args.mark c.draws.drew.count c.draws.drew.mark c.args.packets.now there.0 c.requires.workers inside there.1 inv.own in
    let so_far : List Arrival = next_draws c.args.station.workers c.args.mark c.draws.drew.count (frames_of c.args.packets.now) in
    let e : Arrival = Drawn c.draws.drew.mark c.bytes-bytes.result.now in
    let workers = c.from-in-draws.ensures in
    let here = ap length there.2 in
    let bytes : List ℕ = c.bytes-bytes.result.now in
    let out : IsTakenOut bytes c.draws.cache c.receive.new.self = taken_out bytes c.draws.cache c.receive.new.self c.in-Some.ensures.1 c.in-Some.ensures.2 in
    let captured : slice_index_or (frames_of c.args.packets.now) c.draws.drew.mark [] ≡ bytes = map_at (λ (x : Captured). x.bytes) c.args.packets.now c.draws.drew.mark there.0 [] inside there.1 ∙ sym there.2 in
    record {
      drawn = λ from.
          let entered = inv.drawn from in
          let ready : IsReady (from.before ++ next_draws c.args.station.workers c.args.mark (suc c.draws.drew.count) (frames_of c.args.packets.now)) from.start from.start_cache =
          from.ready (suc c.draws.drew.count) (let test = c.draws-test.true in omega (arith, test)) below in
          let can : CanDraw (pieces_of (length bytes)) c.draws.self c.receive.new.self =
          can_draw s (from.before ++ next_draws c.args.station.workers c.args.mark (suc c.draws.drew.count) (frames_of c.args.packets.now)) (from.before ++ so_far) [] c.draws.drew.mark c.bytes-bytes.result.now from.start c.draws.self from.start_cache c.draws.cache
          c.requires.setting ready entered
          (ap (λ n. from.before ++ next_draws c.args.station.workers c.args.mark n (frames_of c.args.packets.now)) (sym (add-one c.draws.drew.count)) ∙ ap (λ es. from.before ++ es) next ∙ sym (append_assoc from.before so_far (e ∷ []))) c.receive.new.self out.len out.freed in
          let done : IsEntered s ((from.before ++ so_far) ++ e ∷ []) from.start from.start_cache c.draw.new.self c.draw.new.cache = elim (cases_lt longest_packet (length bytes)) [
            | inl long ↦ long_entered s c.args.leg (from.before ++ so_far) c.draws.drew.mark c.bytes-bytes.result.now from.start c.draws.self c.draw.new.self from.start_cache c.draws.cache c.receive.new.self c.draw.new.cache
                out can c.requires.leg c.draw.ensures.bytes long (c.draw.ensures.long long) entered
            | inr short ↦ short_entered s c.args.leg (from.before ++ so_far) c.draws.drew.mark c.bytes-bytes.result.now from.start c.draws.self c.draw.new.self from.start_cache c.draws.cache c.receive.new.self c.draw.new.cache
                c.requires.setting out can c.requires.leg c.draw.ensures.bytes short (c.draw.ensures.short short) entered
          ] in
          subst (λ es. IsEntered s es from.start from.start_cache c.draw.new.self c.draw.new.cache) (append_assoc from.before so_far (e ∷ []) ∙ ap (λ es. from.before ++ es) (sym next)) done;
      most = (let test = c.draws-test.true in omega (arith, test));
      mark = ap (λ n. c.draws.drew.mark + n) workers ∙ ap (λ n. n + c.args.station.workers) inv.mark ∙ sym (behind_more c.args.station.workers c.args.mark c.draws.drew.count) ∙ ap (mark_behind c.args.station.workers c.args.mark) (sym (add-one c.draws.drew.count));
      below = subst (AreBelow c.args.station.workers c.args.mark c.args.limit) (sym (add-one c.draws.drew.count)) below;
      chained =
          (let more : next_draws c.args.station.workers c.args.mark (suc c.draws.drew.count) (frames_of c.args.packets.now) ≡ so_far ++ e ∷ [] =
          ap (λ n. next_draws c.args.station.workers c.args.mark n (frames_of c.args.packets.now)) (sym (add-one c.draws.drew.count)) ∙ next in
          let fits : pieces_of (length bytes) ≤ c.draws.cache.len = (let x = out.len in omega (arith, x)) in
          let kept : c.draw.new.cache.len + kept_pieces e ≡ c.draws.cache.len =
          elim (cases_lt longest_packet (length bytes)) [
            | inl long ↦ let none = kept_long c.draws.drew.mark bytes long in let one = pieces_long (length bytes) long in let back = ap (λ (x : CacheBook). x.len) (c.draw.ensures.long long).cache in let x = out.len in omega (arith, none, one, back, x)
            | inr short ↦ let all = kept_short c.draws.drew.mark bytes short in let same = ap (λ (x : CacheBook). x.len) (c.draw.ensures.short short).cache in let x = out.len in omega (arith, all, same, x)
          ] in
          subst (λ n. AreChained c.args.station.workers c.args.mark n (frames_of c.args.packets.now) c.args.cache.now.len c.draw.new.cache.len) (sym (add-one c.draws.drew.count))
          (chained_more c.args.station.workers c.args.mark c.draws.drew.count c.draws.drew.mark (frames_of c.args.packets.now) bytes c.args.cache.now.len c.draws.cache.len c.draw.new.cache.len inv.mark captured more inv.chained fits kept));
      own = ap (λ n. own_from c.args.station.workers (c.draws.drew.mark + n) c.args.packets.now) workers ∙ step.own;
      bytes = (let bytes = step.bytes in let so_far_bytes = inv.bytes in omega (arith, bytes, so_far_bytes, here));
    }

pub receive-requires : goal.receive-requires
receive-requires g c =
    let s : Setting = stationed g.K.KindSet.meaning c.args.fork.now.graph c.args.fork.now.generation c.args.station in
    let from : CanDrawOwn s c.args.mark c.args.limit c.args.most c.args.packets.now c.args.self.now c.args.cache.now = c.requires.can in
    let inv = c.draws.invariant in
    let so_far : List Arrival = next_draws c.args.station.workers c.args.mark c.draws.drew.count (frames_of c.args.packets.now) in
    allocated_few s (from.before ++ so_far) from.start c.draws.self from.start_cache c.draws.cache (from.ready c.draws.drew.count inv.most inv.below) (inv.drawn from)

pub returns-in_default-clause-all : goal.returns-in_default-clause-all
returns-in_default-clause-all g c = λ few.
    let low : c.draws.drew.mark < c.args.limit = (let test = c.if-drew-from.true in let is = c.from.ensures in omega (arith, test, is)) in
    let inside : c.draws.drew.mark < length c.args.packets.now = (let most = c.requires.limit in omega (arith, low, most)) in
    let there = captured_there c.args.packets.now c.draws.drew.mark c.bytes-bytes.result.now inside c.bytes-bytes.ensures in
    let bytes : List ℕ = c.bytes-bytes.result.now in
    let captured : slice_index_or (frames_of c.args.packets.now) c.draws.drew.mark [] ≡ bytes = map_at (λ (x : Captured). x.bytes) c.args.packets.now c.draws.drew.mark there.0 [] inside there.1 ∙ sym there.2 in
    let size = ap (λ (b : List ℕ). pieces_of (length b)) captured in
    let short = c.in_default.ensures.0 in
    let same = ap (λ (x : CacheBook). x.len) c.in_default.ensures.1 in
    inr (omega (arith, size, short, same))
