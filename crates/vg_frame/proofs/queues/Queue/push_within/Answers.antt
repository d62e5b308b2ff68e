use Rattle.std.proofs.Common.{◌≡◌, length, ap, arith}
use Rattle.vg_frame.specs.Pending.{frame_size}
use Rattle.vg_frame.specs.Queue.{indexes_of}
use Rattle.vg_frame.proofs.QueueLemmas.{is_cut, waiting_len, AllFull, AllFull-push}
use Rattle.vg_frame.proofs.queues.Queue.push_within.Goals as goal

pub push_each-requires : goal.push_each-requires
push_each-requires c =
    let q = c.self.inside in
    let within = rw (← c.self.view_is) at c.requires.within in
    let long = waiting_len indexes_of q.full.items q.newest.value c.self.invariant.full in
    omega (arith, long, within, q.full.ok, ap length c.deref_mut.ensures.value)

pub returns-then-len-ge-FRAME_SIZE-clause-cut : goal.returns-then-len-ge-FRAME_SIZE-clause-cut
returns-then-len-ge-FRAME_SIZE-clause-cut c =
    let q = c.self.inside in
    let is_full : length c.replace-full.result.value ≡ frame_size = omega (arith, ap length c.deref.ensures, ap (λ b. length b.value) c.replace-full.ensures.value) in
    let full : AllFull indexes_of c.push_reserved.new.self.items = rw c.push_reserved.ensures.items (AllFull-push indexes_of q.full.items c.replace-full.result c.self.invariant.full is_full) in
    let cut = is_cut indexes_of c.push_reserved.new.self.items c.replace-full.new.dest.value full in
    omega (arith, cut, c.push_reserved.new.self.ok)

pub returns-else-len-ge-FRAME_SIZE-clause-cut : goal.returns-else-len-ge-FRAME_SIZE-clause-cut
returns-else-len-ge-FRAME_SIZE-clause-cut c =
    let q = c.self.inside in
    let cut = is_cut indexes_of q.full.items c.push_each.new.self c.self.invariant.full in
    omega (arith, cut, q.full.ok)
