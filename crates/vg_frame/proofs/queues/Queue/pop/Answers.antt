use Rattle.std.proofs.Common.{◌≡◌, ◌<◌, length, sym, ◌∙◌, arith}
use Rattle.std.proofs.lemmas.Bool.{eqb-true}
use Rattle.std.proofs.lemmas.Grind.{common_steps}
use Rattle.vg_frame.specs.Queue.{indexes_of}
use Rattle.vg_frame.proofs.QueueLemmas.{is_cut, AllFull, AllFull-rest, take_oldest, drop_oldest, take_newest, drop_newest}
use Rattle.vg_frame.proofs.queues.Queue.pop.Goals as goal

pub returns-then-is_empty-clause-frame : goal.returns-then-is_empty-clause-frame
returns-then-is_empty-clause-frame c =
    let q = c.self.inside in
    let none_full = eqb-true _ 0 (sym c.is_empty.ensures ∙ c.if-is_empty.true) in
    let none : length q.full.items ≡ 0 = omega arith in
    rw (← c.self.view_is) (c.take.ensures.frame ∙ c.deref_mut.ensures.value ∙ take_newest _ q.full.items q.newest.value none c.self.invariant.few)

pub returns-then-is_empty-clause-rest : goal.returns-then-is_empty-clause-rest
returns-then-is_empty-clause-rest c =
    let q = c.self.inside in
    let none_full = eqb-true _ 0 (sym c.is_empty.ensures ∙ c.if-is_empty.true) in
    let none : length q.full.items ≡ 0 = omega arith in
    rw (← c.self.view_is, c.take.ensures.empty) (drop_newest _ q.full.items q.newest.value none c.self.invariant.few)

pub returns-clause-frame : goal.returns-clause-frame
returns-clause-frame c =
    let q = c.self.inside in
    let some : 0 < length q.full.items = grind (arith, common_steps, c.is_empty.ensures, c.if-is_empty.false) in
    rw (← c.self.view_is) (c.empty.ensures.frame ∙ take_oldest _ q.full.items q.newest.value _ c.self.invariant.full some c.remove-oldest.ensures.value)

pub returns-clause-rest : goal.returns-clause-rest
returns-clause-rest c =
    let q = c.self.inside in
    let some : 0 < length q.full.items = grind (arith, common_steps, c.is_empty.ensures, c.if-is_empty.false) in
    rw (← c.self.view_is, c.remove-oldest.ensures.items) (drop_oldest _ q.full.items q.newest.value c.self.invariant.full some)

pub returns-clause-cut : goal.returns-clause-cut
returns-clause-cut c =
    let q = c.self.inside in
    let full : AllFull indexes_of c.remove-oldest.new.self.items = rw c.remove-oldest.ensures.items (AllFull-rest indexes_of q.full.items c.self.invariant.full) in
    let cut = is_cut indexes_of c.remove-oldest.new.self.items q.newest.value full in
    omega (arith, cut, c.remove-oldest.new.self.ok)
