use Rattle.std.proofs.Common.{◌⊎◌, ℕ, ◌<◌, ◌≤◌, ◌*◌, inl, inr, arith}
use Rattle.std.proofs.Math.Nat.{div-lt_iff_lt-mul}
use Rattle.std.proofs.lemmas.Nat.{pow_pos}
use Rattle.futures.specs.LinkedLists.Wheel.{SomeDeadline, IsSlotStart, tick}
use Rattle.vg_process.specs.declared.queue.Queue.{Queue}
use Rattle.vg_process.specs.Queued.{IsAhead}
use Rattle.vg_process.proofs.queue.Queue.look_ahead.Goals as goal

-- the slot of a deadline that lies ahead begins later than now
slot_ahead : (elapsed at when : ℕ) → IsSlotStart elapsed at when → elapsed < at
unfolding tick
slot_ahead elapsed at when slot =
    let late = (div-lt_iff_lt-mul {x = elapsed} {y = tick slot.0 when} (pow_pos (slot.0 * 6))).0 slot.1.ahead in
    omega (arith, late, slot.2)

-- the wheel has work only later than now
work_ahead : (q : Queue) (at : ℕ) → IsAhead q → SomeDeadline q.wheel (λ when. (when ≤ at) ⊎ IsSlotStart q.wheel.elapsed at when)
    → q.wheel.elapsed < at
work_ahead q at ahead work =
    elim work.3 [
      | inl due ↦ omega (arith, ahead work.0 work.1 work.2, due)
      | inr slot ↦ slot_ahead q.wheel.elapsed at work.1 slot
    ]

pub loop-self-smaller : goal.loop-self-smaller
loop-self-smaller c =
    let late = work_ahead c.loop-self.self c.in-Some.at c.loop-self.invariant.ahead c.in-Some.ensures.not_early in
    let fits = rw c.in-Some.is at c.poll_at.type_inv in
    omega (arith, late, c.gather.ensures.elapsed, fits)
