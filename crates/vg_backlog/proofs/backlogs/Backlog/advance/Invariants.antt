use Rattle.std.proofs.Common.{◌≡◌, ◌++◌, List, length}
use Rattle.std.specs.Prelude.{option_to_list}
use Rattle.vg_ring.specs.declared.ends.RingTx.{RingTx}
use Rattle.vg_journeys.specs.Accounts.{HandoffFrame}
use Rattle.vg_backlog.specs.Books.{Advances}
use Rattle.vg_backlog.specs.Queues.{IsHolding}
use Rattle.vg_backlog.proofs.backlogs.Backlog.advance.Given as goal

abbrev pub invariant-frames : goal.invariant-frames
invariant-frames l = record {
  holding : IsHolding l.self-inside.ring l.self-inside.next l.self-inside.behind l.self-inside.room;
  slots : l.self-inside.slots ≡ l.fn.self.slots;
  room : l.self-inside.room ≡ l.fn.self.room;
  goes_on : (after : RingTx HandoffFrame) (left : List HandoffFrame) → Advances l.self-inside.ring (option_to_list l.self-inside.next ++ l.self-inside.behind.frames) after left
      → Advances l.fn.self.end l.fn.self.held after left;
}

abbrev pub decreases-frames : goal.decreases-frames
decreases-frames l = length (option_to_list l.self-inside.next ++ l.self-inside.behind.frames)
