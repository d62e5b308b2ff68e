-- Runs whose queues refuse no frame.
use Rattle.std.specs.Prelude.{◌≡◌, ℕ, ◌+◌, ◌*◌, List, length}
use Rattle.std.specs.List.{AllByRecursion}
use Rattle.vg_model.specs.declared.kinds.DropError.TheVariants.{Congestion, HandoffLimit}
use Rattle.vg_model.specs.Graph.{Graph}
use Rattle.vg_model.specs.Visit.{Visit}
use Rattle.vg_steps.specs.Seated.{TableId}
use Rattle.vg_ring.specs.Ends.{tx_ring, tx_slots}
use Rattle.vg_capture.specs.declared.captures.Capture.{Capture}
use Rattle.vg_report.specs.declared.reports.Report.{Report}
use Rattle.vg_backlog.specs.Books.{BacklogBook}
use Rattle.vg_dispatch.specs.declared.links.WorkerLinks.{WorkerLinks}
use Rattle.vg_dispatch.specs.declared.options.Options.{Options}
use Rattle.vg_check.specs.Output.{Setting, IsOutput}
use Rattle.vg_check.specs.OneWorker.{alone}
use Rattle.vg_check.specs.Congestion.{NamesNoRefusal, NamesNoDropBy}

-- the ring that a backlog stands behind, and its slots
abbrev pub ring_of : BacklogBook → TableId
ring_of b = tx_ring b.end

abbrev pub slots_of : BacklogBook → ℕ
slots_of b = tx_slots b.end

-- room for the packets of all buffers, and for those of one more round
abbrev pub room_for : Options → ℕ
room_for options = options.buffers + 256 * options.workers

-- the gate of each output closes when as many frames are held as its queue has slots, and it has this room
abbrev pub HoldsBack : Options → WorkerLinks BacklogBook → Type 0
HoldsBack options links = AllByRecursion (λ (b : BacklogBook). (b.slots ≡ options.queue) × (b.room ≡ room_for options)) links.outputs.items

-- what a run puts out whose queues refuse no frame: no packet is dropped by a full queue; and where there is one generation, and no packet
-- was dropped by the limit of legs, one worker saves the same
pub record IsLossless (visit : Visit) (graphs : List Graph) (first : ℕ → ℕ) (setting : Setting) (capture : Capture) (report : Report) (tx : List ℕ) : Type 0 where
  pub no_refusal : NamesNoRefusal report
  pub no_congestion : NamesNoDropBy Congestion report
  pub alike : length graphs ≡ 1 → NamesNoDropBy HandoffLimit report → (other : Report) × IsOutput visit graphs first (alone setting) capture other tx
