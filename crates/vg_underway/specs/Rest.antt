-- A worker between two rounds.
use Rattle.std.specs.Prelude.{◌≡◌, ℕ, ◌+◌, ◌*◌, ◌≤◌, [], length, replicate, slice_index, None, vec_len, vec_capacity}
use Rattle.std.specs.List.{sum_by}
use Rattle.vg_model.specs.Edit.{most_nodes, most_interfaces}
use Rattle.vg_frame.specs.Pending.{IsNothingPending}
use Rattle.vg_frame.specs.Placed.{buffer_at, count}
use Rattle.vg_counters.specs.Tally.{IsWhole, drops_at, nothing_counted}
use Rattle.vg_counters.specs.Notes.{nothing_noted}
use Rattle.vg_underway.specs.Traced.{IsNotes}
use Rattle.vg_underway.specs.declared.underway.Work.{Work}
use Rattle.vg_underway.specs.SentEntries.{AreWithin, sent_by, sent_size}
use Rattle.vg_underway.specs.Draws.{most_visits}

-- So many packets are run, and so many bytes with their rooms; so many packets came to the worker; so many of its own, so long with
-- their rooms, aren't drawn yet. Nothing is under way; there is room for the fates and the bytes of all; and nothing is counted but for what came.
pub record IsAtRest (packets bytes came own left : ℕ) (w : Work) : Type 0 where
  pub nodes : length w.pending ≡ most_nodes
  pub none : IsNothingPending w.pending
  pub empty : (index : ℕ) → buffer_at w.memory index ≡ None
  pub no_buffer : count w.memory ≡ 0
  pub visits : length w.counts.visits ≡ most_nodes
  pub sends : length w.counts.sends ≡ most_interfaces
  pub whole : IsWhole w.counts
  pub within : AreWithin w.entries.items w.bytes.items
  pub few : packets ≤ 65536
  pub came_few : came + own ≤ 4 * packets
  pub logged : length w.fates.items + own ≤ packets
  pub listed : vec_len w.entries ≤ length w.fates.items
  pub fates : packets ≤ w.fates.room
  pub entries : packets ≤ vec_capacity w.entries
  pub kept : vec_len w.bytes + left ≤ bytes
  pub bytes_room : bytes ≤ vec_capacity w.bytes
  -- the bytes that are kept are those of the packets that were sent
  pub sent_is : sum_by sent_size (sent_by w.entries.items w.bytes.items) ≡ vec_len w.bytes
  pub visited : (node : ℕ) → slice_index w.counts.visits node ≤ most_visits * came
  pub dropped : (node error : ℕ) → drops_at node error w.counts.drops ≤ came
  pub sent : (interface : ℕ) → slice_index w.counts.sends interface ≤ came
  pub is_notes : IsNotes w.trace

-- nothing is under way or kept, and there is room for so many packets and so many bytes, and for the visits of so many packets
pub record IsNew (most_packets most_bytes traced : ℕ) (w : Work) : Type 0 where
  pub memory : w.memory ≡ []
  pub pending : w.pending ≡ replicate most_nodes []
  pub fates : w.fates.items ≡ []
  pub fates_room : most_packets ≤ w.fates.room
  pub entries : w.entries.items ≡ []
  pub entries_room : most_packets ≤ vec_capacity w.entries
  pub bytes : w.bytes.items ≡ []
  pub bytes_room : most_bytes ≤ vec_capacity w.bytes
  pub counts : w.counts ≡ nothing_counted most_nodes most_interfaces
  pub trace : w.trace ≡ nothing_noted traced
