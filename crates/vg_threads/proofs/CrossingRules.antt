-- For start: which types may go to other threads, or be shared with them, by what the check puts together itself.
use denote.Param.Send.{sendable}
use Rattle.std.proofs.Crossing
use Rattle.vg_dispatch.below.arrayvec.proofs.array_string.ArrayString.TheSendSync as array_string
use Rattle.crossbeam_utils.below.atomic_table.proofs.shared.Seat.TheSendSync as seat
use Rattle.crossbeam_utils.below.atomic_table.proofs.shared.Shared.TheSendSync as shared
use Rattle.std.proofs.sync.atomic.AtomicBool.TheSendSync as atomic_bool
use Rattle.std.proofs.sync.atomic.AtomicU64.TheSendSync as atomic_u64
use Rattle.std.proofs.sync.ledger.Book.TheSendSync as book
use Rattle.std.proofs.sync.ledger.Share.TheSendSync as share
use Rattle.std.proofs.marker.PhantomData.TheSendSync as phantom_data
use Rattle.std.proofs.rt.Memory.TheSendSync as memory
use Rattle.std.proofs.thread.Scope.TheSendSync as scope
use Rattle.std.proofs.sync.Mutex.TheSendSync as mutex
use Rattle.std.proofs.timed.Parker.TheSendSync as parker
use Rattle.std.proofs.boxed.Box.TheSendSync as box
use Rattle.std.proofs.vec.Vec.TheSendSync as vec
use Rattle.std.below.std_collections.proofs.linked_list.nodes.Nodes.TheSendSync as nodes
use Rattle.std.proofs.alloc.Global.TheSendSync as global
use Rattle.vg_barrier.proofs.views.Machine.TheSendSync as machine
use Rattle.vg_barrier.proofs.views.MainPhase.TheSendSync as main_phase
use Rattle.vg_barrier.proofs.views.WorkerPhase.TheSendSync as worker_phase
use Rattle.vg_capture.proofs.captures.Capture.TheSendSync as capture
use Rattle.vg_capture.proofs.captures.Packets.TheSendSync as packets
use Rattle.vg_capture.proofs.captures.Place.TheSendSync as place
use Rattle.vg_counters.proofs.counting.Counters.TheSendSync as counters
use Rattle.vg_counters.proofs.tracing.Trace.TheSendSync as trace
use Rattle.vg_dispatch.proofs.inputs.Input.TheSendSync as input
use Rattle.vg_dispatch.proofs.options.Options.TheSendSync as options
use Rattle.vg_dispatch.proofs.parcels.Stop.TheSendSync as stop
use Rattle.vg_dispatch.proofs.parcels.WorkerParcel.TheSendSync as worker_parcel
use Rattle.vg_underway.proofs.sent.SentEntry.TheSendSync as sent_entry
use Rattle.vg_dispatch.below.vg_fates.proofs.logs.FateLog.TheSendSync as fate_log
use Rattle.vg_dispatch.below.vg_fates.proofs.logs.LogEntry.TheSendSync as log_entry
use Rattle.vg_fib.proofs.spans.Spans.TheSendSync as spans
use Rattle.vg_fib.proofs.spans.Spans6.TheSendSync as spans6
use Rattle.vg_fib.proofs.table.Fib.TheSendSync as fib
use Rattle.vg_fib.proofs.table6.Fib6.TheSendSync as fib6
use Rattle.vg_fib.proofs.entries.Packed.TheSendSync as packed
use Rattle.vg_fib.proofs.trie.Levels.TheSendSync as levels
use Rattle.vg_fib.proofs.trie.Mtrie.TheSendSync as mtrie
use Rattle.vg_fork.proofs.forks.Fork.TheSendSync as fork
use Rattle.vg_dispatch.below.vg_frame.proofs.frames.Frame.TheSendSync as frame
use Rattle.vg_dispatch.below.vg_frame.proofs.node_set.NodeSet.TheSendSync as node_set
use Rattle.vg_dispatch.below.vg_frame.proofs.queues.Queue.TheSendSync as queue
use Rattle.vg_dispatch.below.vg_frame.proofs.spares.Spares.TheSendSync as spares
use Rattle.vg_dispatch.below.vg_frame.proofs.store.FrameStore.TheSendSync as frame_store
use Rattle.vg_graph.proofs.graphs.Graph.TheSendSync as graph
use Rattle.vg_graph.proofs.nodes.Node.TheSendSync as node
use Rattle.vg_model.proofs.edits.Edit.TheSendSync as edit
use Rattle.vg_model.proofs.edits.EditLine.TheSendSync as edit_line
use Rattle.vg_model.proofs.edits.Edits.TheSendSync as edits
use Rattle.vg_model.proofs.fates.End.TheSendSync as end
use Rattle.vg_model.proofs.fates.Fate.TheSendSync as fate
use Rattle.vg_model.proofs.fates.Leg.TheSendSync as leg
use Rattle.vg_model.proofs.fates.Legs.TheSendSync as legs
use Rattle.vg_model.proofs.kinds.Adjacency.TheSendSync as adjacency
use Rattle.vg_model.proofs.kinds.DropError.TheSendSync as drop_error
use Rattle.vg_model.proofs.kinds.HashKind.TheSendSync as hash_kind
use Rattle.vg_model.proofs.kinds.Interface.TheSendSync as interface
use Rattle.vg_model.proofs.kinds.Kind.TheSendSync as kind
use Rattle.vg_model.proofs.lists.Bytes.TheSendSync as bytes
use Rattle.vg_model.proofs.members.Members.TheSendSync as members
use Rattle.vg_model.proofs.members.Names.TheSendSync as names
use Rattle.vg_model.proofs.names.Mac.TheSendSync as mac
use Rattle.vg_model.proofs.names.Name.TheSendSync as name
use Rattle.vg_model.proofs.routes.Prefix.TheSendSync as prefix
use Rattle.vg_model.proofs.routes.Prefix6.TheSendSync as prefix6
use Rattle.vg_model.proofs.routes.RouteTo.TheSendSync as route_to
use Rattle.vg_model.proofs.routes.RouteWord.TheSendSync as route_word
use Rattle.vg_model.proofs.vlans.VlanId.TheSendSync as vlan_id
use Rattle.vg_nodes.proofs.next_list.NextList.TheSendSync as next_list
use Rattle.vg_nodes.proofs.next_list.NextRun.TheSendSync as next_run
use Rattle.vg_nodes.proofs.sorted.Sorted.TheSendSync as sorted
use Rattle.vg_plan.proofs.masters.Master.TheSendSync as master
use Rattle.vg_plan.proofs.plans.Plan.TheSendSync as plan
use Rattle.vg_pool.proofs.settled.Settled.TheSendSync as settled
use Rattle.vg_ring.proofs.seats.RingRule.TheSendSync as ring_rule
use Rattle.vg_script.proofs.lists.Blocks.TheSendSync as blocks
use Rattle.vg_script.proofs.lists.Groups.TheSendSync as groups
use Rattle.vg_script.proofs.scripts.Block.TheSendSync as block
use Rattle.vg_script.proofs.scripts.Script.TheSendSync as script
use Rattle.vg_steps.proofs.moves.Trailed.TheSendSync as trailed
use Rattle.vg_steps.proofs.notes.Found.TheSendSync as found
use Rattle.vg_counters.below.arrayvec.proofs.array_vec.ArrayVec.TheSendSync as array_vec
use Rattle.vg_counters.below.arrayvec.proofs.cells.Cells.TheSendSync as cells
use Rattle.crossbeam_utils.below.atomic_table.proofs.owned.Table.TheSendSync as table
use Rattle.crossbeam_utils.below.atomic_table.proofs.send_lease.SendLease.TheSendSync as send_lease
use Rattle.std.proofs.option.Option.TheSendSync as option
use Rattle.std.proofs.result.Result.TheSendSync as result
use Rattle.std.proofs.thread.SpawnError.TheSendSync as spawn_error
use Rattle.crossbeam_utils.proofs.cache_padded.CachePadded.TheSendSync as cache_padded
use Rattle.vg_dispatch.below.slab.proofs.Entry.TheSendSync as entry2
use Rattle.vg_dispatch.below.slab.proofs.Slab.TheSendSync as slab
use Rattle.std.proofs.sync.Arc.TheSendSync as arc
use Rattle.std.proofs.collections.LinkedList.TheSendSync as linked_list
use Rattle.vg_barrier.proofs.barrier.Barrier.TheSendSync as barrier
use Rattle.vg_barrier.proofs.parcel.Stamped.TheSendSync as stamped
use Rattle.vg_barrier.proofs.views.About.TheSendSync as about
use Rattle.vg_barrier.proofs.views.MainView.TheSendSync as main_view
use Rattle.vg_barrier.proofs.views.View.TheSendSync as view
use Rattle.vg_barrier.proofs.views.WorkerView.TheSendSync as worker_view
use Rattle.vg_barrier.proofs.worker_seat.Check.TheSendSync as check
use Rattle.vg_barrier.proofs.worker_seat.ParkedSeat.TheSendSync as parked_seat
use Rattle.vg_barrier.proofs.worker_seat.Running.TheSendSync as running
use Rattle.vg_barrier.proofs.worker_seat.RunningSeat.TheSendSync as running_seat
use Rattle.vg_underway.proofs.counting.Counting.TheSendSync as counting
use Rattle.vg_nodes.proofs.entries.Entries.TheSendSync as entries
use Rattle.vg_ring.proofs.ends.RingRx.TheSendSync as ring_rx
use Rattle.vg_ring.proofs.ends.RingTx.TheSendSync as ring_tx
use Rattle.vg_ring.proofs.seats.View.TheSendSync as view2
use Rattle.vg_steps.proofs.notes.Noted.TheSendSync as noted
use Rattle.vg_steps.proofs.seats.Seat.TheSendSync as seat2
use Rattle.vg_steps.proofs.tables.Table.TheSendSync as table2
use Rattle.vg_hands.proofs.SendLemmas.{frame_send}
use Rattle.vg_pool.proofs.SendLemmas.{stack_send, buffer_send, spare_send}

pub ruleset crosses = (
  stack_send,
  buffer_send,
  spare_send,
  frame_send,
  array_string.the_send,
  array_string.the_sync,
  seat.the_send,
  shared.the_send,
  shared.the_sync,
  atomic_bool.the_field_send,
  atomic_bool.the_send,
  atomic_bool.the_field_sync,
  atomic_bool.the_sync,
  atomic_u64.the_send,
  atomic_u64.the_sync,
  book.the_send,
  share.the_send,
  phantom_data.the_field_send,
  phantom_data.the_send,
  phantom_data.the_field_sync,
  phantom_data.the_sync,
  memory.the_field_send,
  memory.the_send,
  memory.the_field_sync,
  memory.the_sync,
  scope.the_sync,
  mutex.the_send,
  mutex.the_sync,
  parker.the_field_send,
  parker.the_send,
  parker.the_field_sync,
  parker.the_sync,
  box.the_sync,
  vec.the_sync,
  nodes.the_sync,
  global.the_field_send,
  global.the_send,
  global.the_field_sync,
  global.the_sync,
  machine.the_field_send,
  machine.the_send,
  machine.the_field_sync,
  machine.the_sync,
  main_phase.the_field_send,
  main_phase.the_send,
  main_phase.the_field_sync,
  main_phase.the_sync,
  worker_phase.the_field_send,
  worker_phase.the_send,
  worker_phase.the_field_sync,
  worker_phase.the_sync,
  capture.the_field_send,
  capture.the_send,
  capture.the_field_sync,
  capture.the_sync,
  packets.the_send,
  packets.the_sync,
  place.the_field_send,
  place.the_send,
  place.the_field_sync,
  place.the_sync,
  counters.the_send,
  counters.the_sync,
  trace.the_send,
  trace.the_sync,
  input.the_field_send,
  input.the_send,
  input.the_field_sync,
  input.the_sync,
  options.the_field_send,
  options.the_send,
  options.the_field_sync,
  options.the_sync,
  stop.the_field_send,
  stop.the_send,
  stop.the_field_sync,
  stop.the_sync,
  worker_parcel.the_field_send,
  worker_parcel.the_send,
  worker_parcel.the_field_sync,
  worker_parcel.the_sync,
  sent_entry.the_field_send,
  sent_entry.the_send,
  sent_entry.the_field_sync,
  sent_entry.the_sync,
  fate_log.the_send,
  fate_log.the_sync,
  log_entry.the_field_send,
  log_entry.the_send,
  log_entry.the_field_sync,
  log_entry.the_sync,
  fib.the_send,
  fib.the_sync,
  fib6.the_send,
  fib6.the_sync,
  spans.the_field_send,
  spans.the_send,
  spans.the_field_sync,
  spans.the_sync,
  spans6.the_send,
  spans6.the_sync,
  packed.the_send,
  packed.the_sync,
  levels.the_field_send,
  levels.the_send,
  levels.the_field_sync,
  levels.the_sync,
  mtrie.the_send,
  mtrie.the_sync,
  fork.the_send,
  fork.the_sync,
  frame.the_send,
  frame.the_sync,
  node_set.the_field_send,
  node_set.the_send,
  node_set.the_field_sync,
  node_set.the_sync,
  queue.the_send,
  queue.the_sync,
  spares.the_send,
  spares.the_sync,
  frame_store.the_send,
  frame_store.the_sync,
  graph.the_send,
  graph.the_sync,
  node.the_field_send,
  node.the_send,
  node.the_field_sync,
  node.the_sync,
  edit.the_field_send,
  edit.the_send,
  edit.the_field_sync,
  edit.the_sync,
  edit_line.the_field_send,
  edit_line.the_send,
  edit_line.the_field_sync,
  edit_line.the_sync,
  edits.the_send,
  edits.the_sync,
  end.the_field_send,
  end.the_send,
  end.the_field_sync,
  end.the_sync,
  fate.the_field_send,
  fate.the_send,
  fate.the_field_sync,
  fate.the_sync,
  leg.the_field_send,
  leg.the_send,
  leg.the_field_sync,
  leg.the_sync,
  legs.the_send,
  legs.the_sync,
  adjacency.the_field_send,
  adjacency.the_send,
  adjacency.the_field_sync,
  adjacency.the_sync,
  drop_error.the_field_send,
  drop_error.the_send,
  drop_error.the_field_sync,
  drop_error.the_sync,
  hash_kind.the_field_send,
  hash_kind.the_send,
  hash_kind.the_field_sync,
  hash_kind.the_sync,
  interface.the_field_send,
  interface.the_send,
  interface.the_field_sync,
  interface.the_sync,
  kind.the_field_send,
  kind.the_send,
  kind.the_field_sync,
  kind.the_sync,
  vlan_id.the_field_send,
  vlan_id.the_send,
  vlan_id.the_field_sync,
  vlan_id.the_sync,
  bytes.the_send,
  bytes.the_sync,
  members.the_send,
  members.the_sync,
  names.the_send,
  names.the_sync,
  mac.the_field_send,
  mac.the_send,
  mac.the_field_sync,
  mac.the_sync,
  name.the_send,
  name.the_sync,
  prefix.the_field_send,
  prefix.the_send,
  prefix.the_field_sync,
  prefix.the_sync,
  prefix6.the_field_send,
  prefix6.the_send,
  prefix6.the_field_sync,
  prefix6.the_sync,
  route_to.the_field_send,
  route_to.the_send,
  route_to.the_field_sync,
  route_to.the_sync,
  route_word.the_field_send,
  route_word.the_send,
  route_word.the_field_sync,
  route_word.the_sync,
  next_list.the_send,
  next_list.the_sync,
  next_run.the_field_send,
  next_run.the_send,
  next_run.the_field_sync,
  next_run.the_sync,
  sorted.the_field_send,
  sorted.the_send,
  sorted.the_field_sync,
  sorted.the_sync,
  master.the_send,
  master.the_sync,
  plan.the_send,
  plan.the_sync,
  settled.the_send,
  settled.the_sync,
  ring_rule.the_field_send,
  ring_rule.the_send,
  ring_rule.the_field_sync,
  ring_rule.the_sync,
  blocks.the_send,
  blocks.the_sync,
  groups.the_send,
  groups.the_sync,
  block.the_field_send,
  block.the_send,
  block.the_field_sync,
  block.the_sync,
  script.the_field_send,
  script.the_send,
  script.the_field_sync,
  script.the_sync,
  trailed.the_field_send,
  trailed.the_send,
  trailed.the_field_sync,
  trailed.the_sync,
  found.the_field_send,
  found.the_send,
  found.the_field_sync,
  found.the_sync,
  Crossing.crosses,
  sendable,
  array_vec.the_send,
  array_vec.the_sync,
  cells.the_field_send,
  cells.the_send,
  cells.the_field_sync,
  cells.the_sync,
  table.the_field_send,
  table.the_send,
  table.the_field_sync,
  table.the_sync,
  send_lease.the_send,
  send_lease.the_sync,
  option.the_field_send,
  option.the_send,
  option.the_field_sync,
  option.the_sync,
  result.the_field_send,
  result.the_send,
  result.the_field_sync,
  result.the_sync,
  spawn_error.the_field_send,
  spawn_error.the_send,
  spawn_error.the_field_sync,
  spawn_error.the_sync,
  cache_padded.the_field_send,
  cache_padded.the_send,
  cache_padded.the_field_sync,
  cache_padded.the_sync,
  entry2.the_field_send,
  entry2.the_send,
  entry2.the_field_sync,
  entry2.the_sync,
  slab.the_send,
  slab.the_sync,
  arc.the_send,
  arc.the_sync,
  box.the_send,
  vec.the_send,
  linked_list.the_send,
  linked_list.the_sync,
  nodes.the_send,
  barrier.the_field_send,
  barrier.the_send,
  barrier.the_field_sync,
  barrier.the_sync,
  stamped.the_field_send,
  stamped.the_send,
  stamped.the_field_sync,
  stamped.the_sync,
  about.the_field_send,
  about.the_send,
  about.the_field_sync,
  about.the_sync,
  main_view.the_field_send,
  main_view.the_send,
  main_view.the_field_sync,
  main_view.the_sync,
  view.the_field_send,
  view.the_send,
  view.the_field_sync,
  view.the_sync,
  worker_view.the_field_send,
  worker_view.the_send,
  worker_view.the_field_sync,
  worker_view.the_sync,
  check.the_field_send,
  check.the_send,
  parked_seat.the_field_send,
  parked_seat.the_send,
  running.the_field_send,
  running.the_send,
  running_seat.the_field_send,
  running_seat.the_send,
  counting.the_field_send,
  counting.the_send,
  counting.the_field_sync,
  counting.the_sync,
  entries.the_send,
  entries.the_sync,
  ring_rx.the_field_send,
  ring_rx.the_send,
  ring_tx.the_field_send,
  ring_tx.the_send,
  view2.the_field_send,
  view2.the_send,
  view2.the_field_sync,
  view2.the_sync,
  noted.the_field_send,
  noted.the_send,
  noted.the_field_sync,
  noted.the_sync,
  seat2.the_field_send,
  seat2.the_send,
  table2.the_field_send,
  table2.the_send,
  table2.the_field_sync,
  table2.the_sync,
)
