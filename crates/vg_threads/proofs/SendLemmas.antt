-- For start: what goes to other threads with a worker. A stack of buffers leads back to itself, so the check doesn't put together by itself what holds of the
-- types around it: here it is step by step.
use denote.Param.Send.{IsSend, IsSync, AllSend, view_send, recorded_send, struct_send}
use denote.Struct.Declared as Declared
use Rattle.std.proofs.Crossing
use Rattle.crossbeam_utils.below.atomic_table.proofs.shared.Seat.TheSendSync as seat
use Rattle.std.proofs.option.Option.TheSendSync as option
use denote.RattleType.{RattleType}
use denote.Ref.{NamedLft}
use Rattle.std.specs.declared.sync.ledger.Ledger
use Rattle.vg_dispatch.below.vg_frame.specs.contracts.memory.BufferMemory as BufferMemory
use Rattle.vg_underway.specs.contracts.incoming.Incoming as Incoming
use Rattle.vg_underway.specs.contracts.underway.Work as Work
use Rattle.vg_dispatch.specs.contracts.workers.Worker as Worker
use Rattle.vg_dispatch.specs.contracts.workers.Worker.TheInside as inside
use Rattle.vg_barrier.specs.contracts.worker_seat.Check as Check
use Rattle.vg_dispatch.specs.contracts.parcels.WorkerParcel as WorkerParcel
use Rattle.vg_dispatch.specs.contracts.parcels.WorkerParcelParcel.TheImpl as parcels
use Rattle.vg_plan.specs.contracts.books.Book as Book
use Rattle.vg_pool.specs.contracts.caches.Cache as Cache
use Rattle.vg_pool.specs.contracts.locked.LockedPool as LockedPool
use Rattle.vg_pool.specs.contracts.pools.Pool as Pool
use Rattle.vg_pool.specs.contracts.pools.Pool.TheInside as pool
use Rattle.vg_ring.specs.contracts.ends.RingRx as RingRx
use Rattle.vg_ring.specs.contracts.ends.RingTx as RingTx
use Rattle.vg_threads.specs.contracts.tied.Tied as Tied
use Rattle.vg_threads.specs.contracts.tied.Tied.TheInside as tied
use Rattle.vg_hands.specs.contracts.hand_frames.HandFrame as HandFrame
use Rattle.vg_hands.specs.declared.hand_frames.HandFrame as frames
use Rattle.vg_hands.specs.declared.handoffs.Handoff
use Rattle.vg_nodes.specs.declared.kinds.KindSet
use Rattle.vg_pool.specs.declared.books.PoolLedger
use Rattle.vg_pool.proofs.SendLemmas.{spare_send}
use Rattle.vg_pool.specs.contracts.spares.Spare as Spare
use Rattle.vg_threads.proofs.CrossingRules.{crosses}

pub rx_send : IsSend (RingRx.the_row HandFrame.the_row)
rx_send = search crosses depth 60 fits 20000

pub tx_send : IsSend (RingTx.the_row HandFrame.the_row)
tx_send = search crosses depth 60 fits 20000

pub memory_send : IsSend BufferMemory.the_row
memory_send = search crosses depth 60 fits 20000

pub incoming_send : IsSend Incoming.the_row
incoming_send = search crosses depth 60 fits 20000

pub work_send : IsSend (Work.the_field).row
work_send = search (memory_send, crosses) depth 60 fits 20000

module _ (T L : RattleType) (t : Ledger.Ghosts T.Denot) (l : Ledger.Ghosts L.Denot) where
  pub cache_send : IsSend T → IsSend L → IsSend (Cache.the_row T L t l)
  cache_send of_t of_l = search crosses depth 60 fits 20000

module _ (K H T L : RattleType) (k : KindSet.Ghosts K.Denot) (h : Handoff.Ghosts H.Denot frames.HandFrame) (t : PoolLedger.Ghosts T.Denot) (t' : Ledger.Ghosts T.Denot)
    (l : Ledger.Ghosts L.Denot) where
  pub worker_send : IsSend K → IsSend H → IsSend T → IsSend L → IsSend (Worker.the_row K H T L h k t t' l)
  worker_send of_k of_h of_t of_l =
      let cache = cache_send T L t' l of_t of_l in
      let seat = Check.the_row WorkerParcel.the_row Book.the_row parcels.ghosts in
      let fields : AllSend (Declared.shape (inside.the_type K H T L h k t t' l)).fields = (
        search crosses depth 60 fits 20000,
        (
          search crosses depth 60 fits 20000,
          (
            search (of_k, crosses) depth 60 fits 20000,
            (
              search crosses depth 60 fits 20000,
              (
                search crosses depth 60 fits 20000,
                (
                  search crosses depth 60 fits 20000,
                  (
                    search crosses depth 60 fits 20000,
                    (
                      search crosses depth 60 fits 20000,
                      (
                        search crosses depth 60 fits 20000,
                        (
                          work_send,
                          (
                            search crosses depth 60 fits 20000,
                            (
                              Crossing.Vec-send _ (search crosses depth 60 fits 20000),
                              (
                                Crossing.Vec-send _ incoming_send,
                                (
                                  Crossing.Vec-send _ (search (of_h, crosses) depth 60 fits 20000),
                                  (
                                    search (cache, crosses) depth 60 fits 20000,
                                    (
                                      option.the_field_send seat (search crosses depth 60 fits 20000),
                                      (
                                        search crosses depth 60 fits 20000,
                                        (
                                          search crosses depth 60 fits 20000,
                                          (
                                            Crossing.Vec-send _ rx_send,
                                            (
                                              Crossing.Vec-send _ tx_send,
                                              tt,
                                            ),
                                          ),
                                        ),
                                      ),
                                    ),
                                  ),
                                ),
                              ),
                            ),
                          ),
                        ),
                      ),
                    ),
                  ),
                ),
              ),
            ),
          ),
        ),
      ) in
      let shaped : IsSend (inside.the_row K H T L h k t t' l) = recorded_send (Declared.field (inside.the_type K H T L h k t t' l)).row (Declared.field (inside.the_type K H T L h k t t' l)).Value
      (Declared.field (inside.the_type K H T L h k t t' l)).into (Declared.field (inside.the_type K H T L h k t t' l)).into_one (struct_send (Declared.shape (inside.the_type K H T L h k t t' l)) fields) in
      view_send _ _ _ _ _ shaped

  pub pool_send : IsSend T → IsSend L → IsSend (Pool.the_row T L t t' l)
  pool_send of_t of_l =
      let fields : AllSend (Declared.shape (pool.the_type T L t t' l)).fields = (
        Crossing.Vec-send Spare.the_row spare_send,
        (
          search crosses depth 60 fits 20000,
          (
            search crosses depth 60 fits 20000,
            (
              search crosses depth 60 fits 20000,
              (
                search crosses depth 60 fits 20000,
                (
                  search crosses depth 60 fits 20000,
                  (
                    search crosses depth 60 fits 20000,
                    (
                      search crosses depth 60 fits 20000,
                      tt,
                    ),
                  ),
                ),
              ),
            ),
          ),
        ),
      ) in
      let shaped : IsSend (pool.the_row T L t t' l) = recorded_send (Declared.field (pool.the_type T L t t' l)).row (Declared.field (pool.the_type T L t t' l)).Value
      (Declared.field (pool.the_type T L t t' l)).into (Declared.field (pool.the_type T L t t' l)).into_one (struct_send (Declared.shape (pool.the_type T L t t' l)) fields) in
      view_send _ _ _ _ _ shaped

  pub locked_sync : IsSend T → IsSend L → IsSync (LockedPool.the_row T L t t' l)
  locked_sync of_t of_l = let whole = pool_send of_t of_l in search (whole, crosses) depth 60 fits 20000

  pub tied_send : (a : NamedLft) → IsSend K → IsSend H → IsSend T → IsSend L → IsSend (Tied.the_row a K H T L k h t t' l)
  tied_send a of_k of_h of_t of_l =
      let worker = worker_send of_k of_h of_t of_l in
      let locked = locked_sync of_t of_l in
      let fields : AllSend (Declared.shape (tied.the_type a K H T L k h t t' l)).fields = (worker, (search crosses depth 60 fits 20000, (search crosses depth 60 fits 20000, (search (locked, crosses) depth 60 fits 20000, tt)))) in
      let shaped : IsSend (tied.the_row a K H T L k h t t' l) = recorded_send (Declared.field (tied.the_type a K H T L k h t t' l)).row (Declared.field (tied.the_type a K H T L k h t t' l)).Value
      (Declared.field (tied.the_type a K H T L k h t t' l)).into (Declared.field (tied.the_type a K H T L k h t t' l)).into_one (struct_send (Declared.shape (tied.the_type a K H T L k h t t' l)) fields) in
      view_send _ _ _ _ _ shaped
