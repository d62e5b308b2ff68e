use denote.Exit as exits
use denote.Param as params
use denote.Param.Send.{IsSend, param_send, arg_send, shr_send, recorded_send, struct_send}
use denote.RattleType.{RattleType}
use denote.Struct.Declared as Declared
use denote.Struct.Field as Field
use denote.Struct.Tuple as Tuple
use mir.Syntax as syntax
use Rattle.std.proofs.Common.{ℕ, List, [], ◌∷◌}
use Rattle.std.specs.Prelude.{codes}
use Rattle.vg_threads.proofs.SendLemmas.{tied_send}
use Rattle.vg_threads.proofs.posts.Desk.TheSendSync as desk
use Rattle.vg_threads.specs.contracts.posts.Desk as Desk
use Rattle.vg_threads.specs.contracts.tied.Tied as Tied
use Rattle.vg_threads.proofs.started.start.Goals as goal

-- the worker with what it is tied to
pub spawn_with-requires-send-T : goal.spawn_with-requires-send-T
spawn_with-requires-send-T g c κs within =
    param_send 3 _ (arg_send _ exits.no _ (tied_send _ _ _ _ g.K.KindSet g.H.Handoff g.T.PoolLedger g.T.Ledger g.L.Ledger (record { mir = syntax.named 6; lft = κs.1.1.1.1.1.1.0 })
    c.type_bounds.send-K c.type_bounds.send-H c.type_bounds.send-T c.type_bounds.send-L))

-- the closure, which has it beside three references
pub spawn_with-requires-send-F : goal.spawn_with-requires-send-F
spawn_with-requires-send-F g c κs within =
    let tied : IsSend (Tied.the_row (record { mir = syntax.named 6; lft = κs.1.1.1.1.1.1.0 }) (params.copied 1 g.row.K) (params.param 2 g.row.H) (params.param 3 g.row.T) (params.param 4 g.row.L)
    g.K.KindSet g.H.Handoff g.T.PoolLedger g.T.Ledger g.L.Ledger) =
    tied_send _ _ _ _ g.K.KindSet g.H.Handoff g.T.PoolLedger g.T.Ledger g.L.Ledger _ c.type_bounds.send-K c.type_bounds.send-H c.type_bounds.send-T c.type_bounds.send-L in
    let name : List ℕ = codes "vg_threads::started::fn::start::spawn_with+Self" in
    let rows : List RattleType =
    (Field.shr_ref_field (record { mir = syntax.named 7; lft = κs.1.1.1.1.1.1.1.0 }) (params.param 5 g.row.R) tt).row
    ∷ Tied.the_row (record { mir = syntax.named 6; lft = κs.1.1.1.1.1.1.0 }) (params.copied 1 g.row.K) (params.param 2 g.row.H) (params.param 3 g.row.T) (params.param 4 g.row.L)
    g.K.KindSet g.H.Handoff g.T.PoolLedger g.T.Ledger g.L.Ledger
    ∷ (Field.shr_ref_field (record { mir = syntax.named 8; lft = κs.1.1.1.1.1.1.1.1.0 }) (params.param 6 g.row.G) tt).row
    ∷ Desk.the_row (record { mir = syntax.named 9; lft = κs.1.1.1.1.1.1.1.1.1.0 })
    ∷ [] in
    param_send 2 _ (arg_send _ exits.no _ (recorded_send (Tuple.field_at name rows).row _ _ (Tuple.type_at name rows).to_one (struct_send (Declared.shape (Tuple.type_at name rows)) (
      shr_send _ _ (params.param 5 g.row.R) c.type_bounds.sync-R,
      (tied, (shr_send _ _ (params.param 6 g.row.G) c.type_bounds.sync-G, (desk.the_send (record { mir = syntax.named 9; lft = κs.1.1.1.1.1.1.1.1.1.0 }), tt))),
    ))))
