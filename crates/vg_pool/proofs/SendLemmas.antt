-- For calls of crates above that send stacks of buffers, and buffers, to another thread: they may go there. A stack leads back to itself, so
-- the check doesn't put together by itself what holds of the types around it.
use denote.Param.Send.{IsSend, sendable}
use Rattle.std.proofs.Crossing
use Rattle.std.proofs.boxed.Box.TheSendSync as box
use Rattle.std.proofs.option.Option.TheSendSync as option
use Rattle.vg_model.proofs.fates.Legs.TheSendSync as legs
use Rattle.vg_pool.proofs.parts.Parts.TheLaws.TheKnot as knot
use Rattle.vg_pool.proofs.areas.Area.TheSendSync as area
use Rattle.vg_pool.specs.contracts.buffers.Buffer as Buffer
use Rattle.vg_pool.specs.contracts.parts.Parts as Parts
use Rattle.vg_pool.specs.contracts.spares.Spare as Spare
use Rattle.vg_pool.specs.contracts.stacks.BufferStack as BufferStack

pub parts_send : IsSend Parts.the_row
parts_send = search (option.the_send, legs.the_send, area.the_send, Crossing.crosses, knot.crosses, sendable) depth 60 fits 20000

pub stack_send : IsSend BufferStack.the_row
stack_send = search (option.the_send, legs.the_send, area.the_send, Crossing.crosses, knot.crosses, sendable) depth 60 fits 20000

pub buffer_send : IsSend Buffer.the_row
buffer_send = search (parts_send, stack_send, area.the_send, option.the_field_send, box.the_send, legs.the_send, Crossing.crosses, sendable) depth 60 fits 20000

pub spare_send : IsSend Spare.the_row
spare_send = search (parts_send, stack_send, area.the_send, option.the_field_send, box.the_send, legs.the_send, Crossing.crosses, sendable) depth 60 fits 20000
