use Rattle.vg_script.proofs.EventLemmas.{events_are_of_blocks, events_are_counted, events_are_in_order, events_are_strictly_in_order, order_is_unique}
use Rattle.vg_script.proofs.laws.events_are_in_order.Goals as goal

pub returns-clause-blocks : goal.returns-clause-blocks
returns-clause-blocks c = events_are_of_blocks

pub returns-clause-count : goal.returns-clause-count
returns-clause-count c = events_are_counted

pub returns-clause-order : goal.returns-clause-order
returns-clause-order c = events_are_in_order

pub returns-clause-strict : goal.returns-clause-strict
returns-clause-strict c = events_are_strictly_in_order

pub returns-clause-only : goal.returns-clause-only
returns-clause-only c = order_is_unique
