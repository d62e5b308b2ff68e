-- What a worker keeps between two turns.
use Rattle.std.specs.Prelude.{◌≡◌, ℕ, ◌+◌, ◌*◌, ◌<◌, ◌≤◌, List, [], length, replicate}
use Rattle.std.specs.List.{sum_by, AllByRecursion}
use Rattle.vg_nodes.specs.declared.sorted.Sorted.{Sorted}
use Rattle.vg_nodes.specs.Sorting.{nothing_sorted}
use Rattle.vg_model.specs.PoolBook.{CacheBook, most_pieces}
use Rattle.vg_journeys.specs.Accounts.{HandoffFrame}
use Rattle.vg_dispatch.specs.declared.options.Options.{Options}
use Rattle.vg_underway.specs.declared.underway.Work.{Work}
use Rattle.vg_dispatch.specs.Progress.{AreInRange}
use Rattle.vg_underway.specs.Queues.{Queue, packets_in}
use Rattle.vg_underway.specs.Rest.{IsAtRest}

-- nothing is under way in it; it has room for all that may come; no count of its own is greater than what came to it, and those of its
-- cache no greater than the buffers of so many of the longest packets
pub record IsKeeping (number : ℕ) (options : Options) (packets bytes mark own left taken : ℕ) (work : Work) (sorted : Sorted) (groups : List (List ℕ)) (queues : List Queue) (accepted : List (List HandoffFrame)) (slots : List ℕ) (cache : CacheBook) : Type 0 where
  pub range : AreInRange options
  pub number_within : number < options.workers
  pub came : ℕ
  pub rest : IsAtRest packets bytes came own left work
  pub came_most : came + own ≤ packets + taken
  pub taken_most : taken ≤ 3 * packets
  pub taken_is : taken ≡ sum_by (λ (queue : Queue). packets_in queue.taken) queues
  pub mark_most : mark < packets + options.workers
  pub sorted_none : sorted ≡ nothing_sorted
  pub groups_none : groups ≡ replicate options.workers []
  pub inputs_each : length queues + 1 ≡ options.workers
  pub frames_few : AllByRecursion (λ (queue : Queue). length queue.taken ≤ taken) queues
  pub outputs_each : length accepted + 1 ≡ options.workers
  pub slots_are : AllByRecursion (λ n. n ≡ options.queue) slots
  pub puts_few : AllByRecursion (λ (frames : List HandoffFrame). length frames ≤ came) accepted
  pub counted : (cache.allocated ≤ most_pieces * came) × (cache.freed ≤ most_pieces * came)
