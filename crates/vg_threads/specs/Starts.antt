-- Which worker was started.
use Rattle.vg_threads.specs.Ties.{Tie}
use Rattle.vg_threads.specs.declared.started.Started.{Started}
use Rattle.vg_threads.specs.declared.started.Started.TheVariants as started

module _ {K H T L : Type 0} where
  -- what no turn of it changes, in a thread or not
  abbrev pub started_tie : Started K H T L → Tie
  started_tie (started.There handle) = handle.promise.given.value
  started_tie (started.Here worker) = worker.tied
