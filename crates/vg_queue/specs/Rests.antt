-- What contracts see of a queue that is closed.
use Rattle.std.specs.Prelude.{List, length, drop}
use Rattle.crossbeam_queue.specs.Passes.{view}
use Rattle.vg_queue.specs.declared.rest.Rest.{Rest}

module _ {T : Type 0} where
  -- all items that were put, oldest first
  abbrev pub all_put : Rest T → List T
  all_put rest = (view rest.pass).put

  -- those that were not taken yet, neither before the close nor by `next`
  abbrev pub left : Rest T → List T
  left rest = drop (length (view rest.pass).taken) (view rest.pass).put
