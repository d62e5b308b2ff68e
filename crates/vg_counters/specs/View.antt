-- What contracts see of counters and traces.
use Rattle.vg_counters.specs.Tally.{Tally}
use Rattle.vg_counters.specs.declared.counting.Counters.TheInside.{Inside}

-- the lists of counters
abbrev pub tally_of : Inside → Tally
tally_of counters = record { visits = counters.visits.items; drops = counters.drops.items; sends = counters.sends.items }
