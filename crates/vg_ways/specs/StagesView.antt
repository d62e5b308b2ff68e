-- How generations are kept.
use Rattle.std.specs.Prelude.{◌≡◌, ℕ, ◌+◌, ◌-◌, ◌<◌, ◌≤◌, length, map, drop, slice_index_or, None, IfSome}
use Rattle.vg_script.specs.Events as script
use Rattle.vg_plan.specs.Run.{seen}
use Rattle.vg_ways.specs.LinesView.{AreLinesOf}
use Rattle.vg_ways.specs.Stages.{Shown, IsKeptOf}
use Rattle.vg_ways.specs.declared.stages.Stages.TheInside.{Inside}

-- the plan, and the generations that are kept
abbrev pub view_of : Inside → Shown
view_of s = record { plan = s.plan.now; kept = s.made.items }

-- what is kept are generations of the plan, and the next ones are made of the last
pub record AreStages (s : Inside) : Type 0 where
  pub events : map seen s.events.items ≡ script.events s.plan.now.script
  pub graphs : length s.plan.now.graphs ≡ length s.events.items + 1
  pub some : 1 ≤ length s.made.items
  pub few : length s.made.items ≤ length s.plan.now.graphs
  pub later : IfSome s.later (λ later. later ≡ drop (length s.made.items - 1) s.plan.now.graphs)
  pub lines : IfSome s.later (λ later. AreLinesOf s.plan.now.script (length s.made.items - 1) s.lines)
  pub kept : (generation : ℕ) → generation < length s.made.items → IsKeptOf s.plan.now generation (slice_index_or s.made.items generation None)
  pub kept_from : s.kept_from ≤ length s.made.items
  pub forgotten : (generation : ℕ) → generation < s.kept_from → slice_index_or s.made.items generation None ≡ None
