-- What a check of a run that is done reads.
use Rattle.std.specs.Prelude.{ℕ, List}
use Rattle.vg_plan.specs.Plan.{Planned}
use Rattle.vg_files.specs.Checks.{CheckBytes}
use Rattle.vg_top.specs.Run.{Call, IsDone}

-- the run's capture and its script, the savefile that it saved, and the text that it printed
abbrev pub bytes_behind : {call : Call} {line : List ℕ} → IsDone call line → CheckBytes
bytes_behind {line = line} done = record { capture = done.accepted.bytes.capture; script = done.accepted.bytes.script; tx = done.tx; report = line }

-- the plan of its script
abbrev pub plan_behind : {call : Call} {line : List ℕ} → IsDone call line → Planned
plan_behind done = record { script = done.script; graphs = done.graphs }
