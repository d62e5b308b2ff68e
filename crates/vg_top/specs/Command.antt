-- What the words of the command line ask for.
use Rattle.std.specs.Prelude.{ℕ, List, Option, Some, None, option_and_then}
use Rattle.vg_words.specs.Command.{Run, Check, Command, Runs, Loads, Checks, command}
use Rattle.vg_load.specs.declared.summaries.Load.{Load}
use Rattle.vg_dispatch.specs.declared.options.Options.{Options}
use Rattle.vg_check.specs.Output.{Setting}

-- the run of a command
abbrev pub run_in : Command → Option Run
run_in (Runs run) = Some run
run_in (Loads seed packets workers) = None
run_in (Checks check) = None

-- the load of a command
abbrev pub load_in : Command → Option Load
load_in (Runs run) = None
load_in (Loads seed packets workers) = Some (record { seed = seed; packets = packets; workers = workers })
load_in (Checks check) = None

-- the check of a command
abbrev pub check_in : Command → Option Check
check_in (Runs run) = None
check_in (Loads seed packets workers) = None
check_in (Checks check) = Some check

-- the run that words ask for
abbrev pub run_asked : List (List ℕ) → Option Run
run_asked words = option_and_then run_in (command words)

-- the load that words ask for
abbrev pub load_asked : List (List ℕ) → Option Load
load_asked words = option_and_then load_in (command words)

-- the check that words ask for
abbrev pub check_asked : List (List ℕ) → Option Check
check_asked words = option_and_then check_in (command words)

-- the options of a run
abbrev pub options_of : Run → Options
options_of run = record { workers = run.workers; buffers = run.buffers; queue = run.queue; burst = run.burst; trace = run.trace }

-- what a run is set to, as far as its output tells
abbrev pub setting_of : Run → Setting
setting_of run = record { workers = run.workers; buffers = run.buffers; queue = run.queue; trace = run.trace }
