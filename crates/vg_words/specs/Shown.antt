-- The commands of the code, as the definitions have them.
use Rattle.std.specs.Prelude.{option_map}
use Rattle.vg_words.specs.declared.commands.Run.{Run}
use Rattle.vg_words.specs.declared.commands.Check.{Check}
use Rattle.vg_words.specs.declared.commands.Command.{Command}
use Rattle.vg_words.specs.declared.commands.Command.TheVariants as variants
use Rattle.vg_words.specs.Command as words

abbrev pub run_shown : Run → words.Run
run_shown run = record {
  workers = run.workers;
  buffers = run.buffers;
  queue = run.queue;
  burst = run.burst;
  trace = run.trace;
  turns = option_map (λ name. name.now) run.turns;
  hold = run.hold;
  capture = run.capture.now;
  script = run.script.now;
  tx = run.tx.now;
}

abbrev pub check_shown : Check → words.Check
check_shown check = record {
  queue = check.queue;
  capture = check.capture.now;
  script = check.script.now;
  tx = check.tx.now;
  report = check.report.now;
}

abbrev pub shown : Command → words.Command
shown (variants.Run run) = words.Runs (run_shown run)
shown (variants.Load seed packets workers) = words.Loads seed packets workers
shown (variants.Check check) = words.Checks (check_shown check)
