-- For `run` and `vgd_run`: what a run that words ask for is like.
use Rattle.std.proofs.Common.{◌≡◌, ◌∙◌, ℕ, List, ap, sym}
use Rattle.std.specs.Prelude.{Option, Some, None, option_and_then}
use Rattle.std.proofs.lemmas.Option.{none-some, same_Some}
use Rattle.vg_words.specs.Command.{Run, Check, Command, Runs, Loads, Checks, command}
use Rattle.vg_words.specs.Ranges.{IsInRange, IsLoadInRange, LoadsInRange, RunsInRange}
use Rattle.vg_dispatch.specs.Progress.{AreInRange}
use Rattle.vg_load.specs.declared.summaries.Load.{Load}
use Rattle.vg_top.specs.Command.{check_in, check_asked, load_in, load_asked, run_in, run_asked, options_of}

range_of : (run : Run) → IsInRange run → AreInRange (options_of run)
range_of run h = record {
  workers = (h.some_workers, h.few_workers);
  buffers = (h.enough_buffers, h.few_buffers);
  queue = (h.some_slots, h.few_slots);
  burst = (h.some_burst, h.short_burst);
  trace = h.few_traces;
}

run_of_command : (o : Option Command) (run : Run) → option_and_then run_in o ≡ Some run → o ≡ Some (Runs run)
run_of_command None run e = absurd (none-some run e)
run_of_command (Some (Loads seed packets workers)) run e = absurd (none-some run e)
run_of_command (Some (Checks check)) run e = absurd (none-some run e)
run_of_command (Some (Runs other)) run e = ap (λ (r : Run). Some (Runs r)) (same_Some _ _ e)

load_of_command : (o : Option Command) (load : Load) → option_and_then load_in o ≡ Some load → o ≡ Some (Loads load.seed load.packets load.workers)
load_of_command None load e = absurd (none-some load e)
load_of_command (Some (Runs run)) load e = absurd (none-some load e)
load_of_command (Some (Checks check)) load e = absurd (none-some load e)
load_of_command (Some (Loads seed packets workers)) load e = ap (λ (l : Load). Some (Loads l.seed l.packets l.workers)) (same_Some _ _ e)

-- the options of the run that words ask for are in range
pub in_range : RunsInRange → (words : List (List ℕ)) (run : Run) → run_asked words ≡ Some run → AreInRange (options_of run)
in_range ranges words run e = range_of run (ranges words run (run_of_command (command words) run e))

-- the load that words ask for is in range
pub load_in_range : LoadsInRange → (words : List (List ℕ)) (load : Load) → load_asked words ≡ Some load → IsLoadInRange load.packets load.workers
load_in_range ranges words load e = ranges words load.seed load.packets load.workers (load_of_command (command words) load e)

-- words that ask for a run ask for no load
pub run_or_load : (words : List (List ℕ)) (run : Run) (load : Load) → run_asked words ≡ Some run → load_asked words ≡ Some load → ⊥
run_or_load words run load e f =
    let is_run : command words ≡ Some (Runs run) = run_of_command (command words) run e in
    none-some load (sym (ap (option_and_then load_in) is_run) ∙ f)

-- words that ask for a run ask for no check
pub run_or_check : (words : List (List ℕ)) (run : Run) (check : Check) → run_asked words ≡ Some run → check_asked words ≡ Some check → ⊥
run_or_check words run check e f =
    let is_run : command words ≡ Some (Runs run) = run_of_command (command words) run e in
    none-some check (sym (ap (option_and_then check_in) is_run) ∙ f)

-- words that ask for a load ask for no check
pub load_or_check : (words : List (List ℕ)) (load : Load) (check : Check) → load_asked words ≡ Some load → check_asked words ≡ Some check → ⊥
load_or_check words load check e f =
    let is_load : command words ≡ Some (Loads load.seed load.packets load.workers) = load_of_command (command words) load e in
    none-some check (sym (ap (option_and_then check_in) is_load) ∙ f)
