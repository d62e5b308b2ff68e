-- For `runs_are_in_range` and `loads_are_in_range`, and for the clause of `read_load`: numbers in their ranges, and commands of another kind.
use Rattle.std.proofs.Common.{◌≡◌, ◌+◌, ◌*◌, ◌≤◌, ◌&&◌, ℕ, Bool, cond, true, false, refl, ap, subst, List, [], ◌∷◌, length, codes, nat_le, Option, Some, None, option_map, arith, leb-true}
use Rattle.std.specs.Borrow.{Bor}
use Rattle.std.specs.Prelude.{bytes_eq}
use Rattle.std.specs.Str.Parse.{digits_value}
use Rattle.vg_words.specs.Command.{Text, Run, Check, Checks, Command, Runs, Loads, check_of, is_decimal, load_of, nothing_said, number_of, number_or, run_by, run_of, run_over, said_from, texts, value_in, ◌>>=◌}
use Rattle.vg_words.specs.Ranges.{IsInRange, IsLoadInRange, LoadsInRange, RunsInRange}
use Rattle.vg_words.proofs.TextLemmas.{and_both, none_is_not_some, some_is}
use Rattle.vg_words.proofs.ParseLemmas.{passed}

-- a load of other than three numbers
pub load-not_three : (words : List (Bor Text)) → (length words ≡ 3 → ⊥) → load_of (texts words) ≡ None
load-not_three [] h = refl
load-not_three (first ∷ []) h = refl
load-not_three (first ∷ second ∷ []) h = refl
load-not_three (first ∷ second ∷ third ∷ []) h = absurd (h refl)
load-not_three (first ∷ second ∷ third ∷ fourth ∷ words) h = refl

-- a step that gave a value
pub some_behind : {X Y : Type 0} (o : Option X) (f : X → Option Y) (y : Y) → (o >>= f) ≡ Some y → (x : X) × (o ≡ Some x) × (f x ≡ Some y)
some_behind None f y e = absurd (none_is_not_some y e)
some_behind (Some x) f y e = (x, refl, e)

number-in_range : (least most n : ℕ) (word : Text) → number_of least most word ≡ Some n → (least ≤ n) × (n ≤ most)
number-in_range least most n word e =
    let test = passed (is_decimal word && nat_le least (digits_value 10 word) && nat_le (digits_value 10 word) most) (Some (digits_value 10 word)) n e in
    let is : digits_value 10 word ≡ n = some_is _ _ test.1 in
    let both = and_both (is_decimal word && nat_le least (digits_value 10 word)) (nat_le (digits_value 10 word) most) test.0 in
    let low : least ≤ digits_value 10 word = leb-true _ _ (and_both (is_decimal word) (nat_le least (digits_value 10 word)) both.0).1 in
    let high : digits_value 10 word ≤ most = leb-true _ _ both.1 in
    (omega arith, omega arith)

option-in_range : (default least most n : ℕ) (value : Option Text) → least ≤ default → default ≤ most → number_or default least most value ≡ Some n → (least ≤ n) × (n ≤ most)
option-in_range default least most n (Some word) low high e = number-in_range least most n word e
option-in_range default least most n None low high e =
    let is : default ≡ n = some_is _ _ e in
    (omega arith, omega arith)

run-in_range : (value : Text → Option Text) (capture script tx : Text) (run : Run) → run_by value capture script tx ≡ Some run → IsInRange run
run-in_range value capture script tx run e =
    let workers = some_behind (number_or 1 1 8 (value (codes "workers"))) _ run e in
    let few = option-in_range 1 1 8 workers.0 (value (codes "workers")) (omega arith) (omega arith) workers.1 in
    let buffers = some_behind (number_or 4096 (256 * workers.0 + 256) 16384 (value (codes "buffers"))) _ run workers.2 in
    let enough = option-in_range 4096 (256 * workers.0 + 256) 16384 buffers.0 (value (codes "buffers")) (omega (arith, few.1)) (omega arith) buffers.1 in
    let queue = some_behind (number_or 64 1 256 (value (codes "queue"))) _ run buffers.2 in
    let slots = option-in_range 64 1 256 queue.0 (value (codes "queue")) (omega arith) (omega arith) queue.1 in
    let burst = some_behind (number_or 256 1 256 (value (codes "burst"))) _ run queue.2 in
    let short = option-in_range 256 1 256 burst.0 (value (codes "burst")) (omega arith) (omega arith) burst.1 in
    let trace = some_behind (number_or 0 0 256 (value (codes "trace"))) _ run burst.2 in
    let traces = option-in_range 0 0 256 trace.0 (value (codes "trace")) (omega arith) (omega arith) trace.1 in
    subst IsInRange (some_is _ _ trace.2) (record {
      some_workers = few.0;
      few_workers = few.1;
      enough_buffers = enough.0;
      few_buffers = enough.1;
      some_slots = slots.0;
      few_slots = slots.1;
      some_burst = short.0;
      short_burst = short.1;
      few_traces = traces.1;
    })

over-in_range : (value : Text → Option Text) (names : List Text) (run : Run) → run_over value names ≡ Some run → IsInRange run
over-in_range value [] run e = absurd (none_is_not_some run e)
over-in_range value (capture ∷ []) run e = absurd (none_is_not_some run e)
over-in_range value (capture ∷ script ∷ []) run e = absurd (none_is_not_some run e)
over-in_range value (capture ∷ script ∷ tx ∷ []) run e = run-in_range value capture script tx run e
over-in_range value (capture ∷ script ∷ tx ∷ fourth ∷ names) run e = absurd (none_is_not_some run e)

run_of-in_range : (words : List Text) (run : Run) → run_of words ≡ Some run → IsInRange run
run_of-in_range words run e =
    let said = some_behind (said_from nothing_said words) _ run e in
    over-in_range (value_in said.0.options) said.0.names run said.2

the_run : (o : Option Run) (run : Run) → option_map Runs o ≡ Some (Runs run) → o ≡ Some run
the_run None run e = absurd (none_is_not_some (Runs run) e)
the_run (Some x) run e = ap Some (let same : Runs x ≡ Runs run = some_is _ _ e in cc)

not_a_load : (words : List Text) (run : Run) → load_of words ≡ Some (Runs run) → ⊥
not_a_load [] run e = none_is_not_some (Runs run) e
not_a_load (first ∷ []) run e = none_is_not_some (Runs run) e
not_a_load (first ∷ second ∷ []) run e = none_is_not_some (Runs run) e
not_a_load (first ∷ second ∷ third ∷ []) run e =
    let seed = some_behind (number_of 0 18446744073709551615 first) _ (Runs run) e in
    let packets = some_behind (number_of 1 65536 second) _ (Runs run) seed.2 in
    let workers = some_behind (number_of 1 8 third) _ (Runs run) packets.2 in
    let same : Loads seed.0 packets.0 workers.0 ≡ Runs run = some_is _ _ workers.2 in
    cc
not_a_load (first ∷ second ∷ third ∷ fourth ∷ words) run e = none_is_not_some (Runs run) e

not_a_check : (o : Option Check) (run : Run) → option_map Checks o ≡ Some (Runs run) → ⊥
not_a_check None run e = none_is_not_some (Runs run) e
not_a_check (Some check) run e = let same : Checks check ≡ Runs run = some_is _ _ e in cc

pub runs-in_range : RunsInRange
runs-in_range [] run e = absurd (none_is_not_some (Runs run) e)
runs-in_range (word ∷ words) run e = by_first (bytes_eq word (codes "run")) (bytes_eq word (codes "load")) (bytes_eq word (codes "check")) e
  where
    by_first : (a b c : Bool) → cond a (option_map Runs (run_of words)) (cond b (load_of words) (cond c (option_map Checks (check_of words)) None)) ≡ Some (Runs run)
        → IsInRange run
    by_first true b c h = run_of-in_range words run (the_run (run_of words) run h)
    by_first false true c h = absurd (not_a_load words run h)
    by_first false false true h = absurd (not_a_check (check_of words) run h)
    by_first false false false h = absurd (none_is_not_some (Runs run) h)

-- ---- loads

load_of-in_range : (words : List Text) (seed packets workers : ℕ) → load_of words ≡ Some (Loads seed packets workers) → IsLoadInRange packets workers
load_of-in_range [] seed packets workers e = absurd (none_is_not_some (Loads seed packets workers) e)
load_of-in_range (first ∷ []) seed packets workers e = absurd (none_is_not_some (Loads seed packets workers) e)
load_of-in_range (first ∷ second ∷ []) seed packets workers e = absurd (none_is_not_some (Loads seed packets workers) e)
load_of-in_range (first ∷ second ∷ third ∷ []) seed packets workers e =
    let a_seed = some_behind (number_of 0 18446744073709551615 first) _ (Loads seed packets workers) e in
    let some_packets = some_behind (number_of 1 65536 second) _ (Loads seed packets workers) a_seed.2 in
    let some_workers = some_behind (number_of 1 8 third) _ (Loads seed packets workers) some_packets.2 in
    let same : Loads a_seed.0 some_packets.0 some_workers.0 ≡ Loads seed packets workers = some_is _ _ some_workers.2 in
    let same_packets : some_packets.0 ≡ packets = cc in
    let same_workers : some_workers.0 ≡ workers = cc in
    let packets_within = number-in_range 1 65536 some_packets.0 second some_packets.1 in
    let workers_within = number-in_range 1 8 some_workers.0 third some_workers.1 in
    record {
      some_packets = subst (λ (n : ℕ). 1 ≤ n) same_packets packets_within.0;
      few_packets = subst (λ (n : ℕ). n ≤ 65536) same_packets packets_within.1;
      some_workers = subst (λ (n : ℕ). 1 ≤ n) same_workers workers_within.0;
      few_workers = subst (λ (n : ℕ). n ≤ 8) same_workers workers_within.1;
    }
load_of-in_range (first ∷ second ∷ third ∷ fourth ∷ words) seed packets workers e = absurd (none_is_not_some (Loads seed packets workers) e)

no_run : (o : Option Run) (seed packets workers : ℕ) → option_map Runs o ≡ Some (Loads seed packets workers) → ⊥
no_run None seed packets workers e = none_is_not_some (Loads seed packets workers) e
no_run (Some run) seed packets workers e = let same : Runs run ≡ Loads seed packets workers = some_is _ _ e in cc

no_check : (o : Option Check) (seed packets workers : ℕ) → option_map Checks o ≡ Some (Loads seed packets workers) → ⊥
no_check None seed packets workers e = none_is_not_some (Loads seed packets workers) e
no_check (Some check) seed packets workers e = let same : Checks check ≡ Loads seed packets workers = some_is _ _ e in cc

pub loads-in_range : LoadsInRange
loads-in_range [] seed packets workers e = absurd (none_is_not_some (Loads seed packets workers) e)
loads-in_range (word ∷ words) seed packets workers e = by_first (bytes_eq word (codes "run")) (bytes_eq word (codes "load")) (bytes_eq word (codes "check")) e
  where
    by_first : (a b c : Bool)
        → cond a (option_map Runs (run_of words)) (cond b (load_of words) (cond c (option_map Checks (check_of words)) None)) ≡ Some (Loads seed packets workers)
        → IsLoadInRange packets workers
    by_first true b c h = absurd (no_run (run_of words) seed packets workers h)
    by_first false true c h = load_of-in_range words seed packets workers h
    by_first false false true h = absurd (no_check (check_of words) seed packets workers h)
    by_first false false false h = absurd (none_is_not_some (Loads seed packets workers) h)
