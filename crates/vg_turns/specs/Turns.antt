-- What a turns file says: steps of main and turns of workers, or the first faulty place.
use Rattle.std.specs.Prelude.{ℕ, ◌+◌, ◌-◌, ◌<◌, Bool, ◌&&◌, ◌||◌, ◌==◌, nat_lt, nat_le, List, [], ◌∷◌, Option, Some, None, Result, Ok, Err, if◌then◌else◌}
use Rattle.std.specs.List.{filter_map}
use Rattle.vg_turns.specs.declared.steps.Step.{Step}
use Rattle.vg_turns.specs.declared.steps.Step.TheVariants.{Main, Worker}

-- the most bytes of a turns file
abbrev pub most_bytes : ℕ
most_bytes = 1048576

-- `m`
abbrev pub is_main : ℕ → Bool
is_main byte = byte == 109

-- a digit of one of so many workers
abbrev pub is_worker : ℕ → ℕ → Bool
is_worker workers byte = nat_le 48 byte && (nat_le byte 57 && nat_lt (byte - 48) workers)

-- a space, a tab, a carriage return or a line feed
abbrev pub is_white : ℕ → Bool
is_white byte = byte == 32 || (byte == 9 || (byte == 13 || byte == 10))

-- a byte that may stand in a turns file of so many workers
abbrev pub may_stand : ℕ → ℕ → Bool
may_stand workers byte = is_main byte || (is_worker workers byte || is_white byte)

-- the step that a byte says, if it says one
abbrev pub step_said : ℕ → ℕ → Option Step
step_said workers byte = if is_main byte then Some Main else if is_worker workers byte then Some (Worker (byte - 48)) else None

-- the steps that bytes say, in their order
abbrev pub steps_said : ℕ → List ℕ → List Step
steps_said workers bytes = filter_map (step_said workers) bytes

-- of the bytes from a place on, the place of the first that may not stand there: a byte that no turns file has, or one past the most
abbrev pub fault_from : (workers place : ℕ) → List ℕ → Option ℕ
fault_from workers place [] = None
fault_from workers place (byte ∷ bytes) =
    if nat_lt place most_bytes && may_stand workers byte then fault_from workers (place + 1) bytes else Some place

abbrev pub read_as : Option ℕ → List Step → Result (List Step) ℕ
read_as None steps = Ok steps
read_as (Some place) steps = Err place

-- what a turns file for so many workers says: the steps, or the place, from 0, of its first faulty byte
abbrev pub turns : (workers : ℕ) → List ℕ → Result (List Step) ℕ
turns workers file = read_as (fault_from workers 0 file) (steps_said workers file)

-- a step of main, or a turn of one of so many workers
abbrev pub IsStepOf : ℕ → Step → Type 0
IsStepOf workers Main = Unit {0}
IsStepOf workers (Worker number) = number < workers
