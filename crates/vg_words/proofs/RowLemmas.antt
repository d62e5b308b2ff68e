-- For the clause of `read_run`: the rows of a parse that has seen some arguments once each, with one value.
use Rattle.std.proofs.Common.{◌≡◌, ◌||◌, Bool, true, false, refl, ap, List, [], ◌∷◌, ◌++◌, Some, None, inl, inr, true≢false}
use Rattle.std.specs.Str.{bytes_eq}
use Rattle.clap.specs.Facts.{parser_of_value, unwrap_or_range}
use Rattle.clap.specs.Walk.{Text, Row, Rule, action_of, arg_by_id, at_row, first_of, has_row, more_values, reading_by, used, without}
use Rattle.clap.specs.Kinds.{value_kinds}
use Rattle.clap.specs.Faults.{use_fault}
use Rattle.clap.specs.declared.builder.action.ArgAction.TheVariants.{Set, SetTrue}
use Rattle.clap.specs.declared.parser.matches.ValueSource.TheVariants.{CommandLine}
use Rattle.vg_words.specs.Command.{yes}
use Rattle.vg_words.proofs.TextLemmas.{bytes_eq-refl, true_or_false}

-- the row of an argument that was used once, with one value
abbrev pub row : Rule → Text → Row
row a value = record { id = a.id; values = value ∷ []; count = None; source = Some CommandLine; reading = reading_by a }

-- an argument that takes any one value, once
pub record IsSingle (rules : List Rule) (a : Rule) : Type 0 where
  pub found : arg_by_id rules a.id ≡ Some a
  pub sets : action_of a ≡ Set
  pub least : (unwrap_or_range a.range).start_inclusive ≡ 1
  pub most : (unwrap_or_range a.range).end_inclusive ≡ 1
  pub any_value : (value : Text) → value_kinds a.ignore_case (parser_of_value a.parser) value ≡ []

-- an argument that takes no value, once
pub record IsSwitch (a : Rule) : Type 0 where
  pub sets : action_of a ≡ SetTrue
  pub least : (unwrap_or_range a.range).start_inclusive ≡ 0
  pub most : (unwrap_or_range a.range).end_inclusive ≡ 0
  pub missing : a.missing ≡ yes ∷ []
  pub passes : value_kinds a.ignore_case (parser_of_value a.parser) yes ≡ []

-- an id without a row
miss_head : (r : Row) (rs : List Row) (id : Text) → has_row id (r ∷ rs) ≡ false → (bytes_eq r.id id ≡ false) × (has_row id rs ≡ false)
miss_head r rs id h = parts (bytes_eq r.id id) (has_row id rs) h
  where
    parts : (a b : Bool) → (a || b) ≡ false → (a ≡ false) × (b ≡ false)
    parts true b e = absurd (true≢false e)
    parts false b e = (refl, e)

pub at_row-none : (id : Text) (change : Row → List Row) (missing rows : List Row) → has_row id rows ≡ false → at_row id change missing rows ≡ rows ++ missing
at_row-none id change missing [] h = refl
at_row-none id change missing (r ∷ rs) h =
    let parts = miss_head r rs id h in
    rw parts.0 (ap (λ l. r ∷ l) (at_row-none id change missing rs parts.1))

without-none : (id : Text) (rows : List Row) → has_row id rows ≡ false → without id rows ≡ rows
without-none id [] h = refl
without-none id (r ∷ rs) h =
    let parts = miss_head r rs id h in
    rw parts.0 (ap (λ l. r ∷ l) (without-none id rs parts.1))

-- the first use of an argument adds its row at the end
pub used-once : (rules : List Rule) (a : Rule) (value : Text) (rows : List Row) → IsSingle rules a → has_row a.id rows ≡ false
    → used a (value ∷ []) rows ≡ rows ++ row a value ∷ []
used-once rules a value rows single none =
    rw (single.sets, without-none a.id rows none) (at_row-none a.id (more_values CommandLine (value ∷ [])) (row a value ∷ []) rows none)

-- and has no fault
pub use-once : (rules : List Rule) (a : Rule) (value : Text) (rows : List Row) → IsSingle rules a → has_row a.id rows ≡ false
    → use_fault false a (value ∷ []) rows ≡ []
use-once rules a value rows single none = rw (single.least, single.most, single.sets, none, single.any_value value) refl

-- the same of a use without a value
pub switched-once : (a : Rule) (rows : List Row) → IsSwitch a → has_row a.id rows ≡ false → used a [] rows ≡ rows ++ row a yes ∷ []
switched-once a rows switch none =
    rw (switch.sets, switch.missing, without-none a.id rows none) (at_row-none a.id (more_values CommandLine (yes ∷ [])) (row a yes ∷ []) rows none)

pub switch-once : (a : Rule) (rows : List Row) → IsSwitch a → has_row a.id rows ≡ false → use_fault false a [] rows ≡ []
switch-once a rows switch none = rw (switch.least, switch.most, switch.sets, switch.missing, none, switch.passes) refl

-- a row more
pub has_row-snoc : (id : Text) (rows : List Row) (r : Row) → has_row id (rows ++ r ∷ []) ≡ (has_row id rows || bytes_eq r.id id)
has_row-snoc id [] r = or_false (bytes_eq r.id id)
  where
    or_false : (b : Bool) → (b || false) ≡ b
    or_false true = refl
    or_false false = refl
has_row-snoc id (x ∷ rows) r = (elim (true_or_false (bytes_eq x.id id)) [
  | inl e ↦ rw e refl
  | inr e ↦ rw e (has_row-snoc id rows r)
])

pub first_of-new : (id value : Text) (rows : List Row) (r : Row) → r.id ≡ id → r.values ≡ value ∷ [] → has_row id rows ≡ false → first_of id (rows ++ r ∷ []) ≡ Some value
first_of-new id value [] r same values none = rw (same, bytes_eq-refl id, values) refl
first_of-new id value (x ∷ rows) r same values none =
    let parts = miss_head x rows id none in
    rw parts.0 (first_of-new id value rows r same values parts.1)

pub first_of-kept : (id : Text) (rows : List Row) (r : Row) → bytes_eq r.id id ≡ false → first_of id (rows ++ r ∷ []) ≡ first_of id rows
first_of-kept id [] r other = rw other refl
first_of-kept id (x ∷ rows) r other = (elim (true_or_false (bytes_eq x.id id)) [
  | inl e ↦ rw e refl
  | inr e ↦ rw e (first_of-kept id rows r other)
])

pub first_of-here : (id value : Text) (rows : List Row) (a : Rule) → a.id ≡ id → has_row id rows ≡ false → first_of id (rows ++ row a value ∷ []) ≡ Some value
first_of-here id value rows a same none = first_of-new id value rows (row a value) same refl none

pub first_of-other : (id value : Text) (rows : List Row) (a : Rule) → bytes_eq a.id id ≡ false → first_of id (rows ++ row a value ∷ []) ≡ first_of id rows
first_of-other id value rows a other = first_of-kept id rows (row a value) other
