-- Whether rows hold.
use Rattle.std.specs.Prelude.{◌≡◌, ℕ, [], ◌∷◌, ◌++◌, codes, IfSome, is_some, Bool, true, false, ◌&&◌, ◌==◌, List, bytes_eq, nat_eq, Option, Some, None, option_map, is_none}
use Rattle.std.specs.List.{starts_with, ends_with, list_all}
use Rattle.vg_row.specs.declared.judging.Judged.{Judged}
use Rattle.vg_row.specs.declared.outcomes.Outcome.{Outcome}
use Rattle.vg_row.specs.declared.rows.Printed.{Printed}
use Rattle.vg_row.specs.declared.rows.Printed.TheVariants.{Whole, Begin, End}
use Rattle.vg_row.specs.declared.rows.Row.{Row}

-- what was printed is what is said
abbrev pub prints_so : Printed → List ℕ → Bool
prints_so (Whole bytes) found = bytes_eq bytes.items found
prints_so (Begin bytes) found = starts_with nat_eq found bytes.items
prints_so (End bytes) found = ends_with nat_eq found bytes.items

-- what the file holds is what is said, or there is to be none and is none
abbrev pub saves_so : Option (List ℕ) → Option (List ℕ) → Bool
saves_so None None = true
saves_so None (Some found) = false
saves_so (Some wanted) None = false
saves_so (Some wanted) (Some found) = bytes_eq wanted found

-- a call came to what a row says: the status, what was printed, and what the file holds
abbrev pub holds : Row → Outcome → Bool
holds row outcome = row.status == outcome.status && (prints_so row.printed outcome.printed.items && saves_so (option_map (λ bytes. bytes.items) row.saved) (option_map (λ bytes. bytes.items) outcome.saved))

-- all calls did
abbrev pub all_hold : Row → List Outcome → Bool
all_hold row outcomes = list_all (holds row) outcomes

-- no call of a row missed
abbrev pub has_held : Judged → Bool
has_held judged = is_none judged.miss && is_none judged.check_miss

abbrev pub is_whole : Printed → Bool
is_whole (Whole bytes) = true
is_whole _ = false

-- what a row saves and prints can be checked
abbrev pub can_check : Row → Bool
can_check row = row.is_checked && (is_some row.saved && is_whole row.printed)

-- a row of a check, which says yes and leaves the file as it is
abbrev pub IsCheck : List ℕ → Row → Type 0
IsCheck saved check = (check.status ≡ 0) × (prints_so check.printed ≡ bytes_eq (codes "yes" ++ 10 ∷ []))
    × (option_map (λ bytes. bytes.items) check.saved ≡ Some saved)

abbrev pub IsCheckOf : Row → Row → Type 0
IsCheckOf row check = IfSome row.saved (λ bytes. IsCheck bytes.items check)
