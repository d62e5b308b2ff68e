-- The files of a folder, by their names, and counts of faults.
use Rattle.std.specs.Prelude.{◌≡◌, ◌≢◌, ◌⊎◌, ℕ, ◌+◌, ◌-◌, ◌^◌, ◌≤◌, min, List, take, Option, Some, None, IsSomeAnd, IfSome}
use Rattle.std.specs.Ordering.{nat_cmp}
use Rattle.std.specs.Cmp.Lexicographic.{slice_cmp}
use Rattle.std.specs.FinMap.{FinMap, get}

-- a finite map from names to bytes
abbrev pub Files : Type 0
Files = FinMap (slice_cmp nat_cmp) (List ℕ)

-- a count that rose by one, or stands at its type's end
abbrev pub risen : ℕ → ℕ
risen count = min (count + 1) (2 ^ 64 - 1)

-- a count has risen, or stands at its type's end
abbrev pub Rose : ℕ → ℕ → Type 0
Rose before now = risen before ≤ now

-- the bytes of a file
abbrev pub file : Files → List ℕ → Option (List ℕ)
file files name = get files name

-- where the folder tells its files, this one is there, and these are the first n of its bytes
abbrev pub FirstBytes : Option Files → List ℕ → ℕ → List ℕ → Type 0
FirstBytes files name n bytes = IfSome files (λ fs. IsSomeAnd (file fs name) (λ all. bytes ≡ take n all))

-- the folder tells that there is no such file
abbrev pub IsAbsent : Option Files → List ℕ → Type 0
IsAbsent files name = IsSomeAnd files (λ fs. file fs name ≡ None)

-- a load fails only where the file's faults rose or the folder tells that it isn't there
abbrev pub FailedLoad : Option Files → List ℕ → ℕ → ℕ → Type 0
FailedLoad files name before now = Rose before now ⊎ IsAbsent files name

-- where the folder tells its files, this one has these bytes
abbrev pub HoldsBytes : Option Files → List ℕ → List ℕ → Type 0
HoldsBytes files name bytes = IfSome files (λ fs. file fs name ≡ Some bytes)

-- the folder tells its files before and after, or neither, and all but this one stay
abbrev pub SameElsewhere : Option Files → Option Files → List ℕ → Type 0
SameElsewhere None None name = Unit {0}
SameElsewhere (Some old) (Some new) name = (other : List ℕ) → other ≢ name → file new other ≡ file old other
SameElsewhere None (Some new) name = ⊥
SameElsewhere (Some old) None name = ⊥
