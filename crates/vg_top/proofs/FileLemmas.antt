-- For `vgd_run`: files that a folder tells.
use Rattle.std.proofs.Common.{◌≡◌, ℕ, List, take, sym, subst, ◌∙◌, inl, inr}
use Rattle.std.specs.Prelude.{Option, Some, None, IsSome, IsSomeAnd}
use Rattle.std.proofs.lemmas.Bool.{false≢true}
use Rattle.std.proofs.lemmas.Option.{none-some, same_Some}
use Rattle.vg_outside.specs.Files.{Files, file, FirstBytes, FailedLoad, HoldsBytes}
use Rattle.vg_top.specs.Run.{Call}
use Rattle.vg_top.specs.Expected.{HasNoFault}

-- a file that the folder tells has one content
pub same_file : (files : Option Files) (name bytes others : List ℕ) → IsSome files → HoldsBytes files name bytes → HoldsBytes files name others → others ≡ bytes
same_file None name bytes others told here there = absurd (false≢true told)
same_file (Some files) name bytes others told here there = same_Some _ _ (sym there ∙ here)

-- and so have its first bytes
pub same_first : (files : Option Files) (name : List ℕ) (n : ℕ) (bytes others : List ℕ) → IsSome files → FirstBytes files name n bytes → FirstBytes files name n others
    → others ≡ bytes
same_first None name n bytes others told here there = absurd (false≢true told)
same_first (Some files) name n bytes others told here there = of_file (file files name) here there
  where
    of_file : (o : Option (List ℕ)) → IsSomeAnd o (λ all. bytes ≡ take n all) → IsSomeAnd o (λ all. others ≡ take n all) → others ≡ bytes
    of_file None here there = absurd here
    of_file (Some all) here there = there ∙ sym here

-- a file that is there isn't absent, so a load of it fails only where a fault was counted
not_absent : (files : Option Files) (name bytes : List ℕ) → IsSome files → HoldsBytes files name bytes → IsSomeAnd files (λ fs. file fs name ≡ None) → ⊥
not_absent None name bytes told here absent = absurd absent
not_absent (Some files) name bytes told here absent = none-some bytes (sym absent ∙ here)

first_not_absent : (files : Option Files) (name : List ℕ) (n : ℕ) (bytes : List ℕ) → IsSome files → FirstBytes files name n bytes
    → IsSomeAnd files (λ fs. file fs name ≡ None) → ⊥
first_not_absent None name n bytes told here absent = absurd absent
first_not_absent (Some files) name n bytes told here absent = subst (λ (o : Option (List ℕ)). IsSomeAnd o (λ all. bytes ≡ take n all)) absent here

pub no_load : (call : Call) (name bytes : List ℕ) → IsSome call.files → HoldsBytes call.files name bytes → HasNoFault call name
    → FailedLoad call.files name (call.faults name) (call.faults_after name) → ⊥
no_load call name bytes told here none (inl rose) = none rose
no_load call name bytes told here none (inr absent) = not_absent call.files name bytes told here absent

-- nor does a load of a file fail whose first bytes are there
pub no_first_load : (call : Call) (name : List ℕ) (n : ℕ) (bytes : List ℕ) → IsSome call.files → FirstBytes call.files name n bytes → HasNoFault call name
    → FailedLoad call.files name (call.faults name) (call.faults_after name) → ⊥
no_first_load call name n bytes told here none (inl rose) = none rose
no_first_load call name n bytes told here none (inr absent) = first_not_absent call.files name n bytes told here absent
