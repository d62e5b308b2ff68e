-- The prefixes that are known, and how they are kept.
use Rattle.std.specs.Prelude.{◌≡◌, ℕ, List}
use Rattle.std.specs.List.{list_any}
use Rattle.std.specs.BTreeSet as sets
use Rattle.std.specs.BTreeSet.{BTreeSet}
use Rattle.vg_model.specs.declared.routes.Prefix.{Prefix}
use Rattle.vg_model.specs.declared.routes.Prefix6.{Prefix6}
use Rattle.vg_model.specs.Route.{same_prefix, same_prefix6}
use Rattle.vg_ways.specs.declared.prefixes.Known.{Known}
use Rattle.vg_ways.specs.LinesView.{key_cmp}

-- the set has the prefixes of a list
abbrev pub IsSetOf : List (Prefix × ℕ) → BTreeSet (ℕ × ℕ) → Type 0
IsSetOf prefixes set = (prefix : Prefix) → sets.contains key_cmp set (prefix.addr, prefix.len) ≡ list_any (λ k. same_prefix k.0 prefix) prefixes

abbrev pub IsSetOf6 : List (Prefix6 × ℕ) → BTreeSet (ℕ × ℕ) → Type 0
IsSetOf6 prefixes set = (prefix : Prefix6) → sets.contains key_cmp set (prefix.addr, prefix.len) ≡ list_any (λ k. same_prefix6 k.0 prefix) prefixes

-- the sets have the prefixes of the lists
pub record IsWhole (known : Known) : Type 0 where
  pub set : IsSetOf known.prefixes.items known.set
  pub set6 : IsSetOf6 known.prefixes6.items known.set6

-- these prefixes are known
pub record AreKnown (prefixes : List (Prefix × ℕ)) (prefixes6 : List (Prefix6 × ℕ)) (known : Known) : Type 0 where
  pub are : known.prefixes.items ≡ prefixes
  pub are6 : known.prefixes6.items ≡ prefixes6
  pub whole : IsWhole known
