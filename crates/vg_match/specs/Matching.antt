-- Matchings: pairs of entries of two sides whose keys are equal.
use Rattle.std.specs.Prelude.{◌≡◌, ◌≢◌, ℕ, List, ◌++◌, map, All, AllPairs}
use Rattle.std.specs.Cmp.Lexicographic.{slice_cmp}
use Rattle.std.specs.Ordering.{nat_cmp, ordering_then}
use Rattle.std.specs.declared.cmp.Ordering.{Ordering}
use Rattle.std.specs.declared.cmp.Ordering.TheVariants.{Greater}
use Rattle.std.specs.List.Sorted.{IsPermutation}
use Rattle.vg_match.specs.declared.matching.Entry.{Entry}
use Rattle.vg_match.specs.declared.matching.Hashed.{Hashed}
use Rattle.vg_match.specs.declared.matching.Matching.{Matching}
use Rattle.vg_match.specs.Hashes.{hash_of}

-- one of each side
abbrev pub Pair : Type 0
Pair = Entry × Entry

-- the wanted one of a pair
abbrev pub wanted_of : Pair → Entry
wanted_of pair = pair.0

-- the one of a pair that came
abbrev pub got_of : Pair → Entry
got_of pair = pair.1

-- both of a pair have the same key
abbrev pub AreEqual : Pair → Type 0
AreEqual pair = pair.0.key.now ≡ pair.1.key.now

-- no entry of the one list has the key of one of the other
abbrev pub AreApart : List Entry → List Entry → Type 0
AreApart wanted got = All (λ (w : Entry). All (λ (g : Entry). w.key.now ≢ g.key.now) got) wanted

-- a matching of two sides: each entry stands once, in one pair or among what is left; both of a pair are equal; and no further pair of
-- equal entries is left
pub record IsMatchingOf (wanted got : List Entry) (matching : Matching) : Type 0 where
  pub wanted_once : IsPermutation wanted (map wanted_of matching.pairs.items ++ matching.wanted.items)
  pub got_once : IsPermutation got (map got_of matching.pairs.items ++ matching.got.items)
  pub equal : All AreEqual matching.pairs.items
  pub greatest : AreApart matching.wanted.items matching.got.items

-- ---- keys in their order

-- by their hashes, and of one hash by their bytes
abbrev pub keys_cmp : List ℕ → List ℕ → Ordering
keys_cmp first second = ordering_then (nat_cmp (hash_of first) (hash_of second)) (slice_cmp nat_cmp first second)

-- the key of the second is not before that of the first
abbrev pub NotBelow : Entry → Entry → Type 0
NotBelow first second = keys_cmp first.key.now second.key.now ≢ Greater

-- the keys of these entries never fall
abbrev pub Rises : List Entry → Type 0
Rises entries = AllPairs NotBelow entries

-- ---- entries with the hashes of their keys

abbrev pub entry_of : Hashed → Entry
entry_of hashed = hashed.entry

-- the hash is that of the key
abbrev pub IsHashed : Hashed → Type 0
IsHashed hashed = hashed.hash ≡ hash_of hashed.entry.key.now

-- by the hashes that stand there, and of one hash by the bytes of the keys
abbrev pub hashed_cmp : Hashed → Hashed → Ordering
hashed_cmp first second = ordering_then (nat_cmp first.hash second.hash) (slice_cmp nat_cmp first.entry.key.now second.entry.key.now)

-- the hashes are those of the keys, which never fall
pub record AreHashed (all : List Hashed) : Type 0 where
  pub hashes : All IsHashed all
  pub rise : Rises (map entry_of all)

-- these are the entries, with the hashes of their keys, in the order of their keys
pub record AreInOrder (entries : List Entry) (all : List Hashed) : Type 0 where
  pub hashed : AreHashed all
  pub moved : IsPermutation entries (map entry_of all)
