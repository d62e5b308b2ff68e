-- An entry of a trie in two bytes: the highest bit says that it is a child.
use Rattle.std.specs.Prelude.{◌≡◌, ℕ, ◌+◌, ◌-◌, ◌<◌, true, false, refl, nat_lt, if◌then◌else◌}
use Rattle.std.proofs.Common.{add-sub_of_le, ltb-false}
use Rattle.vg_fib.specs.declared.numbers.Change.{Change}
use Rattle.vg_fib.specs.declared.numbers.Change.TheVariants.{Comes, Goes}
use Rattle.vg_fib.specs.declared.entries.Entry.{Entry}
use Rattle.vg_fib.specs.declared.entries.Entry.TheVariants.{Leaf, Child}

-- what two bytes say
abbrev pub entry_of : ℕ → Entry
entry_of word = if nat_lt word 32768 then Leaf word else Child (word - 32768)

-- the two bytes that say it
abbrev pub word_of : Entry → ℕ
word_of (Leaf number) = number
word_of (Child child) = 32768 + child

-- what two bytes say is said by them alone
pub word_kept : (word : ℕ) → word_of (entry_of word) ≡ word
word_kept word =
    elim (nat_lt word 32768) as (λ b. nat_lt word 32768 ≡ b → word_of (if b then Leaf word else Child (word - 32768)) ≡ word) [
      | true ↦ λ _. refl
      | false ↦ λ behind. add-sub_of_le (ltb-false word 32768 behind)
    ] refl

-- an entry's number fits beside the bit
abbrev pub IsShort : Entry → Type 0
IsShort (Leaf number) = number < 32768
IsShort (Child child) = child < 32768

-- the number that a change brings fits an entry
abbrev pub FitsEntries : Change → Type 0
FitsEntries (Comes number) = number < 32768
FitsEntries (Goes gone heir) = heir < 32768
