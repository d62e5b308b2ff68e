-- For `Packed::leaf`, `Packed::child` and `Packed::entry`: what two bytes say. For `raise_first` and `raise_second`: what a change writes fits.
use Rattle.std.proofs.Common.{◌≡◌, ℕ, ◌+◌, ◌-◌, ◌<◌, ◌≤◌, Bool, true, false, ◌==◌, ◌∙◌, ap, arith, lt-ltb, le-ltb}
use Rattle.std.specs.Prelude.{nat_lt, if◌then◌else◌}
use Rattle.vg_model.specs.declared.routes.Prefix.{Prefix}
use Rattle.vg_model.specs.Route.{ip4}
use Rattle.vg_fib.specs.declared.numbers.Change.{Change}
use Rattle.vg_fib.specs.declared.numbers.Change.TheVariants.{Comes, Goes}
use Rattle.vg_fib.specs.declared.entries.Entry.TheVariants.{Leaf, Child}
use Rattle.vg_fib.specs.Entries.{entry_of, FitsEntries}
use Rattle.vg_fib.specs.Numbers.{SlotsOf, changed_by, length_of}

-- without the bit it is a leaf
pub leaf_read : (word : ℕ) → word < 32768 → entry_of word ≡ Leaf word
leaf_read word short = ap (λ b. if b then Leaf word else Child (word - 32768)) (lt-ltb word 32768 short)

-- with the bit it is a child
pub child_read : (word : ℕ) → 32768 ≤ word → entry_of word ≡ Child (word - 32768)
child_read word behind = ap (λ b. if b then Leaf word else Child (word - 32768)) (le-ltb word 32768 behind)

pub child_written : (child : ℕ) → entry_of (32768 + child) ≡ Child child
child_written child =
    let same : 32768 + child - 32768 ≡ child = omega arith in
    child_read (32768 + child) (omega arith) ∙ ap (λ c. Child c) same

-- of two short numbers each is short
either_short : (b : Bool) (x y : ℕ) → x < 32768 → y < 32768 → (if b then x else y) < 32768
either_short true x y one other = one
either_short false x y one other = other

-- a change of a short number gives a short one
pub changed_short : (slots : SlotsOf Prefix) (change : Change) (old : ℕ) → FitsEntries change → old < 32768 → changed_by ip4 slots change old < 32768
changed_short slots (Comes number) old fits short = either_short (nat_lt (length_of ip4 slots number) (length_of ip4 slots old)) old number short fits
changed_short slots (Goes gone heir) old fits short = either_short (old == gone) heir old fits short
