-- For `marked` and `marked_between`: which packets are asked for, one number more or one packet more at a time.
use Rattle.std.proofs.Common.{◌≡◌, ◌⊎◌, ℕ, ◌+◌, ◌-◌, ◌<◌, Bool, true, false, ◌==◌, List, [], ◌∷◌, ◌++◌, length, take, get_or, refl, sym, ap, subst, ◌∙◌, inl, inr, arith, length-append}
use Rattle.std.specs.Prelude.{◌||◌, ◌&&◌, nat_le, slice_set, replicate}
use Rattle.std.specs.List.{list_any}
use Rattle.std.proofs.Math.ListN.{length-set}
use Rattle.std.proofs.lemmas.Bool.Decides.{nat_tests}
use Rattle.std.proofs.lemmas.List.{get_or-set_same, get_or-set_other, get_or-replicate, length-replicate, get_or_append_left, get_or-append_right, get_or_default}
use Rattle.std.proofs.lemmas.List.Folds.{list_any_more}
use Rattle.vg_why.specs.Asked.{Asked, Filter, Packets, All, AreMarks, is_asked}

or_true : (a : Bool) → (a || true) ≡ true
or_true true = refl
or_true false = refl

or_false : (a : Bool) → (a || false) ≡ a
or_false true = refl
or_false false = refl

-- none is marked
pub none_marked : (numbers : List ℕ) (count : ℕ) → AreMarks (Packets (take 0 numbers)) count (replicate count false)
none_marked numbers count = record { many = length-replicate count false; each = λ number below. get_or-replicate count number false false below }

-- one number more
pub mark_more : (numbers : List ℕ) (i count : ℕ) (marks : List Bool) → i < length numbers → AreMarks (Packets (take i numbers)) count marks
    → AreMarks (Packets (take (i + 1) numbers)) count (slice_set marks (get_or numbers i 0) true)
mark_more numbers i count marks within are = record {
  many = length-set marks (get_or numbers i 0) true ∙ are.many;
  each = λ k below.
      let n : ℕ = get_or numbers i 0 in
      let long : length marks ≡ count = are.many in
      let more : list_any (λ m. m == k) (take (i + 1) numbers) ≡ (list_any (λ m. m == k) (take i numbers) || n == k) = list_any_more (λ m. m == k) numbers i 0 within in
      let cases : ((k ≡ n) × (n == k ≡ true)) ⊎ ((k ≡ n → ⊥) × (n == k ≡ false)) = grind (arith, nat_tests) in
      elim cases [
        | inl same ↦ subst (λ j. get_or (slice_set marks n true) j false ≡ true) (sym same.0)
            (get_or-set_same marks n true false (let is : k ≡ n = same.0 in omega (arith, is, below, long)))
            ∙ sym (more ∙ ap (λ b. list_any (λ m. m == k) (take i numbers) || b) same.1 ∙ or_true (list_any (λ m. m == k) (take i numbers)))
        | inr other ↦ get_or-set_other marks n k true false other.0
            ∙ are.each k below
            ∙ sym (more ∙ ap (λ b. list_any (λ m. m == k) (take i numbers) || b) other.1 ∙ or_false (list_any (λ m. m == k) (take i numbers)))
      ];
}

-- one packet more
pub between_more : (f : Filter) (count : ℕ) (marks : List Bool) {mark : Bool} → AreMarks (All f) count marks → mark ≡ (nat_le f.from count && nat_le count f.to)
    → AreMarks (All f) (count + 1) (marks ++ mark ∷ [])
between_more f count marks {mark = mark} are is = record {
  many = length-append marks (mark ∷ []) ∙ ap (λ n. n + 1) are.many;
  each = λ k below.
      let long : length marks ≡ count = are.many in
      let cases : (k < count) ⊎ (k ≡ count) = grind arith in
      elim cases [
        | inl before ↦ get_or_append_left marks (mark ∷ []) false k (omega (arith, before, long)) ∙ are.each k before
        | inr last ↦ get_or-append_right marks (mark ∷ []) count k false long (omega (arith, last))
            ∙ ap (λ n. get_or (mark ∷ []) n false) (let none : k - count ≡ 0 = omega (arith, last) in none)
            ∙ is
            ∙ ap (λ n. nat_le f.from n && nat_le n f.to) (sym last)
      ];
}

-- what is read of a packet's mark, whatever is read of one that isn't there
pub mark_read : {asked : Asked} {count number : ℕ} {marks : List Bool} {mark : Bool} → AreMarks asked count marks → number < count → mark ≡ get_or marks number mark
    → is_asked asked number ≡ mark
mark_read {count = count} {number = number} {marks = marks} {mark = mark} are below is =
    let within : number < length marks = (let many = are.many in omega (arith, many, below)) in
    sym (are.each number below) ∙ get_or_default marks number false mark within ∙ sym is
