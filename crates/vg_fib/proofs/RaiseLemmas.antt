-- For the clauses of `raise_third`, `raise_second` and `Levels::raise_first`:
-- Numbers that are raised one place after the other, level by level.
use Rattle.std.proofs.Common.{◌≡◌, ℕ, ◌+◌, ◌*◌, ◌/◌, ◌%◌, ◌<◌, ◌≢◌, inl, inr, List, length, get_or, refl, sym, ◌∙◌, ap, subst, arith, get_or-set_other, get_or-set_same}
use Rattle.std.proofs.Math.ListN.{set, length-set}
use Rattle.std.proofs.lemmas.List.{get_or_default}
use Rattle.vg_fib.specs.declared.entries.Entry.{Entry}
use Rattle.vg_fib.specs.declared.entries.Entry.TheVariants.{Leaf, Child}
use Rattle.vg_fib.specs.Trie.{number_in, number_under, HasChildren, IsRaised, IsRaisedSecond, AreRaised}
use Rattle.vg_fib.proofs.LevelLemmas.{entry, leaf_is_no_child, same_in, same_below, is_or_not}

-- no number is raised yet
pub none_raised : (f : ℕ → ℕ) (from : ℕ) (old : List ℕ) → IsRaised f from 0 old old
none_raised f from old = record {
  same_length = refl;
  inside = λ k low high. absurd (omega arith);
  outside = λ k not. refl;
}

-- one number more is raised
pub one_raised : (f : ℕ → ℕ) (from n place x : ℕ) (old mid : List ℕ) → IsRaised f from n old mid → place ≡ from + n → place < length old
    → x ≡ get_or mid place x → IsRaised f from (n + 1) old (set mid place (f x))
one_raised f from n place x old mid raised is within read =
    let inside : place < length mid = omega (arith, raised.same_length) in
    let value : get_or old place 0 ≡ x =
    sym (raised.outside place (λ low high. omega (arith, is))) ∙ (get_or_default mid place 0 x inside ∙ sym read) in
    record {
      same_length = length-set mid place (f x) ∙ raised.same_length;
      inside = λ k low high. elim (is_or_not k place) [
        | inl e ↦ subst (λ k. get_or (set mid place (f x)) k 0 ≡ f (get_or old k 0)) (sym e)
            (get_or-set_same mid place (f x) 0 inside ∙ ap f (sym value))
        | inr ne ↦ get_or-set_other mid place k (f x) 0 ne ∙ raised.inside k low (omega (arith, is, ne, high))
      ];
      outside = λ k not. elim (is_or_not k place) [
        | inl e ↦ absurd (not (omega (arith, is, e)) (omega (arith, is, e)))
        | inr ne ↦ get_or-set_other mid place k (f x) 0 ne ∙ raised.outside k (λ low high. not low (omega (arith, high)))
      ];
    }

-- no number of the second level is raised yet
pub none_raised_second : (f : ℕ → ℕ) (from : ℕ) (old : List Entry) (third : List ℕ) → IsRaisedSecond f from 0 old third old third
none_raised_second f from old third = record {
  same_length = refl;
  third = refl;
  no_more = λ k c e. e;
  inside = λ k address low high. absurd (omega arith);
  outside = λ k address not. refl;
}

-- one leaf more of the second level is raised
pub leaf_raised_second : (f : ℕ → ℕ) (from n place number : ℕ) (old mid : List Entry) (old_third third : List ℕ)
    → IsRaisedSecond f from n old old_third mid third → place ≡ from + n → place < length old → entry mid place ≡ Leaf number
    → IsRaisedSecond f from (n + 1) old old_third (set mid place (Leaf (f number))) third
leaf_raised_second f from n place number old mid old_third third raised is within was =
    let inside : place < length mid = omega (arith, raised.same_length) in
    let new = set mid place (Leaf (f number)) in
    let here : entry new place ≡ Leaf (f number) = get_or-set_same mid place (Leaf (f number)) (Leaf 0) inside in
    let there : (k : ℕ) → k ≢ place → entry new k ≡ entry mid k = λ k ne. get_or-set_other mid place k (Leaf (f number)) (Leaf 0) ne in
    record {
      same_length = length-set mid place (Leaf (f number)) ∙ raised.same_length;
      third = raised.third;
      no_more = λ k c e. elim (is_or_not k place) [
        | inl same ↦ absurd (leaf_is_no_child (f number) c (sym here ∙ subst (λ k. entry new k ≡ Child c) same e))
        | inr ne ↦ raised.no_more k c (sym (there k ne) ∙ e)
      ];
      inside = λ k address low high. elim (is_or_not k place) [
        | inl e ↦ subst (λ k. number_in third (entry new k) address ≡ f (number_in old_third (entry old k) address)) (sym e)
            (ap (λ e. number_in third e address) here
            ∙ ap f (sym (ap (λ e. number_in third e address) was) ∙ raised.outside place address (λ low high. omega (arith, is))))
        | inr ne ↦ ap (λ e. number_in third e address) (there k ne) ∙ raised.inside k address low (omega (arith, is, ne, high))
      ];
      outside = λ k address not. elim (is_or_not k place) [
        | inl e ↦ absurd (not (omega (arith, is, e)) (omega (arith, is, e)))
        | inr ne ↦ ap (λ e. number_in third e address) (there k ne) ∙ raised.outside k address (λ low high. not low (omega (arith, high)))
      ];
    }

-- all numbers of one child more are raised
pub child_raised_second : (f : ℕ → ℕ) (from n place child : ℕ) (old mid : List Entry) (old_third third new : List ℕ)
    → HasChildren old (length old_third) → IsRaisedSecond f from n old old_third mid third → place ≡ from + n → entry mid place ≡ Child child
    → IsRaised f (256 * child) 256 third new
    → IsRaisedSecond f from (n + 1) old old_third mid new
child_raised_second f from n place child old mid old_third third new has raised is was below =
    let there : (k address : ℕ) → k ≢ place → number_in new (entry mid k) address ≡ number_in third (entry mid k) address =
    λ k address ne. same_in third new (entry mid k) address (λ c e. below.outside (256 * c + address % 256) (λ low high.
    let same : c ≡ child = omega (arith, low, high) in
    ne (has.once k place child (subst (λ c. entry old k ≡ Child c) same (raised.no_more k c e)) (raised.no_more place child was)))) in
    record {
      same_length = raised.same_length;
      third = below.same_length ∙ raised.third;
      no_more = raised.no_more;
      inside = λ k address low high. elim (is_or_not k place) [
        | inl e ↦ subst (λ k. number_in new (entry mid k) address ≡ f (number_in old_third (entry old k) address)) (sym e)
            (ap (λ e. number_in new e address) was
            ∙ (below.inside (256 * child + address % 256) (omega arith) (omega arith)
            ∙ ap f (sym (ap (λ e. number_in third e address) was) ∙ raised.outside place address (λ low high. omega (arith, is)))))
        | inr ne ↦ there k address ne ∙ raised.inside k address low (omega (arith, is, ne, high))
      ];
      outside = λ k address not. elim (is_or_not k place) [
        | inl e ↦ absurd (not (omega (arith, is, e)) (omega (arith, is, e)))
        | inr ne ↦ there k address ne ∙ raised.outside k address (λ low high. not low (omega (arith, high)))
      ];
    }

-- no number of the first level is raised yet
pub none_raised_first : (f : ℕ → ℕ) (from : ℕ) (first second : List Entry) (third : List ℕ) → AreRaised f from 0 first second third first second third
none_raised_first f from first second third = record {
  same_length = refl;
  second = refl;
  third = refl;
  no_more = λ k c e. e;
  no_more_below = λ k c e. e;
  inside = λ k address low high. absurd (omega arith);
  outside = λ k address not. refl;
}

-- one leaf more of the first level is raised
pub leaf_raised_first : (f : ℕ → ℕ) (from n place number : ℕ) (old old_second : List Entry) (old_third : List ℕ) (mid second : List Entry) (third : List ℕ)
    → AreRaised f from n old old_second old_third mid second third → place ≡ from + n → place < length old → entry mid place ≡ Leaf number
    → AreRaised f from (n + 1) old old_second old_third (set mid place (Leaf (f number))) second third
leaf_raised_first f from n place number old old_second old_third mid second third raised is within was =
    let inside : place < length mid = omega (arith, raised.same_length) in
    let new = set mid place (Leaf (f number)) in
    let here : entry new place ≡ Leaf (f number) = get_or-set_same mid place (Leaf (f number)) (Leaf 0) inside in
    let there : (k : ℕ) → k ≢ place → entry new k ≡ entry mid k = λ k ne. get_or-set_other mid place k (Leaf (f number)) (Leaf 0) ne in
    record {
      same_length = length-set mid place (Leaf (f number)) ∙ raised.same_length;
      second = raised.second;
      third = raised.third;
      no_more = λ k c e. elim (is_or_not k place) [
        | inl same ↦ absurd (leaf_is_no_child (f number) c (sym here ∙ subst (λ k. entry new k ≡ Child c) same e))
        | inr ne ↦ raised.no_more k c (sym (there k ne) ∙ e)
      ];
      no_more_below = raised.no_more_below;
      inside = λ k address low high. elim (is_or_not k place) [
        | inl e ↦ subst (λ k. number_under second third (entry new k) address ≡ f (number_under old_second old_third (entry old k) address)) (sym e)
            (ap (λ e. number_under second third e address) here
            ∙ ap f (sym (ap (λ e. number_under second third e address) was) ∙ raised.outside place address (λ low high. omega (arith, is))))
        | inr ne ↦ ap (λ e. number_under second third e address) (there k ne) ∙ raised.inside k address low (omega (arith, is, ne, high))
      ];
      outside = λ k address not. elim (is_or_not k place) [
        | inl e ↦ absurd (not (omega (arith, is, e)) (omega (arith, is, e)))
        | inr ne ↦ ap (λ e. number_under second third e address) (there k ne) ∙ raised.outside k address (λ low high. not low (omega (arith, high)))
      ];
    }

-- all numbers under one child more are raised
pub child_raised_first : (f : ℕ → ℕ) (from n place child : ℕ) (old old_second : List Entry) (old_third : List ℕ) (mid second : List Entry) (third : List ℕ)
    (newer : List Entry) (newest : List ℕ)
    → HasChildren old (length old_second) → AreRaised f from n old old_second old_third mid second third → place ≡ from + n → entry mid place ≡ Child child
    → IsRaisedSecond f (256 * child) 256 second third newer newest
    → AreRaised f from (n + 1) old old_second old_third mid newer newest
child_raised_first f from n place child old old_second old_third mid second third newer newest has raised is was below =
    let there : (k address : ℕ) → k ≢ place → number_under newer newest (entry mid k) address ≡ number_under second third (entry mid k) address =
    λ k address ne. same_below second newer third newest (entry mid k) address (λ c e. below.outside (256 * c + address / 256 % 256) address (λ low high.
    let same : c ≡ child = omega (arith, low, high) in
    ne (has.once k place child (subst (λ c. entry old k ≡ Child c) same (raised.no_more k c e)) (raised.no_more place child was)))) in
    record {
      same_length = raised.same_length;
      second = below.same_length ∙ raised.second;
      third = below.third ∙ raised.third;
      no_more = raised.no_more;
      no_more_below = λ k c e. raised.no_more_below k c (below.no_more k c e);
      inside = λ k address low high. elim (is_or_not k place) [
        | inl e ↦ subst (λ k. number_under newer newest (entry mid k) address ≡ f (number_under old_second old_third (entry old k) address)) (sym e)
            (ap (λ e. number_under newer newest e address) was
            ∙ (below.inside (256 * child + address / 256 % 256) address (omega arith) (omega arith)
            ∙ ap f (sym (ap (λ e. number_under second third e address) was) ∙ raised.outside place address (λ low high. omega (arith, is)))))
        | inr ne ↦ there k address ne ∙ raised.inside k address low (omega (arith, is, ne, high))
      ];
      outside = λ k address not. elim (is_or_not k place) [
        | inl e ↦ absurd (not (omega (arith, is, e)) (omega (arith, is, e)))
        | inr ne ↦ there k address ne ∙ raised.outside k address (λ low high. not low (omega (arith, high)))
      ];
    }

-- the same count in another form
pub counted_second : (f : ℕ → ℕ) (from n next : ℕ) (old : List Entry) (old_third : List ℕ) (new : List Entry) (third : List ℕ) → n ≡ next
    → IsRaisedSecond f from n old old_third new third → IsRaisedSecond f from next old old_third new third
counted_second f from n next old old_third new third is raised = subst (λ n. IsRaisedSecond f from n old old_third new third) is raised

pub counted_first : (f : ℕ → ℕ) (from n next : ℕ) (old old_second : List Entry) (old_third : List ℕ) (new second : List Entry) (third : List ℕ) → n ≡ next
    → AreRaised f from n old old_second old_third new second third → AreRaised f from next old old_second old_third new second third
counted_first f from n next old old_second old_third new second third is raised =
    subst (λ n. AreRaised f from n old old_second old_third new second third) is raised
