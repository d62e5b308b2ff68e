use Rattle.std.proofs.Common.{rules, ◌≡◌, ℕ, List, ◌++◌, length, take, drop, sym, subst, ◌∙◌, arith}
use Rattle.std.specs.List.Sorted.{IsPermutation, IsNonDecreasingBy}
use Rattle.std.proofs.lemmas.List.{take-append-le, take_all}
use Rattle.std.proofs.lemmas.List.Sorted.{All-permutation, IsPermutation-map, IsPermutation-trans, IsNonDecreasingBy-from_sort_by_key}
use Rattle.vg_model.specs.declared.fates.Fate.{Fate}
use Rattle.vg_fates.specs.declared.logs.LogEntry.{LogEntry}
use Rattle.vg_fates.specs.Logs.{fate_in, fates_in, IsLogged, AreLogged}
use Rattle.vg_fates.proofs.LogLemmas.{fates_rise}
use Rattle.vg_fates.proofs.logs.FateList.sort.Goals as goal

-- what a slice of a whole list writes back
written : (n : ℕ) (now old : List LogEntry) → length now ≡ n → take n (now ++ drop (length now) old) ≡ now
written n now old len = take-append-le n now (drop (length now) old) (omega (arith, len)) ∙ take_all n now (omega (arith, len))

-- entries that are moved
moved_fates : (others : List Fate) (old new : List LogEntry) (now : List Fate) → fates_in others old ≡ now → IsPermutation old new → IsPermutation now (fates_in others new)
moved_fates others old new now is moved = subst (λ (fates : List Fate). IsPermutation fates (fates_in others new)) is (IsPermutation-map (fate_in others) old new moved)

moved_logged : (others : List Fate) (old new : List LogEntry) → IsPermutation old new → AreLogged others old → AreLogged others new
moved_logged others old new moved logged = All-permutation (IsLogged (length others)) old new moved logged

-- what was put in place, as the list has it
placed : (n : ℕ) (old start now back : List LogEntry) → start ≡ old → length now ≡ n → IsPermutation start now → IsPermutation old (take n (now ++ drop (length now) back))
placed n old start now back is len moved =
    subst (λ (es : List LogEntry). IsPermutation old es) (sym (written n now back len)) (subst (λ (es : List LogEntry). IsPermutation es now) is moved)

pub invariant_of-self : goal.invariant_of-self
invariant_of-self c =
    moved_logged c.self.inside.others.items c.self.inside.entries.items _
    (placed c.self.inside.entries.len c.self.inside.entries.items c.as_mut_slice.result.now c.put_in_place.new.entries c.self.inside.entries.items c.as_mut_slice.ensures.value (c.put_in_place.auto.entries ∙ c.as_mut_slice.ensures.len) c.put_in_place.ensures.same)
    c.self.invariant

pub returns-then-put_in_place-clause-same : goal.returns-then-put_in_place-clause-same
returns-then-put_in_place-clause-same c =
    moved_fates c.self.inside.others.items c.self.inside.entries.items _ _ c.self.view_is
    (placed c.self.inside.entries.len c.self.inside.entries.items c.as_mut_slice.result.now c.put_in_place.new.entries c.self.inside.entries.items c.as_mut_slice.ensures.value (c.put_in_place.auto.entries ∙ c.as_mut_slice.ensures.len) c.put_in_place.ensures.same)

pub returns-then-put_in_place-clause-rising : goal.returns-then-put_in_place-clause-rising
returns-then-put_in_place-clause-rising c =
    let now = c.put_in_place.new.entries in
    let len : length now ≡ c.self.inside.entries.len = c.put_in_place.auto.entries ∙ c.as_mut_slice.ensures.len in
    let up : IsNonDecreasingBy (λ (e : LogEntry). (fate_in c.self.inside.others.items e).number) now =
    subst (λ (others : List Fate). IsNonDecreasingBy (λ (e : LogEntry). (fate_in others e).number) now) c.as_slice.ensures.value c.if-put_in_place.ensures.rising in
    fates_rise c.self.inside.others.items _
    (subst (λ (es : List LogEntry). IsNonDecreasingBy (λ (e : LogEntry). (fate_in c.self.inside.others.items e).number) es) (sym (written c.self.inside.entries.len now c.self.inside.entries.items len)) up)

pub invariant_of-self-2 : goal.invariant_of-self-2
invariant_of-self-2 c =
    moved_logged c.self.inside.others.items c.self.inside.entries.items _
    (IsPermutation-trans _ _ _
    (placed c.self.inside.entries.len c.self.inside.entries.items c.as_mut_slice.result.now c.put_in_place.new.entries c.self.inside.entries.items c.as_mut_slice.ensures.value (c.put_in_place.auto.entries ∙ c.as_mut_slice.ensures.len) c.put_in_place.ensures.same)
    c.sort_unstable_by_key.ensures.permutation)
    c.self.invariant

pub returns-clause-same : goal.returns-clause-same
returns-clause-same c =
    moved_fates c.self.inside.others.items c.self.inside.entries.items _ _ c.self.view_is
    (IsPermutation-trans _ _ _
    (placed c.self.inside.entries.len c.self.inside.entries.items c.as_mut_slice.result.now c.put_in_place.new.entries c.self.inside.entries.items c.as_mut_slice.ensures.value (c.put_in_place.auto.entries ∙ c.as_mut_slice.ensures.len) c.put_in_place.ensures.same)
    c.sort_unstable_by_key.ensures.permutation)

pub returns-clause-rising : goal.returns-clause-rising
returns-clause-rising c =
    let now = c.sort_unstable_by_key.new.self.items in
    fates_rise c.self.inside.others.items now
    (subst (λ (others : List Fate). IsNonDecreasingBy (λ (e : LogEntry). (fate_in others e).number) now) c.as_slice-others.ensures.value
    (IsNonDecreasingBy-from_sort_by_key (λ (e : LogEntry). (fate_in c.as_slice-others.result.now e).number) now c.sort_unstable_by_key.ensures.sorted (λ a r q k. search rules)))
