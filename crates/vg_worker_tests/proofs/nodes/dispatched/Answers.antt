use Rattle.std.proofs.Common.{◌≡◌, ℕ, false, List, [], ◌∷◌, ◌++◌, sym, ap, subst, ◌∙◌, arith}
use Rattle.std.specs.Prelude.{nat_eq}
use Rattle.std.specs.List.{IsDistinct}
use Rattle.std.proofs.lemmas.Bool.{ne_eqb}
use Rattle.vg_worker_tests.proofs.nodes.dispatched.Goals as goal

pub dispatch_frame-requires-clause-distinct : goal.dispatch_frame-requires-clause-distinct
unfolding IsDistinct
dispatch_frame-requires-clause-distinct g c =
    let first : ℕ = c.place-first.result in
    let second : ℕ = c.place-second.result in
    let third : ℕ = c.place-third.result in
    let one : nat_eq first second ≡ false = ne_eqb first second (λ (e : first ≡ second). omega arith) in
    let two : nat_eq first third ≡ false = ne_eqb first third (λ (e : first ≡ third). omega arith) in
    let three : nat_eq second third ≡ false = ne_eqb second third (λ (e : second ≡ third). omega arith) in
    let all : c.push-3.new.self ≡ first ∷ second ∷ third ∷ [] =
    c.push-3.ensures ∙ ap (λ (l : List ℕ). l ++ third ∷ []) (c.push-2.ensures ∙ ap (λ (l : List ℕ). l ++ second ∷ []) (c.push.ensures ∙ ap (λ (l : List ℕ). l ++ first ∷ []) c.new-frame.ensures)) in
    let distinct : IsDistinct nat_eq (first ∷ second ∷ third ∷ []) = ((one, (two, tt)), ((three, tt), (tt, tt))) in
    subst (IsDistinct nat_eq) (sym all) distinct
