use Rattle.std.proofs.Common.{◌≡◌, ◌<◌, inl, inr, ℕ, length, get_or, rules, arith, ap, sym, ◌∙◌, subst}
use Rattle.vg_journeys.specs.Accounts.{Account, frames_with}
use Rattle.vg_workers.specs.Crews.{account_at}
use Rattle.vg_workers.proofs.PlaceLemmas.{same_or_other}
use Rattle.vg_workers.proofs.CrewLemmas.{numbered_at, account_here}
use Rattle.vg_workers.proofs.crews.has_given.Goals as goal

pub accepted-requires : goal.accepted-requires
accepted-requires g c =
    let ws = c.args.workers.now.items in
    let was = c.index.result.now in
    let is : was ≡ get_or ws c.args.from was = search rules in
    let low : c.loop-to.to < length ws = search rules in
    let at = numbered_at ws c.args.from was c.requires.numbered c.requires.within is in
    let differs = c.if-to-from.false in
    ((λ same. differs (same ∙ at.number_is)), subst (λ (n : ℕ). c.loop-to.to < n) (sym at.workers_are) low)

pub dispatched-requires : goal.dispatched-requires
dispatched-requires g c =
    let ws = c.args.workers.now.items in
    let was = c.index-in-loop-to.result.now in
    let low : c.loop-to.to < length ws = search rules in
    let is : was ≡ get_or ws c.loop-to.to was = search rules in
    let at = numbered_at ws c.loop-to.to was c.requires.numbered low is in
    let differs = c.if-to-from.false in
    ((λ same. differs (sym (same ∙ at.number_is))), subst (λ (n : ℕ). c.args.from < n) (sym at.workers_are) c.requires.within)

pub loop-to-preserved : goal.loop-to-preserved
loop-to-preserved g c =
    let ws = c.args.workers.now.items in
    let inv = c.loop-to.invariant in
    let one = c.index.result.now in
    let other = c.index-in-loop-to.result.now in
    let low : c.loop-to.to < length ws = search rules in
    let one_is : one ≡ get_or ws c.args.from one = search rules in
    let other_is : other ≡ get_or ws c.loop-to.to other = search rules in
    let put = account_here ws c.args.from one c.requires.within one_is in
    let taken = account_here ws c.loop-to.to other low other_is in
    let equal = c.if-accepted-dispatched.false in
    let here : length (frames_with c.loop-to.to (account_at ws c.args.from).put) ≡ length (frames_with c.args.from (account_at ws c.loop-to.to).taken) =
    ap (λ (a : Account). length (frames_with c.loop-to.to a.put)) put ∙ sym c.accepted.ensures ∙ equal ∙ c.dispatched.ensures ∙ ap (λ (a : Account). length (frames_with c.args.from a.taken)) (sym taken) in (
      inv.0,
      λ m h differs. elim (same_or_other m c.loop-to.to) [
        | inl same ↦ subst (λ (n : ℕ). length (frames_with n (account_at ws c.args.from).put) ≡ length (frames_with c.args.from (account_at ws n).taken)) (sym same) here
        | inr before ↦ inv.1 m (grind (arith, h, before)) differs
      ],
    )
