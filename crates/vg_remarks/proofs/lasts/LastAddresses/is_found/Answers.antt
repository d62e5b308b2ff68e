-- For what `LastAddresses::is_found` answers: the addresses rise, so a binary search finds each.
use Rattle.std.proofs.Common.{ap, subst, ◌∙◌}
use Rattle.std.specs.List.Sorted.{IsBinarySearchResult}
use Rattle.std.specs.Ordering.{nat_cmp}
use Rattle.vg_remarks.specs.Lasts.{has}
use Rattle.vg_remarks.proofs.LastLemmas.{search_is}
use Rattle.vg_remarks.proofs.lasts.LastAddresses.is_found.Goals as goal

pub returns : goal.returns
returns c =
    let address = c.args.address in
    let search = c.binary_search.result in
    c.is_ok.ensures.value
    ∙ search_is c.self.inside.addresses.items address search c.self.invariant.0
    (subst (λ addresses. IsBinarySearchResult (λ other. nat_cmp other address) addresses search) c.deref.ensures.value c.binary_search.ensures.position)
    ∙ ap (λ addresses. has addresses address) c.self.view_is
