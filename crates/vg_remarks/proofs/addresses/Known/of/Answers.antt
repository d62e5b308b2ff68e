-- For what `Known::of` makes: the last addresses are the same in any order.
use Rattle.std.proofs.Common.{sym, ◌∙◌}
use Rattle.std.specs.BTreeMap.{is_at}
use Rattle.std.specs.Ordering.{nat_cmp}
use Rattle.std.proofs.lemmas.List.Sorted.{list_any-IsPermutation}
use Rattle.vg_remarks.proofs.addresses.Known.of.Goals as goal

pub returns : goal.returns
returns c = record {
  directed = λ address.
      sym (list_any-IsPermutation (is_at (nat_cmp address)) c.in_ok-addresses.addresses.items c.in_ok-of.field-0 c.in_ok-of.ensures)
      ∙ c.in_ok-addresses.ensures address;
  special = c.in_ok-special_addresses.ensures;
  groups = c.in_ok-group_addresses.ensures;
}
