use Rattle.std.proofs.Common.{◌≡◌, ◌<◌, length, sym, subst, arith}
use Rattle.std.proofs.lemmas.Bool.Decides.{nat_tests}
use Rattle.std.specs.Option.{option_copied}
use Rattle.std.specs.Prelude.{Some, None, IfSome}
use Rattle.vg_script.specs.Address6.{groups_of}
use Rattle.vg_script.proofs.PartLemmas.{AreGroupsRead, IsNextGroup, some_text_read, no_text_groups, one_group_read, all_groups_read, no_group_read, too_many_groups, left_falls}
use Rattle.vg_script.proofs.address6.groups.Goals as goal

pub returns-then-is_empty : goal.returns-then-is_empty
returns-then-is_empty c = no_text_groups c.args.text.now _ (grind (arith, nat_tests, c.if-is_empty.ensures)) c.new-groups.ensures

pub loop-rest-init : goal.loop-rest-init
loop-rest-init c =
    let some : 0 < length c.args.text.now = grind (arith, nat_tests, c.if-is_empty.ensures) in
    subst (λ gs. AreGroupsRead c.args.text.now gs (Some c.args.text.now)) (sym c.new-groups.ensures) (some_text_read c.args.text.now (λ e. omega (arith, e, some)))

pub returns-in_err-group : goal.returns-in_err-group
returns-in_err-group c =
    let at : IsNextGroup c.args.text.now c.loop-rest.groups.items c.first_part.result.0.now (option_copied c.first_part.result.1) = record {
      rest = c.in-Some.text.now;
      so_far = subst (λ r. AreGroupsRead c.args.text.now c.loop-rest.groups.items (option_copied r)) c.in-Some.is c.loop-rest.invariant;
      next = c.first_part.ensures.parts;
    } in
    let none : groups_of c.args.text.now ≡ None = no_group_read at c.in_err-group.ensures in
    rw c.from_residual.ensures (subst (λ o. IfSome o (λ gs. 8 < length gs)) (sym none) tt)

pub returns-then-len-ge-GROUPS : goal.returns-then-len-ge-GROUPS
returns-then-len-ge-GROUPS c =
    let at : IsNextGroup c.args.text.now c.loop-rest.groups.items c.first_part.result.0.now (option_copied c.first_part.result.1) = record {
      rest = c.in-Some.text.now;
      so_far = subst (λ r. AreGroupsRead c.args.text.now c.loop-rest.groups.items (option_copied r)) c.in-Some.is c.loop-rest.invariant;
      next = c.first_part.ensures.parts;
    } in
    too_many_groups at c.in_ok-group.group c.in_ok-group.ensures (omega arith)

pub loop-rest-preserved : goal.loop-rest-preserved
loop-rest-preserved c =
    let at : IsNextGroup c.args.text.now c.loop-rest.groups.items c.first_part.result.0.now (option_copied c.first_part.result.1) = record {
      rest = c.in-Some.text.now;
      so_far = subst (λ r. AreGroupsRead c.args.text.now c.loop-rest.groups.items (option_copied r)) c.in-Some.is c.loop-rest.invariant;
      next = c.first_part.ensures.parts;
    } in
    subst (λ gs. AreGroupsRead c.args.text.now gs (option_copied c.first_part.result.1)) (sym c.push.ensures.items)
    (one_group_read at c.in_ok-group.group c.in_ok-group.ensures (omega arith))

pub loop-rest-smaller : goal.loop-rest-smaller
loop-rest-smaller c = left_falls (λ t. t.now) c.loop-rest.rest c.first_part.result.1 c.in-Some.text c.in-Some.is c.first_part.ensures.shorter

pub returns : goal.returns
returns c =
    all_groups_read c.args.text.now c.loop-rest.groups.items
    (subst (λ r. AreGroupsRead c.args.text.now c.loop-rest.groups.items (option_copied r)) c.in_default.is c.loop-rest.invariant)
