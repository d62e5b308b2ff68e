use Rattle.std.proofs.Common.{◌≡◌, ◌+◌, ◌-◌, ◌*◌, ◌/◌, ◌%◌, ◌^◌, length, subst, sym, ap, ◌∙◌, arith}
use Rattle.std.proofs.lemmas.Nat.{one_shl}
use Rattle.std.specs.Prelude.{if◌then◌else◌}
use Rattle.vg_model.specs.Route.{ip4, covers_of}
use Rattle.vg_fib.specs.declared.entries.Entry.TheVariants.{Child}
use Rattle.vg_fib.specs.Numbers.{changed_by}
use Rattle.vg_fib.specs.Trie.{IsRaised}
use Rattle.vg_fib.proofs.SpanLemmas.{long_span}
use Rattle.vg_fib.proofs.LevelLemmas.{entry, long_numbers, long_levels}
use Rattle.vg_fib.proofs.trie.Levels.put_long.Goals as goal

pub second_child-requires-clause-room : goal.second_child-requires-clause-room
second_child-requires-clause-room c = omega (arith, ap length c.in_ok-parent.ensures.same, c.requires.room.1)

pub second_child-requires-clause-place : goal.second_child-requires-clause-place
second_child-requires-clause-place c =
    let gives = c.in_ok-parent.ensures in
    omega (arith, gives.shape.first_children.within _ _ gives.is)

pub raise_third-requires : goal.raise_third-requires
raise_third-requires c =
    let prefix = c.args.prefix in
    let gives = c.in_ok-child.ensures in
    omega (arith, long_span prefix c.requires.longer, one_shl (32 - prefix.len) 64 (omega arith), gives.shape.second_children.within _ _ gives.is)

pub returns : goal.returns
returns c =
    let prefix = c.args.prefix in
    let f = changed_by ip4 c.args.slots.now c.args.change in
    let parent = c.in_ok-parent.parent in
    let child = c.in_ok-child.child in
    let above = c.in_ok-parent.ensures in
    let gives = c.in_ok-child.ensures in
    let levels = c.second_child.new.self in
    let first = levels.first.items in
    let second = levels.second.items in
    let third = levels.third.items in
    let new = c.raise_third.new.third.items in
    let from = 256 * child + prefix.addr % 256 in
    let raised = subst (λ count. IsRaised f from count third new) (one_shl (32 - prefix.len) 64 (omega arith)) c.raise_third.ensures in
    let parent_is : entry first (prefix.addr / 65536) ≡ Child parent = subst (λ entries. entry entries (prefix.addr / 65536) ≡ Child parent) (sym gives.first) above.is in
    record {
      shape = long_levels f from (2 ^ (32 - prefix.len)) first second third new gives.shape raised;
      numbers = λ address bound.
          long_numbers prefix f parent child first second third new gives.shape c.requires.longer parent_is gives.is raised address
          ∙ ap (λ old. if covers_of ip4 prefix address then f old else old) (gives.numbers address ∙ above.numbers address);
      second_grows = omega (arith, gives.second, above.grows);
      third_grows = omega (arith, raised.same_length, gives.grows, ap length above.same);
    }
