use Rattle.std.proofs.Common.{◌+◌, ◌-◌, ◌*◌, ◌/◌, ◌%◌, ◌^◌, length, subst, ap, ◌∙◌, arith}
use Rattle.std.proofs.lemmas.Nat.{one_shl}
use Rattle.std.specs.Prelude.{if◌then◌else◌}
use Rattle.vg_model.specs.Route.{ip4, covers_of}
use Rattle.vg_fib.specs.Numbers.{changed_by}
use Rattle.vg_fib.specs.Trie.{IsRaisedSecond}
use Rattle.vg_fib.proofs.SpanLemmas.{middle_span}
use Rattle.vg_fib.proofs.LevelLemmas.{middle_numbers, middle_levels}
use Rattle.vg_fib.proofs.trie.Levels.put_middle.Goals as goal

pub raise_second-requires-clause-places : goal.raise_second-requires-clause-places
raise_second-requires-clause-places c =
    let prefix = c.args.prefix in
    let gives = c.in_ok-child.ensures in
    let span = middle_span prefix c.requires.longer c.requires.middle in
    omega (arith, span.fits, one_shl (24 - prefix.len) 64 (omega arith), gives.shape.first_children.within _ _ gives.is)

pub returns : goal.returns
returns c =
    let prefix = c.args.prefix in
    let f = changed_by ip4 c.args.slots.now c.args.change in
    let child = c.in_ok-child.child in
    let gives = c.in_ok-child.ensures in
    let levels = c.first_child.new.self in
    let first = levels.first.items in
    let second = levels.second.items in
    let third = levels.third.items in
    let new = c.raise_second.new.second.items in
    let newer = c.raise_second.new.third.items in
    let from = 256 * child + prefix.addr / 256 % 256 in
    let raised = subst (λ count. IsRaisedSecond f from count second third new newer) (one_shl (24 - prefix.len) 64 (omega arith)) c.raise_second.ensures in
    record {
      shape = middle_levels f from (2 ^ (24 - prefix.len)) first second third new newer gives.shape raised;
      numbers = λ address bound.
          middle_numbers prefix f child first second third new newer gives.shape c.requires.longer c.requires.middle gives.is raised address
          ∙ ap (λ old. if covers_of ip4 prefix address then f old else old) (gives.numbers address);
      second_grows = omega (arith, raised.same_length, gives.grows);
      third_grows = omega (arith, raised.third, ap length gives.same);
    }
