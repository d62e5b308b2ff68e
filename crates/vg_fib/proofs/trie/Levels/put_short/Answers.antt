use Rattle.std.proofs.Common.{◌<◌, ◌-◌, ◌/◌, ◌^◌, subst, arith, rules}
use Rattle.std.proofs.lemmas.Nat.{one_shl}
use Rattle.vg_model.specs.Route.{ip4}
use Rattle.vg_fib.specs.Numbers.{changed_by}
use Rattle.vg_fib.specs.Trie.{IsRaisedFirst}
use Rattle.vg_fib.proofs.SpanLemmas.{short_span}
use Rattle.vg_fib.proofs.LevelLemmas.{short_numbers, raised_levels}
use Rattle.vg_fib.proofs.trie.Levels.put_short.Goals as goal

pub raise_first-requires-clause-places : goal.raise_first-requires-clause-places
raise_first-requires-clause-places c =
    let prefix = c.args.prefix in
    let bound : prefix.addr < 2 ^ 32 = search rules in
    omega (arith, (short_span prefix bound c.requires.short).fits, one_shl (16 - prefix.len) 64 (omega arith))

pub returns : goal.returns
returns c =
    let prefix = c.args.prefix in
    let bound : prefix.addr < 2 ^ 32 = search rules in
    let f = changed_by ip4 c.args.slots.now c.args.change in
    let raised = subst (λ count. IsRaisedFirst f (prefix.addr / 65536) count c.args.self.now c.raise_first.new.self)
    (one_shl (16 - prefix.len) 64 (omega arith)) c.raise_first.ensures in
    record {
      shape = raised_levels f (prefix.addr / 65536) (2 ^ (16 - prefix.len)) _ _ _ _ _ _ c.requires.shape raised;
      numbers = λ address _. short_numbers prefix f _ _ _ _ _ _ bound c.requires.short raised address;
      second_grows = omega (arith, raised.second);
      third_grows = omega (arith, raised.third);
    }
