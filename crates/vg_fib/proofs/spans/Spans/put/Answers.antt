use Rattle.std.proofs.Common.{◌≡◌, ◌-◌, ◌<◌, length, sym, subst, ◌∙◌, arith}
use Rattle.std.proofs.lemmas.Nat.{pow_pos}
use Rattle.vg_model.specs.Route.{ip6}
use Rattle.vg_fib.specs.Numbers.{changed_by}
use Rattle.vg_fib.specs.Spans.{end_of}
use Rattle.vg_fib.specs.declared.spans.Spans.{Spans}
use Rattle.vg_fib.proofs.CutLemmas.{AreMarked, marked_last, marked_twice, spread_shape, spread_number}
use Rattle.vg_fib.proofs.spans.Spans.put.Goals as goal
use Rattle.vg_fib.proofs.spans.Spans.put.Goals.{in-Some+in_ok-to-in-Some, in-None}

pub returns : goal.returns
returns c =
    let prefix = c.args.prefix in
    let f = changed_by ip6 c.args.slots.now c.args.change in
    let from = c.in_ok-from.from in
    let to = c.match-behind.to in
    let old = c.args.self.now in
    let once = c.cut.new.self in
    let mid = c.match-behind.self in
    let new = c.raise.new.numbers.items in
    let some : prefix.addr < end_of prefix = omega (arith, pow_pos (128 - prefix.len)) in
    let marked : AreMarked prefix from to old.starts.items old.numbers.items mid.starts.items mid.numbers.items = elim c.match-behind.branch [
      | in-Some+in_ok-to-in-Some w ↦
          let two = marked_twice prefix from w.in_ok-to-in-Some.to w.in-Some.address old.starts.items old.numbers.items once.starts.items once.numbers.items
          w.cut-in-Some.new.self.starts.items w.cut-in-Some.new.self.numbers.items c.in_ok-from.ensures w.in-Some.ensures some w.in_ok-to-in-Some.ensures in
          subst (λ t. AreMarked prefix from t old.starts.items old.numbers.items mid.starts.items mid.numbers.items) (sym w.to-is)
          (subst (λ (s : Spans). AreMarked prefix from w.in_ok-to-in-Some.to old.starts.items old.numbers.items s.starts.items s.numbers.items) (sym w.self-is) two)
      | in-None w ↦
          let one = marked_last prefix from old.starts.items old.numbers.items once.starts.items once.numbers.items c.in_ok-from.ensures w.in-None.ensures in
          let long : to ≡ length once.starts.items = w.to-is ∙ (w.len-to.ensures ∙ once.starts.ok.0) in
          subst (λ t. AreMarked prefix from t old.starts.items old.numbers.items mid.starts.items mid.numbers.items) (sym long)
          (subst (λ (s : Spans). AreMarked prefix from (length once.starts.items) old.starts.items old.numbers.items s.starts.items s.numbers.items) (sym w.self-is) one)
    ] in
    record {
      shape = spread_shape prefix f from to old.starts.items old.numbers.items mid.starts.items mid.numbers.items new marked c.raise.ensures;
      numbers = λ address number bound has.
          spread_number prefix f from to old.starts.items old.numbers.items mid.starts.items mid.numbers.items new marked c.raise.ensures address number bound has;
    }
