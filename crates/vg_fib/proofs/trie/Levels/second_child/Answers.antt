use Rattle.std.proofs.Common.{◌≡◌, ◌<◌, ◌*◌, ◌/◌, length, refl, subst, sym, ap, arith, length-append, get_or-set_same}
use Rattle.std.proofs.lemmas.List.{length-replicate}
use Rattle.std.proofs.Math.ListN.{set, length-set, replicate}
use Rattle.vg_fib.specs.declared.entries.Entry.TheVariants.{Leaf, Child}
use Rattle.vg_fib.specs.Trie.{AreLevels, number_by}
use Rattle.vg_fib.proofs.LevelLemmas.{entry_read, second_child_levels, second_child_numbers}
use Rattle.vg_fib.proofs.trie.Levels.second_child.Goals as goal

pub returns-in_ok-extend_from_slice-in-Leaf : goal.returns-in_ok-extend_from_slice-in-Leaf
returns-in_ok-extend_from_slice-in-Leaf c =
    let levels = c.args.self.now in
    let first = levels.first.items in
    let second = levels.second.items in
    let third = levels.third.items in
    let place = c.args.place in
    let number = c.in-Leaf.number in
    let child = c.len-child.result / 256 in
    let within : place < length second = c.requires.place in
    let was = entry_read second place _ _ _ within c.index.ensures c.entry.ensures.entry c.in-Leaf.is in
    let whole : length third ≡ 256 * child = omega (arith, c.requires.shape.third_whole, c.len-child.ensures, levels.third.ok.0) in
    let grown = c.in_ok-extend_from_slice-in-Leaf.ensures.items in
    let made = set second place (Child child) in
    rw c.child.ensures (record {
      shape = subst (λ more. AreLevels first made more) (sym grown) (second_child_levels first second third place child number c.requires.shape within whole);
      is = get_or-set_same second place (Child child) (Leaf 0) within;
      numbers = λ address. subst (λ more. number_by first made more address ≡ number_by first second third address) (sym grown)
          (second_child_numbers first second third place child number c.requires.shape within was whole address);
      grows = omega (arith, ap length grown, length-append third (replicate 256 number), length-replicate 256 number);
      first = refl;
      second = length-set second place (Child child);
    })
