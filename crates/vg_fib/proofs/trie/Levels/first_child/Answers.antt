use Rattle.std.proofs.Common.{◌≡◌, ◌<◌, ◌*◌, ◌/◌, ◌++◌, ◌∙◌, length, refl, subst, sym, ap, arith, length-append, get_or-set_same}
use Rattle.std.proofs.lemmas.List.{length-replicate}
use Rattle.std.proofs.Math.ListN.{set, replicate}
use Rattle.vg_fib.specs.declared.entries.Entry.TheVariants.{Leaf, Child}
use Rattle.vg_fib.specs.Entries.{IsShort}
use Rattle.vg_fib.specs.Trie.{AreLevels, number_by}
use Rattle.vg_fib.proofs.LevelLemmas.{entry_read, first_child_levels, first_child_numbers}
use Rattle.vg_fib.proofs.trie.Levels.first_child.Goals as goal

pub leaf-requires : goal.leaf-requires
leaf-requires c = subst IsShort c.in-Leaf.is c.entry.ensures.short

pub returns-in_ok-extend_from_slice-in-Leaf : goal.returns-in_ok-extend_from_slice-in-Leaf
returns-in_ok-extend_from_slice-in-Leaf c =
    let levels = c.args.self.now in
    let first = levels.first.items in
    let second = levels.second.items in
    let third = levels.third.items in
    let place = c.args.place in
    let number = c.in-Leaf.number in
    let child = c.len-child.result / 256 in
    let within : place < length first = omega (arith, c.requires.shape.all, c.requires.place) in
    let was = entry_read first place _ _ _ within c.index.ensures c.entry.ensures.entry c.in-Leaf.is in
    let whole : length second ≡ 256 * child = omega (arith, c.requires.shape.second_whole, c.len-child.ensures, levels.second.ok.0) in
    let grown = c.in_ok-extend_from_slice-in-Leaf.ensures.items ∙ ap (λ e. second ++ replicate 256 e) c.leaf.ensures in
    let made = set first place (Child child) in
    rw c.child.ensures (record {
      shape = subst (λ more. AreLevels made more third) (sym grown) (first_child_levels first second third place child number c.requires.shape c.requires.place whole);
      is = get_or-set_same first place (Child child) (Leaf 0) within;
      numbers = λ address. subst (λ more. number_by made more third address ≡ number_by first second third address) (sym grown)
          (first_child_numbers first second third place child number c.requires.shape c.requires.place was whole address);
      grows = omega (arith, ap length grown, length-append second (replicate 256 (Leaf number)), length-replicate 256 (Leaf number));
      same = refl;
    })
