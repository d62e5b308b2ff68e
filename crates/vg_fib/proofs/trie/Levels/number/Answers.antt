use Rattle.std.proofs.Common.{◌<◌, ◌+◌, ◌*◌, ◌/◌, ◌%◌, length, arith}
use Rattle.vg_fib.proofs.LevelLemmas.{entry_read}
use Rattle.vg_fib.proofs.trie.Levels.number.Goals as goal

pub index-requires-in-Child : goal.index-requires-in-Child
index-requires-in-Child c =
    let levels = c.args.self.now in
    let here : c.args.address / 65536 < length levels.first.items = omega (arith, c.requires.all) in
    let is = entry_read levels.first.items (c.args.address / 65536) _ _ _ here c.index.ensures c.entry.ensures.entry c.in-Child.is in
    omega (arith, c.requires.first_children.within _ _ is, levels.second.ok.0)

pub index-requires-in-Child-entry : goal.index-requires-in-Child-entry
index-requires-in-Child-entry c =
    let levels = c.args.self.now in
    let here : c.args.address / 65536 < length levels.first.items = omega (arith, c.requires.all) in
    let above = entry_read levels.first.items (c.args.address / 65536) _ _ _ here c.index.ensures c.entry.ensures.entry c.in-Child.is in
    let place = 256 * c.in-Child.child + c.args.address / 256 % 256 in
    let there : place < length levels.second.items = omega (arith, c.requires.first_children.within _ _ above) in
    let is = entry_read levels.second.items place _ _ _ there c.index-in-Child.ensures c.entry-in-Child.ensures.entry c.in-Child-entry.is in
    omega (arith, c.requires.second_children.within _ _ is, levels.third.ok.0)
