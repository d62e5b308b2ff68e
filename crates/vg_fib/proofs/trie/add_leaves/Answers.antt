-- For `add_leaves`: the entries of a child more are added behind those of the children so far.
use Rattle.std.proofs.Common.{◌≡◌, ◌*◌, ◌++◌, ◌∙◌, sym, ap, arith, append-nil}
use Rattle.std.proofs.Math.ListN.{replicate}
use Rattle.vg_fib.specs.declared.entries.Entry.TheVariants.{Leaf}
use Rattle.vg_fib.proofs.LevelLemmas.{leaves_more}
use Rattle.vg_fib.proofs.trie.add_leaves.Goals as goal

pub loop-init : goal.loop-init
loop-init c = sym (append-nil c.reserve.new.self.items)

pub loop-preserved : goal.loop-preserved
loop-preserved c =
    c.in_ok-extend_from_slice.ensures.items ∙ ap (λ e. c.loop.entries.items ++ replicate 256 e) c.leaf.ensures
    ∙ leaves_more c.reserve.new.self.items c.loop.entries.items c.loop.counter c.loop.invariant

pub returns : goal.returns
returns c =
    let all : c.loop.counter ≡ c.args.children = omega arith in
    c.loop.invariant ∙ (ap (λ xs. xs ++ replicate (256 * c.loop.counter) (Leaf 0)) c.reserve.ensures.items
    ∙ ap (λ n. c.args.entries.now.items ++ replicate (256 * n) (Leaf 0)) all)
