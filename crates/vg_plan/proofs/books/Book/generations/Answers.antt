use Rattle.std.proofs.Common.{length, arith, ap}
use Rattle.std.proofs.lemmas.Slice.Zip.{length-zip}
use Rattle.vg_plan.proofs.books.Book.generations.Goals as goal

pub overflow_cast-result : goal.overflow_cast-result
overflow_cast-result c = let few = c.self.invariant.few in omega arith

pub returns : goal.returns
returns c =
    let each = c.self.invariant.each in
    let zipped = length-zip c.self.inside.plan.value.graphs c.self.inside.limits.items in
    omega (arith, zipped, each, ap length c.self.view_is)
