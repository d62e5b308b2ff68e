use Rattle.std.proofs.Common.{ℕ, ◌<◌, length, List, arith, sym, ap, ◌∙◌, refl}
use Rattle.std.specs.Prelude.{slice_get, option_map, zip}
use Rattle.std.proofs.lemmas.Slice.Zip.{length-zip, seconds-zip}
use Rattle.std.proofs.lemmas.Option.{slice_get-map, slice_get_read}
use Rattle.vg_model.specs.Graph.{Graph}
use Rattle.vg_plan.proofs.books.Book.limit.Goals as goal

pub index-requires : goal.index-requires
index-requires c =
    let zipped = length-zip c.self.inside.plan.value.graphs c.self.inside.limits.items in
    omega (arith, zipped, c.self.invariant.each, ap length c.self.view_is, c.requires)

pub returns : goal.returns
returns c =
    let zipped = length-zip c.self.inside.plan.value.graphs c.self.inside.limits.items in
    let below : c.args.generation < length c.self.inside.limits.items = omega (arith, zipped, c.self.invariant.each, ap length c.self.view_is, c.requires) in
    ap (λ (l : List (Graph × ℕ)). option_map (λ (w : Graph × ℕ). w.1) (slice_get l c.args.generation)) (sym c.self.view_is)
    ∙ (sym (slice_get-map (λ (w : Graph × ℕ). w.1) (zip c.self.inside.plan.value.graphs c.self.inside.limits.items) c.args.generation)
    ∙ (ap (λ l. slice_get l c.args.generation) (seconds-zip c.self.inside.plan.value.graphs c.self.inside.limits.items c.self.invariant.each)
    ∙ slice_get_read c.self.inside.limits.items (length c.self.inside.limits.items) c.args.generation c.index.result.now refl below c.index.ensures))
