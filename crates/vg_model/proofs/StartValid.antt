-- For `start_is_valid`, and for `Graph::start` of vg_graph: the start graph is valid.
use Rattle.std.proofs.Common.{◌≡◌, ℕ, zero, suc, ◌+◌, ◌<◌, ◌≤◌, refl, arith, rules}
use Rattle.std.specs.Prelude.{Some}
use Rattle.std.specs.List.{IsDistinct}
use Rattle.std.proofs.lemmas.Option.{none-some, same_Some}
use Rattle.vg_model.specs.Graph.{arc}
use Rattle.vg_model.specs.Start.{start_graph}
use Rattle.vg_model.specs.Valid.{Walk, HasArc, IsValid}
use Rattle.vg_model.proofs.Walks.{acyclic_short}

-- each arc leads to a node of a greater number
rises_at : (from slot to : ℕ) → arc start_graph from slot ≡ Some to → (from < to) × (to < 9)
rises_at zero zero to e = let n : 2 ≡ to = same_Some _ _ e in (omega (arith, n), omega (arith, n))
rises_at zero (suc slot) to e = absurd (none-some to e)
rises_at (suc zero) slot to e = absurd (none-some to e)
rises_at (suc (suc zero)) zero to e = let n : 3 ≡ to = same_Some _ _ e in (omega (arith, n), omega (arith, n))
rises_at (suc (suc zero)) (suc slot) to e = absurd (none-some to e)
rises_at (suc (suc (suc zero))) zero to e = let n : 4 ≡ to = same_Some _ _ e in (omega (arith, n), omega (arith, n))
rises_at (suc (suc (suc zero))) (suc slot) to e = absurd (none-some to e)
rises_at (suc (suc (suc (suc zero)))) zero to e = let n : 5 ≡ to = same_Some _ _ e in (omega (arith, n), omega (arith, n))
rises_at (suc (suc (suc (suc zero)))) (suc slot) to e = absurd (none-some to e)
rises_at (suc (suc (suc (suc (suc zero))))) zero to e = let n : 6 ≡ to = same_Some _ _ e in (omega (arith, n), omega (arith, n))
rises_at (suc (suc (suc (suc (suc zero))))) (suc slot) to e = absurd (none-some to e)
rises_at (suc (suc (suc (suc (suc (suc zero)))))) zero to e = let n : 7 ≡ to = same_Some _ _ e in (omega (arith, n), omega (arith, n))
rises_at (suc (suc (suc (suc (suc (suc zero)))))) (suc slot) to e = absurd (none-some to e)
rises_at (suc (suc (suc (suc (suc (suc (suc zero))))))) slot to e = absurd (none-some to e)
rises_at (suc (suc (suc (suc (suc (suc (suc (suc zero)))))))) slot to e = absurd (none-some to e)
rises_at (suc (suc (suc (suc (suc (suc (suc (suc (suc from))))))))) slot to e = absurd (none-some to e)

-- a walk over rising arcs rises
walk_rises : (a b arcs : ℕ) → Walk (HasArc start_graph) a b arcs → a + arcs ≤ b
walk_rises a b zero w = omega (arith, w)
walk_rises a b (suc arcs) w = let before = walk_rises a w.0 arcs w.1 in let last = (rises_at w.0 w.2.0 b w.2.1).0 in omega (arith, before, last)

-- the start graph is valid
pub start_valid : IsValid start_graph
unfolding IsDistinct
start_valid = record {
  source = refl;
  dequeue = refl;
  drop = refl;
  whole = search rules;
  targets = search rules;
  interfaces = omega arith;
  adjacencies = tt;
  routes = tt;
  routes6 = tt;
  one_route = tt;
  one_route6 = tt;
  interface_macs = search rules;
  adjacency_macs = tt;
  node_names = search rules;
  interface_names = search rules;
  adjacency_names = tt;
  acyclic = acyclic_short (HasArc start_graph) 9 (omega arith)
      (λ a b h. let r = rises_at a h.0 b h.1 in omega (arith, r.0, r.1)) (λ a b h. (rises_at a h.0 b h.1).1)
      (λ a arcs w. let r = walk_rises a a (suc arcs) w in omega (arith, r));
}
