-- For the clauses `made` and `refused` of `make_events` and `make_all`: how far a script's generations are made.
use Rattle.std.proofs.Common.{◌≡◌, ℕ, inl, inr, List, [], ◌∷◌, ◌++◌, map, refl, sym, ap, subst, ◌∙◌}
use Rattle.std.specs.Prelude.{Ok, Err}
use Rattle.std.specs.List.{AllByRecursion}
use Rattle.vg_model.specs.declared.edits.EditLine.{EditLine}
use Rattle.vg_model.specs.Graph.{Graph}
use Rattle.vg_model.specs.Edit.{Cause, apply_all}
use Rattle.vg_model.specs.Start.{start_graph}
use Rattle.vg_model.specs.Generations.{Graphs, in_front, after_groups, generations}
use Rattle.vg_graph.proofs.ListLemmas.{all_append}
use Rattle.vg_script.specs.declared.scripts.Script.{Script}
use Rattle.vg_script.specs.declared.errors.ScriptError.{ScriptError}
use Rattle.vg_script.specs.Events.{Event, events}
use Rattle.vg_script.specs.Generations.{generations_of}
use Rattle.vg_script.specs.Lawful.{IsLawful}
use Rattle.vg_plan.specs.Plan.{graphs_of, IsGeneration, IsPlan}
use Rattle.vg_plan.specs.Progress.{behind, AreMade, AreMadeUpTo}
use Rattle.vg_plan.specs.Refusals.{IsRefusalOf}

-- one graph more stands behind others
behind_more : (front : List Graph) (g : Graph) (rest : Graphs) → behind (front ++ g ∷ []) rest ≡ behind front (in_front g rest)
behind_more [] g rest = refl
behind_more (f ∷ front) g rest = ap (in_front f) (behind_more front g rest)

-- a refusal stands behind no graph
behind_refusal : (front : List Graph) (refusal : ℕ × Cause) → behind front (Err refusal) ≡ Err refusal
behind_refusal [] refusal = refl
behind_refusal (f ∷ front) refusal = ap (in_front f) (behind_refusal front refusal)

behind_all : (front rest : List Graph) → behind front (Ok rest) ≡ Ok (front ++ rest)
behind_all [] rest = refl
behind_all (f ∷ front) rest = ap (in_front f) (behind_all front rest)

-- the first graph is made, and all groups are left
pub made_first : (g : Graph) (groups : List (List EditLine)) → IsGeneration g → AreMadeUpTo (after_groups (Ok g) groups) g groups
made_first g groups is = record { front = []; generations = tt; last = is; is = refl }

-- one group more
pub made_next : (all : Graphs) (g after : Graph) (edits : List EditLine) (groups : List (List EditLine)) → AreMadeUpTo all g (edits ∷ groups) → apply_all g edits ≡ Ok after → IsGeneration after
    → AreMadeUpTo all after groups
made_next all g after edits groups made e is = record {
  front = made.front ++ g ∷ [];
  generations = all_append IsGeneration made.front g made.generations made.last;
  last = is;
  is = made.is ∙ (ap (λ r. behind made.front (in_front g (after_groups r groups))) e ∙ sym (behind_more made.front g (after_groups (Ok after) groups)));
}

-- a group that is refused refuses all
pub made_refused : (all : Graphs) (g : Graph) (edits : List EditLine) (groups : List (List EditLine)) (error : ScriptError) → AreMadeUpTo all g (edits ∷ groups)
    → IsRefusalOf (apply_all g edits) error → IsRefusalOf all error
made_refused all g edits groups error made (inl memory) = inl memory
made_refused all g edits groups error made (inr h) =
    inr (h.0, made.is ∙ (ap (λ r. behind made.front (in_front g (after_groups r groups))) h.1 ∙ behind_refusal made.front h.0), h.2)

-- so do the first edits
pub first_refused : (start : List EditLine) (groups : List (List EditLine)) (error : ScriptError) → IsRefusalOf (apply_all start_graph start) error → IsRefusalOf (generations start groups) error
first_refused start groups error (inl memory) = inl memory
first_refused start groups error (inr h) = inr (h.0, ap (λ r. after_groups r groups) h.1, h.2)

-- no group is left
pub all_are_made : (all : Graphs) (g : Graph) → AreMadeUpTo all g [] → AreMade all
all_are_made all g made = record {
  graphs = made.front ++ g ∷ [];
  generations = all_append IsGeneration made.front g made.generations made.last;
  is = made.is ∙ behind_all made.front (g ∷ []);
}

-- the edits outside blocks make this graph, and those of the events all others: the script has a plan
pub is_planned : (script : Script) (g : Graph) → IsLawful script → apply_all start_graph script.start ≡ Ok g
    → AreMade (after_groups (Ok g) (map (λ (e : Event). e.edits) (events script))) → IsPlan (record { script = script; graphs = graphs_of script })
is_planned script g lawful first made = record {
  lawful = lawful;
  made = are ∙ ap Ok (sym same);
  generations = subst (AllByRecursion IsGeneration) (sym same) made.generations;
}
  where
    are : generations_of script ≡ Ok made.graphs
    are = ap (λ r. after_groups r (map (λ (e : Event). e.edits) (events script))) first ∙ made.is

    same : graphs_of script ≡ made.graphs
    same = ap (λ (r : Graphs). elim r as (λ _. List Graph) [ Ok graphs ↦ graphs | Err refusal ↦ [] ]) are
