-- For `one_generation_sends_alike`: the packet lines of a report name the choices that it was made by.
use Rattle.std.proofs.Common.{◌≡◌, ℕ, List, [], ◌∷◌, map, refl, ap, ◌∙◌}
use Rattle.std.specs.Prelude.{Some}
use Rattle.vg_model.specs.Graph.{Graph}
use Rattle.vg_model.specs.Visit.{Visit}
use Rattle.vg_model.specs.Journey.{Journey, Choice, journeys}
use Rattle.vg_check.specs.Output.{Setting, report_of, choices_of, choice_of, packet_line_of, last_graph}
use Rattle.vg_check.proofs.JourneyLemmas.{chosen, chosen_are}

lines_name : (g : Graph) (js : List Journey) → map choice_of (map (packet_line_of g) js) ≡ map chosen js
lines_name g [] = refl
lines_name g (j ∷ js) = ap (λ l. chosen j ∷ l) (lines_name g js)

pub named_are : (visit : Visit) (graphs : List Graph) (workers : ℕ) (packets : List (List ℕ)) (choices : List Choice) (js : List Journey) (setting : Setting) (all : List Graph)
    → journeys visit graphs workers packets choices ≡ Some js → choices_of (report_of setting all js) ≡ choices
named_are visit graphs workers packets choices js setting all e = lines_name (last_graph all) js ∙ chosen_are visit graphs workers packets choices js e
