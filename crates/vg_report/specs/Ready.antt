-- Text of lines of packets that stands ready.
use Rattle.std.specs.Prelude.{◌≡◌, ℕ, ◌<◌, ◌≤◌, List, [], ◌∷◌, ◌++◌, None}
use Rattle.vg_model.specs.declared.fates.Fate.{Fate}
use Rattle.vg_model.specs.declared.fates.Leg.{Leg}
use Rattle.vg_model.specs.declared.fates.End.{End}
use Rattle.vg_model.specs.declared.fates.End.TheVariants as numbers
use Rattle.vg_report.specs.Named.{end_by}
use Rattle.vg_report.specs.Text.{further, end_words}
use Rattle.vg_report.specs.declared.laying.DroppedEnd.{DroppedEnd}

-- the end of a packet's line, from the space behind its legs on
abbrev pub end_text : (interfaces nodes : List (List ℕ)) → End → List ℕ
end_text interfaces nodes end = further (end_words (end_by interfaces nodes end)) ++ 10 ∷ []

-- the text is that of its node and its error
abbrev pub IsReady : (interfaces nodes : List (List ℕ)) → DroppedEnd → Type 0
IsReady interfaces nodes dropped = dropped.text ≡ end_text interfaces nodes (numbers.Dropped dropped.node dropped.error)

-- the packet of this number had this one leg, of a worker below 10 and a generation below 1,000, and its line ends with this text
pub record IsShort (interfaces nodes : List (List ℕ)) (number : ℕ) (fate : Fate) (leg : Leg) (end : List ℕ) : Type 0 where
  pub high : 100 ≤ number
  pub worker : leg.worker < 10
  pub generation : leg.generation < 1000
  pub legs : fate.legs ≡ leg ∷ []
  pub plain : fate.congested ≡ None
  pub ends : end ≡ end_text interfaces nodes fate.end
