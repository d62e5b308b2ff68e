-- What is printed of a comparison.
use Rattle.std.specs.Prelude.{◌≡◌, ℕ, List, [], ◌∷◌, ◌++◌, length, codes, decimal}
use Rattle.vg_match.specs.declared.diffs.Diff.{Diff}
use Rattle.vg_diff.specs.declared.answers.Manner.{Manner}
use Rattle.vg_diff.specs.declared.answers.Manner.TheVariants as manners
use Rattle.vg_diff.specs.declared.lines.Findings.{Findings}
use Rattle.vg_diff.specs.Classes.{AreClasses}
use Rattle.vg_diff.specs.Lines.{AreLines}
use Rattle.vg_diff.specs.Texts.{count_line}

-- the counts alone: of what had to come, and of what came
abbrev pub wanted_counts : Diff → List ℕ
wanted_counts diff = count_line (codes "missing") (length diff.missing.items) ++ count_line (codes "changed") (length diff.changed.items)

abbrev pub got_counts : Diff → List ℕ
got_counts diff = count_line (codes "extra") (length diff.extra.items) ++ count_line (codes "dropped-but-there") (length diff.there.items)

abbrev pub counts_text : Diff → List ℕ
counts_text diff = wanted_counts diff ++ got_counts diff

-- what stands between the first line and the last three
abbrev pub IsBody : Manner → Findings → List ℕ → Type 0
IsBody manners.Lines found text = AreLines found text
IsBody manners.Brief found text = text ≡ counts_text found.diff.now
IsBody manners.Classes found text = AreClasses found text

-- the last three lines: how many pairs came in another order, and how many packets of each side were left out
abbrev pub last_lines : (reordered : ℕ) → ℕ × ℕ → List ℕ
last_lines reordered noise =
    count_line (codes "reordered") reordered ++ (codes "noise " ++ (decimal noise.0 ++ (32 ∷ (decimal noise.1 ++ (10 ∷ (codes "end" ++ 10 ∷ []))))))

-- the text that says what was found
pub record IsText (manner : Manner) (found : Findings) (text : List ℕ) : Type 0 where
  pub body : List ℕ
  pub is_body : IsBody manner found body
  pub is : text ≡ count_line (codes "same") (length found.diff.now.same.items) ++ (body ++ last_lines found.reordered found.noise)
