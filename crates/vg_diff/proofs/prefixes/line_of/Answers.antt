-- For `line_of`: its clause.
use Rattle.std.proofs.Common.{List, ℕ, [], ◌∷◌, ◌++◌, ap, ◌∙◌}
use Rattle.vg_diff.specs.Prefixes.{line_of}
use Rattle.vg_diff.proofs.prefixes.line_of.Goals as goal

pub returns : goal.returns
unfolding line_of
returns c =
    c.in_ok-push-2.ensures.items
    ∙ ap (λ (l : List ℕ). l ++ 10 ∷ []) (c.in_ok-extend_from_slice-2.ensures.items
    ∙ ap (λ (l : List ℕ). l ++ c.args.value.now) (c.in_ok-push.ensures.items
    ∙ ap (λ (l : List ℕ). l ++ 32 ∷ []) (c.in_ok-extend_from_slice.ensures.items ∙ ap (λ (l : List ℕ). l ++ c.args.word.now) c.new-line.ensures.items)))
