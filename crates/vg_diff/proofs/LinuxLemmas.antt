-- For the clauses of `put_interfaces` and `put_neighbors`: the text of one number more.
use Rattle.std.proofs.Common.{◌≡◌, ℕ, ◌+◌, ◌++◌, List, ap, sym, ◌∙◌, append_assoc, add-one}
use Rattle.vg_diff.specs.Linux.{of_each}

each_more : (text : ℕ → List ℕ) (count : ℕ) → of_each text (count + 1) ≡ of_each text count ++ text count
each_more text count = ap (of_each text) (add-one count)

pub each_put : (text : ℕ → List ℕ) (count : ℕ) (before out next line : List ℕ) → next ≡ out ++ line → line ≡ text count → out ≡ before ++ of_each text count
    → next ≡ before ++ of_each text (count + 1)
each_put text count before out next line put is so_far =
    put
    ∙ ap (λ xs. xs ++ line) so_far
    ∙ append_assoc before (of_each text count) line
    ∙ ap (λ xs. before ++ xs) (ap (λ l. of_each text count ++ l) is ∙ sym (each_more text count))
