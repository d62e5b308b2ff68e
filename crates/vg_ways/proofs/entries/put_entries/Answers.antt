-- For `put_entries`: its clause.
use Rattle.std.proofs.Common.{◌≡◌, ℕ, List, [], ◌∷◌, ◌++◌, ◌∙◌, ap, append_assoc}
use Rattle.std.proofs.lemmas.Result.{on_ok_weaker}
use Rattle.vg_ways.specs.declared.entries.Entry.{Entry}
use Rattle.vg_ways.specs.declared.entries.Entry.TheVariants as entries
use Rattle.vg_ways.specs.Entries.{matches, end_entries}
use Rattle.vg_ways.proofs.entries.put_entries.Goals as goal

-- an entry, and entries behind it in two parts
three : (before : List (ℕ × Entry)) (x : ℕ × Entry) (middle last : List (ℕ × Entry)) → ((before ++ x ∷ []) ++ middle) ++ last ≡ before ++ (x ∷ (middle ++ last))
three before x middle last = append_assoc (before ++ x ∷ []) middle last ∙ append_assoc before (x ∷ []) (middle ++ last)

pub returns : goal.returns
returns c =
    let before = c.args.entries.now.items in
    let told = c.args.pieces.now in
    let end = c.args.went.now.end in
    let tail = end_entries c.last_generation.result c.last_via.result end in
    on_ok_weaker c.put_end.result
    (λ e.
    e
    ∙ ap (λ xs. xs ++ tail) (c.in_ok-put_matches.ensures ∙ ap (λ xs. xs ++ matches 0 told) c.in_ok-push.ensures.items)
    ∙ three before (c.first_generation.result, entries.Began) (matches 0 told) tail
    ∙ (λ i. before ++ (c.first_generation.ensures i, entries.Began) ∷ (matches 0 told ++ end_entries (c.last_generation.ensures i) (c.last_via.ensures i) end)))
    c.put_end.ensures
