-- For the functions that append the tables: the text of one number more, and the tables of all generations.
use Rattle.std.proofs.Common.{◌≡◌, ℕ, zero, suc, ◌+◌, ◌<◌, List, [], ◌∷◌, ◌++◌, length, take, refl, sym, ap, ap₂, ◌∙◌, add-one, append_assoc, append-nil, arith}
use Rattle.std.specs.Prelude.{slice_get, flat_map}
use Rattle.std.proofs.lemmas.Grind.{flat_map-append}
use Rattle.std.proofs.lemmas.List.{length-map}
use Rattle.vg_ways.proofs.ReadLemmas.{IsRead, take_read}
use Rattle.vg_model.specs.Graph.{Graph}
use Rattle.vg_plan.specs.Plan.{Planned}
use Rattle.vg_ways.specs.declared.entries.Entry.{Entry}
use Rattle.vg_ways.specs.declared.logs.Log.{Log}
use Rattle.vg_ways.specs.Counts.{texts_below, table_at, generation_text, tables_text}
use Rattle.vg_ways.specs.Logs.{tallies_of, tally_at, IsLogOf}
use Rattle.vg_ways.specs.Tallies.{tally_in}

pub texts_below_more : (text : ℕ → List ℕ) (n : ℕ) → texts_below text (n + 1) ≡ texts_below text n ++ text n
texts_below_more text n = ap (texts_below text) (add-one n)

-- the text of one number more is put behind the others
pub text_more : (text : ℕ → List ℕ) (n : ℕ) (before : List ℕ) {old new : List ℕ} → old ≡ before ++ texts_below text n → new ≡ old ++ text n → new ≡ before ++ texts_below text (n + 1)
text_more text n before so_far put =
    put
    ∙ ap (λ xs. xs ++ text n) so_far
    ∙ append_assoc before (texts_below text n) (text n)
    ∙ ap (λ xs. before ++ xs) (sym (texts_below_more text n))

-- so is that of one element more
pub each_more : {X : Type 0} (f : X → List ℕ) (before : List ℕ) {xs : List X} {k : ℕ} {x : X} {old new : List ℕ} → IsRead xs k x
    → old ≡ before ++ flat_map f (take k xs) → new ≡ old ++ f x → new ≡ before ++ flat_map f (take (k + 1) xs)
each_more f before {xs = xs} {k = k} {x = x} read so_far put =
    put
    ∙ ap (λ ys. ys ++ f x) so_far
    ∙ append_assoc before (flat_map f (take k xs)) (f x)
    ∙ ap (λ ys. before ++ ys)
    (ap (λ ys. flat_map f (take k xs) ++ ys) (sym (append-nil (f x)))
    ∙ sym (flat_map-append f (take k xs) (x ∷ []))
    ∙ ap (flat_map f) (sym (take_read read)))

-- texts that are the same below a number
texts_below_same : (f g : ℕ → List ℕ) (n : ℕ) → ((k : ℕ) → k < n → f k ≡ g k) → texts_below f n ≡ texts_below g n
texts_below_same f g zero same = refl
texts_below_same f g (suc n) same =
    ap₂ (λ before last. before ++ last) (texts_below_same f g n (λ k h. same k (omega (arith, h)))) (same n (omega arith))

-- the tables of all generations, by the entries of each
pub tables_are : (plan : Planned) (names : Graph) (entries : List (ℕ × Entry)) (log : Log) → IsLogOf (length plan.graphs) entries log
    → tables_text plan names (tallies_of log) ≡ texts_below (generation_text plan names entries) (length plan.graphs)
tables_are plan names entries log is =
    let by_tallies : ℕ → List ℕ = λ g. table_at plan names g (tally_at (tallies_of log) g) (slice_get plan.graphs g) in
    ap (texts_below by_tallies) (length-map log.tallies.items tally_in ∙ is.count)
    ∙ texts_below_same by_tallies (generation_text plan names entries) (length plan.graphs)
    (λ g h. ap (λ t. table_at plan names g t (slice_get plan.graphs g)) (is.each g h))

-- three pieces
pub three : (before a b c : List ℕ) → ((before ++ a) ++ b) ++ c ≡ before ++ (a ++ (b ++ c))
three before a b c = simp append_assoc

-- and four
pub four : (before a b c d : List ℕ) → (((before ++ a) ++ b) ++ c) ++ d ≡ before ++ (a ++ (b ++ (c ++ d)))
four before a b c d = simp append_assoc
