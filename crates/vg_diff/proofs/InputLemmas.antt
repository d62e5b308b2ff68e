-- For the clauses of `load_all` and `load_input`: what stands under names.
use Rattle.std.proofs.Common.{◌≡◌, ℕ, ◌+◌, ◌<◌, List, [], ◌∷◌, ◌++◌, length, get_or, take, sym, ap, subst, ◌∙◌, Bor}
use Rattle.std.specs.Prelude.{Option}
use Rattle.std.specs.List.{AllZip}
use Rattle.std.proofs.lemmas.List.{map-append, take_more}
use Rattle.vg_capture.specs.declared.captures.Capture.{Capture}
use Rattle.vg_outside.specs.Files.{Files}
use Rattle.vg_diff.specs.Asked.{texts}
use Rattle.vg_diff.specs.Files.{IsCaptureAt}

-- one more on both sides
zip_push : (R : List ℕ → Capture → Type 0) (xs : List (List ℕ)) (ys : List Capture) (x : List ℕ) (y : Capture) → AllZip R xs ys → R x y → AllZip R (xs ++ x ∷ []) (ys ++ y ∷ [])
zip_push R [] [] x y all one = (one, tt)
zip_push R [] (c ∷ cs) x y all one = absurd all
zip_push R (n ∷ ns) [] x y all one = absurd all
zip_push R (n ∷ ns) (c ∷ cs) x y all one = (all.0, zip_push R ns cs x y all.1 one)

-- the savefile of one name more
pub captures_more : (files now : Option Files) (names : List (Bor (List ℕ))) (i : ℕ) (d : Bor (List ℕ)) (before after : List Capture) (capture : Capture)
    → now ≡ files → i < length names → AllZip (IsCaptureAt files) (texts (take i names)) before → IsCaptureAt now (get_or names i d).now capture
    → after ≡ before ++ capture ∷ [] → AllZip (IsCaptureAt files) (texts (take (i + 1) names)) after
captures_more files now names i d before after capture same below so_far is are =
    subst (λ cs. AllZip (IsCaptureAt files) (texts (take (i + 1) names)) cs) (sym are)
    (subst (λ ns. AllZip (IsCaptureAt files) ns (before ++ capture ∷ [])) (sym (ap texts (take_more names i d below) ∙ map-append (λ (name : Bor (List ℕ)). name.now) (take i names) (get_or names i d ∷ [])))
    (zip_push (IsCaptureAt files) (texts (take i names)) before (get_or names i d).now capture so_far (subst (λ fs. IsCaptureAt fs (get_or names i d).now capture) same is)))
