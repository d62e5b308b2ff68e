-- For `print`: a text is printed piece by piece.
use Rattle.std.proofs.Common.{◌≡◌, ℕ, ◌+◌, ◌<◌, ◌≤◌, List, [], ◌++◌, length, take, drop, refl, sym, ap, subst, ◌∙◌, arith, append-nil, append_assoc, length-append}
use Rattle.std.specs.Prelude.{Option, Some, None, option_map, Result, Ok, Err, OnErr}
use Rattle.std.proofs.lemmas.List.{take-append-drop}
use Rattle.std.proofs.Math.Seq.{take-append_seam}
use Rattle.vg_outside.specs.Files.{Rose}
use Rattle.vg_drawing.specs.Run.{Appends, AppendsFront}

-- a first part of the text was printed, and this rest of it was not
pub record IsPrinting (before now : Option (List ℕ)) (text rest : List ℕ) : Type 0 where
  pub printed : List ℕ
  pub parts : printed ++ rest ≡ text
  pub so_far : Appends before now printed

-- nothing was printed
pub print_start : (before : Option (List ℕ)) (text : List ℕ) → IsPrinting before before text text
print_start before text = record { printed = []; parts = refl; so_far = nothing before }
  where
    nothing : (o : Option (List ℕ)) → o ≡ option_map (λ all. all ++ []) o
    nothing None = refl
    nothing (Some all) = ap Some (sym (append-nil all))

-- what was added, and then more
appended_twice : (o : Option (List ℕ)) (xs ys : List ℕ) → option_map (λ all. all ++ ys) (option_map (λ all. all ++ xs) o) ≡ option_map (λ all. all ++ (xs ++ ys)) o
appended_twice None xs ys = refl
appended_twice (Some all) xs ys = ap Some (append_assoc all xs ys)

-- a piece more was printed
pub print_more : (before now after : Option (List ℕ)) (text rest : List ℕ) (n : ℕ) → IsPrinting before now text rest → Appends now after (take n rest)
    → IsPrinting before after text (drop n rest)
print_more before now after text rest n i e = record {
  printed = i.printed ++ take n rest;
  parts = append_assoc i.printed (take n rest) (drop n rest) ∙ ap (λ xs. i.printed ++ xs) (take-append-drop n rest) ∙ i.parts;
  so_far = e ∙ ap (option_map (λ all. all ++ take n rest)) i.so_far ∙ appended_twice before i.printed (take n rest);
}

-- no rest is left
pub print_end : (before now : Option (List ℕ)) (text rest : List ℕ) → IsPrinting before now text rest → rest ≡ [] → Appends before now text
print_end before now text rest i e =
    subst (Appends before now) (sym (append-nil i.printed) ∙ ap (λ xs. i.printed ++ xs) (sym e) ∙ i.parts) i.so_far

-- a rest is left
pub print_front : (before now : Option (List ℕ)) (text rest : List ℕ) → IsPrinting before now text rest → 0 < length rest → AppendsFront before now text
print_front before now text rest i some =
    let whole : length i.printed + length rest ≡ length text = sym (length-append i.printed rest) ∙ ap length i.parts in
    let front : take (length i.printed) text ≡ i.printed = ap (take (length i.printed)) (sym i.parts) ∙ take-append_seam i.printed rest in
    (length i.printed, omega (arith, whole, some), subst (Appends before now) (sym front) i.so_far)

-- a rise of a count after others of its rises
pub rose_later : (first before after : ℕ) → first ≤ before → Rose before after → Rose first after
rose_later first before after h r = omega (arith, h, r)

-- what holds anyway holds on an error
pub always_on_err : {X E : Type 0} (r : Result X E) (P : Type 0) → P → OnErr r P
always_on_err (Ok x) P p = tt
always_on_err (Err e) P p = p

-- where the sink is given the rest and takes of it as many bytes
pub print_piece : (before now after : Option (List ℕ)) (text rest : List ℕ) (n : ℕ) (rest' : List ℕ) → IsPrinting before now text rest
    → Appends now after (take n rest) → rest' ≡ drop n rest → IsPrinting before after text rest'
print_piece before now after text rest n rest' i e f = subst (IsPrinting before after text) (sym f) (print_more before now after text rest n i e)
