-- For the loops of `statements`, `late` and their like: what one line, block or event more adds.
use Rattle.std.proofs.Common.{◌≡◌, ℕ, ◌+◌, ◌<◌, List, [], ◌∷◌, ◌++◌, length, map, take, get_or, sym, ap, ◌∙◌, refl, append_assoc, append-nil, Bor}
use Rattle.std.specs.Prelude.{flat_map}
use Rattle.std.proofs.lemmas.List.{take_more, flat_map_more}
use Rattle.std.proofs.lemmas.List.Concat.{flat_map-append}

-- what is seen of values that stand behind others
pub map_behind : {X Y : Type 0} (f : X → Y) (xs ys : List X) → map f (xs ++ ys) ≡ map f xs ++ map f ys
map_behind f [] ys = refl
map_behind f (x ∷ xs) ys = ap (λ rest. f x ∷ rest) (map_behind f xs ys)

-- one element more of a list, behind those in front of it
pub one_more : {X : Type 0} (front xs : List X) (i : ℕ) (x : X) → i < length xs → x ≡ get_or xs i x → (front ++ take i xs) ++ x ∷ [] ≡ front ++ take (i + 1) xs
one_more front xs i x below is =
    append_assoc front (take i xs) (x ∷ []) ∙ ap (λ more. front ++ more) (ap (λ y. take i xs ++ y ∷ []) is ∙ sym (take_more xs i x below))

-- one piece more of a list of pieces, behind those in front of it
pub piece_more : {X Y : Type 0} (f : X → List Y) (front : List Y) (xs : List X) (i : ℕ) (x : X) → i < length xs → x ≡ get_or xs i x
    → (front ++ flat_map f (take i xs)) ++ f x ≡ front ++ flat_map f (take (i + 1) xs)
piece_more f front xs i x below is =
    flat_map_more f front (take i xs) x
    ∙ ap (λ taken. front ++ flat_map f taken) (ap (λ y. take i xs ++ y ∷ []) is ∙ sym (take_more xs i x below))

-- the pieces of one element more
pub flat_map_next : {X Y : Type 0} (f : X → List Y) (xs : List X) (i : ℕ) (d : X) → i < length xs → flat_map f (take (i + 1) xs) ≡ flat_map f (take i xs) ++ f (get_or xs i d)
flat_map_next f xs i d below =
    ap (flat_map f) (take_more xs i d below)
    ∙ (flat_map-append f (take i xs) (get_or xs i d ∷ []) ∙ ap (λ piece. flat_map f (take i xs) ++ piece) (append-nil (f (get_or xs i d))))

-- the pieces of what is seen of values
pub flat_map_seen : {X Y Z : Type 0} (f : Y → List Z) (g : X → Y) (xs : List X) → flat_map f (map g xs) ≡ flat_map (λ x. f (g x)) xs
flat_map_seen f g [] = refl
flat_map_seen f g (x ∷ xs) = ap (λ rest. f (g x) ++ rest) (flat_map_seen f g xs)

-- a reference more: what all of them point to
pub pushed : {X : Type 0} (front : List X) (old new : List (Bor X)) (x : Bor X) (items : List X) (i : ℕ) (y : X) → map (λ (b : Bor X). b.now) old ≡ front ++ take i items
    → new ≡ old ++ x ∷ [] → x.now ≡ y → i < length items → y ≡ get_or items i y → map (λ (b : Bor X). b.now) new ≡ front ++ take (i + 1) items
pushed {X} front old new x items i y so_far added at below read =
    ap (map (λ (b : Bor X). b.now)) added
    ∙ (map_behind (λ (b : Bor X). b.now) old (x ∷ [])
    ∙ (ap (λ l. l ++ x.now ∷ []) so_far
    ∙ (ap (λ z. (front ++ take i items) ++ z ∷ []) at
    ∙ one_more front items i y below read)))
