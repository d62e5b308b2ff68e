-- For `print_script` and what it calls: words, lines and blocks in a row.
use Rattle.std.proofs.Common.{◌≡◌, ℕ, List, [], ◌∷◌, ◌++◌, refl, sym, ap, ◌∙◌, map, append-nil, append_assoc}
use Rattle.std.specs.Prelude.{flat_map, codes, decimal}
use Rattle.std.specs.List.{join_with_byte}
use Rattle.vg_script.specs.Statements.{Words}
use Rattle.vg_script.specs.Plain.{line_text, pair_text, group_text}

-- pieces joined by a byte are the first, and each other behind the byte
pub join_with_byte-cons : (c : ℕ) (x : List ℕ) (xs : List (List ℕ)) → join_with_byte c (x ∷ xs) ≡ x ++ flat_map (λ y. c ∷ y) xs
join_with_byte-cons c x [] = sym (append-nil x)
join_with_byte-cons c x (y ∷ ys) = ap (λ r. x ++ c ∷ r) (join_with_byte-cons c y ys)

-- the texts of elements joined by a byte are that of the first, and each other behind the byte
pub joined_map-cons : {X : Type 0} (c : ℕ) (f : X → List ℕ) (x : X) (xs : List X)
    → join_with_byte c (map f (x ∷ xs)) ≡ f x ++ flat_map (λ y. c ∷ f y) xs
joined_map-cons {X = X} c f x xs = join_with_byte-cons c (f x) (map f xs) ∙ ap (λ r. f x ++ r) (behind xs)
  where
    behind : (ys : List X) → flat_map (λ y. c ∷ y) (map f ys) ≡ flat_map (λ y. c ∷ f y) ys
    behind [] = refl
    behind (y ∷ ys) = ap (λ r. (c ∷ f y) ++ r) (behind ys)

-- a link-layer address, and an address, from its first byte on
pub pairs-cons : (byte : ℕ) (bytes : List ℕ) → join_with_byte 58 (map pair_text (byte ∷ bytes)) ≡ pair_text byte ++ flat_map (λ b. 58 ∷ pair_text b) bytes
pairs-cons byte bytes = joined_map-cons 58 pair_text byte bytes

pub parts-cons : (byte : ℕ) (bytes : List ℕ) → join_with_byte 46 (map decimal (byte ∷ bytes)) ≡ decimal byte ++ flat_map (λ b. 46 ∷ decimal b) bytes
parts-cons byte bytes = joined_map-cons 46 decimal byte bytes

pub groups-cons : (group : ℕ) (groups : List ℕ) → join_with_byte 58 (map group_text (group ∷ groups)) ≡ group_text group ++ flat_map (λ g. 58 ∷ group_text g) groups
groups-cons group groups = joined_map-cons 58 group_text group groups

-- a line is its first word, each other behind a space, and a line feed
pub line_text-cons : (word : List ℕ) (words : Words) → line_text (word ∷ words) ≡ word ++ (flat_map (λ w. 32 ∷ w) words ++ 10 ∷ [])
line_text-cons word words = ap (λ l. l ++ 10 ∷ []) (join_with_byte-cons 32 word words) ∙ append_assoc word (flat_map (λ w. 32 ∷ w) words) (10 ∷ [])

-- lists in a row
ten : (a b c d e f g h i j : List ℕ)
    → ((((((((a ++ b) ++ c) ++ d) ++ e) ++ f) ++ g) ++ h) ++ i) ++ j ≡ a ++ (b ++ ((c ++ (d ++ (e ++ (f ++ (g ++ (h ++ i)))))) ++ j))
ten a b c d e f g h i j = simp append_assoc

-- the steps in which an interface's line is appended
pub interface_steps : (before name mac mtu state : List ℕ) (filter : Words)
    → ((((((((before ++ codes "interface") ++ 32 ∷ name) ++ 32 ∷ codes "mac") ++ 32 ∷ mac) ++ 32 ∷ codes "mtu") ++ 32 ∷ mtu) ++ 32 ∷ state)
    ++ flat_map (λ word. 32 ∷ word) filter) ++ 10 ∷ []
    ≡ before ++ line_text (codes "interface" ∷ name ∷ codes "mac" ∷ mac ∷ codes "mtu" ∷ mtu ∷ state ∷ filter)
interface_steps before name mac mtu state filter =
    ten before (codes "interface") (32 ∷ name) (32 ∷ codes "mac") (32 ∷ mac) (32 ∷ codes "mtu") (32 ∷ mtu) (32 ∷ state)
    (flat_map (λ word. 32 ∷ word) filter) (10 ∷ [])
    ∙ ap (λ r. before ++ r) (sym (line_text-cons (codes "interface") (name ∷ codes "mac" ∷ mac ∷ codes "mtu" ∷ mtu ∷ state ∷ filter)))

five : (a b c d e : List ℕ) → (((a ++ b) ++ c) ++ d) ++ e ≡ a ++ (b ++ ((c ++ d) ++ e))
five a b c d e = simp append_assoc

-- the steps in which an IPv6 route's line is appended
pub route6_steps : (before prefix : List ℕ) (target : Words)
    → (((before ++ codes "route6") ++ 32 ∷ prefix) ++ flat_map (λ word. 32 ∷ word) target) ++ 10 ∷ []
    ≡ before ++ line_text (codes "route6" ∷ prefix ∷ target)
route6_steps before prefix target =
    five before (codes "route6") (32 ∷ prefix) (flat_map (λ word. 32 ∷ word) target) (10 ∷ [])
    ∙ ap (λ r. before ++ r) (sym (line_text-cons (codes "route6") (prefix ∷ target)))
