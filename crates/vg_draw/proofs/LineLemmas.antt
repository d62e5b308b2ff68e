-- For the clauses of the functions that append lines (`lines`, `words`, `prefixes`, `shares`, `drawing`), and for `leads_to_drop`: lines in a row, and what
-- stands at a place of a graph.
use Rattle.std.proofs.Common.{◌≡◌, ℕ, ◌+◌, ◌<◌, List, [], ◌∷◌, ◌++◌, length, take, get_or, refl, sym, ap, ◌∙◌, append-nil, append_assoc, add-zero, zero-add, suc, map, length-take-le, arith, flat_map, decimal}
use Rattle.std.proofs.lemmas.List.{take_more}
use Rattle.std.proofs.lemmas.Grind.{flat_map-append}
use Rattle.std.proofs.lemmas.Option.{get_or_from_slice_get, slice_get_within}
use Rattle.std.specs.Prelude.{Option, Some, None, option_map, option_and_then, unwrap_or, slice_get}
use Rattle.std.specs.List.{join_with_byte}
use Rattle.vg_model.specs.declared.kinds.Kind.{Kind}
use Rattle.vg_model.specs.Graph.{Graph, Node, kind_at, slots, arc, next_nodes}
use Rattle.vg_model.specs.Valid.{IsValid}
use Rattle.vg_model.proofs.Journeys.{map_some}
use Rattle.vg_model.proofs.LegEnds.{all_at}
use Rattle.vg_draw.specs.Prefixes.{pair_text, group_text}
use Rattle.vg_draw.specs.Drawing.{carrying, sent_text, numbered, all_of}

-- pieces joined by a byte are the first, and each other behind the byte
join_with_byte-cons : (c : ℕ) (x : List ℕ) (xs : List (List ℕ)) → join_with_byte c (x ∷ xs) ≡ x ++ flat_map (λ y. c ∷ y) xs
join_with_byte-cons c x [] = sym (append-nil x)
join_with_byte-cons c x (y ∷ ys) = ap (λ r. x ++ c ∷ r) (join_with_byte-cons c y ys)

-- the texts of elements joined by a byte are that of the first, and each other behind the byte
joined_map-cons : {X : Type 0} (c : ℕ) (f : X → List ℕ) (x : X) (xs : List X)
    → join_with_byte c (map f (x ∷ xs)) ≡ f x ++ flat_map (λ y. c ∷ f y) xs
joined_map-cons {X = X} c f x xs = join_with_byte-cons c (f x) (map f xs) ∙ ap (λ r. f x ++ r) (behind xs)
  where
    behind : (ys : List X) → flat_map (λ y. c ∷ y) (map f ys) ≡ flat_map (λ y. c ∷ f y) ys
    behind [] = refl
    behind (y ∷ ys) = ap (λ r. (c ∷ f y) ++ r) (behind ys)

-- the pairs of a link-layer address, the numbers of an IPv4 address and the groups of an IPv6 address, from the first on
pub pairs-cons : (byte : ℕ) (bytes : List ℕ) → join_with_byte 58 (map pair_text (byte ∷ bytes)) ≡ pair_text byte ++ flat_map (λ b. 58 ∷ pair_text b) bytes
pairs-cons byte bytes = joined_map-cons 58 pair_text byte bytes

pub parts-cons : (byte : ℕ) (bytes : List ℕ) → join_with_byte 46 (map decimal (byte ∷ bytes)) ≡ decimal byte ++ flat_map (λ b. 46 ∷ decimal b) bytes
parts-cons byte bytes = joined_map-cons 46 decimal byte bytes

pub groups-cons : (group : ℕ) (groups : List ℕ) → join_with_byte 58 (map group_text (group ∷ groups)) ≡ group_text group ++ flat_map (λ g. 58 ∷ group_text g) groups
groups-cons group groups = joined_map-cons 58 group_text group groups

-- the lines of elements in front of an element, and the line of that
numbered-append : {X : Type 0} (f : ℕ → X → List ℕ) (n : ℕ) (xs : List X) (x : X) → all_of (numbered f n (xs ++ x ∷ [])) ≡ all_of (numbered f n xs) ++ f (n + length xs) x
numbered-append f n [] x = append-nil (f n x) ∙ ap (λ m. f m x) (sym (add-zero n))
numbered-append f n (y ∷ ys) x =
    ap (λ r. f n y ++ r) (numbered-append f (suc n) ys x)
    ∙ ap (λ m. f n y ++ (all_of (numbered f (suc n) ys) ++ f m x)) (let shifted : suc n + length ys ≡ n + suc (length ys) = omega arith in shifted)
    ∙ sym (append_assoc (f n y) (all_of (numbered f (suc n) ys)) (f (n + suc (length ys)) x))

-- one more element, and the line that it adds
numbered_more : {X : Type 0} (f : ℕ → X → List ℕ) (xs : List X) (i : ℕ) (x : X) → slice_get xs i ≡ Some x
    → all_of (numbered f 0 (take (i + 1) xs)) ≡ all_of (numbered f 0 (take i xs)) ++ f i x
numbered_more f xs i x at =
    let inside : i < length xs = slice_get_within xs i x at in
    ap (λ ys. all_of (numbered f 0 ys)) (take_more xs i x inside ∙ ap (λ y. take i xs ++ y ∷ []) (get_or_from_slice_get xs i x x at))
    ∙ numbered-append f 0 (take i xs) x
    ∙ ap (λ m. all_of (numbered f 0 (take i xs)) ++ f m x) (zero-add (length (take i xs)) ∙ length-take-le i xs (omega (arith, inside)))

-- the lines of the elements so far stand behind what stood before, and the line of one more is appended
pub one_more_line : {X : Type 0} (f : ℕ → X → List ℕ) (xs : List X) (i : ℕ) (x : X) (before out out' : List ℕ) → slice_get xs i ≡ Some x
    → out ≡ before ++ all_of (numbered f 0 (take i xs)) → out' ≡ out ++ f i x → out' ≡ before ++ all_of (numbered f 0 (take (i + 1) xs))
one_more_line f xs i x before out out' at so_far more =
    more ∙ ap (λ r. r ++ f i x) so_far ∙ append_assoc before (all_of (numbered f 0 (take i xs))) (f i x)
    ∙ ap (λ r. before ++ r) (sym (numbered_more f xs i x at))

-- the node of this number has this name and this kind
pub record IsNodeAt (nodes : List Node) (i : ℕ) (name : List ℕ) (kind : Kind) : Type 0 where
  pub node : Node
  pub at : slice_get nodes i ≡ Some node
  pub is_name : node.name ≡ name
  pub is_kind : node.kind ≡ kind

pub node_at : (nodes : List Node) (i : ℕ) (name : List ℕ) (kind : Kind) → option_map (λ (n : Node). n.name) (slice_get nodes i) ≡ Some name
    → option_map (λ (n : Node). n.kind) (slice_get nodes i) ≡ Some kind → IsNodeAt nodes i name kind
node_at nodes i name kind is_name is_kind = by_cases (slice_get nodes i) refl
  where
    by_cases : (o : Option Node) → slice_get nodes i ≡ o → IsNodeAt nodes i name kind
    by_cases None e = let nothing : None ≡ Some name = ap (option_map (λ (n : Node). n.name)) (sym e) ∙ is_name in cc nothing
    by_cases (Some node) e = record {
      node = node;
      at = e;
      is_name = let same : Some node.name ≡ Some name = ap (option_map (λ (n : Node). n.name)) (sym e) ∙ is_name in cc same;
      is_kind = let same : Some node.kind ≡ Some kind = ap (option_map (λ (n : Node). n.kind)) (sym e) ∙ is_kind in cc same;
    }

-- the arc of a slot is among the arcs of its node
pub arc_among : (g : Graph) (n slot target : ℕ) → arc g n slot ≡ Some target → slice_get (next_nodes g n) slot ≡ Some target
arc_among g n slot target = by_cases (slice_get g.nodes n)
  where
    by_cases : (o : Option Node) → option_and_then (λ (node : Node). slice_get node.arcs slot) o ≡ Some target
        → slice_get (unwrap_or (option_map (λ (node : Node). node.arcs) o) []) slot ≡ Some target
    by_cases None e = absurd (cc e)
    by_cases (Some node) e = e

-- a node of a valid graph has an arc for each slot of its kind
pub length-next_nodes : (g : Graph) (n : ℕ) (kind : Kind) → IsValid g → kind_at g n ≡ Some kind → length (next_nodes g n) ≡ length (slots kind)
length-next_nodes g n kind valid is_kind =
    let found = map_some (λ (node : Node). node.kind) (slice_get g.nodes n) kind is_kind in
    ap (λ (o : Option Node). length (unwrap_or (option_map (λ (node : Node). node.arcs) o) [])) found.1
    ∙ all_at (λ (node : Node). length node.arcs ≡ length (slots node.kind)) g.nodes n found.0 found.1 valid.whole
    ∙ ap (λ k. length (slots k)) found.2

-- a text in five pieces
pub five : (before a b c d e : List ℕ) → ((((before ++ a) ++ b) ++ c) ++ d) ++ e ≡ before ++ (a ++ (b ++ (c ++ (d ++ e))))
five before a b c d e = simp append_assoc

-- a line: two blanks, what a thing is named, its shape, and then two, four, six or eight pieces
pub two_behind : (before begin id shape a b : List ℕ) → ((before ++ (begin ++ (id ++ shape))) ++ a) ++ b ≡ before ++ (begin ++ (id ++ (shape ++ (a ++ b))))
two_behind before begin id shape a b = simp append_assoc

pub four_behind : (before begin id shape a b c d : List ℕ)
    → ((((before ++ (begin ++ (id ++ shape))) ++ a) ++ b) ++ c) ++ d ≡ before ++ (begin ++ (id ++ (shape ++ (a ++ (b ++ (c ++ d))))))
four_behind before begin id shape a b c d = simp append_assoc

pub six_behind : (before begin id shape a b c d e f : List ℕ)
    → ((((((before ++ (begin ++ (id ++ shape))) ++ a) ++ b) ++ c) ++ d) ++ e) ++ f ≡ before ++ (begin ++ (id ++ (shape ++ (a ++ (b ++ (c ++ (d ++ (e ++ f))))))))
six_behind before begin id shape a b c d e f = simp append_assoc

pub eight_behind : (before begin id shape a b c d e f g h : List ℕ)
    → ((((((((before ++ (begin ++ (id ++ shape))) ++ a) ++ b) ++ c) ++ d) ++ e) ++ f) ++ g) ++ h
    ≡ before ++ (begin ++ (id ++ (shape ++ (a ++ (b ++ (c ++ (d ++ (e ++ (f ++ (g ++ h))))))))))
eight_behind before begin id shape a b c d e f g h = simp append_assoc

-- a line in its pieces, each appended to what stood before it
pub four_steps : (before begin id shape a b c d : List ℕ) {v w x y z : List ℕ} → v ≡ before ++ (begin ++ (id ++ shape)) → w ≡ v ++ a → x ≡ w ++ b → y ≡ x ++ c
    → z ≡ y ++ d → z ≡ before ++ (begin ++ (id ++ (shape ++ (a ++ (b ++ (c ++ d))))))
four_steps before begin id shape a b c d p q r s t = cc (p, q, r, s, t, four_behind before begin id shape a b c d)

pub eight_steps : (before begin id shape a b c d e f g h : List ℕ) {o p q r s t u v w : List ℕ} → o ≡ before ++ (begin ++ (id ++ shape)) → p ≡ o ++ a → q ≡ p ++ b
    → r ≡ q ++ c → s ≡ r ++ d → t ≡ s ++ e → u ≡ t ++ f → v ≡ u ++ g → w ≡ v ++ h
    → w ≡ before ++ (begin ++ (id ++ (shape ++ (a ++ (b ++ (c ++ (d ++ (e ++ (f ++ (g ++ h))))))))))
eight_steps before begin id shape a b c d e f g h e0 e1 e2 e3 e4 e5 e6 e7 e8 =
    cc (e0, e1, e2, e3, e4, e5, e6, e7, e8, eight_behind before begin id shape a b c d e f g h)

-- what a line carried, by its parts
pub carrying_same : {p p' : ℕ} {w w' : List ℕ} {n n' : Option ℕ} → p ≡ p' → w ≡ w' → n ≡ n' → carrying p w n ≡ carrying p' w' n'
carrying_same {p = p} {p' = p'} {w = w} {w' = w'} {n = n} {n' = n'} same_packets same_word same_count =
    ap (λ x. carrying x w n) same_packets ∙ ap (λ x. carrying p' x n) same_word ∙ ap (λ x. carrying p' w' x) same_count

pub sent_same : {p p' : ℕ} {n n' : Option ℕ} → p ≡ p' → n ≡ n' → sent_text p n ≡ sent_text p' n'
sent_same {p = p} {p' = p'} {n = n} {n' = n'} same_packets same_count = ap (λ x. sent_text x n) same_packets ∙ ap (λ x. sent_text p' x) same_count

-- the drawing in its parts, each appended to what stood before it
pub drawing_steps : (before head nodes arcs drops interfaces adjacencies end : List ℕ) {a b c d e f g : List ℕ} → a ≡ before ++ head → b ≡ a ++ nodes → c ≡ b ++ arcs
    → d ≡ c ++ drops → e ≡ d ++ interfaces → f ≡ e ++ adjacencies → g ≡ f ++ end
    → g ≡ before ++ (head ++ (nodes ++ (arcs ++ (drops ++ (interfaces ++ (adjacencies ++ end))))))
drawing_steps before head nodes arcs drops interfaces adjacencies end p q r s t u v = cc (p, q, r, s, t, u, v, regrouped)
  where
    regrouped : ((((((before ++ head) ++ nodes) ++ arcs) ++ drops) ++ interfaces) ++ adjacencies) ++ end
        ≡ before ++ (head ++ (nodes ++ (arcs ++ (drops ++ (interfaces ++ (adjacencies ++ end))))))
    regrouped = simp append_assoc

-- one more element, and the text that it adds
pub one_more_text : {X : Type 0} (f : X → List ℕ) (xs : List X) (i : ℕ) (x : X) (before out out' : List ℕ) → i < length xs → x ≡ get_or xs i x
    → out ≡ before ++ flat_map f (take i xs) → out' ≡ out ++ f x → out' ≡ before ++ flat_map f (take (i + 1) xs)
one_more_text f xs i x before out out' h at so_far more =
    more ∙ ap (λ r. r ++ f x) so_far ∙ append_assoc before (flat_map f (take i xs)) (f x)
    ∙ ap (λ y. before ++ (flat_map f (take i xs) ++ f y)) at
    ∙ ap (λ r. before ++ (flat_map f (take i xs) ++ r)) (sym (append-nil (f (get_or xs i x))))
    ∙ ap (λ r. before ++ r) (sym (flat_map-append f (take i xs) (get_or xs i x ∷ [])))
    ∙ ap (λ ys. before ++ flat_map f ys) (sym (take_more xs i x h))

-- a line of a node more
pub one_more_node : (f : ℕ → List ℕ → Kind → List ℕ) (nodes : List Node) (i : ℕ) (name : List ℕ) (kind : Kind) (before out out' : List ℕ)
    → IsNodeAt nodes i name kind → out ≡ before ++ all_of (numbered (λ number (node : Node). f number node.name node.kind) 0 (take i nodes)) → out' ≡ out ++ f i name kind
    → out' ≡ before ++ all_of (numbered (λ number (node : Node). f number node.name node.kind) 0 (take (i + 1) nodes))
one_more_node f nodes i name kind before out out' is so_far more =
    one_more_line (λ number (node : Node). f number node.name node.kind) nodes i is.node before out out' is.at so_far
    (more ∙ ap (λ x. out ++ f i x kind) (sym is.is_name) ∙ ap (λ k. out ++ f i is.node.name k) (sym is.is_kind))

-- the lines of a node's name more
pub one_more_name : (f : ℕ → List ℕ → List ℕ) (nodes : List Node) (i : ℕ) (name : List ℕ) (before out out' : List ℕ)
    → option_map (λ (n : Node). n.name) (slice_get nodes i) ≡ Some name → out ≡ before ++ all_of (numbered (λ number (node : Node). f number node.name) 0 (take i nodes))
    → out' ≡ out ++ f i name → out' ≡ before ++ all_of (numbered (λ number (node : Node). f number node.name) 0 (take (i + 1) nodes))
one_more_name f nodes i name before out out' is so_far more =
    let found = map_some (λ (node : Node). node.name) (slice_get nodes i) name is in
    one_more_line (λ number (node : Node). f number node.name) nodes i found.0 before out out' found.1 so_far
    (more ∙ ap (λ x. out ++ f i x) (sym found.2))

-- the lines of a node's arcs more
pub one_more_arcs : (f : ℕ → List ℕ → Kind → List ℕ → List ℕ) (g : Graph) (i : ℕ) (name : List ℕ) (kind : Kind) (before out out' : List ℕ)
    → IsNodeAt g.nodes i name kind → out ≡ before ++ all_of (numbered (λ number (node : Node). f number node.name node.kind node.arcs) 0 (take i g.nodes))
    → out' ≡ out ++ f i name kind (next_nodes g i)
    → out' ≡ before ++ all_of (numbered (λ number (node : Node). f number node.name node.kind node.arcs) 0 (take (i + 1) g.nodes))
one_more_arcs f g i name kind before out out' is so_far more =
    one_more_line (λ number (node : Node). f number node.name node.kind node.arcs) g.nodes i is.node before out out' is.at so_far
    (more ∙ ap (λ x. out ++ f i x kind (next_nodes g i)) (sym is.is_name) ∙ ap (λ k. out ++ f i is.node.name k (next_nodes g i)) (sym is.is_kind)
    ∙ ap (λ arcs. out ++ f i is.node.name is.node.kind arcs) (ap (λ o. unwrap_or (option_map (λ (node : Node). node.arcs) o) []) is.at))
