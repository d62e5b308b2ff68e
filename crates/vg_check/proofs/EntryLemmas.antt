-- For `interfaces`, `nodes`, `errors`, `put_errors` and `is_reported`: lists of counts, entry by entry.
use Rattle.std.proofs.Common.{◌≡◌, ℕ, zero, suc, ◌+◌, ◌<◌, ◌≤◌, Bool, true, false, cond, List, [], ◌∷◌, ◌++◌, length, get_or, map, take, refl, sym, ap, ◌∙◌, arith, append-nil, append_assoc}
use Rattle.std.specs.Prelude.{slice_get, slice_index, Some, filter, flat_map, nat_lt}
use Rattle.std.specs.List.{enumerate_from}
use Rattle.std.proofs.lemmas.List.{take_more, map_push, length-take-le}
use Rattle.std.proofs.lemmas.Bool.{lt-ltb, le-ltb}
use Rattle.std.proofs.lemmas.List.Concat.{flat_map-append}
use Rattle.std.proofs.lemmas.Option.{none-some, same_Some, get_or_from_slice_get, slice_get_within}
use Rattle.vg_model.specs.declared.kinds.DropError.{DropError}
use Rattle.vg_model.specs.Errors.{all_errors}
use Rattle.vg_model.specs.declared.fates.End.{End}
use Rattle.vg_model.specs.declared.fates.End.TheVariants as ends
use Rattle.vg_model.specs.declared.routes.Prefix.{Prefix}
use Rattle.vg_model.specs.declared.routes.Prefix6.{Prefix6}
use Rattle.vg_model.specs.declared.routes.RouteTo.{RouteTo}
use Rattle.vg_model.specs.Graph.{Graph, Node, with_routes}
use Rattle.vg_model.specs.Journey.{Course, end_of}
use Rattle.vg_report.specs.declared.reports.PacketLine.{PacketLine}
use Rattle.vg_check.specs.Output.{named_end}
use Rattle.vg_check.specs.Reports.{counted, made_entry, made_of, made_by, all_made, line_by, lines_by}

-- entries with their numbers, and one more behind them
enumerate_push : {X : Type 0} (k : ℕ) (xs : List X) (x : X) → enumerate_from k (xs ++ x ∷ []) ≡ enumerate_from k xs ++ (k + length xs, x) ∷ []
enumerate_push k [] x = ap (λ n. (n, x) ∷ []) (omega arith)
enumerate_push k (y ∷ xs) x =
    let n : k + 1 + length xs ≡ k + suc (length xs) = omega arith in
    ap (λ l. (k, y) ∷ l) (enumerate_push (k + 1) xs x ∙ ap (λ m. enumerate_from (k + 1) xs ++ (m, x) ∷ []) n)

-- the first entries and the next, which a graph tells
pub next_entry : {X : Type 0} (xs : List X) (n : ℕ) (x : X) → slice_get xs n ≡ Some x → take (n + 1) xs ≡ take n xs ++ x ∷ []
next_entry xs n x e = take_more xs n x (slice_get_within xs n x e) ∙ ap (λ y. take n xs ++ y ∷ []) (get_or_from_slice_get xs n x x e)

next_numbered : {X : Type 0} (xs : List X) (n : ℕ) (x : X) → slice_get xs n ≡ Some x → enumerate_from 0 (take (n + 1) xs) ≡ enumerate_from 0 (take n xs) ++ (n, x) ∷ []
next_numbered xs n x e =
    let within : n < length xs = slice_get_within xs n x e in
    let count : 0 + length (take n xs) ≡ n = omega (arith, length-take-le n xs (omega (arith, within))) in
    ap (enumerate_from 0) (next_entry xs n x e) ∙ (enumerate_push 0 (take n xs) x ∙ ap (λ m. enumerate_from 0 (take n xs) ++ (m, x) ∷ []) count)

-- counts by name, and one more
pub counted_more : {X : Type 0} (name_of : X → List ℕ) (xs : List X) (counts : List ℕ) (n : ℕ) (x : X) → slice_get xs n ≡ Some x
    → counted name_of (take (n + 1) xs) counts ≡ counted name_of (take n xs) counts ++ (name_of x, slice_index counts n) ∷ []
counted_more {X} name_of xs counts n x e =
    let entry : ℕ × X → List ℕ × ℕ = λ numbered. (name_of numbered.1, slice_index counts numbered.0) in
    ap (map entry) (next_numbered xs n x e) ∙ map_push entry (enumerate_from 0 (take n xs)) (n, x)

-- the errors of nodes, and those of one more node
pub made_more : (nodes : List Node) (drops : List (List ℕ)) (n : ℕ) (node : Node) → slice_get nodes n ≡ Some node
    → all_made (take (n + 1) nodes) drops ≡ all_made (take n nodes) drops ++ made_of node.name (made_by drops n) all_errors
made_more nodes drops n node e =
    let of_node : ℕ × Node → List (List ℕ × DropError × ℕ) = λ numbered. made_of numbered.1.name (made_by drops numbered.0) all_errors in
    ap (flat_map of_node) (next_numbered nodes n node e) ∙ (flat_map-append of_node (enumerate_from 0 (take n nodes)) ((n, node) ∷ [])
    ∙ ap (λ l. all_made (take n nodes) drops ++ l) (append-nil (made_of node.name (made_by drops n) all_errors)))

-- what passes, and one more
filter_push : {X : Type 0} (p : X → Bool) (xs : List X) (x : X) → filter p (xs ++ x ∷ []) ≡ filter p xs ++ cond (p x) (x ∷ []) []
filter_push p [] x = refl
filter_push {X} p (y ∷ xs) x = ap (λ l. cond (p y) (y ∷ l) l) (filter_push p xs x) ∙ by_test (p y) (filter p xs) (cond (p x) (x ∷ []) [])
  where
    by_test : (b : Bool) (l t : List X) → cond b (y ∷ (l ++ t)) (l ++ t) ≡ cond b (y ∷ l) l ++ t
    by_test true l t = refl
    by_test false l t = refl

-- the errors that were made, and the next
made_push : (name : List ℕ) (count : DropError → ℕ) (errors : List DropError) (error : DropError)
    → made_of name count (errors ++ error ∷ []) ≡ made_of name count errors ++ cond (nat_lt 0 (count error)) ((name, error, count error) ∷ []) []
made_push name count errors error =
    ap (filter (λ (entry : List ℕ × DropError × ℕ). nat_lt 0 entry.2)) (map_push (made_entry name count) errors error)
    ∙ filter_push (λ (entry : List ℕ × DropError × ℕ). nat_lt 0 entry.2) (map (made_entry name count) errors) (name, error, count error)

-- an error that was made is added to those before it
pub error_added : (before so_far after : List (List ℕ × DropError × ℕ)) (name copy : List ℕ) (count : DropError → ℕ) (errors : List DropError) (error : DropError)
    → 0 < count error → so_far ≡ before ++ made_of name count errors → copy ≡ name
    → after ≡ so_far ++ (copy, error, count error) ∷ [] → after ≡ before ++ made_of name count (errors ++ error ∷ [])
error_added before so_far after name copy count errors error made e same more =
    more ∙ (ap (λ l. l ++ (copy, error, count error) ∷ []) e
    ∙ (ap (λ c. (before ++ made_of name count errors) ++ (c, error, count error) ∷ []) same
    ∙ (append_assoc before (made_of name count errors) ((name, error, count error) ∷ [])
    ∙ ap (λ l. before ++ l) (sym (made_push name count errors error
    ∙ ap (λ b. made_of name count errors ++ cond b ((name, error, count error) ∷ []) []) (lt-ltb 0 (count error) made))))))

-- one that was not made isn't
pub error_passed : (before so_far : List (List ℕ × DropError × ℕ)) (name : List ℕ) (count : DropError → ℕ) (errors : List DropError) (error : DropError)
    → count error ≤ 0 → so_far ≡ before ++ made_of name count errors → so_far ≡ before ++ made_of name count (errors ++ error ∷ [])
error_passed before so_far name count errors error none e =
    let test : nat_lt 0 (count error) ≡ false = le-ltb 0 (count error) none in
    e ∙ ap (λ l. before ++ l) (sym (made_push name count errors error
    ∙ (ap (λ b. made_of name count errors ++ cond b ((name, error, count error) ∷ []) []) test
    ∙ append-nil (made_of name count errors))))

-- the lines of packets, and the next
pub lines_more : (g : Graph) (k : ℕ) (lines : List PacketLine) (trips : List Course) (line : PacketLine) (t : Course) → slice_get lines k ≡ Some line → k < length trips → t ≡ get_or trips k t
    → lines_by g (take (k + 1) lines) (take (k + 1) trips) ≡ lines_by g (take k lines) (take k trips) ++ line_by g line.congested t ∷ []
lines_more g k [] trips line t e h read = absurd (none-some line e)
lines_more g k (l ∷ lines) [] line t e h read = absurd (omega (arith, h))
lines_more g zero (l ∷ lines) (s ∷ trips) line t e h read =
    let same : l ≡ line = same_Some l line e in
    let there : s ≡ t = sym read in
    λ i. line_by g (same i).congested (there i) ∷ []
lines_more g (suc k) (l ∷ lines) (s ∷ trips) line t e h read =
    ap (λ n. lines_by g (take n (l ∷ lines)) (take n (s ∷ trips))) (let m : suc k + 1 ≡ suc (k + 1) = omega arith in m)
    ∙ ap (λ ls. line_by g l.congested s ∷ ls) (lines_more g k lines trips line t e (omega (arith, h)) read)

-- lines say nothing of routes
pub lines_with_routes : (g : Graph) (routes : List (Prefix × RouteTo)) (routes6 : List (Prefix6 × RouteTo)) (lines : List PacketLine) (trips : List Course)
    → lines_by g lines trips ≡ lines_by (with_routes g routes routes6) lines trips
lines_with_routes g routes routes6 [] trips = refl
lines_with_routes g routes routes6 (line ∷ lines) [] = refl
lines_with_routes g routes routes6 (line ∷ lines) (t ∷ trips) =
    let here : named_end g (end_of t.outcome) ≡ named_end (with_routes g routes routes6) (end_of t.outcome) = same_end (end_of t.outcome) in
    let later = lines_with_routes g routes routes6 lines trips in
    λ i. record { legs = t.legs; congested = line.congested; end = here i } ∷ later i
  where
    same_end : (end : End) → named_end g end ≡ named_end (with_routes g routes routes6) end
    same_end (ends.Tx interface) = refl
    same_end (ends.Dropped node error) = refl
