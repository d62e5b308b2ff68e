-- For the clauses of `Work::{put_apart, group}`, `handed` of `Work::hand_over` and `drawn` of `Work::draw_own`: counts with one end more.
use Rattle.std.proofs.Common.{◌≡◌, ℕ, ◌+◌, ◌*◌, ◌<◌, ◌≤◌, Bool, true, false, cond, ◌&&◌, List, [], ◌∷◌, length, get_or, refl, sym, ap, ◌∙◌, inl, inr, arith, zero-add}
use Rattle.std.specs.Prelude.{◌==◌, slice_index, if◌then◌else◌, All}
use Rattle.std.specs.List.{sum_by}
use Rattle.std.proofs.Math.ListN.{length-set}
use Rattle.std.proofs.lemmas.List.{get_or-set_same, get_or-set_other}
use Rattle.std.proofs.lemmas.List.Elements.{All-set}
use Rattle.std.proofs.lemmas.Bool.Decides.{eqb_tells}
use Rattle.vg_model.specs.declared.kinds.DropError.{DropError}
use Rattle.vg_model.specs.declared.kinds.DropError.TheVariants as errors
use Rattle.vg_model.specs.declared.fates.End.{End}
use Rattle.vg_model.specs.declared.fates.End.TheVariants.{Tx, Dropped}
use Rattle.vg_model.specs.Errors.{error_number}
use Rattle.vg_model.specs.Graph.{error_drop}
use Rattle.vg_model.specs.Journey.{end_of}
use Rattle.vg_model.specs.Count.{is_drop, is_sent_on}
use Rattle.vg_counters.specs.Tally.{Tally, IsWhole, count_of_errors, more_at, drops_at, one_drop_more}
use Rattle.vg_journeys.specs.Ended.{drop_visits}
use Rattle.vg_underway.specs.Underway.{counts_from}
use Rattle.vg_underway.specs.Works.{counted_end, CanCount, outcome_of}
use Rattle.vg_underway.proofs.SumLemmas.{counts_from_more}

-- an error has a place in the order
pub error_within : (e : DropError) → error_number e < count_of_errors
error_within errors.Short = omega arith
error_within errors.TooLong = omega arith
error_within errors.UnknownType = omega arith
error_within errors.WrongMac = omega arith
error_within errors.BadVersion = omega arith
error_within errors.BadHeaderLength = omega arith
error_within errors.BadLength = omega arith
error_within errors.BadChecksum = omega arith
error_within errors.TtlZero = omega arith
error_within errors.Unchecked = omega arith
error_within errors.NoRoute = omega arith
error_within errors.RouteDrop = omega arith
error_within errors.Local = omega arith
error_within errors.TtlExpired = omega arith
error_within errors.MtuExceeded = omega arith
error_within errors.InterfaceDown = omega arith
error_within errors.Congestion = omega arith
error_within errors.HandoffLimit = omega arith
error_within errors.Blackhole = omega arith

-- a count that grew, at its place and elsewhere
pub more_at_read : (counts : List ℕ) (place k x : ℕ) → place < length counts → slice_index (more_at place k counts) x ≡ slice_index counts x + (if place == x then k else 0)
more_at_read counts place k x within = elim (eqb_tells place x) [
  | inl same ↦
      ap (slice_index (more_at place k counts)) (sym same.1) ∙ get_or-set_same counts place (slice_index counts place + k) 0 within
      ∙ ap (λ y. slice_index counts y + k) same.1 ∙ ap (λ b. slice_index counts x + cond b k 0) (sym same.0)
  | inr other ↦
      let left : slice_index (more_at place k counts) x ≡ slice_index counts x = get_or-set_other counts place x (slice_index counts place + k) 0 (λ e. other.1 (sym e)) in
      let right : (if place == x then k else 0) ≡ 0 = ap (λ b. cond b k 0) other.0 in
      omega (arith, left, right)
]

-- the rows of drops are whole
row_whole : (rows : List (List ℕ)) (node : ℕ) → node < length rows → All (λ row. length row ≡ count_of_errors) rows → length (get_or rows node []) ≡ count_of_errors
row_whole rows node within all = all node [] within

pub drops_more : (drops : List (List ℕ)) (node error n x : ℕ) → node < length drops → error < count_of_errors → All (λ row. length row ≡ count_of_errors) drops
    → drops_at n x (one_drop_more node error drops) ≡ drops_at n x drops + (if node == n && error == x then 1 else 0)
drops_more drops node error n x within place whole = elim (eqb_tells node n) [
  | inl same ↦
      let row = get_or drops node [] in
      let there : get_or (one_drop_more node error drops) n [] ≡ more_at error 1 row = ap (λ k. get_or (one_drop_more node error drops) k []) (sym same.1) ∙ get_or-set_same drops node (more_at error 1 row) [] within in
      let size : length row ≡ count_of_errors = row_whole drops node within whole in
      let inside : error < length row = omega (arith, size, place) in
      ap (λ r. slice_index r x) there ∙ more_at_read row error 1 x inside
      ∙ ap (λ k. slice_index (get_or drops k []) x + (if error == x then 1 else 0)) same.1
      ∙ ap (λ b. drops_at n x drops + cond (b && error == x) 1 0) (sym same.0)
  | inr other ↦
      let left : drops_at n x (one_drop_more node error drops) ≡ drops_at n x drops =
      ap (λ r. slice_index r x) (get_or-set_other drops node n (more_at error 1 (get_or drops node [])) [] (λ e. other.1 (sym e))) in
      let right : ◌≡◌ {A = ℕ} (if node == n && error == x then 1 else 0) 0 = ap (λ b. cond (b && error == x) 1 0) other.0 in
      omega (arith, left, right)
]

-- sizes stay
pub counted_nodes : (end : End) (tally : Tally) → length (counted_end end tally).visits ≡ length tally.visits
counted_nodes (Tx interface) tally = refl
counted_nodes (Dropped node error) tally = by (node == error_drop)
  where
    by : (b : Bool) → length (if b then tally.visits else more_at error_drop 1 tally.visits) ≡ length tally.visits
    by true = refl
    by false = length-set tally.visits error_drop _

pub counted_interfaces : (end : End) (tally : Tally) → length (counted_end end tally).sends ≡ length tally.sends
counted_interfaces (Tx interface) tally = length-set tally.sends interface _
counted_interfaces (Dropped node error) tally = refl

pub counted_whole : (end : End) (tally : Tally) → CanCount end tally → IsWhole tally → IsWhole (counted_end end tally)
counted_whole (Tx interface) tally can whole = record { rows = whole.rows; errors = whole.errors }
counted_whole (Dropped node error) tally can whole =
    let inside : node < length tally.drops = (let e = whole.rows in let h = can.0 in omega (arith, e, h)) in
    record {
      rows = length-set tally.drops node _ ∙ whole.rows ∙ sym (counted_nodes (Dropped node error) tally);
      errors = All-set (λ row. length row ≡ count_of_errors) tally.drops node (more_at (error_number error) 1 (get_or tally.drops node []))
          (length-set (get_or tally.drops node []) (error_number error) _ ∙ row_whole tally.drops node inside whole.errors) whole.errors;
    }

-- an end counts the visits that it brings
pub counted_visits_of : (f : ℕ → ℕ) (end : End) (tally : Tally) → CanCount end tally
    → counts_from f 0 (counted_end end tally).visits ≡ counts_from f 0 tally.visits + sum_by f (drop_visits (outcome_of end))
counted_visits_of f (Tx interface) tally can = omega arith
counted_visits_of f (Dropped node error) tally can = by (node == error_drop)
  where
    more : counts_from f 0 (more_at error_drop 1 tally.visits) ≡ counts_from f 0 tally.visits + f (0 + error_drop) * 1
    more = counts_from_more f 0 tally.visits error_drop 1 can.2

    by : (b : Bool) → counts_from f 0 (if b then tally.visits else more_at error_drop 1 tally.visits) ≡ counts_from f 0 tally.visits + sum_by f (if b then [] else error_drop ∷ [])
    by true = omega arith
    by false = let same : f (0 + error_drop) ≡ f error_drop = ap f (zero-add error_drop) in omega (arith, more, same)

-- drops and transmits count the end
pub counted_drops_at : (end : End) (tally : Tally) (n x : ℕ) → CanCount end tally → IsWhole tally → drops_at n x (counted_end end tally).drops ≤ drops_at n x tally.drops + 1
counted_drops_at (Tx interface) tally n x can whole = omega arith
counted_drops_at (Dropped node error) tally n x can whole =
    let inside : node < length tally.drops = (let e = whole.rows in let h = can.0 in omega (arith, e, h)) in
    let e = drops_more tally.drops node (error_number error) n x inside (error_within error) whole.errors in
    let most = at_most (node == n && error_number error == x) in
    omega (arith, e, most)
  where
    at_most : (b : Bool) → cond b 1 0 ≤ 1
    at_most true = omega arith
    at_most false = omega arith

pub counted_drops : (end : End) (tally : Tally) (n : ℕ) (error : DropError) → CanCount end tally → IsWhole tally
    → drops_at n (error_number error) (counted_end end tally).drops ≡ drops_at n (error_number error) tally.drops + (if is_drop n error (end_of (outcome_of end)) then 1 else 0)
counted_drops (Tx interface) tally n error can whole = omega arith
counted_drops (Dropped node dropped) tally n error can whole =
    let inside : node < length tally.drops = (let e = whole.rows in let h = can.0 in omega (arith, e, h)) in
    drops_more tally.drops node (error_number dropped) n (error_number error) inside (error_within dropped) whole.errors

pub counted_sends : (end : End) (tally : Tally) (i : ℕ) → CanCount end tally
    → slice_index (counted_end end tally).sends i ≡ slice_index tally.sends i + (if is_sent_on i (end_of (outcome_of end)) then 1 else 0)
counted_sends (Tx interface) tally i can = more_at_read tally.sends interface 1 i can.0
counted_sends (Dropped node error) tally i can = omega arith
