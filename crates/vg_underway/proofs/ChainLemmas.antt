-- For `draw_own`: the chains of packets that are drawn, out of a cache.
use Rattle.std.proofs.Common.{◌≡◌, ℕ, suc, ◌+◌, ◌-◌, ◌≤◌, ◌<◌, inl, inr, List, [], ◌∷◌, ◌++◌, length, refl, sym, ap, subst, ◌∙◌, arith}
use Rattle.std.specs.Prelude.{slice_index_or}
use Rattle.std.specs.List.{sum_by}
use Rattle.std.proofs.lemmas.Bool.{cases_lt, le-ltb, lt-ltb}
use Rattle.std.proofs.lemmas.List.Sums.{sum_by-cons, sum_by-append}
use Rattle.vg_model.specs.Journey.{longest_packet}
use Rattle.vg_model.specs.PoolBook.{CacheBook, pieces_of}
use Rattle.vg_journeys.specs.Trips.{Drawn}
use Rattle.vg_journeys.specs.Windows.{next_draws, mark_behind}
use Rattle.vg_underway.specs.Draws.{kept_pieces, AreChained}
use Rattle.vg_underway.proofs.DrawLemmas.{IsTakenOut}

-- the chain of a packet that was received
pub taken_out : (bytes : List ℕ) (before cache : CacheBook) → pieces_of (length bytes) ≤ before.len
    → cache ≡ record before { len = before.len - pieces_of (length bytes); allocated = before.allocated + pieces_of (length bytes) } → IsTakenOut bytes before cache
taken_out bytes before cache enough is = record {
  len = (let e = ap (λ c. c.len) is in omega (arith, e, enough));
  freed = ap (λ c. c.freed) is;
  allocated = ap (λ c. c.allocated) is;
  taken = ap (λ c. c.taken) is;
  given = ap (λ c. c.given) is;
}

-- none is drawn yet
pub chained_none : (workers mark : ℕ) (packets : List (List ℕ)) (cached : ℕ) → AreChained workers mark 0 packets cached cached
chained_none workers mark packets cached = record { each = λ k h. absurd (omega (arith, h)); left_is = omega arith }

-- a packet that isn't too long keeps its chain; the other gives it back
pub kept_short : (number : ℕ) (bytes : List ℕ) → length bytes ≤ longest_packet → kept_pieces (Drawn number bytes) ≡ pieces_of (length bytes)
kept_short number bytes short = rw (le-ltb longest_packet (length bytes) short) refl

pub kept_long : (number : ℕ) (bytes : List ℕ) → longest_packet < length bytes → kept_pieces (Drawn number bytes) ≡ 0
kept_long number bytes long = rw (lt-ltb longest_packet (length bytes) long) refl

-- one more
pub chained_more : (workers mark count number : ℕ) (packets : List (List ℕ)) (bytes : List ℕ) (cached left next : ℕ) → number ≡ mark_behind workers mark count → slice_index_or packets number [] ≡ bytes
    → next_draws workers mark (suc count) packets ≡ next_draws workers mark count packets ++ Drawn number bytes ∷ [] → AreChained workers mark count packets cached left
    → pieces_of (length bytes) ≤ left → next + kept_pieces (Drawn number bytes) ≡ left → AreChained workers mark (suc count) packets cached next
chained_more workers mark count number packets bytes cached left next is there draws chained fits kept = record {
  each = λ k h.
      elim (cases_lt k count) [
        | inl less ↦ chained.each k less
        | inr more ↦ subst Fits (let same : count ≡ k = omega (arith, h, more) in same) last
      ];
  left_is = (let so_far = chained.left_is in omega (arith, so_far, kept, all));
}
  where
    Fits : ℕ → Type 0
    Fits k = sum_by kept_pieces (next_draws workers mark k packets) + pieces_of (length (slice_index_or packets (mark_behind workers mark k) [])) ≤ cached

    last : Fits count
    last =
        let size = ap (λ (b : List ℕ). pieces_of (length b)) (ap (λ n. slice_index_or packets n []) (sym is) ∙ there) in
        let so_far = chained.left_is in
        omega (arith, size, so_far, fits)

    all : sum_by kept_pieces (next_draws workers mark (suc count) packets) ≡ sum_by kept_pieces (next_draws workers mark count packets) + kept_pieces (Drawn number bytes)
    all =
        let one = sum_by-cons kept_pieces (Drawn number bytes) [] in
        let both = sum_by-append kept_pieces (next_draws workers mark count packets) (Drawn number bytes ∷ []) in
        let same = ap (sum_by kept_pieces) draws in
        omega (arith, one, both, same)
