-- For decide and conclude: what main may give back.
use Rattle.std.proofs.Common.{◌≡◌, ℕ, zero, suc, ◌+◌, ◌<◌, ◌≤◌, ◌⊎◌, List, [], ◌∷◌, length, map, get_or, slice_get, Some, All, inl, inr, sym, refl, ap, ◌∙◌, subst, arith}
use mathlib.Core.Option.{some, some-injective, some-ne-none}
use lib.ListN.{get_elem?}
use Rattle.std.proofs.lemmas.Option.{get_or_from_slice_get, same_Some, slice_get_within}
use Rattle.vg_model.specs.Graph.{Graph}
use Rattle.vg_barrier.specs.Seats.{IsWhole, Whole, MayReturn, first_of}
use Rattle.vg_script.specs.Events.{Event}
use Rattle.vg_capture.specs.declared.captures.Capture.{Capture}
use Rattle.vg_plan.specs.Plan.{Planned}
use Rattle.vg_dispatch.specs.declared.parcels.Stop.{Stop}
use Rattle.vg_dispatch.specs.declared.parcels.Stop.TheVariants as stops
use Rattle.vg_dispatch.specs.declared.parcels.WorkerParcel.{WorkerParcel}
use Rattle.vg_dispatch.specs.Parcels.{Fits}
use Rattle.vg_threads.specs.declared.decisions.Lead.{Lead}
use Rattle.vg_threads.specs.Turns.{IsAt}
use Rattle.vg_threads.specs.Leads.{WorkerView, StandsAt, IsLead}
use Rattle.vg_threads.specs.Renewals.{renewed, told, parcel_mark, parcel_generation}

-- an element of a mapped list
at_map : (f : WorkerParcel → WorkerParcel) (ps : List WorkerParcel) (k : ℕ) (q : WorkerParcel) → get_elem? (map f ps) k ≡ some q
    → (p : WorkerParcel) × (get_elem? ps k ≡ some p) × (q ≡ f p)
at_map f [] k q e = absurd (some-ne-none q (sym e))
at_map f (p ∷ ps) zero q e = (p, refl, sym (some-injective (f p) q e))
at_map f (p ∷ ps) (suc k) q e = at_map f ps k q e

-- where an element stands
stands_at : (ps : List WorkerParcel) (k : ℕ) (p : WorkerParcel) → get_elem? ps k ≡ some p → (k < length ps) × (get_or ps k p ≡ p)
stands_at [] k p e = absurd (some-ne-none p (sym e))
stands_at (x ∷ ps) zero p e = (omega arith, some-injective x p e)
stands_at (x ∷ ps) (suc k) p e = let t = stands_at ps k p e in (omega (arith, t.0), t.1)

holds_at : (P : WorkerParcel → Type 0) (ps : List WorkerParcel) (k : ℕ) (p : WorkerParcel) → All P ps → get_elem? ps k ≡ some p → P p
holds_at P ps k p all e = let t = stands_at ps k p e in subst P t.1 (all k p t.0)

-- the parcels are as main holds them
abbrev pub IsHeld : WorkerView → List WorkerParcel → Type 0
IsHeld m ps = Whole Fits parcel_mark parcel_generation m m.released ps

-- what main may give back, with the generation g
pub record MayGive (m : WorkerView) (g : ℕ) (ps : List WorkerParcel) : Type 0 where
  pub may : MayReturn Fits parcel_mark parcel_generation m ps
  pub generation : first_of parcel_generation ps ≡ g

-- a change that keeps the marks, and makes whole parcels of this generation or the next
gives : (f : WorkerParcel → WorkerParcel) (ps : List WorkerParcel) (m : WorkerView) (g : ℕ) → 0 < length ps → IsHeld m ps
    → ((k : ℕ) (p : WorkerParcel) → get_elem? ps k ≡ some p → Fits p m.book → p.fork.generation ≡ m.released → Fits (f p) m.book × ((f p).next ≡ p.next) × ((f p).fork.generation ≡ g))
    → (g ≡ m.released) ⊎ (g ≡ m.released + 1) → MayGive m g (map f ps)
gives f [] m g some_of whole each next = absurd (omega arith)
gives f (a ∷ ps) m g some_of whole each next =
    record { may = record { whole = all; next = subst (λ (n : ℕ). (n ≡ m.released) ⊎ (n ≡ m.released + 1)) (sym first_is) next }; generation = first_is }
  where
    first_is : (f a).fork.generation ≡ g
    first_is = let w = whole 0 a refl in (each 0 a refl w.fits w.generation).2

    all : (k : ℕ) (q : WorkerParcel) → get_elem? (map f (a ∷ ps)) k ≡ some q → IsWhole Fits parcel_mark parcel_generation m (f a).fork.generation k q
    all k q e =
        let t = at_map f (a ∷ ps) k q e in
        let w = whole k t.0 t.1 in
        let made = each k t.0 t.1 w.fits w.generation in
        subst (IsWhole Fits parcel_mark parcel_generation m (f a).fork.generation k) (sym t.2) (record { fits = made.0; mark = made.1 ∙ w.mark; generation = made.2 ∙ sym first_is })

-- the parcels as they are
pub gives_same : (ps : List WorkerParcel) (m : WorkerView) → 0 < length ps → IsHeld m ps → MayGive m m.released ps
gives_same [] m some_of whole = absurd (omega arith)
gives_same (a ∷ ps) m some_of whole =
    let first_is = (whole 0 a refl).generation in
    record { may = record { whole = λ k p e. (let w = whole k p e in record { fits = w.fits; mark = w.mark; generation = w.generation ∙ sym first_is }); next = inl first_is }; generation = first_is }

-- the first parcel's generation
pub first_is : (ps : List WorkerParcel) (m : WorkerView) (first : WorkerParcel) → Some first ≡ slice_get ps 0 → 0 < length ps → IsHeld m ps → first.fork.generation ≡ m.released
first_is [] m first is some_of whole = absurd (omega arith)
first_is (a ∷ ps) m first is some_of whole =
    let w = whole 0 a refl in
    let same : a ≡ first = get_or_from_slice_get (a ∷ ps) 0 first a (sym is) in
    subst (λ (x : WorkerParcel). x.fork.generation ≡ m.released) same w.generation

-- the parcels with the stop mark, where the generation is the last one and all is drawn
pub gives_ended : (ps : List WorkerParcel) (m : WorkerView) → 0 < length ps → IsHeld m ps → m.released + 1 ≡ length m.book → All (λ (p : WorkerParcel). p.limit ≤ p.next) ps
    → MayGive m m.released (map (told stops.End) ps)
gives_ended ps m some_of whole last drawn =
    gives (told stops.End) ps m m.released some_of whole
    (λ k p e fits same.
    let d = holds_at (λ (w : WorkerParcel). w.limit ≤ w.next) ps k p drawn e in
    (record { window = fits.window; drawn = fits.drawn; stop = (ap (λ (n : ℕ). n + 1) same ∙ last, d) }, refl, same)) (inl refl)

-- with the mark of want of memory
pub gives_lacking : (ps : List WorkerParcel) (m : WorkerView) → 0 < length ps → IsHeld m ps → MayGive m m.released (map (told stops.Lacking) ps)
gives_lacking ps m some_of whole =
    gives (told stops.Lacking) ps m m.released some_of whole (λ k p e fits same. (record { window = fits.window; drawn = fits.drawn; stop = tt }, refl, same)) (inl refl)

-- the parcels of the next generation, where all is drawn
pub gives_renewed : (ps : List WorkerParcel) (m : WorkerView) (g limit : ℕ) (graph : Graph) → 0 < length ps → IsHeld m ps → g ≡ m.released + 1 → slice_get m.book g ≡ Some (graph, limit)
    → All (λ (p : WorkerParcel). p.limit ≤ p.next) ps → MayGive m g (map (renewed (record { graph = graph; generation = g }) limit) ps)
gives_renewed ps m g limit graph some_of whole next window drawn =
    gives (renewed (record { graph = graph; generation = g }) limit) ps m g some_of whole
    (λ k p e fits same.
    let d = holds_at (λ (w : WorkerParcel). w.limit ≤ w.next) ps k p drawn e in (
      record {
        window = window;
        drawn = λ earlier before after at.
            let earlier_is : earlier ≡ p.fork.generation = omega (arith, after, next, same) in
            let here : before ≡ (p.fork.graph, p.limit) = same_Some before (p.fork.graph, p.limit) (sym at ∙ ap (slice_get m.book) earlier_is ∙ fits.window) in
            let limit_is : before.1 ≡ p.limit = ap (λ (w : Graph × ℕ). w.1) here in
            omega (arith, d, limit_is);
        stop = tt;
      },
      refl,
      refl,
    )) (inr next)

-- there is a window for the generation that the workers have
pub released_within : (ps : List WorkerParcel) (m : WorkerView) → 0 < length ps → IsHeld m ps → m.released < length m.book
released_within [] m some_of whole = absurd (omega arith)
released_within (a ∷ ps) m some_of whole =
    let w = whole 0 a refl in
    let within = slice_get_within m.book a.fork.generation (a.fork.graph, a.limit) w.fits.window in
    let same : a.fork.generation ≡ m.released = w.generation in
    omega (arith, within, same)

-- main goes on to lead the workers
stands_no : (plan : Planned) (released stamp : ℕ) (told : Stop) (left : List Event) (g : Graph) → told ≡ stops.No → IsAt plan released left g → StandsAt plan released stamp told left g
stands_no plan released stamp stops.No left g is at = at
stands_no plan released stamp stops.End left g is at = absurd (cc)
stands_no plan released stamp stops.Lacking left g is at = tt

pub stands_at_no : (plan : Planned) (released stamp : ℕ) (told : Stop) (left : List Event) (g : Graph) → told ≡ stops.No → StandsAt plan released stamp told left g → IsAt plan released left g
stands_at_no plan released stamp stops.No left g is at = at
stands_at_no plan released stamp stops.End left g is at = absurd (cc)
stands_at_no plan released stamp stops.Lacking left g is at = absurd (cc)

pub leads_on : (plan : Planned) (capture : Capture) (released stamp g : ℕ) (before after : Lead) → IsLead plan capture released stamp before → after.book ≡ before.book → after.told ≡ stops.No
    → g ≤ stamp + 1 → IsAt plan g after.processes after.master → IsLead plan capture g (stamp + 1) after
leads_on plan capture released stamp g before after lead book told releases at = record {
  is_plan = lead.is_plan;
  book = book ∙ lead.book;
  releases = releases;
  stands = stands_no plan g (stamp + 1) after.told after.processes after.master told at;
}

pub leads_to_end : (plan : Planned) (capture : Capture) (released stamp : ℕ) (before after : Lead) → IsLead plan capture released stamp before → before.told ≡ stops.No → released + 1 ≡ length plan.graphs
    → after ≡ record before { told = stops.End } → IsLead plan capture released (stamp + 1) after
leads_to_end plan capture released stamp before after lead told last is =
    let at = stands_at_no plan released stamp before.told before.processes before.master told lead.stands in
    let releases = lead.releases in
    let end : IsLead plan capture released (stamp + 1) (record before { told = stops.End }) = record {
      is_plan = lead.is_plan;
      book = lead.book;
      releases = omega (arith, releases);
      stands = (at, last, omega (arith, last, releases));
    } in
    subst (IsLead plan capture released (stamp + 1)) (sym is) end

pub leads_no_more : (plan : Planned) (capture : Capture) (released stamp : ℕ) (before after : Lead) → IsLead plan capture released stamp before → after.book ≡ before.book → after.told ≡ stops.Lacking
    → IsLead plan capture released (stamp + 1) after
leads_no_more plan capture released stamp before after lead book told =
    let releases = lead.releases in
    record {
      is_plan = lead.is_plan;
      book = book ∙ lead.book;
      releases = omega (arith, releases);
      stands = stands_lacking after.told told;
    }
  where
    stands_lacking : (s : Stop) → s ≡ stops.Lacking → StandsAt plan released (stamp + 1) s after.processes after.master
    stands_lacking stops.No e = absurd (cc)
    stands_lacking stops.End e = absurd (cc)
    stands_lacking stops.Lacking e = tt

-- what main knows once it has told the workers to stop at the end
pub stands_at_end : (plan : Planned) (released stamp : ℕ) (told_so : Stop) (left : List Event) (g : Graph) → told_so ≡ stops.End → StandsAt plan released stamp told_so left g
    → IsAt plan released left g × (released + 1 ≡ length plan.graphs) × (length plan.graphs ≤ stamp)
stands_at_end plan released stamp stops.No left g is at = absurd (cc)
stands_at_end plan released stamp stops.End left g is at = at
stands_at_end plan released stamp stops.Lacking left g is at = absurd (cc)
