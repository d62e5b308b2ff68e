-- For `Known` and `Stages::prefixes`: the prefixes that edits set, one edit and one event more at a time.
use Rattle.std.proofs.Common.{◌≡◌, ℕ, ◌+◌, ◌≤◌, Bool, true, false, ◌==◌, ◌&&◌, ◌||◌, not, cond, List, [], ◌∷◌, ◌++◌, length, map, take, drop, refl, sym, ap, subst, ◌∙◌, append_assoc, append-nil, flat_map, arith}
use Rattle.std.specs.Prelude.{if◌then◌else◌}
use Rattle.std.specs.BTreeSet as sets
use Rattle.std.specs.BTreeSet.{BTreeSet}
use Rattle.std.specs.List.{list_any}
use Rattle.std.proofs.lemmas.Bool.{false≢true}
use Rattle.std.proofs.lemmas.List.Folds.{list_any-append}
use Rattle.std.proofs.lemmas.Grind.{flat_map-append}
use Rattle.std.proofs.lemmas.List.{take_all, drop_more, drop_all}
use Rattle.vg_ways.proofs.ReadLemmas.{IsRead, take_read}
use Rattle.vg_model.specs.declared.edits.EditLine.{EditLine}
use Rattle.vg_model.specs.declared.routes.Prefix.{Prefix}
use Rattle.vg_model.specs.declared.routes.Prefix6.{Prefix6}
use Rattle.vg_plan.specs.declared.events.Run.{Run}
use Rattle.vg_plan.specs.Run.{seen}
use Rattle.vg_script.specs.declared.scripts.Script.{Script}
use Rattle.vg_script.specs.Events.{Event, events}
use Rattle.vg_model.specs.Route.{same_prefix, same_prefix6}
use Rattle.vg_ways.specs.declared.prefixes.Known.{Known}
use Rattle.vg_ways.specs.Counts.{with_prefix, with_prefix6, with_set, with_set6, with_sets, with_sets6, all_edits}
use Rattle.vg_ways.specs.Known.{AreKnown, IsSetOf, IsSetOf6, IsWhole}
use Rattle.vg_ways.specs.LinesView.{key_cmp}
use Rattle.vg_ways.proofs.LineLemmas.{is_key}

-- the edits of these runs
abbrev pub run_edits : List Run → List EditLine
run_edits runs = flat_map (λ (run : Run). (seen run).edits) runs

-- the edits outside blocks, and those of the first so many runs
abbrev pub edits_before : Script → List Run → ℕ → List EditLine
edits_before script runs i = script.start ++ run_edits (take i runs)

with_sets-append : (known : List (Prefix × ℕ)) (xs ys : List EditLine) → with_sets known (xs ++ ys) ≡ with_sets (with_sets known xs) ys
with_sets-append known [] ys = refl
with_sets-append known (x ∷ xs) ys = with_sets-append (with_set known x.edit) xs ys

with_sets6-append : (known : List (Prefix6 × ℕ)) (xs ys : List EditLine) → with_sets6 known (xs ++ ys) ≡ with_sets6 (with_sets6 known xs) ys
with_sets6-append known [] ys = refl
with_sets6-append known (x ∷ xs) ys = with_sets6-append (with_set6 known x.edit) xs ys

-- the edits of one run more
edits_more : (script : Script) {runs : List Run} {i : ℕ} {run : Run} → IsRead runs i run
    → edits_before script runs (i + 1) ≡ edits_before script runs i ++ (seen run).edits
edits_more script {runs = runs} {i = i} {run = run} read =
    ap (λ rs. script.start ++ run_edits rs) (take_read read)
    ∙ ap (λ es. script.start ++ es) (flat_map-append (λ (r : Run). (seen r).edits) (take i runs) (run ∷ [])
    ∙ ap (λ es. run_edits (take i runs) ++ es) (append-nil (seen run).edits))
    ∙ sym (append_assoc script.start (run_edits (take i runs)) (seen run).edits)

-- the prefixes of the edits outside blocks and of the first so many runs are known
pub record AreSoFar (script : Script) (runs : List Run) (i : ℕ) (known : Known) : Type 0 where
  pub so_far : AreKnown (with_sets [] (edits_before script runs i)) (with_sets6 [] (edits_before script runs i)) known

-- those of one run more
pub sets_more : (script : Script) {runs : List Run} {i : ℕ} {run : Run} {old new : Known} → IsRead runs i run → AreSoFar script runs i old
    → AreKnown (with_sets old.prefixes.items (seen run).edits) (with_sets6 old.prefixes6.items (seen run).edits) new → AreSoFar script runs (i + 1) new
sets_more script {runs = runs} {i = i} {run = run} read before put =
    let edits = (seen run).edits in
    let known = before.so_far in
    let more = sym (edits_more script read) in
    record {
      so_far = record {
        are = put.are ∙ ap (λ ks. with_sets ks edits) known.are ∙ sym (with_sets-append [] (edits_before script runs i) edits) ∙ ap (with_sets []) more;
        are6 = put.are6 ∙ ap (λ ks. with_sets6 ks edits) known.are6 ∙ sym (with_sets6-append [] (edits_before script runs i) edits) ∙ ap (with_sets6 []) more;
        whole = put.whole;
      };
    }

-- the edits of runs are those of the events that they are
edits_seen : (runs : List Run) → run_edits runs ≡ flat_map (λ (event : Event). event.edits) (map seen runs)
edits_seen [] = refl
edits_seen (run ∷ runs) = ap (λ es. (seen run).edits ++ es) (edits_seen runs)

-- those of all runs are those of all generations
pub edits_are_all : (script : Script) (runs : List Run) (i : ℕ) → map seen runs ≡ events script → length runs ≤ i → edits_before script runs i ≡ all_edits script
edits_are_all script runs i are past =
    ap (λ rs. script.start ++ run_edits rs) (take_all i runs past)
    ∙ ap (λ es. script.start ++ es) (edits_seen runs ∙ ap (flat_map (λ (event : Event). event.edits)) are)
    ∙ ap (λ es. script.start ++ flat_map (λ (event : Event). event.edits) es) (sym (take_all (length (events script)) (events script) (let all : length (events script) ≤ length (events script) = omega arith in all)))

-- so those of all generations are known
pub sets_done : (script : Script) (runs : List Run) (i : ℕ) (known : Known) → map seen runs ≡ events script → length runs ≤ i → AreSoFar script runs i known
    → AreKnown (with_sets [] (all_edits script)) (with_sets6 [] (all_edits script)) known
sets_done script runs i known are past before =
    subst (λ es. AreKnown (with_sets [] es) (with_sets6 [] es) known) (edits_are_all script runs i are past) before.so_far

-- none is known where there is no edit yet
pub sets_begun : (script : Script) (runs : List Run) (none known : Known) → AreKnown [] [] none
    → AreKnown (with_sets none.prefixes.items script.start) (with_sets6 none.prefixes6.items script.start) known → AreSoFar script runs 0 known
sets_begun script runs none known empty put = record {
  so_far = record {
    are = put.are ∙ ap (λ ks. with_sets ks script.start) empty.are ∙ ap (with_sets []) (sym (append-nil script.start));
    are6 = put.are6 ∙ ap (λ ks. with_sets6 ks script.start) empty.are6 ∙ ap (with_sets6 []) (sym (append-nil script.start));
    whole = put.whole;
  };
}

-- ---- edits one after the other

-- with the edits from a place on they come to those of all edits
pub record AreOnTheWay (old : Known) (edits : List EditLine) (i : ℕ) (known : Known) : Type 0 where
  pub whole : IsWhole known
  pub later : with_sets known.prefixes.items (drop i edits) ≡ with_sets old.prefixes.items edits
  pub later6 : with_sets6 known.prefixes6.items (drop i edits) ≡ with_sets6 old.prefixes6.items edits

pub edit_more : {old mid new : Known} {edits : List EditLine} {i : ℕ} {x : EditLine} → IsRead edits i x → AreOnTheWay old edits i mid
    → AreKnown (with_set mid.prefixes.items x.edit) (with_set6 mid.prefixes6.items x.edit) new → AreOnTheWay old edits (i + 1) new
edit_more {mid = mid} {edits = edits} {i = i} {x = x} read before put =
    let behind : drop i edits ≡ x ∷ drop (i + 1) edits = drop_more edits i x read.within ∙ ap (λ y. y ∷ drop (i + 1) edits) (sym read.read) in
    record {
      whole = put.whole;
      later = ap (λ ks. with_sets ks (drop (i + 1) edits)) put.are ∙ ap (with_sets mid.prefixes.items) (sym behind) ∙ before.later;
      later6 = ap (λ ks. with_sets6 ks (drop (i + 1) edits)) put.are6 ∙ ap (with_sets6 mid.prefixes6.items) (sym behind) ∙ before.later6;
    }

pub edits_done : {old known : Known} {edits items : List EditLine} (i : ℕ) → items ≡ edits → length items ≤ i → AreOnTheWay old items i known
    → AreKnown (with_sets old.prefixes.items edits) (with_sets6 old.prefixes6.items edits) known
edits_done {old = old} {known = known} {items = items} i same past before =
    let none = drop_all i items past in
    record {
      are = ap (with_sets known.prefixes.items) (sym none) ∙ before.later ∙ ap (with_sets old.prefixes.items) same;
      are6 = ap (with_sets6 known.prefixes6.items) (sym none) ∙ before.later6 ∙ ap (with_sets6 old.prefixes6.items) same;
      whole = before.whole;
    }

-- ---- one prefix

-- a key that wasn't there was put into a set
put_new : {X : Type 0} (same : X → Bool) (xs : List X) (x : X) (old new : BTreeSet (ℕ × ℕ)) (put asked : ℕ × ℕ)
    → sets.Updates key_cmp old new put true → sets.contains key_cmp old asked ≡ list_any same xs → same x ≡ (put.0 == asked.0 && put.1 == asked.1)
    → sets.contains key_cmp new asked ≡ list_any same (xs ++ x ∷ [])
put_new same xs x old new put asked up before is =
    up.0 asked
    ∙ ap (λ b. cond b true (sets.contains key_cmp old asked)) (is_key put.0 asked.0 put.1 asked.1 ∙ sym is)
    ∙ ap (cond (same x) true) before
    ∙ by_test (same x) (list_any same xs)
    ∙ sym (list_any-append same xs (x ∷ []))
  where
    by_test : (b among : Bool) → cond b true among ≡ (among || (b || false))
    by_test true true = refl
    by_test true false = refl
    by_test false true = refl
    by_test false false = refl

-- a prefix that wasn't known is put
module _ (added : Bool) (is_added : added ≡ true) where
  unknown : (set : BTreeSet (ℕ × ℕ)) (key : ℕ × ℕ) (known : Bool) → added ≡ not (sets.contains key_cmp set key) → sets.contains key_cmp set key ≡ known → known ≡ false
  unknown set key known is same = by_test known (sym is_added ∙ is ∙ ap not same)
    where
      by_test : (b : Bool) → true ≡ not b → b ≡ false
      by_test true e = absurd (false≢true (sym e))
      by_test false e = refl

  pub prefix_put : (known : List (Prefix × ℕ)) (prefix : Prefix) (old new : BTreeSet (ℕ × ℕ)) → added ≡ not (sets.contains key_cmp old (prefix.addr, prefix.len))
      → sets.Updates key_cmp old new (prefix.addr, prefix.len) true → IsSetOf known old → IsSetOf (with_prefix known prefix) new
  prefix_put known prefix old new new_is up is asked =
      put_new (λ k. same_prefix k.0 asked) known (prefix, 0) old new (prefix.addr, prefix.len) (asked.addr, asked.len) up (is asked) refl
      ∙ ap (λ (b : Bool). list_any (λ k. same_prefix k.0 asked) (if b then known else known ++ (prefix, 0) ∷ []))
      (sym (unknown old (prefix.addr, prefix.len) (list_any (λ k. same_prefix k.0 prefix) known) new_is (is prefix)))

  pub prefix6_put : (known : List (Prefix6 × ℕ)) (prefix : Prefix6) (old new : BTreeSet (ℕ × ℕ)) → added ≡ not (sets.contains key_cmp old (prefix.addr, prefix.len))
      → sets.Updates key_cmp old new (prefix.addr, prefix.len) true → IsSetOf6 known old → IsSetOf6 (with_prefix6 known prefix) new
  prefix6_put known prefix old new new_is up is asked =
      put_new (λ k. same_prefix6 k.0 asked) known (prefix, 0) old new (prefix.addr, prefix.len) (asked.addr, asked.len) up (is asked) refl
      ∙ ap (λ (b : Bool). list_any (λ k. same_prefix6 k.0 asked) (if b then known else known ++ (prefix, 0) ∷ []))
      (sym (unknown old (prefix.addr, prefix.len) (list_any (λ k. same_prefix6 k.0 prefix) known) new_is (is prefix)))
