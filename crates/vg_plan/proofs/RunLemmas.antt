-- For the clauses of `push_runs`, `in_order` and `make_events`, and `times` of `make_all`: the runs of a script's blocks, as the code gathers and sorts them.
use Rattle.std.proofs.Common.{◌≡◌, ℕ, ◌+◌, ◌*◌, ◌-◌, ◌%◌, ◌<◌, ◌≤◌, Bool, true, false, ◌==◌, ◌&&◌, ◌||◌, cond, List, [], ◌∷◌, ◌++◌, length, map, get_or, drop, refl, sym, ap, ap₂, subst, ◌∙◌, arith, append_assoc, add-one}
use Rattle.std.specs.Prelude.{flat_map, nat_lt, slice_get, unwrap_or}
use Rattle.std.specs.Ordering.{is_lt, ordering_then, nat_cmp}
use Rattle.std.specs.declared.cmp.Ordering.TheVariants.{Less, Equal, Greater}
use Rattle.std.specs.List.Sorted.{IsPermutation, IsSortedBy, IsSortedByKey}
use Rattle.std.proofs.lemmas.List.Sorted.{IsPermutation-map}
use Rattle.std.specs.declared.cmp.Ordering.{Ordering}
use Rattle.std.proofs.lemmas.List.{length-map, get_or-map, map-append, drop_more, drop_all}
use Rattle.std.proofs.lemmas.Option.{slice_get_read}
use Rattle.vg_model.specs.declared.edits.EditLine.{EditLine}
use Rattle.vg_script.specs.declared.scripts.Script.{Script}
use Rattle.vg_script.specs.Events.{Event, comes_before, events_of, group_of, events, runs as script_runs}
use Rattle.vg_script.specs.Lawful.{IsLawful}
use Rattle.vg_plan.specs.declared.events.Run.{Run}
use Rattle.vg_plan.specs.Run.{seen, groups_of}
use Rattle.vg_script.proofs.EventLemmas.{order_is_unique}

-- one run more
pub one_run_more : (line every : ℕ) (groups : List (List EditLine)) (k : ℕ)
    → script_runs line every (k + 1) groups ≡ script_runs line every k groups ++ record { time = (k + 1) * every; line = line; occurrence = k + 1; edits = group_of groups (k + 1) } ∷ []
one_run_more line every groups k =
    subst (λ n. script_runs line every n groups ≡ script_runs line every k groups ++ record { time = n * every; line = line; occurrence = n; edits = group_of groups n } ∷ []) (sym (add-one k)) refl

-- the group of a run, as it was read
pub group_read : (groups : List (List EditLine)) (k : ℕ) (group : List EditLine) → k % length groups < length groups → group ≡ get_or groups (k % length groups) group
    → group_of groups (k + 1) ≡ group
group_read groups k group below read =
    let past : k + 1 - 1 ≡ k = omega arith in
    ap (λ n. unwrap_or (slice_get groups (n % length groups)) []) past
    ∙ ap (λ o. unwrap_or o []) (slice_get_read groups (length groups) (k % length groups) group refl below read)

-- the order of times, lines and occurrences is that of events
before_by_cmp : (t u l m o p : ℕ)
    → is_lt (ordering_then (ordering_then (nat_cmp t u) (nat_cmp l m)) (nat_cmp o p)) ≡ (nat_lt t u || (t == u && (nat_lt l m || (l == m && nat_lt o p))))
before_by_cmp t u l m o p = by_tests (nat_lt t u) (t == u) (nat_lt l m) (l == m) (nat_lt o p) (o == p)
  where
    by_tests : (earlier at_once above same_line first same : Bool)
        → is_lt (ordering_then (ordering_then (cond earlier Less (cond at_once Equal Greater)) (cond above Less (cond same_line Equal Greater))) (cond first Less (cond same Equal Greater)))
        ≡ (earlier || (at_once && (above || (same_line && first))))
    by_tests true at_once above same_line first same = refl
    by_tests false false above same_line first same = refl
    by_tests false true true same_line first same = refl
    by_tests false true false false first same = refl
    by_tests false true false true true same = refl
    by_tests false true false true false true = refl
    by_tests false true false true false false = refl

-- what a run is sorted by
abbrev pub key_of : Run → ℕ × ℕ × ℕ
key_of run = (run.time, run.line, run.occurrence)

abbrev pub key_cmp : ℕ × ℕ × ℕ → ℕ × ℕ × ℕ → Ordering
key_cmp a b = ordering_then (ordering_then (nat_cmp a.0 b.0) (nat_cmp a.1 b.1)) (nat_cmp a.2 b.2)

-- runs that are sorted by their keys are sorted as events
sorted_seen : (runs : List Run) → IsSortedByKey key_of key_cmp runs → IsSortedBy comes_before (map seen runs)
sorted_seen [] sorted k d low high = absurd (omega arith)
sorted_seen (r ∷ rs) sorted k d low high =
    let long : length (map seen (r ∷ rs)) ≡ length (r ∷ rs) = length-map (r ∷ rs) seen in
    let next = get_or-map seen (r ∷ rs) (k + 1) r d (omega arith) in
    let this = get_or-map seen (r ∷ rs) k r d (omega arith) in
    let later : Run = get_or (r ∷ rs) (k + 1) r in
    let run : Run = get_or (r ∷ rs) k r in
    ap₂ comes_before next this
    ∙ (sym (before_by_cmp later.time run.time later.line run.line later.occurrence run.occurrence) ∙ sorted k r low (omega arith))

-- the runs of a script's blocks, sorted by their keys, are its events
pub runs_are : (script : Script) (before after : List Run) → IsLawful script → map seen before ≡ flat_map events_of script.blocks
    → IsPermutation before after → IsSortedByKey key_of key_cmp after → map seen after ≡ events script
runs_are script before after lawful are moved sorted =
    order_is_unique script lawful (map seen after) (subst (λ es. IsPermutation es (map seen after)) are (IsPermutation-map seen before after moved)) (sorted_seen after sorted)

-- one run more behind those that were gathered
pub pushed_run : (first : List Event) (runs after : List Run) (line every k time : ℕ) (groups : List (List EditLine)) (run : Run)
    → map seen runs ≡ first ++ script_runs line every k groups → after ≡ runs ++ run ∷ [] → time ≡ k → run.time ≡ (time + 1) * every → run.line ≡ line → run.occurrence ≡ k + 1
    → k % length groups < length groups → run.edits.now ≡ get_or groups (k % length groups) run.edits.now
    → map seen after ≡ first ++ script_runs line every (k + 1) groups
pushed_run first runs after line every k time groups run so_far is same_time at same_line nth below read =
    let last : seen run ≡ record { time = (k + 1) * every; line = line; occurrence = k + 1; edits = group_of groups (k + 1) } =
    λ i. record { time = (at ∙ ap (λ n. (n + 1) * every) same_time) i; line = same_line i; occurrence = nth i; edits = sym (group_read groups k run.edits.now below read) i } in
    ap (map seen) is
    ∙ (map-append seen runs (run ∷ [])
    ∙ (ap₂ (λ front e. front ++ e ∷ []) so_far last
    ∙ (append_assoc first (script_runs line every k groups) (record { time = (k + 1) * every; line = line; occurrence = k + 1; edits = group_of groups (k + 1) } ∷ [])
    ∙ ap (λ rest. first ++ rest) (sym (one_run_more line every groups k)))))

-- those of the run at a place come before those of the runs behind it
pub next_group : (runs : List Run) (i : ℕ) (run : Run) → i < length runs → run ≡ get_or runs i run → drop i (groups_of runs) ≡ run.edits.now ∷ drop (i + 1) (groups_of runs)
next_group runs i run below read =
    let long : length (groups_of runs) ≡ length runs = length-map (map seen runs) (λ (e : Event). e.edits) ∙ length-map runs seen in
    let at : get_or (groups_of runs) i run.edits.now ≡ run.edits.now =
    get_or-map (λ (e : Event). e.edits) (map seen runs) i (seen run) run.edits.now (omega (arith, length-map runs seen))
    ∙ (ap (λ (e : Event). e.edits) (get_or-map seen runs i run (seen run) below) ∙ ap (λ (r : Run). r.edits.now) (sym read)) in
    drop_more (groups_of runs) i run.edits.now (omega (arith, long)) ∙ ap (λ e. e ∷ drop (i + 1) (groups_of runs)) at

-- no group is left behind all runs
pub no_group : (runs : List Run) (i : ℕ) → length runs ≤ i → drop i (groups_of runs) ≡ []
no_group runs i past =
    let long : length (groups_of runs) ≡ length runs = length-map (map seen runs) (λ (e : Event). e.edits) ∙ length-map runs seen in
    drop_all i (groups_of runs) (omega (arith, long))

-- the times of the runs
pub times_seen : (runs : List Run) → map (λ (r : Run). r.time) runs ≡ map (λ (e : Event). e.time) (map seen runs)
times_seen [] = refl
times_seen (r ∷ rs) = ap (λ times. r.time ∷ times) (times_seen rs)
