-- For the clauses of `State::{time, next_time, next, advance}` and `Processes::new`: the runs of a process, one by one.
use Rattle.std.proofs.Common.{◌≡◌, ℕ, zero, suc, ◌+◌, ◌-◌, ◌*◌, ◌<◌, List, [], ◌∷◌, length, drop, get_or, refl, sym, ap, ◌∙◌, inl, inr, arith, length-append, length-drop, add-one}
use Rattle.std.proofs.lemmas.Bool.{cases_lt}
use Rattle.std.proofs.lemmas.List.{drop_more, get_or_append_left, get_or_at}
use Rattle.vg_model.specs.declared.edits.EditLine.{EditLine}
use Rattle.vg_script.specs.Events.{Event, runs, group_of}

-- the k-th run of a process
abbrev pub run_at : (line every : ℕ) → List (List EditLine) → ℕ → Event
run_at line every groups k = record { time = k * every; line = line; occurrence = k; edits = group_of groups k }

module _ (line every : ℕ) (groups : List (List EditLine)) where
  pub length-runs : (n : ℕ) → length (runs line every n groups) ≡ n
  length-runs zero = refl
  length-runs (suc k) = omega (arith, length-append (runs line every k groups) (run_at line every groups (suc k) ∷ []), length-runs k)

  pub get_or-runs : (n j : ℕ) (d : Event) → j < n → get_or (runs line every n groups) j d ≡ run_at line every groups (suc j)
  get_or-runs zero j d h = absurd (omega arith)
  get_or-runs (suc k) j d h =
      let last = run_at line every groups (suc k) in
      let earlier = runs line every k groups in
      let len = length-runs k in
      elim (cases_lt j k) [
        | inl less ↦ get_or_append_left earlier (last ∷ []) d j (omega arith) ∙ get_or-runs k j d less
        | inr same ↦
            let at : k ≡ j = omega arith in
            get_or_at earlier last [] d j (len ∙ at) ∙ ap (λ i. run_at line every groups (suc i)) at
      ]

  -- behind the runs that are over come the next one and the rest
  pub drop-runs : (n done : ℕ) → done < n
      → drop done (runs line every n groups) ≡ run_at line every groups (done + 1) ∷ drop (done + 1) (runs line every n groups)
  drop-runs n done h =
      let next = run_at line every groups (done + 1) in
      let within : done < length (runs line every n groups) = omega (arith, length-runs n) in
      let at = get_or-runs n done next h ∙ ap (run_at line every groups) (sym (add-one done)) in
      drop_more (runs line every n groups) done next within ∙ ap (λ e. e ∷ drop (done + 1) (runs line every n groups)) at

  -- how many runs are not over
  pub length-rest : (n done : ℕ) → length (drop done (runs line every n groups)) ≡ n - done
  length-rest n done = omega (arith, length-drop done (runs line every n groups), length-runs n)
