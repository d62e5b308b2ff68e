use Rattle.std.proofs.Common.{◌≡◌, ◌<◌, ◌≤◌, ◌+◌, ◌++◌, ◌∷◌, [], take, get_or, ap, subst, sym, ◌∙◌}
use Rattle.std.proofs.lemmas.List.{take_more, take_all}
use Rattle.vg_model.specs.declared.kinds.DropError.{DropError}
use Rattle.vg_model.specs.declared.kinds.DropError.TheVariants.{Short}
use Rattle.vg_model.specs.Errors.{all_errors}
use Rattle.vg_reporting.specs.Reports.{made_of, made_by}
use Rattle.vg_reporting.proofs.CountLemmas.{error_added, error_passed}
use Rattle.vg_reporting.proofs.parts.put_errors.Goals as goal
use Rattle.vg_reporting.proofs.parts.put_errors.Goals.{then-count-gt0+in_ok-push, else-count-gt0}

pub loop-error-preserved : goal.loop-error-preserved
loop-error-preserved c =
    let place = c.loop-error.error-index in
    let error : DropError = get_or all_errors place Short in
    let count = made_by c.args.counts.now.drops c.args.node in
    let next : take (place + 1) all_errors ≡ take place all_errors ++ error ∷ [] = take_more all_errors place Short c.loop-error-test.true in
    elim c.if-count-gt0.branch [
      | then-count-gt0+in_ok-push w ↦ subst (λ l. c.if-count-gt0.entries.items ≡ c.args.entries.now.items ++ made_of c.args.name.now count l) (sym next)
          (ap (λ v. v.items) w.entries-is
          ∙ error_added c.args.entries.now.items c.loop-error.entries.items w.push.new.self.items c.args.name.now w.copied.result count (take place all_errors) error
          (subst (λ n. 0 < n) c.drops-count.ensures w.if-count-gt0.true) c.loop-error.invariant w.copied.ensures.same
          (w.in_ok-push.ensures.items ∙ ap (λ n. c.loop-error.entries.items ++ (w.copied.result, error, n) ∷ []) c.drops-count.ensures))
      | else-count-gt0 w ↦ subst (λ l. c.if-count-gt0.entries.items ≡ c.args.entries.now.items ++ made_of c.args.name.now count l) (sym next)
          (ap (λ v. v.items) w.entries-is
          ∙ error_passed c.args.entries.now.items c.loop-error.entries.items c.args.name.now count (take place all_errors) error
          (subst (λ n. n ≤ 0) c.drops-count.ensures w.if-count-gt0.false) c.loop-error.invariant)
    ]

pub returns : goal.returns
returns c =
    let most : c.loop-error.error-index ≤ 19 = c.loop-error.auto.error-index-end in
    let least : 19 ≤ c.loop-error.error-index = c.loop-error-test.false in
    let whole : take c.loop-error.error-index all_errors ≡ all_errors = take_all c.loop-error.error-index all_errors least in
    c.loop-error.invariant ∙ ap (λ l. c.args.entries.now.items ++ made_of c.args.name.now (made_by c.args.counts.now.drops c.args.node) l) whole
