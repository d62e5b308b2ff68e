use Rattle.std.proofs.Common.{◌≡◌, ◌∙◌, ap, sym, ⊎_elim, subst}
use Rattle.clap.specs.Simple.{App, app_of, is_simple, matches_of}
use Rattle.clap.specs.Faults.{fault_of, is_simple_and_free}
use Rattle.clap.specs.Kinds.{HasKind, Kinds}
use Rattle.vg_words.specs.Command.{texts}
use Rattle.vg_words.specs.Parser.{run_app}
use Rattle.vg_words.proofs.RunLemmas.{run-simple, run-is_simple}
use Rattle.vg_words.proofs.reading.run_matches.Goals as goal

pub returns-in-Ok : goal.returns-in-Ok
returns-in-Ok c =
    let app : app_of c.in_ok-parser.parser ≡ run_app = c.in_ok-parser.ensures in
    let words = texts c.args.words.now in
    let facts = c.in-Ok.ensures in (
      ap (λ (a : App). fault_of a words) (sym app) ∙ facts.kinds (ap is_simple_and_free app ∙ run-simple),
      (facts.matches (ap is_simple app ∙ run-is_simple)).0 ∙ ap (λ (a : App). matches_of a words) app,
    )

pub returns : goal.returns
returns c =
    let app : app_of c.in_ok-parser.parser ≡ run_app = c.in_ok-parser.ensures in
    let words = texts c.args.words.now in
    let kinds : HasKind (fault_of run_app words) c.in-Err.error = subst (λ (a : App). HasKind (fault_of a words) c.in-Err.error) app (c.in-Err.ensures.kinds (ap is_simple_and_free app ∙ run-simple)) in
    λ none. ⊎_elim (λ memory. c.in_default.not-OutOfMemory (c.kind.ensures ∙ memory)) (λ among. among) (subst (λ (k : Kinds). HasKind k c.in-Err.error) none kinds)
