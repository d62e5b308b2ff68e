use Rattle.std.proofs.Common.{◌≡◌, ◌∙◌, List, ap, sym, subst, true, false, [], drop}
use Rattle.std.specs.Prelude.{Option, MatchOption}
use Rattle.clap.specs.Words.{fault_of, found_of, matches_of, rows_of}
use Rattle.clap.specs.declared.parser.matches.ArgMatches.{ArgMatches}
use Rattle.vg_words.specs.Command.{Text, texts}
use Rattle.vg_words.specs.Checks.{are_well_formed}
use Rattle.vg_words.specs.Parser.{run_app}
use Rattle.vg_words.proofs.CheckLemmas.{texts_behind, texts_front}
use Rattle.vg_words.proofs.RunLemmas.{refused-none, run_found-rows, taken-run, unchecked-none}
use Rattle.vg_words.proofs.reading.read_run.Goals as goal

-- what the parser says of these words
abbrev Says : List Text → Option ArgMatches → Type 0
Says words found = MatchOption found (fault_of run_app words ≡ [] → ⊥) (λ m. (fault_of run_app words ≡ []) × (rows_of (found_of m) ≡ matches_of run_app words))

pub returns : goal.returns
returns c =
    let words = c.args.words.now in
    let front = texts_front words c.requires in
    let passes : are_well_formed [] false (drop 1 (texts words)) ≡ true =
    ap (are_well_formed [] false) (sym (texts_behind words)) ∙ sym c.in_ok-are_well_formed.ensures ∙ c.if-not-branch.false in
    let facts = subst (Says (texts words)) c.in-Some.is c.in_ok-matches.ensures in
    c.run_of.ensures ∙ run_found-rows (found_of c.in-Some.matches)
    ∙ taken-run front.0 (drop 1 (texts words)) (rows_of (found_of c.in-Some.matches)) passes
    (ap (fault_of run_app) (sym front.1) ∙ facts.0) (facts.1 ∙ ap (matches_of run_app) front.1)

pub returns-then-not-branch : goal.returns-then-not-branch
returns-then-not-branch c =
    let words = c.args.words.now in
    sym (unchecked-none (drop 1 (texts words)) (ap (are_well_formed [] false) (sym (texts_behind words)) ∙ sym c.in_ok-are_well_formed.ensures ∙ c.if-not-branch.true))

pub returns-in_default : goal.returns-in_default
returns-in_default c =
    let words = c.args.words.now in
    let front = texts_front words c.requires in
    let passes : are_well_formed [] false (drop 1 (texts words)) ≡ true =
    ap (are_well_formed [] false) (sym (texts_behind words)) ∙ sym c.in_ok-are_well_formed.ensures ∙ c.if-not-branch.false in
    let refused = subst (Says (texts words)) c.in_default.is c.in_ok-matches.ensures in
    sym (refused-none front.0 (drop 1 (texts words)) passes (λ none. refused (ap (fault_of run_app) front.1 ∙ none)))
