use Rattle.std.proofs.Common.{◌≡◌, ◌≢◌, get_or, sym, ◌∙◌, arith}
use Rattle.std.proofs.lemmas.List.{get_or_default}
use Rattle.vg_fib.proofs.CutLemmas.{cut_new}
use Rattle.vg_fib.proofs.spans.Spans.cut.Goals as goal

pub returns : goal.returns
returns c =
    let starts = c.args.self.now.starts.items in
    let numbers = c.args.self.now.numbers.items in
    let place = c.place-place.result in
    let last = c.place-place.ensures in
    let start : get_or starts place 0 ≡ c.index.result.now = get_or_default starts place 0 c.index.result.now last.inside ∙ sym c.index.ensures in
    let number : get_or numbers place 0 ≡ c.index-number.result.now =
    get_or_default numbers place 0 c.index-number.result.now (omega (arith, last.inside, c.requires.numbered)) ∙ sym c.index-number.ensures in
    let ne : get_or starts place 0 ≢ c.args.address = λ e. c.if-index-address.false (sym start ∙ e) in
    rw (c.in_ok-insert.ensures.items, c.in_ok-insert-2.ensures.items, ← number) (cut_new starts numbers c.args.address place c.requires last ne)
