-- For `append`: its loop and its clause.
use Rattle.std.proofs.Common.{rules, ℕ, List, [], ◌∷◌, ◌++◌, take, get_or, sym, ap, ◌∙◌, append_assoc, take_all, arith}
use Rattle.std.proofs.lemmas.List.{take_more}
use Rattle.vg_land.specs.Ground.{Ground}
use Rattle.vg_land.proofs.plots.Plot.append.Goals as goal

pub loop-byte-preserved : goal.loop-byte-preserved
loop-byte-preserved c =
    let had : List ℕ = c.args.self.now.items in
    let bytes : List ℕ = c.args.bytes.now in
    let i : ℕ = c.loop-byte.byte-index in
    record {
      items = c.push_reserved.ensures.items
          ∙ ap (λ (l : List ℕ). l ++ get_or bytes i 0 ∷ []) c.loop-byte.invariant.items
          ∙ append_assoc had (take i bytes) (get_or bytes i 0 ∷ [])
          ∙ ap (λ (l : List ℕ). had ++ l) (sym (take_more bytes i 0 c.loop-byte-test.true));
      len = search rules;
      room = search rules;
      some = search rules;
      place = search rules;
      size = search rules;
    }

pub returns : goal.returns
returns c =
    let had : List ℕ = c.args.self.now.items in
    let with_items : List ℕ → Ground = λ items. record { items = items; cap = c.loop-byte.self-inside.bytes.cap } in
    let with_cap : ℕ → Ground = λ cap. record { items = had ++ c.args.bytes.now; cap = cap } in
    let all = take_all c.loop-byte.byte-index c.args.bytes.now (omega (arith, c.loop-byte-test.false)) in
    ap with_items (c.loop-byte.invariant.items ∙ ap (λ (l : List ℕ). had ++ l) all) ∙ ap with_cap c.loop-byte.invariant.room
