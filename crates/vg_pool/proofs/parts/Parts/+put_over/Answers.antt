use Rattle.std.proofs.Common.{◌≡◌, ℕ, List, [], ◌∷◌, length, take, sym, ap, ◌∙◌}
use Rattle.vg_pool.specs.Areas.{Held}
use Rattle.vg_pool.specs.Blocks.{parts}
use Rattle.vg_pool.specs.Parts.{spread}
use Rattle.vg_pool.specs.declared.buffers.Block.{Block}
use Rattle.vg_pool.specs.declared.parts.Parts.TheInside.{Inside}
use Rattle.vg_pool.proofs.ChainLemmas.{spread_more}
use Rattle.vg_pool.proofs.parts.Parts.+put_over.Goals as goal
use Rattle.vg_pool.proofs.parts.Parts.+put_over.Goals.{in-End, in-More}

pub returns : goal.returns
returns t c =
    let bytes : List ℕ = c.args.bytes.now in
    let view : Inside → List (List ℕ) = λ i. parts i.link in
    elim c.match-self.branch [
      | in-End w ↦
          let none : [] ≡ c.args.self.now = sym (ap parts w.in-End.is) ∙ c.self.view_is in
          ap view w.self-inside-is ∙ ap parts w.in-End.is ∙ ap (λ (xs : List (List ℕ)). spread (length xs) bytes) none
      | in-More w ↦
          let b : Block = w.deref_mut-block.result.now in
          let is : b.area.bytes ∷ b.rest ≡ c.args.self.now =
          ap (λ (k : Block). k.area.bytes ∷ k.rest) w.deref_mut-block.ensures.value ∙ sym (ap parts w.in-More.is) ∙ c.self.view_is in
          ap view w.self-inside-is
          ∙ ap (λ (a : Held). a.bytes ∷ w.put_over.new.self) w.fill.ensures
          ∙ ap (λ (r : List (List ℕ)). take w.min-first.result bytes ∷ r) w.put_over.ensures
          ∙ spread_more (length b.rest) w.min-first.result bytes w.min-first.ensures
          ∙ ap (λ (xs : List (List ℕ)). spread (length xs) bytes) is
    ]
