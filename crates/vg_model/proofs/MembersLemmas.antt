-- For `Members::push`, the invariant: numbers that lie inline.
use Rattle.std.proofs.Common.{◌≡◌, ℕ, ◌+◌, ◌-◌, ◌<◌, List, drop, replicate, sym, ap, ◌∙◌, arith, length-set}
use Rattle.std.specs.Prelude.{slice_set}
use Rattle.std.proofs.lemmas.List.{drop-drop, drop-replicate, drop-set-lt}
use Rattle.vg_model.specs.Members.{AreInline}

-- one more lies behind the others
pub one_more : (count number : ℕ) (places : List ℕ) → AreInline count places → count < 16 → AreInline (count + 1) (slice_set places count number)
one_more count number places h few = record {
  some = omega arith;
  few = omega (arith, few);
  all = omega (arith, length-set places count number, h.all);
  others =
      drop-set-lt (count + 1) places count number (omega arith)
      ∙ sym (drop-drop 1 count places)
      ∙ ap (drop 1) h.others
      ∙ drop-replicate 1 (16 - count) 0
      ∙ ap (λ n. replicate n 0) (let same : 16 - count - 1 ≡ 16 - (count + 1) = omega arith in same);
}
