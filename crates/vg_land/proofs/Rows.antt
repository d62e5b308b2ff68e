-- For `cut_strips`: the room that is left.
use Rattle.std.proofs.Common.{◌≡◌, ℕ, suc, ◌+◌, ◌-◌, ◌*◌, ◌<◌, ap, ◌∙◌, arith}

-- one row fewer
row : (n size : ℕ) → suc n * size - size ≡ n * size
row n size = omega arith

pub rows_left : {count done : ℕ} (size : ℕ) → done < count → (count - done) * size - size ≡ (count - (done + 1)) * size
rows_left {count} {done} size less =
    let one : count - done ≡ suc (count - (done + 1)) = omega (arith, less) in
    ap (λ n. n * size - size) one ∙ row (count - (done + 1)) size
