-- For `put_looks`: the looks of a line that carried packets.
use Rattle.std.proofs.Common.{◌≡◌, ℕ, ◌++◌, ap, decimal}
use Rattle.std.specs.Prelude.{true, codes, if◌then◌else◌}
use Rattle.std.proofs.lemmas.Bool.{ne_eqb}
use Rattle.vg_draw.specs.Drawing.{width, grey_text, looks_text}

pub looks_text-some : (packets count : ℕ) → (count ≡ 0 → ⊥) → looks_text packets count ≡ codes ", penwidth=" ++ decimal (width packets count)
looks_text-some packets count some = ap (λ b. if b then grey_text true else codes ", penwidth=" ++ decimal (width packets count)) (ne_eqb count 0 some)
