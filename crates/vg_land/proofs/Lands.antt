-- For `Estate::cut`: room in two parts. Assumes `Logic`.
use Rattle.std.proofs.Common.{◌≡◌, ℕ, ◌+◌, ◌-◌, ◌≤◌, [], ◌∷◌, refl, sym, arith}
use seplogic.Ra.Ura.{Ura}
use mir.Syntax.{ty_int, ty_array, w8}
use base.Logic.{ent, sep, emp, never_e}
use base.Fml.{froom}
use types.Logic.{Logic, sem}
use types.Kit.{‵, raw, ◌⊛◌, ◌$◌, !, qed, by, move, keep, use1, use2, split, rewrite, done}
use denote.RawPtr.{Ptr, block_ptr, null_ptr, ◌+ₚ◌}
use denote.RawPtr.Room.{past, past_bytes, room_cut, room_glue}
use denote.Steps.{nothing}
use Rattle.vg_land.specs.Ownership.{land_owns}

module _ {M : Type 1} {𝓤 : Ura M} (𝓛 : Logic 𝓤) where
  pub apart : (p : Ptr) (n m : ℕ) → n ≤ m → ent 𝓤 (sem 𝓛 (land_owns p m)) (sep 𝓤 (sem 𝓛 (land_owns p n)) (sep 𝓤 (sem 𝓛 (land_owns (p +ₚ n) (m - n))) (emp 𝓤)))
  apart null_ptr n m le = never_e 𝓤 _
  apart (block_ptr b o) n m le =
      let sum : m ≡ n + (m - n) = omega (arith, le) in
      let One = froom (ty_array (ty_int w8) n) b o in
      qed 𝓛 (‵ (land_owns (block_ptr b o) m) ∷ []) {P = sep 𝓤 (sem 𝓛 One) (sep 𝓤 (sem 𝓛 (froom (ty_array (ty_int w8) (m - n)) b (o + n))) (emp 𝓤))} (
      rewrite ! 0 (λ k. ‵ (froom (ty_array (ty_int w8) k) b o)) sum refl $
      use1 𝓛 (‵ One ⊛ ‵ (froom (ty_array (ty_int w8) (m - n)) b (past (ty_int w8) n o))) (room_cut 𝓛 (ty_int w8) n (m - n) b o) $ split ! $
      rewrite ! 1 (λ k. ‵ (froom (ty_array (ty_int w8) (m - n)) b k)) (past_bytes n o) refl $ nothing ! $ move ! (1 ∷ 2 ∷ []) $ done !)

  pub whole : (p : Ptr) (n m : ℕ) → n ≤ m → ent 𝓤 (sep 𝓤 (sem 𝓛 (land_owns p n)) (sep 𝓤 (sem 𝓛 (land_owns (p +ₚ n) (m - n))) (emp 𝓤))) (sem 𝓛 (land_owns p m))
  whole null_ptr n m le =
      qed 𝓛 (‵ (land_owns null_ptr n) ∷ ‵ (land_owns null_ptr (m - n)) ∷ raw (emp 𝓤) ∷ []) {P = sem 𝓛 (land_owns null_ptr m)} (keep ! (0 ∷ []) $ by ! (never_e 𝓤 _))
  whole (block_ptr b o) n m le =
      let sum : m ≡ n + (m - n) = omega (arith, le) in
      qed 𝓛 (‵ (land_owns (block_ptr b o) n) ∷ ‵ (froom (ty_array (ty_int w8) (m - n)) b (o + n)) ∷ raw (emp 𝓤) ∷ []) {P = sem 𝓛 (land_owns (block_ptr b o) m)} (
      keep ! (0 ∷ 1 ∷ []) $
      rewrite ! 1 (λ k. ‵ (froom (ty_array (ty_int w8) (m - n)) b k)) (sym (past_bytes n o)) refl $
      use2 𝓛 (‵ (froom (ty_array (ty_int w8) (n + (m - n))) b o)) (room_glue 𝓛 (ty_int w8) n (m - n) b o) $
      rewrite ! 0 (λ k. ‵ (froom (ty_array (ty_int w8) k) b o)) (sym sum) refl $ done !)
