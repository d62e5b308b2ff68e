-- What memory that is not written yet owns.
use Rattle.std.specs.Prelude.{refl, ℕ, [], ◌∷◌}
use Rattle.std.specs.Coded.{Coded, code_by, coded×, coded_ℕ}
use base.Fraction.{full_share}
use base.Fml.{Share, Fml, fsep, fex, fwand, flft, fobor, flent}
use mir.Syntax.{ty_int, ty_array, w8}
use denote.RawPtr.{Ptr, coded_ptr, room_for}

-- where memory begins, and how many bytes it has
pub record Extent : Type 0 where
  pub ptr : Ptr
  pub len : ℕ

-- it is stored as the pair of its fields
abbrev pub extent_code : Coded Extent
extent_code = code_by (Ptr × ℕ) (coded× coded_ptr coded_ℕ) (λ e. (e.ptr, e.len)) (λ p. record { ptr = p.0; len = p.1 }) (λ _. refl)

-- room for n bytes at p, whatever they are now
abbrev pub land_owns : Ptr → ℕ → Fml
land_owns p n = room_for (ty_array (ty_int w8) n) p

-- what an estate owns: the token of a, and its room once a has ended
abbrev pub estate_owns : ℕ → Ptr → ℕ → Fml
estate_owns a p n = fsep (flft (a ∷ []) full_share) (flent (a ∷ []) (land_owns p n))

-- the room that is out: `len` bytes at `ptr`
pub record Lease : Type 0 where
  pub life : ℕ
  pub ptr : Ptr
  pub len : ℕ

-- it is stored as the tuple of its fields
abbrev pub lease_code : Coded Lease
lease_code = code_by (ℕ × (Ptr × ℕ)) (coded× coded_ℕ (coded× coded_ptr coded_ℕ)) (λ t. (t.life, (t.ptr, t.len))) (λ p. record { life = p.0; ptr = p.1.0; len = p.1.1 }) (λ _. refl)

module _ (t : Lease) (X : Type 0) (Is : X → Type 0) (own : X → Fml) where
  -- s is the owner's lifetime and its share of that token, which keeps out a share of the estate's token, which keeps out the room
  abbrev pub lease_held : X → ℕ × Share × Share → Fml
  lease_held x s =
      fsep (fwand (flft (s.0 ∷ []) s.1) (own x))
      (fsep (fobor (s.0 ∷ []) s.1 (flft (t.life ∷ []) s.2)) (fobor (t.life ∷ []) s.2 (land_owns t.ptr t.len)))

  -- what an owner x of the estate has while its part is out
  abbrev pub lease_owns : Fml
  lease_owns = fex X (λ x. fex (Is x) (λ _. fex (ℕ × Share × Share) (lease_held x)))
