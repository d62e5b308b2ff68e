-- For the laws of what changed, of tags and of places.
use Rattle.std.proofs.Common.{◌≡◌, ℕ, zero, suc, ◌<◌, false, ◌==◌, List, [], ◌∷◌, length, take, flat_map, refl, sym, ap, subst, ◌∙◌, arith, inl, inr}
use Rattle.std.specs.Prelude.{nat_le, ◌&&◌, ◌%◌, slice_index_or, Contains, if◌then◌else◌, min}
use Rattle.std.proofs.lemmas.Bool.{eqb-true, and_from, cases_Bool, cases_lt, le-leb, lt-leb}
use Rattle.std.proofs.lemmas.List.{length-take}
use Rattle.std.proofs.lemmas.List.Elements.{Contains-append_left, Contains-append_right}
use Rattle.vg_model.specs.declared.kinds.HashKind.TheVariants.{Flow}
use Rattle.vg_model.specs.Bytes.{number16_at}
use Rattle.vg_model.specs.Packet.{Packet}
use Rattle.vg_model.specs.Tag as tags
use Rattle.vg_nodes.proofs.HeadLemmas.{number16_of_first, hash_of_first}
use Rattle.vg_story.specs.declared.pieces.Field.{Field}
use Rattle.vg_story.specs.declared.pieces.Field.TheVariants as names
use Rattle.vg_story.specs.declared.pieces.Piece.{Piece}
use Rattle.vg_story.specs.declared.pieces.Piece.TheVariants as pieces
use Rattle.vg_story.specs.Changes.{change, change_of, changes}
use Rattle.vg_story.specs.Fields as fields
use Rattle.vg_story.specs.Fronts.{Front, front_of}
use Rattle.vg_story.specs.Laws.{UnshownStay, ShowTags, ShowHashes, ShowPlaces}

-- what stands among the pieces of one field stands among those of all
-- an element's pieces stand among those of all
flat_map-contains : (f : Field → List Piece) (xs : List Field) (k : ℕ) (field : Field) (piece : Piece)
    → k < length xs → slice_index_or xs k field ≡ field → Contains (f field) piece → Contains (flat_map f xs) piece
flat_map-contains f [] k field piece within is stands = absurd (omega arith)
flat_map-contains f (x ∷ xs) zero field piece within is stands =
    Contains-append_left (f x) (flat_map f xs) piece (subst (λ y. Contains (f y) piece) (sym is) stands)
flat_map-contains f (x ∷ xs) (suc k) field piece within is stands =
    Contains-append_right (f x) (flat_map f xs) piece (flat_map-contains f xs k field piece (omega arith) is stands)

-- each field is one of all
one_of : (field : Field) → Contains fields.all_fields field
one_of names.Length = (0, omega arith, refl)
one_of names.Destination = (1, omega arith, refl)
one_of names.Source = (2, omega arith, refl)
one_of names.Vlan = (3, omega arith, refl)
one_of names.Ttl = (4, omega arith, refl)
one_of names.Checksum = (5, omega arith, refl)
one_of names.HopLimit = (6, omega arith, refl)

-- what stands among the pieces of one field stands among those of all
among_all : (before after : Front) (field : Field) (piece : Piece) → Contains (change_of before after field) piece → Contains (changes before after) piece
among_all before after field piece stands =
    let one = one_of field in
    flat_map-contains (change_of before after) fields.all_fields one.0 field piece one.1 one.2 stands

-- where two numbers differ, their change is shown
differing : (field : Field) (b a : ℕ) → (b == a) ≡ false → Contains (change field b a) (pieces.Change field b a)
differing field b a differs =
    subst (λ t. Contains (if t then [] else pieces.Change field b a ∷ []) (pieces.Change field b a)) (sym differs) (0, omega arith, refl)

pub unshown_stay : UnshownStay
unshown_stay before after field has had none =
    let b = fields.number_of before field in
    let a = fields.number_of after field in
    elim (cases_Bool (b == a)) [
      | inl same ↦ eqb-true b a same
      | inr differs ↦
          let both = and_from (fields.has_field before field) (fields.has_field after field) has had in
          absurd (none b a (among_all before after field (pieces.Change field b a)
          (subst (λ t. Contains (if t then change field b a else []) (pieces.Change field b a)) (sym both) (differing field b a differs))))
    ]

-- whether there are as many bytes as a tag and the type behind it take
long_test : (bytes : List ℕ) → nat_le 18 (length (take 74 bytes)) ≡ nat_le 18 (length bytes)
long_test bytes =
    let size : length (take 74 bytes) ≡ min 74 (length bytes) = length-take 74 bytes in
    elim (cases_lt (length bytes) 18) [
      | inl less ↦ lt-leb 18 (length (take 74 bytes)) (omega (arith, size, less)) ∙ sym (lt-leb 18 (length bytes) less)
      | inr more ↦ le-leb 18 (length (take 74 bytes)) (omega (arith, size, more)) ∙ sym (le-leb 18 (length bytes) more)
    ]

tag_in_front : (p : Packet) → fields.is_tagged (front_of p) ≡ tags.is_tagged p
tag_in_front p =
    ap (λ b. b && number16_at (take 74 p.bytes) 12 == 0x8100) (long_test p.bytes)
    ∙ ap (λ (n : ℕ). nat_le 18 (length p.bytes) && n == 0x8100) (number16_of_first 74 12 p.bytes (omega arith))

pub show_tags : ShowTags
show_tags p = (
  tag_in_front p,
  λ is.
      ap (λ b. if b then tags.vlan_id (fields.packet_of (front_of p)) else 0) (tag_in_front p ∙ is)
      ∙ ap (λ n. n % 4096) (number16_of_first 74 14 p.bytes (omega arith)),
)

pub show_hashes : ShowHashes
show_hashes p = hash_of_first Flow 74 p.bytes (omega arith)

pub show_places : ShowPlaces
show_places members hash p = refl
