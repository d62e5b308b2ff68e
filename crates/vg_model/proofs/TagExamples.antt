-- Worked examples of VLAN tags.
use Rattle.std.proofs.Common.{◌≡◌, ℕ, List, [], ◌∷◌, true, false, take, refl}
use Rattle.vg_model.specs.Packet.{fresh}
use Rattle.vg_model.specs.Tag.{is_tagged, vlan_id, cut, tagged, renumbered}

-- a frame with these two bytes behind the type of its tag
abbrev frame : (high low : ℕ) → List ℕ
frame high low = 2 ∷ 0xfe ∷ 0 ∷ 0 ∷ 0 ∷ 0 ∷ 2 ∷ 0 ∷ 0 ∷ 0 ∷ 0 ∷ 1 ∷ 0x81 ∷ 0 ∷ high ∷ low ∷ 8 ∷ 6 ∷ 0 ∷ 1 ∷ []

-- the same without a tag
abbrev plain : List ℕ
plain = 2 ∷ 0xfe ∷ 0 ∷ 0 ∷ 0 ∷ 0 ∷ 2 ∷ 0 ∷ 0 ∷ 0 ∷ 0 ∷ 1 ∷ 8 ∷ 6 ∷ 0 ∷ 1 ∷ []

-- the id is the lowest twelve bits
id_of_a_tag : vlan_id (fresh 0 (frame 0x20 0x64)) ≡ 100
id_of_a_tag = refl

-- 18 bytes have a tag, 17 have none
tag_of_18_bytes : is_tagged (fresh 0 (take 18 (frame 0x20 0x64))) ≡ true
tag_of_18_bytes = refl

no_tag_of_17_bytes : is_tagged (fresh 0 (take 17 (frame 0x20 0x64))) ≡ false
no_tag_of_17_bytes = refl

-- the tag is taken off, and four bytes of room are there more
cut_off : cut (fresh 0 (frame 0x20 0x64)) ≡ record (fresh 0 plain) { room = 68 }
cut_off = refl

-- a tag of priority 0 is put on, over four bytes of room
put_on : tagged 200 (fresh 0 plain) ≡ record (fresh 0 (frame 0 0xc8)) { room = 60 }
put_on = refl

-- the priority stays under another id
renumbered_to_300 : renumbered 300 (fresh 0 (frame 0xb0 0x64)) ≡ fresh 0 (frame 0xb1 0x2c)
renumbered_to_300 = refl
