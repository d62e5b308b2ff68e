-- Worked examples of sums and updates, computed from the definitions.
use Rattle.std.proofs.Common.{◌≡◌, ℕ, ◌+◌, true, List, [], ◌∷◌, refl, map}
use Rattle.std.specs.Prelude.{set}
use Rattle.vg_model.specs.Header.{ones_sum, header_sum, word_sum, folded, verifies, checksum, lowered}
use Rattle.vg_model.proofs.Frames.{full_header, full_header_lowered}
use Rattle.vg_packet.specs.Update.{complement, updated}

-- the sum of RFC 1071, section 3, with each carry brought back in at once
words_of_rfc_1071 : header_sum (0x00 ∷ 0x01 ∷ 0xf2 ∷ 0x03 ∷ 0xf4 ∷ 0xf5 ∷ 0xf6 ∷ 0xf7 ∷ []) ≡ 0xddf2
unfolding ones_sum
words_of_rfc_1071 = refl

-- the same added up plainly, and folded at the end
words_of_rfc_1071_at_the_end : map folded (word_sum (0x00 ∷ 0x01 ∷ 0xf2 ∷ 0x03 ∷ 0xf4 ∷ 0xf5 ∷ 0xf6 ∷ 0xf7 ∷ []) ∷ 0x2ddf0 ∷ []) ≡ 0xddf2 ∷ 0xddf2 ∷ []
words_of_rfc_1071_at_the_end = refl

-- a carry may come of adding in the carries
carry_of_a_carry : folded 0x1ffff ≡ 1
carry_of_a_carry = refl

-- the update of RFC 1141, which RFC 1624 has as equation 2
abbrev updated_by_equation_2 : (checksum before after : ℕ) → ℕ
updated_by_equation_2 checksum before after = folded (checksum + before + complement after)

-- the update of RFC 1624, section 4, is 0 by equation 3
update_of_rfc_1624 : updated 0xdd2f 0x5555 0x3285 ≡ 0x0000
update_of_rfc_1624 = refl

-- by equation 2 it has all bits set
update_of_rfc_1624_by_equation_2 : updated_by_equation_2 0xdd2f 0x5555 0x3285 ≡ 0xffff
update_of_rfc_1624_by_equation_2 = refl

-- from 0xffff and from 0x0000, the two forms of zero, to 0x0100
from_both_zeros : updated 0xffff 0x4011 0x3f11 ∷ updated 0x0000 0x4011 0x3f11 ∷ [] ≡ 0x0100 ∷ 0x0100 ∷ []
from_both_zeros = refl

-- a header that verifies with the checksum 0xffff verifies with 0x0000 too
header_with_checksum_0 : List ℕ
header_with_checksum_0 = set (set full_header 10 0) 11 0

-- it does
header_with_checksum_0_verifies : verifies header_with_checksum_0 ≡ true
unfolding ones_sum header_with_checksum_0
header_with_checksum_0_verifies = refl

-- lowered they are the same
header_with_checksum_0_is_lowered : lowered header_with_checksum_0 ≡ full_header_lowered
unfolding ones_sum header_with_checksum_0
header_with_checksum_0_is_lowered = refl

-- a header whose checksum is 0x0000 once its time to live is lowered
header_before_checksum_0 : List ℕ
header_before_checksum_0 = 0x45 ∷ 0 ∷ 0 ∷ 0x14 ∷ 0xad ∷ 0xd4 ∷ 0 ∷ 0 ∷ 0x40 ∷ 0x11 ∷ 0xfe ∷ 0xff ∷ 0xc0 ∷ 0 ∷ 2 ∷ 1 ∷ 10 ∷ 1 ∷ 2 ∷ 3 ∷ []

-- it verifies
header_before_checksum_0_verifies : verifies header_before_checksum_0 ≡ true
unfolding ones_sum header_before_checksum_0
header_before_checksum_0_verifies = refl

-- computed anew its checksum is 0x0000, and so it is by equation 3
to_checksum_0 :
    checksum (set header_before_checksum_0 8 0x3f) ∷ updated 0xfeff 0x4011 0x3f11 ∷ [] ≡ 0x0000 ∷ 0x0000 ∷ []
unfolding ones_sum header_before_checksum_0
to_checksum_0 = refl

-- by equation 2 it would have all bits set
to_checksum_0_by_equation_2 : updated_by_equation_2 0xfeff 0x4011 0x3f11 ≡ 0xffff
to_checksum_0_by_equation_2 = refl
