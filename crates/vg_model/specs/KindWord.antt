-- Words of kinds: a text, and a number behind it where the kind has one (this project's profile).
use Rattle.std.specs.Prelude.{ℕ, ◌&&◌, nat_le, List, ◌++◌, codes, decimal, Option, Some, None, if◌then◌else◌}
use Rattle.std.proofs.Math.Dec.{T}
use Rattle.std.proofs.Math.Facts.{leb_yes}
use Rattle.vg_model.specs.declared.vlans.VlanId.{VlanId}

-- the least VLAN id (IEEE 802.1Q: 0 and 4095 name no VLAN)
abbrev pub least_vlan : ℕ
least_vlan = 1

-- the greatest VLAN id
abbrev pub most_vlan : ℕ
most_vlan = 4094

-- the VLAN id of a number that is one
abbrev pub vlan : (number : ℕ) → T (nat_le least_vlan number) → T (nat_le number most_vlan) → VlanId
vlan number some few = record { number = number; some = leb_yes some; few = leb_yes few }

-- words with a number: the text in front of it, and which numbers may stand behind
pub record NumberedWords : Type 0 where
  pub text : List ℕ
  pub least : ℕ
  pub most : ℕ

-- words with a VLAN id
abbrev pub with_vlan : List ℕ → NumberedWords
with_vlan text = record { text = text; least = least_vlan; most = most_vlan }

-- the words of the kinds with a number
abbrev pub match_words : NumberedWords
match_words = with_vlan (codes "dot1q-match-")

abbrev pub push_words : NumberedWords
push_words = with_vlan (codes "dot1q-push-")

abbrev pub rewrite_words : NumberedWords
rewrite_words = with_vlan (codes "dot1q-rewrite-")

-- the number is that of one of 16 interfaces
abbrev pub connect_words : NumberedWords
connect_words = record { text = codes "xconnect-"; least = 0; most = 15 }

-- the whole word
abbrev pub word_text : List ℕ → Option ℕ → List ℕ
word_text text None = text
word_text text (Some number) = text ++ decimal number

-- the word of a text and a number behind it; None where the number isn't in its range
abbrev pub numbered_word : List ℕ → (least most number : ℕ) → Option (List ℕ)
numbered_word text least most number = if nat_le least number && nat_le number most then Some (text ++ decimal number) else None
