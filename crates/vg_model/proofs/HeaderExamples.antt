-- Worked examples of header checksums and flow hashes, computed from the definitions.
use Rattle.std.proofs.Common.{◌≡◌, true, false, List, [], ◌∷◌, refl, drop, take, map, ℕ}
use Rattle.std.specs.Prelude.{set}
use Rattle.vg_model.specs.declared.kinds.HashKind.{HashKind}
use Rattle.vg_model.specs.declared.kinds.HashKind.TheVariants.{Flow, Src, Dst}
use Rattle.vg_model.specs.Header.{ones_sum, header_sum, word_sum, folded, verifies, lowered}
use Rattle.vg_model.specs.Hash.{flow_hash, target_worker}
use Rattle.vg_model.proofs.Frames.{ip, frame, plain_frame, arp_frame, odd_frame, plain_header, plain_header_lowered, full_header, full_header_lowered, header_with_options}

-- the frame to 10.1.2.3 has this header
plain_frame_has_its_header : drop 14 plain_frame ≡ plain_header
unfolding ones_sum
plain_frame_has_its_header = refl

-- the header of a frame verifies
plain_header_verifies : verifies plain_header ≡ true
unfolding ones_sum
plain_header_verifies = refl

-- with one bit changed it does not verify
changed_header_does_not_verify : verifies (set plain_header 9 0x10) ≡ false
unfolding ones_sum
changed_header_does_not_verify = refl

-- the checksum grows by 0x0100 as the time to live falls from 64 to 63
plain_header_is_lowered : lowered plain_header ≡ plain_header_lowered
unfolding ones_sum
plain_header_is_lowered = refl

-- a header with the checksum 0xffff verifies
full_header_verifies : verifies full_header ≡ true
unfolding ones_sum
full_header_verifies = refl

-- from the checksum 0xffff the carry goes round, to 0x0100
full_header_is_lowered : lowered full_header ≡ full_header_lowered
unfolding ones_sum
full_header_is_lowered = refl

-- the sum goes over the options too
header_with_options_verifies : verifies header_with_options ≡ true
unfolding ones_sum
header_with_options_verifies = refl

-- the plain sum of the words, and the sum with its carries brought back in
plain_header_sums : map folded (word_sum plain_header ∷ word_sum full_header ∷ []) ≡ map header_sum (plain_header ∷ full_header ∷ [])
unfolding ones_sum
plain_header_sums = refl

-- the hash over both addresses, 192.0.2.1 and 10.1.2.3
flow_hash_of_both : flow_hash Flow plain_frame ≡ 0xCACBCBC9
unfolding ones_sum
flow_hash_of_both = refl

-- the same to 10.1.2.11
flow_hash_to_another : flow_hash Flow (frame (ip 192 0 2 1) (ip 10 1 2 11) 64 20 34) ≡ 0xCACBCBC1
unfolding ones_sum
flow_hash_to_another = refl

-- the hash of 10.0.0.1 is odd and that of 10.0.0.2 is even: as destinations
destinations_choose_workers :
    map (λ destination. target_worker 2 (flow_hash Dst (frame (ip 192 0 2 1) destination 64 20 34))) (ip 10 0 0 1 ∷ ip 10 0 0 2 ∷ []) ≡ 1 ∷ 0 ∷ []
unfolding ones_sum
destinations_choose_workers = refl

-- and as sources
sources_choose_workers :
    map (λ source. target_worker 2 (flow_hash Src (frame source (ip 192 0 2 1) 64 20 34))) (ip 10 0 0 1 ∷ ip 10 0 0 2 ∷ []) ≡ 1 ∷ 0 ∷ []
unfolding ones_sum
sources_choose_workers = refl

-- the hashes of a frame by each kind
abbrev pub hashes : List ℕ → List ℕ
hashes bytes = map (λ (kind : HashKind). flow_hash kind bytes) (Flow ∷ Src ∷ Dst ∷ [])

-- a frame of another type, or without the whole fixed part of a header, has the hash 0
frames_without_addresses_hash_to_0 : map hashes (arp_frame ∷ take 33 odd_frame ∷ [] ∷ []) ≡ (0 ∷ 0 ∷ 0 ∷ []) ∷ (0 ∷ 0 ∷ 0 ∷ []) ∷ (0 ∷ 0 ∷ 0 ∷ []) ∷ []
unfolding ones_sum
frames_without_addresses_hash_to_0 = refl
