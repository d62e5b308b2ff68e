-- Worked examples of savefiles, computed from the definitions.
use Rattle.std.proofs.Common.{◌≡◌, ℕ, true, false, List, [], ◌∷◌, ◌++◌, refl, take, drop, length, replicate}
use Rattle.std.specs.Prelude.{Ok, Err, set}
use Rattle.byteorder.specs.Endian.{little_number}
use Rattle.vg_capture.specs.declared.captures.Capture.{Capture}
use Rattle.vg_capture.specs.declared.captures.Captured.{Captured}
use Rattle.vg_capture.specs.declared.errors.CaptureError.TheVariants as errors
use Rattle.vg_capture.specs.Savefile.{capture_of, records_at, savefile}
use Rattle.vg_capture.specs.Time.{time}

-- little-endian, microseconds, version 2.4, snaplen 262,144, Ethernet
abbrev pub header : List ℕ
header = 0xd4 ∷ 0xc3 ∷ 0xb2 ∷ 0xa1 ∷ 2 ∷ 0 ∷ 4 ∷ 0 ∷ 0 ∷ 0 ∷ 0 ∷ 0 ∷ 0 ∷ 0 ∷ 0 ∷ 0 ∷ 0 ∷ 0 ∷ 4 ∷ 0 ∷ 1 ∷ 0 ∷ 0 ∷ 0 ∷ []

-- an Ethernet frame of 34 bytes with an IPv4 header from 192.0.2.1 to 10.1.2.3, TTL 64
abbrev pub frame : List ℕ
frame = 0x02 ∷ 0xfe ∷ 0 ∷ 0 ∷ 0 ∷ 0 ∷ 0x02 ∷ 0 ∷ 0 ∷ 0 ∷ 0 ∷ 0x01 ∷ 0x08 ∷ 0
    ∷ 0x45 ∷ 0 ∷ 0 ∷ 0x14 ∷ 0 ∷ 0 ∷ 0 ∷ 0 ∷ 0x40 ∷ 0x11 ∷ 0xac ∷ 0xd4 ∷ 192 ∷ 0 ∷ 2 ∷ 1 ∷ 10 ∷ 1 ∷ 2 ∷ 3 ∷ []

-- the same with the type of ARP
abbrev pub arp : List ℕ
arp = set frame 13 0x06

-- a record at time 0 with 34 bytes captured of 34
abbrev pub record_header : List ℕ
record_header = 0 ∷ 0 ∷ 0 ∷ 0 ∷ 0 ∷ 0 ∷ 0 ∷ 0 ∷ 34 ∷ 0 ∷ 0 ∷ 0 ∷ 34 ∷ 0 ∷ 0 ∷ 0 ∷ []

abbrev pub two_frames_and_an_arp : List ℕ
two_frames_and_an_arp = header ++ record_header ++ frame ++ record_header ++ frame ++ record_header ++ arp

abbrev pub of_frame : List ℕ → Captured
of_frame bytes = record { seconds = 0; fraction = 0; original = 34; bytes = bytes }

abbrev pub capture : List Captured → Capture
capture packets = record { nanos = false; snaplen = 262144; packets = packets }

three_packets_have_174_bytes : length two_frames_and_an_arp ≡ 174
three_packets_have_174_bytes = refl

three_packets_are_read : capture_of two_frames_and_an_arp ≡ Ok (capture (of_frame frame ∷ of_frame frame ∷ of_frame arp ∷ []))
three_packets_are_read = refl

two_of_three_packets_are_written : savefile (capture (of_frame frame ∷ of_frame frame ∷ of_frame arp ∷ [])) ((0, frame) ∷ (1, frame) ∷ [])
    ≡ header ++ record_header ++ frame ++ record_header ++ frame
two_of_three_packets_are_written = refl

the_third_packet_is_written_with_other_bytes : savefile (capture (of_frame frame ∷ of_frame frame ∷ of_frame arp ∷ [])) ((2, 7 ∷ 8 ∷ []) ∷ [])
    ≡ header ++ 0 ∷ 0 ∷ 0 ∷ 0 ∷ 0 ∷ 0 ∷ 0 ∷ 0 ∷ 2 ∷ 0 ∷ 0 ∷ 0 ∷ 34 ∷ 0 ∷ 0 ∷ 0 ∷ 7 ∷ 8 ∷ []
the_third_packet_is_written_with_other_bytes = refl

-- torn in the bytes of the third record, in its header, in the file's header, and before the third record
torn_in_the_last_bytes : capture_of (take 173 two_frames_and_an_arp) ≡ Err (errors.Truncated 140)
torn_in_the_last_bytes = refl

torn_in_a_record_header : capture_of (take 130 two_frames_and_an_arp) ≡ Err (errors.Truncated 124)
torn_in_a_record_header = refl

torn_in_the_file_header : capture_of (take 10 two_frames_and_an_arp) ≡ Err (errors.Truncated 0)
torn_in_the_file_header = refl

cut_between_records : capture_of (take 124 two_frames_and_an_arp) ≡ Ok (capture (of_frame frame ∷ of_frame frame ∷ []))
cut_between_records = refl

-- a capture without packets
empty_capture_is_read : capture_of header ≡ Ok (capture [])
empty_capture_is_read = refl

empty_capture_is_written : savefile (capture []) [] ≡ header
empty_capture_is_written = refl

-- big-endian with nanoseconds: a frame whose total length is 46, and the frame from above, both of 60 bytes on the wire
abbrev pub long_frame : List ℕ
long_frame = 0x02 ∷ 0xfe ∷ 0 ∷ 0 ∷ 0 ∷ 0 ∷ 0x02 ∷ 0 ∷ 0 ∷ 0 ∷ 0 ∷ 0x01 ∷ 0x08 ∷ 0
    ∷ 0x45 ∷ 0 ∷ 0 ∷ 0x2e ∷ 0 ∷ 0 ∷ 0 ∷ 0 ∷ 0x40 ∷ 0x11 ∷ 0xac ∷ 0xba ∷ 192 ∷ 0 ∷ 2 ∷ 1 ∷ 10 ∷ 1 ∷ 2 ∷ 3 ∷ []

abbrev pub big_endian_nanoseconds : List ℕ
big_endian_nanoseconds =
    0xa1 ∷ 0xb2 ∷ 0x3c ∷ 0x4d ∷ 0 ∷ 2 ∷ 0 ∷ 4 ∷ 0 ∷ 0 ∷ 0 ∷ 0 ∷ 0 ∷ 0 ∷ 0 ∷ 0 ∷ 0 ∷ 4 ∷ 0 ∷ 0 ∷ 0 ∷ 0 ∷ 0 ∷ 1 ∷ []
    ++ 0 ∷ 0 ∷ 0 ∷ 1 ∷ 0 ∷ 0 ∷ 0x01 ∷ 0xf4 ∷ 0 ∷ 0 ∷ 0 ∷ 0x22 ∷ 0 ∷ 0 ∷ 0 ∷ 0x3c ∷ long_frame
    ++ 0 ∷ 0 ∷ 0 ∷ 1 ∷ 0x3b ∷ 0x9a ∷ 0xc9 ∷ 0xff ∷ 0 ∷ 0 ∷ 0 ∷ 0x22 ∷ 0 ∷ 0 ∷ 0 ∷ 0x3c ∷ frame

abbrev pub nanoseconds_capture : Capture
nanoseconds_capture = record {
  nanos = true;
  snaplen = 262144;
  packets = record { seconds = 1; fraction = 500; original = 60; bytes = long_frame } ∷ record { seconds = 1; fraction = 999999999; original = 60; bytes = frame } ∷ [];
}

nanoseconds_are_read : capture_of big_endian_nanoseconds ≡ Ok nanoseconds_capture
nanoseconds_are_read = refl

-- the frame as it was forwarded
abbrev pub forwarded : List ℕ
forwarded = 0x02 ∷ 0 ∷ 0 ∷ 0 ∷ 0 ∷ 0x09 ∷ 0x02 ∷ 0xfe ∷ 0 ∷ 0 ∷ 0 ∷ 0 ∷ 0x08 ∷ 0
    ∷ 0x45 ∷ 0 ∷ 0 ∷ 0x14 ∷ 0 ∷ 0 ∷ 0 ∷ 0 ∷ 0x3f ∷ 0x11 ∷ 0xad ∷ 0xd4 ∷ 0xc0 ∷ 0 ∷ 0x02 ∷ 0x01 ∷ 0x0a ∷ 0x01 ∷ 0x02 ∷ 0x03 ∷ []

nanoseconds_are_written : savefile nanoseconds_capture ((1, forwarded) ∷ []) ≡
    0x4d ∷ 0x3c ∷ 0xb2 ∷ 0xa1 ∷ 0x02 ∷ 0 ∷ 0x04 ∷ 0 ∷ 0 ∷ 0 ∷ 0 ∷ 0 ∷ 0 ∷ 0 ∷ 0 ∷ 0 ∷ 0 ∷ 0 ∷ 0x04 ∷ 0 ∷ 0x01 ∷ 0 ∷ 0 ∷ 0
    ∷ 0x01 ∷ 0 ∷ 0 ∷ 0 ∷ 0xff ∷ 0xc9 ∷ 0x9a ∷ 0x3b ∷ 0x22 ∷ 0 ∷ 0 ∷ 0 ∷ 0x3c ∷ 0 ∷ 0 ∷ 0 ∷ forwarded
nanoseconds_are_written = refl

-- times: whole microseconds since the first packet, which never fall
first_time : time nanoseconds_capture 0 ≡ 0
first_time = refl

second_time : time nanoseconds_capture 1 ≡ 999999
second_time = refl

-- the other two magic numbers, over a capture without packets
big_endian_microseconds_are_read : capture_of (0xa1 ∷ 0xb2 ∷ 0xc3 ∷ 0xd4 ∷ drop 4 (take 24 big_endian_nanoseconds)) ≡ Ok (capture [])
big_endian_microseconds_are_read = refl

little_endian_nanoseconds_are_read : capture_of (0x4d ∷ 0x3c ∷ 0xb2 ∷ 0xa1 ∷ drop 4 header) ≡ Ok (record { nanos = true; snaplen = 262144; packets = [] })
little_endian_nanoseconds_are_read = refl

-- each refusal, in the order of the checks
no_bytes : capture_of [] ≡ Err (errors.Truncated 0)
no_bytes = refl

three_bytes_of_a_magic_number : capture_of (take 3 header) ≡ Err (errors.Truncated 0)
three_bytes_of_a_magic_number = refl

no_magic_number : capture_of (0x0a ∷ 0x0d ∷ 0x0d ∷ 0x0a ∷ []) ≡ Err errors.NotPcap
no_magic_number = refl

a_magic_number_in_neither_order : capture_of (0xd4 ∷ 0xc3 ∷ 0xa1 ∷ 0xb2 ∷ drop 4 header) ≡ Err errors.NotPcap
a_magic_number_in_neither_order = refl

twenty_three_bytes : capture_of (take 23 header) ≡ Err (errors.Truncated 0)
twenty_three_bytes = refl

version_2_3 : capture_of (set header 6 3) ≡ Err (errors.Version 2 3)
version_2_3 = refl

version_1_4 : capture_of (set header 4 1) ≡ Err (errors.Version 1 4)
version_1_4 = refl

link_type_113 : capture_of (set header 20 113) ≡ Err (errors.LinkType 113)
link_type_113 = refl

link_type_with_an_upper_bit : capture_of (set header 23 0x10) ≡ Err (errors.LinkType 0x10000001)
link_type_with_an_upper_bit = refl

captured_length_262145 : capture_of (header ++ 0 ∷ 0 ∷ 0 ∷ 0 ∷ 0 ∷ 0 ∷ 0 ∷ 0 ∷ 1 ∷ 0 ∷ 4 ∷ 0 ∷ 0 ∷ 0 ∷ 0 ∷ 0 ∷ []) ≡ Err (errors.RecordTooLong 24)
captured_length_262145 = refl

captured_length_262144 : capture_of (header ++ 0 ∷ 0 ∷ 0 ∷ 0 ∷ 0 ∷ 0 ∷ 0 ∷ 0 ∷ 0 ∷ 0 ∷ 4 ∷ 0 ∷ 0 ∷ 0 ∷ 0 ∷ 0 ∷ []) ≡ Err (errors.Truncated 40)
captured_length_262144 = refl

captured_length_of_32_bits : capture_of (header ++ replicate 8 0 ++ 0xff ∷ 0xff ∷ 0xff ∷ 0xff ∷ replicate 4 0) ≡ Err (errors.RecordTooLong 24)
captured_length_of_32_bits = refl

-- where one record more is taken, the second is one too many, and where two are, both are read
one_record_too_many : records_at little_number 1 24 (replicate 32 0) ≡ Err (errors.TooManyPackets 40)
one_record_too_many = refl

as_many_records_as_are_taken : records_at little_number 2 24 (replicate 32 0)
    ≡ Ok (record { seconds = 0; fraction = 0; original = 0; bytes = [] } ∷ record { seconds = 0; fraction = 0; original = 0; bytes = [] } ∷ [])
as_many_records_as_are_taken = refl
