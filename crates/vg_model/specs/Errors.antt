-- Why packets are dropped (VLIB: node errors; the order and the words are this project's profile).
use Rattle.std.specs.Prelude.{ℕ, List, [], ◌∷◌, codes}
use Rattle.vg_model.specs.declared.kinds.DropError.{DropError}
use Rattle.vg_model.specs.declared.kinds.DropError.TheVariants as errors

-- the errors in their order
abbrev pub all_errors : List DropError
all_errors =
    errors.Short ∷ errors.TooLong ∷ errors.UnknownType ∷ errors.WrongMac ∷ errors.BadVersion ∷ errors.BadHeaderLength
    ∷ errors.BadLength ∷ errors.BadChecksum ∷ errors.TtlZero ∷ errors.Unchecked ∷ errors.NoRoute ∷ errors.RouteDrop
    ∷ errors.Local ∷ errors.TtlExpired ∷ errors.MtuExceeded ∷ errors.InterfaceDown ∷ errors.Congestion
    ∷ errors.HandoffLimit ∷ errors.Blackhole ∷ []

-- an error's place in the order, counted from 0, and the word for it in texts
abbrev pub error_entry : DropError → ℕ × List ℕ
error_entry errors.Short = (0, codes "short")
error_entry errors.TooLong = (1, codes "too-long")
error_entry errors.UnknownType = (2, codes "unknown-type")
error_entry errors.WrongMac = (3, codes "wrong-mac")
error_entry errors.BadVersion = (4, codes "bad-version")
error_entry errors.BadHeaderLength = (5, codes "bad-header-length")
error_entry errors.BadLength = (6, codes "bad-length")
error_entry errors.BadChecksum = (7, codes "bad-checksum")
error_entry errors.TtlZero = (8, codes "ttl-zero")
error_entry errors.Unchecked = (9, codes "unchecked")
error_entry errors.NoRoute = (10, codes "no-route")
error_entry errors.RouteDrop = (11, codes "route-drop")
error_entry errors.Local = (12, codes "local")
error_entry errors.TtlExpired = (13, codes "ttl-expired")
error_entry errors.MtuExceeded = (14, codes "mtu-exceeded")
error_entry errors.InterfaceDown = (15, codes "interface-down")
error_entry errors.Congestion = (16, codes "congestion")
error_entry errors.HandoffLimit = (17, codes "handoff-limit")
error_entry errors.Blackhole = (18, codes "blackhole")

-- an error's place in the order
abbrev pub error_number : DropError → ℕ
error_number error = (error_entry error).0

-- the word for an error
abbrev pub error_word : DropError → List ℕ
error_word error = (error_entry error).1
