-- The kinds of a report's lines behind the first five, by their first words (this project's profile).
use Rattle.std.specs.Prelude.{ℕ, List, [], ◌∷◌, codes, bytes_eq, find, Option}
use Rattle.vg_report.specs.declared.kinds.LineKind.{LineKind}
use Rattle.vg_report.specs.declared.kinds.LineKind.TheVariants as kinds

-- the first word of a line
abbrev pub kind_word : LineKind → List ℕ
kind_word kinds.Interface = codes "interface"
kind_word kinds.Node = codes "node"
kind_word kinds.Error = codes "error"
kind_word kinds.Packet = codes "packet"
kind_word kinds.Trace = codes "trace"
kind_word kinds.End = codes "end"

abbrev pub all_kinds : List LineKind
all_kinds = kinds.Interface ∷ kinds.Node ∷ kinds.Error ∷ kinds.Packet ∷ kinds.Trace ∷ kinds.End ∷ []

-- the kind of a line by its first word
abbrev pub kind_of : List ℕ → Option LineKind
kind_of word = find (λ kind. bytes_eq word (kind_word kind)) all_kinds
