-- For the functions that append a line: its pieces, one behind the other.
use Rattle.std.proofs.Common.{◌≡◌, ℕ, List, ◌++◌, append_assoc}

-- three pieces
pub three : (before a b c : List ℕ) → ((before ++ a) ++ b) ++ c ≡ before ++ (a ++ (b ++ c))
three before a b c = simp append_assoc

-- four pieces
pub four : (before a b c d : List ℕ) → (((before ++ a) ++ b) ++ c) ++ d ≡ before ++ (a ++ (b ++ (c ++ d)))
four before a b c d = simp append_assoc
