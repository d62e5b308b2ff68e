-- For the clauses of `starts_of`, `numbers_of` and `frames_at`: one capture, one packet or one number more.
use Rattle.std.proofs.Common.{◌≡◌, ℕ, suc, ◌+◌, ◌<◌, ◌≤◌, Bool, List, [], ◌∷◌, ◌++◌, length, get_or, drop, sym, ap, ◌∙◌, add-one, append_assoc, append-nil}
use Rattle.std.specs.Prelude.{Some}
use Rattle.std.specs.List.{slice_get}
use Rattle.std.proofs.Math.Seq.{drop-cons}
use Rattle.std.proofs.lemmas.List.{drop_all}
use Rattle.std.proofs.lemmas.Option.{get_or_from_slice_get}
use Rattle.vg_capture.specs.declared.captures.Capture.{Capture}
use Rattle.vg_report.specs.declared.reports.PacketLine.{PacketLine}
use Rattle.vg_diff.specs.Numbers.{starts_behind, number_if, counts_among, numbers_from}

-- one capture more
pub start_more : (starts : List ℕ) (count : ℕ) (others : List Capture) (i : ℕ) (d : Capture) → i < length others
    → (starts ++ count ∷ []) ++ starts_behind (count + length (get_or others i d).packets) (drop (i + 1) others) ≡ starts ++ starts_behind count (drop i others)
start_more starts count others i d below =
    append_assoc starts (count ∷ []) (starts_behind (count + length (get_or others i d).packets) (drop (i + 1) others))
    ∙ ap (λ j. starts ++ starts_behind count (get_or others i d ∷ drop j others)) (add-one i)
    ∙ ap (λ captures. starts ++ starts_behind count captures) (sym (drop-cons others i d below))

-- all captures
pub starts_all : (starts : List ℕ) (count : ℕ) (others : List Capture) (i : ℕ) → length others ≤ i → starts ++ starts_behind count (drop i others) ≡ starts
starts_all starts count others i over = ap (λ captures. starts ++ starts_behind count captures) (drop_all i others over) ∙ append-nil starts

-- one packet more
pub number_more : (sent : Bool) (lines : List PacketLine) (i : ℕ) (line : PacketLine) → i < length lines → slice_get lines i ≡ Some line
    → number_if (counts_among sent line.end) i ++ numbers_from sent (i + 1) (drop (i + 1) lines) ≡ numbers_from sent i (drop i lines)
number_more sent lines i line below is =
    ap (λ j. number_if (counts_among sent line.end) i ++ numbers_from sent j (drop j lines)) (add-one i)
    ∙ ap (λ l. numbers_from sent i (l ∷ drop (suc i) lines)) (sym (get_or_from_slice_get lines i line line is))
    ∙ ap (numbers_from sent i) (sym (drop-cons lines i line below))

-- all packets
pub numbers_all : (sent : Bool) (lines : List PacketLine) (i : ℕ) → length lines ≤ i → numbers_from sent i (drop i lines) ≡ []
numbers_all sent lines i over = ap (numbers_from sent i) (drop_all i lines over)
