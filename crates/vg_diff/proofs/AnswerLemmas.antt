-- For the clauses of `due_of`, `due_with`, `due_beside` and `due_behind`: a comparison's counts, status and text, and what is compared.
use Rattle.std.proofs.Common.{◌≡◌, ◌↔◌, ◌⊎◌, ℕ, ◌+◌, true, List, ◌++◌, length, sym, ap, ◌∙◌, subst, arith, length-append}
use Rattle.std.proofs.lemmas.List.{length-map}
use Rattle.std.proofs.lemmas.List.Sorted.{length_permutation}
use Rattle.vg_match.specs.declared.diffs.Diff.{Diff}
use Rattle.vg_match.specs.declared.fields.Field.{Field}
use Rattle.vg_match.specs.Diffs.{Packets, IsDiff, AllMatch, firsts, seconds}
use Rattle.vg_match.specs.Sides.{left_out, meant_numbers}
use Rattle.vg_match.proofs.ExactLemmas.{exact}
use Rattle.vg_match.proofs.SideLemmas.{out_or_named}
use Rattle.vg_diff.specs.declared.lines.Findings.{Findings}
use Rattle.vg_diff.specs.Answers.{IsText}
use Rattle.vg_diff.specs.declared.input.Account.{Account}
use Rattle.vg_diff.specs.declared.input.Input.{Input}
use Rattle.vg_diff.specs.Accounts.{IsAccount}
use Rattle.vg_diff.specs.Numbers.{sent_numbers}
use Rattle.vg_diff.specs.Files.{has_packets_of}
use Rattle.vg_diff.specs.Run.{Terms, Compared, packets_of, IsFound, AddUp, IsAnswer}

-- each packet that had to come is left out or stands in the difference, and each that came
pub wanted_counted : (ignored : List Field) (packets : Packets) (diff : Diff) → IsDiff ignored packets diff
    → left_out packets.only packets.wanted + (length diff.same.items + (length diff.changed.items + length diff.missing.items)) ≡ length packets.wanted
wanted_counted ignored packets diff is =
    let out : left_out packets.only packets.wanted + length (meant_numbers packets.only 0 packets.wanted) ≡ length packets.wanted = out_or_named packets.only 0 packets.wanted in
    let once : length (firsts diff.same.items ++ (firsts diff.changed.items ++ diff.missing.items)) ≡ length (meant_numbers packets.only 0 packets.wanted)
    = length_permutation _ _ is.wanted_once in
    let sum : length (firsts diff.same.items ++ (firsts diff.changed.items ++ diff.missing.items)) ≡ length diff.same.items + (length diff.changed.items + length diff.missing.items)
    = simp (length-append, length-map) in
    omega (arith, out, once, sum)

pub got_counted : (ignored : List Field) (packets : Packets) (diff : Diff) → IsDiff ignored packets diff
    → left_out packets.only packets.got + (length diff.same.items + (length diff.changed.items + (length diff.there.items + length diff.extra.items))) ≡ length packets.got
got_counted ignored packets diff is =
    let out : left_out packets.only packets.got + length (meant_numbers packets.only 0 packets.got) ≡ length packets.got = out_or_named packets.only 0 packets.got in
    let once : length (seconds diff.same.items ++ (seconds diff.changed.items ++ (seconds diff.there.items ++ diff.extra.items))) ≡ length (meant_numbers packets.only 0 packets.got)
    = length_permutation _ _ is.got_once in
    let sum : length (seconds diff.same.items ++ (seconds diff.changed.items ++ (seconds diff.there.items ++ diff.extra.items)))
    ≡ length diff.same.items + (length diff.changed.items + (length diff.there.items + length diff.extra.items)) = simp (length-append, length-map) in
    omega (arith, out, once, sum)

-- each packet stands in one count
add_up : (terms : Terms) (compared : Compared) (found : Findings) → IsFound terms compared found → AddUp compared found
add_up terms compared found is = record {
  wanted_sum = let all = wanted_counted terms.ignored (packets_of terms compared) found.diff.now is.is_diff in omega (arith, all, is.wanted_noise);
  got_sum = let all = got_counted terms.ignored (packets_of terms compared) found.diff.now is.is_diff in omega (arith, all, is.got_noise);
}

pub answered : (terms : Terms) (compared : Compared) (found : Findings) (status : ℕ) (text : List ℕ) → IsFound terms compared found → IsText terms.manner found text
    → (status ≡ 0) ⊎ (status ≡ 9) → (status ≡ 0) ↔ AllMatch found.diff.now → IsAnswer terms compared status text
answered terms compared found status text is is_text either all =
    let law = exact terms.ignored (packets_of terms compared) found.diff.now is.is_diff in
    record {
      found = found;
      is_found = is;
      add_up = add_up terms compared found is;
      is_text = is_text;
      either = either;
      all_match = all;
      exactly = (λ zero. law.0 (all.0 zero), λ moved. all.1 (law.1 moved));
    }

-- ---- what is compared

-- the same for what is equal
pub answers_at : (terms : Terms) (status : ℕ) (text : List ℕ) {one other : Compared} → one ≡ other → IsAnswer terms one status text → IsAnswer terms other status text
answers_at terms status text same is = subst (λ (compared : Compared). IsAnswer terms compared status text) same is

-- with packets and places that are equal
module _ (one : Compared) (wanted got : List (List ℕ)) (starts : List ℕ) where
  pub frames_are : one.wanted ≡ wanted → one.got ≡ got → one.starts ≡ starts → one ≡ record one { wanted = wanted; got = got; starts = starts }
  frames_are same alike places =
      ap (λ (ws : List (List ℕ)). record one { wanted = ws }) same
      ∙ ap (λ (gs : List (List ℕ)). record one { wanted = wanted; got = gs }) alike
      ∙ ap (λ (ss : List ℕ). record one { wanted = wanted; got = got; starts = ss }) places

-- with packets that had to be dropped, and numbers of these, that are equal
pub drops_are : (one : Compared) (dropped : List (List ℕ)) (numbers : List ℕ) → one.dropped ≡ dropped → one.numbers ≡ numbers
    → one ≡ record one { dropped = dropped; numbers = numbers }
drops_are one dropped numbers same alike =
    ap (λ (ds : List (List ℕ)). record one { dropped = ds }) same ∙ ap (λ (ns : List ℕ). record one { dropped = dropped; numbers = ns }) alike

-- a report has as many packets as the files, by the numbers that stand beside it
pub fits_by : (input : Input) (account : Account) → IsAccount input account → has_packets_of account.report (sent_numbers account.report) input ≡ true
fits_by input account is = ap (λ sent. has_packets_of account.report sent input) (sym is.sent_are) ∙ is.fits
