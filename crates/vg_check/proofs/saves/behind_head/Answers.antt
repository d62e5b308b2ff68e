use Rattle.std.proofs.Common.{◌≡◌, ◌≢◌, ◌++◌, List, ℕ, None, ap, sym, subst, ◌∙◌, append_assoc, rules, w32}
use Rattle.std.specs.Int.{to_le_bytes}
use Rattle.vg_check.proofs.SaveLemmas.{IsBehind, behind_none, behind_two, no_rest}
use Rattle.vg_check.proofs.saves.behind_head.Goals as goal

pub returns-in_err-bytes : goal.returns-in_err-bytes
returns-in_err-bytes c =
    let bytes : List ℕ = c.args.bytes.now in
    let seconds : List ℕ = to_le_bytes w32 c.args.marks.seconds in
    let fraction : List ℕ = to_le_bytes w32 c.args.marks.fraction in
    let len : List ℕ = to_le_bytes w32 c.args.len in
    let original : List ℕ = to_le_bytes w32 c.args.marks.original in
    let one : c.to_le_bytes.result ≡ seconds = c.to_le_bytes.ensures in
    let none : c.from_residual.result ≡ None = search rules in
    let first : (more : List ℕ) → bytes ≢ seconds ++ more = subst (λ front. (more : List ℕ) → bytes ≢ front ++ more) one c.in_err-bytes.ensures in
    no_rest (((seconds ++ fraction) ++ len) ++ original) bytes c.from_residual.result none
    (behind_none ((seconds ++ fraction) ++ len) original bytes (behind_none (seconds ++ fraction) len bytes (behind_none seconds fraction bytes first)))

pub returns-in_err-bytes-2 : goal.returns-in_err-bytes-2
returns-in_err-bytes-2 c =
    let bytes : List ℕ = c.args.bytes.now in
    let seconds : List ℕ = to_le_bytes w32 c.args.marks.seconds in
    let fraction : List ℕ = to_le_bytes w32 c.args.marks.fraction in
    let len : List ℕ = to_le_bytes w32 c.args.len in
    let original : List ℕ = to_le_bytes w32 c.args.marks.original in
    let one : c.to_le_bytes.result ≡ seconds = c.to_le_bytes.ensures in
    let two : c.to_le_bytes-2.result ≡ fraction = c.to_le_bytes-2.ensures in
    let none : c.from_residual-in_err-bytes-2.result ≡ None = search rules in
    let middle : List ℕ = c.in_ok-bytes.bytes.now in
    let first : bytes ≡ seconds ++ middle = c.in_ok-bytes.ensures ∙ ap (λ front. front ++ middle) one in
    let second : (more : List ℕ) → middle ≢ fraction ++ more = subst (λ front. (more : List ℕ) → middle ≢ front ++ more) two c.in_err-bytes-2.ensures in
    no_rest (((seconds ++ fraction) ++ len) ++ original) bytes c.from_residual-in_err-bytes-2.result none
    (behind_none ((seconds ++ fraction) ++ len) original bytes (behind_none (seconds ++ fraction) len bytes (behind_two seconds fraction bytes middle None first second)))

pub returns-in_err-bytes-3 : goal.returns-in_err-bytes-3
returns-in_err-bytes-3 c =
    let bytes : List ℕ = c.args.bytes.now in
    let seconds : List ℕ = to_le_bytes w32 c.args.marks.seconds in
    let fraction : List ℕ = to_le_bytes w32 c.args.marks.fraction in
    let len : List ℕ = to_le_bytes w32 c.args.len in
    let original : List ℕ = to_le_bytes w32 c.args.marks.original in
    let one : c.to_le_bytes.result ≡ seconds = c.to_le_bytes.ensures in
    let two : c.to_le_bytes-2.result ≡ fraction = c.to_le_bytes-2.ensures in
    let three : c.to_le_bytes-3.result ≡ len = c.to_le_bytes-3.ensures in
    let none : c.from_residual-in_err-bytes-3.result ≡ None = search rules in
    let middle : List ℕ = c.in_ok-bytes.bytes.now in
    let later : List ℕ = c.in_ok-bytes-2.bytes.now in
    let first : bytes ≡ seconds ++ middle = c.in_ok-bytes.ensures ∙ ap (λ front. front ++ middle) one in
    let second : middle ≡ fraction ++ later = c.in_ok-bytes-2.ensures ∙ ap (λ front. front ++ later) two in
    let both : bytes ≡ (seconds ++ fraction) ++ later = first ∙ ap (λ l. seconds ++ l) second ∙ sym (append_assoc seconds fraction later) in
    let third : (more : List ℕ) → later ≢ len ++ more = subst (λ front. (more : List ℕ) → later ≢ front ++ more) three c.in_err-bytes-3.ensures in
    no_rest (((seconds ++ fraction) ++ len) ++ original) bytes c.from_residual-in_err-bytes-3.result none
    (behind_none ((seconds ++ fraction) ++ len) original bytes (behind_two (seconds ++ fraction) len bytes later None both third))

pub returns : goal.returns
returns c =
    let bytes : List ℕ = c.args.bytes.now in
    let seconds : List ℕ = to_le_bytes w32 c.args.marks.seconds in
    let fraction : List ℕ = to_le_bytes w32 c.args.marks.fraction in
    let len : List ℕ = to_le_bytes w32 c.args.len in
    let original : List ℕ = to_le_bytes w32 c.args.marks.original in
    let one : c.to_le_bytes.result ≡ seconds = c.to_le_bytes.ensures in
    let two : c.to_le_bytes-2.result ≡ fraction = c.to_le_bytes-2.ensures in
    let three : c.to_le_bytes-3.result ≡ len = c.to_le_bytes-3.ensures in
    let four : c.to_le_bytes-4.result ≡ original = c.to_le_bytes-4.ensures in
    let middle : List ℕ = c.in_ok-bytes.bytes.now in
    let later : List ℕ = c.in_ok-bytes-2.bytes.now in
    let last : List ℕ = c.in_ok-bytes-3.bytes.now in
    let first : bytes ≡ seconds ++ middle = c.in_ok-bytes.ensures ∙ ap (λ front. front ++ middle) one in
    let second : middle ≡ fraction ++ later = c.in_ok-bytes-2.ensures ∙ ap (λ front. front ++ later) two in
    let third : later ≡ len ++ last = c.in_ok-bytes-3.ensures ∙ ap (λ front. front ++ last) three in
    let both : bytes ≡ (seconds ++ fraction) ++ later = first ∙ ap (λ l. seconds ++ l) second ∙ sym (append_assoc seconds fraction later) in
    let all : bytes ≡ ((seconds ++ fraction) ++ len) ++ last = both ∙ ap (λ l. (seconds ++ fraction) ++ l) third ∙ sym (append_assoc (seconds ++ fraction) len last) in
    behind_two ((seconds ++ fraction) ++ len) original bytes last c.behind-4.result all (subst (λ front. IsBehind front last c.behind-4.result) four c.behind-4.ensures)
