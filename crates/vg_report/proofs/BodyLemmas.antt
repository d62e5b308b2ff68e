-- For the clauses of `body` and `Lines::further`, and for `read_is_lawful`:
-- Reports of which lines are read.
use Rattle.std.proofs.Common.{◌≡◌, ℕ, suc, ◌+◌, ◌-◌, ◌*◌, ◌<◌, ◌≤◌, Bool, true, false, cond, List, [], ◌∷◌, length, refl, sym, ap, subst, ◌∙◌, arith}
use Rattle.std.proofs.Math.ListN.{length-map}
use Rattle.std.specs.List.{position_from, IsDistinct}
use Rattle.std.specs.Prelude.{Some, is_some, unwrap_or, Result, Ok, Err, bytes_eq}
use Rattle.vg_model.specs.declared.kinds.DropError.{DropError}
use Rattle.vg_model.specs.declared.kinds.DropError.TheVariants as errors
use Rattle.vg_model.specs.Errors.{error_number}
use Rattle.vg_report.specs.declared.errors.ReportCause.{ReportCause}
use Rattle.vg_report.specs.declared.errors.ReportCause.TheVariants as causes
use Rattle.vg_report.specs.declared.errors.ReportError.{ReportError}
use Rattle.vg_report.specs.declared.reading.Head.{Head}
use Rattle.vg_report.specs.declared.reports.Report.{Report}
use Rattle.vg_report.specs.Answers.{IsNext, line_answer, refusal_at, Says, lines_read, GoesOn, Goes, IsHead}
use Rattle.vg_report.specs.Forms.{Words}
use Rattle.vg_report.specs.Lawful.{names, IsDeclared, error_place, AreErrorsFrom}
use Rattle.vg_report.specs.Reading.{Said, Further, Whole, said_form, Rest, refused, with_read, cut_off, ended, with_said, body_at, body, begun, report_behind, IsRefusal}
use Rattle.vg_report.specs.SoFar.{IsSoFar}
use Rattle.vg_report.specs.Words.{words}
use Rattle.vg_report.proofs.ShowLemmas.{Shown}
use Rattle.vg_report.proofs.StepLemmas.{IsStep, IsSaid, shown_said}

-- a line that is read, by whether it has its line feed
body_read : (total : ℕ) (r : Report) (old new : Rest) (bytes : List ℕ) (said : Said) (left : Words) → IsNext old bytes true new
    → said_form total r (words bytes) ≡ Ok (said, left)
    → body total r old ≡ with_said (ended r new.number new.text.lines new.text.tail) (λ next. body total next new) said
body_read total r old new bytes said left next e =
    ap (λ lines. body_at total r old.number lines old.text.tail) next.0
    ∙ ap (λ a. with_read {X = Said} {Y = Report} old.number (with_said (ended r (suc old.number) new.text.lines old.text.tail) (λ next. body_at total next (suc old.number) new.text.lines old.text.tail)) a) e
    ∙ ap (λ tail. with_said (ended r (suc old.number) new.text.lines tail) (λ next. body_at total next (suc old.number) new.text.lines tail) said) next.1
    ∙ ap (λ n. with_said (ended r n new.text.lines new.text.tail) (λ next. body_at total next n new.text.lines new.text.tail) said) (sym next.2)

body_refused : (total : ℕ) (r : Report) (old new : Rest) (bytes : List ℕ) (fed : Bool) (cause : ReportCause) → IsNext old bytes fed new
    → said_form total r (words bytes) ≡ Err cause → body total r old ≡ refused old.number cause
body_refused total r old new bytes true cause next e =
    ap (λ lines. body_at total r old.number lines old.text.tail) next.0
    ∙ ap (λ a. with_read {X = Said} {Y = Report} old.number (with_said (ended r (suc old.number) new.text.lines old.text.tail) (λ next. body_at total next (suc old.number) new.text.lines old.text.tail)) a) e
body_refused total r old new bytes false cause next e =
    ap (λ lines. body_at total r old.number lines old.text.tail) next.0
    ∙ ap (λ tail. cut_off {X = Said} {Y = Report} old.number (said_form total r (words tail))) next.1
    ∙ ap (λ a. cut_off {X = Said} {Y = Report} old.number a) e

body_cut : (total : ℕ) (r : Report) (old new : Rest) (bytes : List ℕ) (said : Said) (left : Words) → IsNext old bytes false new
    → said_form total r (words bytes) ≡ Ok (said, left) → body total r old ≡ refused old.number causes.Form
body_cut total r old new bytes said left next e =
    ap (λ lines. body_at total r old.number lines old.text.tail) next.0
    ∙ ap (λ tail. cut_off {X = Said} {Y = Report} old.number (said_form total r (words tail))) next.1
    ∙ ap (λ a. cut_off {X = Said} {Y = Report} old.number a) e

-- what is answered of a line at fault
pub goes_err : (total : ℕ) (r r' : Report) (old new : Rest) (bytes : List ℕ) (fed : Bool) (cause : ReportCause) (left : Words) → IsNext old bytes fed new
    → Says (said_form total r (words bytes)) r (Err cause) r' left
    → IsRefusal (body total r old) (refusal_at old.number cause).line (refusal_at old.number cause).cause
goes_err total r r' old new bytes fed causes.Memory left next says = refl
goes_err total r r' old new bytes fed causes.Form left next says = body_refused total r old new bytes fed causes.Form next says
goes_err total r r' old new bytes fed causes.Number left next says = body_refused total r old new bytes fed causes.Number next says
goes_err total r r' old new bytes fed causes.Unknown left next says = body_refused total r old new bytes fed causes.Unknown next says
goes_err total r r' old new bytes fed causes.Order left next says = body_refused total r old new bytes fed causes.Order next says

-- and of another line
goes_on : (total : ℕ) (r r' : Report) (old new : Rest) (bytes : List ℕ) (left : Words) → IsSoFar total r → IsNext old bytes true new
    → said_form total r (words bytes) ≡ Ok (Further r', left) → GoesOn total r r' old new
goes_on total r r' old new bytes left so_far next says =
    let step : IsStep total r (words bytes) r' = subst (Shown (IsSaid total r (words bytes))) says (shown_said total r (words bytes) so_far) in
    record {
      same = body_read total r old new bytes (Further r') left next says;
      so_far = step.so_far;
      number = next.2;
      read = step.read;
      fewer = (let long : length old.text.lines ≡ suc (length new.text.lines) = ap length next.0 in omega (arith, long));
    }

pub goes_ok : (total : ℕ) (r r' : Report) (old new : Rest) (bytes : List ℕ) (fed more : Bool) (left : Words) (answer : Result Bool ReportError) → IsSoFar total r
    → IsNext old bytes fed new → Says (said_form total r (words bytes)) r (Ok more) r' left → answer ≡ line_answer fed old.number (Ok more)
    → Goes total r old answer r' new
goes_ok total r r' old new bytes true true left answer so_far next says given =
    subst (λ a. Goes total r old a r' new) (sym given) (goes_on total r r' old new bytes left so_far next says)
goes_ok total r r' old new bytes true false left answer so_far next says given =
    subst (λ a. Goes total r old a r' new) (sym given)
    (body_read total r old new bytes Whole left next says.0 ∙ ap (λ q. ended q new.number new.text.lines new.text.tail) (sym says.1))
goes_ok total r r' old new bytes false true left answer so_far next says given =
    subst (λ a. Goes total r old a r' new) (sym given) (body_cut total r old new bytes (Further r') left next says)
goes_ok total r r' old new bytes false false left answer so_far next says given =
    subst (λ a. Goes total r old a r' new) (sym given) (body_cut total r old new bytes Whole left next says.0)

-- a text is read up to a line
pub record IsRead (head : Head) (start : Rest) (r : Report) (rest : Rest) : Type 0 where
  pub same : report_behind head start ≡ body head.packets r rest
  pub so_far : IsSoFar head.packets r
  pub number : rest.number ≡ 6 + lines_read r

-- nothing is read behind the first five lines
pub begun_so_far : (head : Head) → IsHead head → IsSoFar head.packets (begun head)
unfolding IsDistinct
begun_so_far head h = record {
  workers = h.workers;
  buffers = h.buffers;
  generations = h.generations;
  announced = h.packets;
  interfaces = record { few = omega arith; are_names = tt; differ = tt; small = tt };
  nodes = record { few = omega arith; are_names = tt; differ = tt; small = tt };
  errors = tt;
  few_packets = omega arith;
  packets = tt;
  few_traces = (omega arith, omega arith);
  traces = tt;
  interfaces_first = λ k. absurd (omega (arith, k));
  nodes_first = λ k. absurd (omega (arith, k));
  packets_first = λ k. absurd (omega (arith, k));
}

pub read_start : (head : Head) (start : Rest) (r : Report) → r ≡ begun head → IsHead head → start.number ≡ 6 → IsRead head start r start
read_start head start r e h six =
    subst (λ q. IsRead head start q start) (sym e) (record { same = refl; so_far = begun_so_far head h; number = six })

-- one line more
pub read_next : (head : Head) (start rest behind : Rest) (r next : Report) → IsRead head start r rest → GoesOn head.packets r next rest behind
    → IsRead head start next behind
read_next head start rest behind r next h step =
    record { same = h.same ∙ step.same; so_far = step.so_far; number = (let a = h.number in let b = step.number in let c = step.read in omega (arith, a, b, c)) }

-- the lines of a report are few
pub error_small : (error : DropError) → error_number error < 19
error_small errors.Short = omega arith
error_small errors.TooLong = omega arith
error_small errors.UnknownType = omega arith
error_small errors.WrongMac = omega arith
error_small errors.BadVersion = omega arith
error_small errors.BadHeaderLength = omega arith
error_small errors.BadLength = omega arith
error_small errors.BadChecksum = omega arith
error_small errors.TtlZero = omega arith
error_small errors.Unchecked = omega arith
error_small errors.NoRoute = omega arith
error_small errors.RouteDrop = omega arith
error_small errors.Local = omega arith
error_small errors.TtlExpired = omega arith
error_small errors.MtuExceeded = omega arith
error_small errors.InterfaceDown = omega arith
error_small errors.Congestion = omega arith
error_small errors.HandoffLimit = omega arith
error_small errors.Blackhole = omega arith

place_small : (name : List ℕ) (i : ℕ) (xs : List (List ℕ)) → is_some (position_from (λ x. bytes_eq x name) i xs) ≡ true
    → unwrap_or (position_from (λ x. bytes_eq x name) i xs) 0 < i + length xs
place_small name i [] h = absurd cc
place_small name i (x ∷ xs) h = by_test (place_small name (i + 1) xs) (bytes_eq x name) h
  where
    by_test : (is_some (position_from (λ x. bytes_eq x name) (i + 1) xs) ≡ true → unwrap_or (position_from (λ x. bytes_eq x name) (i + 1) xs) 0 < (i + 1) + length xs)
        → (b : Bool) → is_some (cond b (Some i) (position_from (λ x. bytes_eq x name) (i + 1) xs)) ≡ true
        → unwrap_or (cond b (Some i) (position_from (λ x. bytes_eq x name) (i + 1) xs)) 0 < i + suc (length xs)
    by_test rest true k = omega arith
    by_test rest false k = let small = rest k in omega (arith, small)

entry_small : (nodes : List (List ℕ)) (entry : List ℕ × DropError × ℕ) → IsDeclared nodes entry.0 → error_place nodes entry < 19 * length nodes
entry_small nodes entry h =
    let small = place_small entry.0 0 nodes h in
    omega (arith, small, error_small entry.1)

errors_few : (nodes : List (List ℕ)) (least : ℕ) (es : List (List ℕ × DropError × ℕ)) → AreErrorsFrom nodes least es → length es ≤ 19 * length nodes - least
errors_few nodes least [] h = omega arith
errors_few nodes least (e ∷ es) h =
    let rest = errors_few nodes (suc (error_place nodes e)) es h.4 in
    let small = entry_small nodes e h.0 in
    let from = h.3 in
    omega (arith, rest, small, from)

pub lines_few : (total : ℕ) (r : Report) → IsSoFar total r → lines_read r ≤ 70000
lines_few total r h =
    let interfaces = h.interfaces.few in
    let nodes = h.nodes.few in
    let packets = h.few_packets in
    let announced = h.announced in
    let traces = h.few_traces in
    let many : length (names r.nodes) ≡ length r.nodes = length-map r.nodes (λ entry. entry.0) in
    let errors : length r.errors ≤ 19 * length (names r.nodes) - 0 = errors_few (names r.nodes) 0 r.errors h.errors in
    omega (arith, interfaces, nodes, packets, announced, traces, many, errors)
