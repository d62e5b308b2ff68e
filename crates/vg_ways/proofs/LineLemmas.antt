-- For `RouteLines` and `Stages`: the lines that set routes, edit after edit.
use Rattle.std.proofs.Common.{◌≡◌, ℕ, ◌+◌, ◌<◌, ◌≤◌, Bool, true, false, ◌==◌, ◌&&◌, cond, List, [], ◌∷◌, ◌++◌, length, take, get_or, refl, sym, ap, ap₂, subst, ◌∙◌, arith, append_assoc, append-nil, BTreeMap}
use Rattle.std.specs.Prelude.{Option, Some, nat_lt, flat_map, unwrap_or}
use Rattle.std.specs.BTreeMap as maps
use Rattle.std.specs.declared.cmp.Ordering.TheVariants.{Less, Equal, Greater}
use Rattle.std.specs.Ordering.{is_eq, ordering_then, nat_cmp}
use Rattle.std.proofs.lemmas.Bool.Decides.{nat_tests}
use Rattle.std.proofs.lemmas.Grind.{flat_map-append}
use Rattle.std.proofs.lemmas.List.{take_more, take_all}
use Rattle.std.proofs.lemmas.List.Elements.{All-map}
use Rattle.vg_fib.proofs.PrefixLemmas.{ArePrefixes}
use Rattle.vg_story.specs.Matches.{HasOneLineEach}
use Rattle.vg_story.proofs.MatchLemmas.{one_line_each}
use Rattle.vg_ways.proofs.ReadLemmas.{IsRead, take_read}
use Rattle.vg_model.specs.declared.edits.Edit.{Edit}
use Rattle.vg_model.specs.declared.edits.Edit.TheVariants as edits
use Rattle.vg_model.specs.declared.edits.EditLine.{EditLine}
use Rattle.vg_model.specs.declared.routes.Prefix.{Prefix}
use Rattle.vg_model.specs.declared.routes.Prefix6.{Prefix6}
use Rattle.vg_model.specs.declared.routes.RouteTo.{RouteTo}
use Rattle.vg_model.specs.declared.routes.RouteWord.{RouteWord}
use Rattle.vg_model.specs.Route.{PrefixKind}
use Rattle.vg_script.specs.declared.scripts.Script.{Script}
use Rattle.vg_script.specs.Events.{Event, events}
use Rattle.vg_ways.specs.declared.lines.RouteLines.{RouteLines}
use Rattle.vg_ways.specs.Lines.{sets_route, sets_route6, line_after, edits_to, lined}
use Rattle.vg_ways.specs.LinesView.{key_cmp, line_in, line6_in, HasLine, HasLine6, AreAfter, AreLinesOf}

-- the same lines for all prefixes
pub lined_same : {P : Type 0} (f g : P → ℕ) (routes : List (P × RouteTo)) → ((prefix : P) → f prefix ≡ g prefix) → lined f routes ≡ lined g routes
lined_same f g [] same = refl
lined_same f g (route ∷ routes) same = ap₂ (λ line rest. (route.0, line) ∷ rest) (same route.0) (lined_same f g routes same)

-- each prefix has one line
pub lined_once : {P : Type 0} {kind : PrefixKind P} → ArePrefixes kind → (line : P → ℕ) (routes : List (P × RouteTo)) → HasOneLineEach kind (lined line routes)
lined_once {P} are line routes =
    one_line_each are line (lined line routes) (All-map (λ (r : P × ℕ). r.1 ≡ line r.0) (λ (r : P × RouteTo). (r.0, line r.0)) routes (λ k d inside. refl))

-- ---- edits one behind the other

line_after-append : (sets : Edit → Bool) (line : ℕ) (xs ys : List EditLine) → line_after sets line (xs ++ ys) ≡ line_after sets (line_after sets line xs) ys
line_after-append sets line [] ys = refl
line_after-append sets line (x ∷ xs) ys = line_after-append sets (cond (sets x.edit) x.line line) xs ys

pub after_both : {xs ys : List EditLine} {old mid new : RouteLines} → AreAfter xs old mid → AreAfter ys mid new → AreAfter (xs ++ ys) old new
after_both {xs = xs} {ys = ys} one two = record {
  line = λ prefix. two.line prefix ∙ ap (λ l. line_after (sets_route prefix) l ys) (one.line prefix) ∙ sym (line_after-append (sets_route prefix) _ xs ys);
  line6 = λ prefix. two.line6 prefix ∙ ap (λ l. line_after (sets_route6 prefix) l ys) (one.line6 prefix) ∙ sym (line_after-append (sets_route6 prefix) _ xs ys);
}

pub after_none : (lines : RouteLines) → AreAfter [] lines lines
after_none lines = record { line = λ prefix. refl; line6 = λ prefix. refl }

-- the lines after one edit more
pub after_more : {edits : List EditLine} {i : ℕ} {x : EditLine} {old mid new : RouteLines} → IsRead edits i x
    → AreAfter (take i edits) old mid → AreAfter (x ∷ []) mid new → AreAfter (take (i + 1) edits) old new
after_more {edits = edits} {i = i} {x = x} {old = old} {mid = mid} {new = new} read so_far one =
    subst (λ es. AreAfter es old new) (sym (take_read read)) (after_both {xs = take i edits} {ys = x ∷ []} {old = old} {mid = mid} {new = new} so_far one)

-- the lines after all edits
pub after_all : {edits items : List EditLine} {old new : RouteLines} (i : ℕ) → items ≡ edits → length items ≤ i → AreAfter (take i items) old new → AreAfter edits old new
after_all {items = items} {old = old} {new = new} i same past after = subst (λ es. AreAfter es old new) (take_all i items past ∙ same) after

-- ---- one edit

-- keys are equal where both parts are
pub is_key : (a b c d : ℕ) → is_eq (ordering_then (nat_cmp a b) (nat_cmp c d)) ≡ (a == b && c == d)
is_key a b c d = by_tests (nat_lt a b) (a == b) (nat_lt c d) (c == d) (λ e. grind (arith, nat_tests)) (λ e. grind (arith, nat_tests))
  where
    by_tests : (less same first one : Bool) → (less ≡ true → same ≡ false) → (first ≡ true → one ≡ false)
        → is_eq (ordering_then (cond less Less (cond same Equal Greater)) (cond first Less (cond one Equal Greater))) ≡ (same && one)
    by_tests true same first one h k = sym (ap (λ b. b && one) (h refl))
    by_tests false false first one h k = refl
    by_tests false true true one h k = sym (k refl)
    by_tests false true false true h k = refl
    by_tests false true false false h k = refl

-- the line of a key once a line was put
put_line : (old new : BTreeMap (ℕ × ℕ) ℕ) (set key : ℕ × ℕ) (line : ℕ) → maps.Updates key_cmp old new set (Some line)
    → unwrap_or (maps.get key_cmp new key) 0 ≡ cond (set.0 == key.0 && set.1 == key.1) line (unwrap_or (maps.get key_cmp old key) 0)
put_line old new set key line up =
    ap (λ o. unwrap_or o 0) (up.0 key)
    ∙ ap (λ b. unwrap_or (cond b (Some line) (maps.get key_cmp old key)) 0) (is_key set.0 key.0 set.1 key.1)
    ∙ by_test (set.0 == key.0 && set.1 == key.1) (maps.get key_cmp old key)
  where
    by_test : (b : Bool) (o : Option ℕ) → unwrap_or (cond b (Some line) o) 0 ≡ cond b line (unwrap_or o 0)
    by_test true o = refl
    by_test false o = refl

-- a line was put for an IPv4 prefix, or for an IPv6 prefix
pub has_line : (old new : RouteLines) (set : Prefix) (line : ℕ) → maps.Updates key_cmp old.lines new.lines (set.addr, set.len) (Some line)
    → new.lines6 ≡ old.lines6 → HasLine set line old new
has_line old new set line up same = record {
  line = λ prefix. put_line old.lines new.lines (set.addr, set.len) (prefix.addr, prefix.len) line up;
  line6 = λ prefix. ap (λ m. unwrap_or (maps.get key_cmp m (prefix.addr, prefix.len)) 0) same;
}

pub has_line6 : (old new : RouteLines) (set : Prefix6) (line : ℕ) → maps.Updates key_cmp old.lines6 new.lines6 (set.addr, set.len) (Some line)
    → new.lines ≡ old.lines → HasLine6 set line old new
has_line6 old new set line up same = record {
  line = λ prefix. ap (λ m. unwrap_or (maps.get key_cmp m (prefix.addr, prefix.len)) 0) same;
  line6 = λ prefix. put_line old.lines6 new.lines6 (set.addr, set.len) (prefix.addr, prefix.len) line up;
}

-- an edit that sets a route
pub set_route : {old new : RouteLines} (edit : EditLine) {set : Prefix} {to : RouteWord} → edit.edit ≡ edits.Route set to → HasLine set edit.line old new
    → AreAfter (edit ∷ []) old new
set_route {old = old} edit is has = record {
  line = λ prefix. has.line prefix ∙ ap (λ e. cond (sets_route prefix e) edit.line (line_in old prefix)) (sym is);
  line6 = λ prefix. has.line6 prefix ∙ ap (λ e. cond (sets_route6 prefix e) edit.line (line6_in old prefix)) (sym is);
}

pub set_route6 : {old new : RouteLines} (edit : EditLine) {set : Prefix6} {to : RouteWord} → edit.edit ≡ edits.Route6 set to → HasLine6 set edit.line old new
    → AreAfter (edit ∷ []) old new
set_route6 {old = old} edit is has = record {
  line = λ prefix. has.line prefix ∙ ap (λ e. cond (sets_route prefix e) edit.line (line_in old prefix)) (sym is);
  line6 = λ prefix. has.line6 prefix ∙ ap (λ e. cond (sets_route6 prefix e) edit.line (line6_in old prefix)) (sym is);
}

-- an edit that sets no route
pub put_other : (lines : RouteLines) (edit : EditLine) → ((prefix : Prefix) → sets_route prefix edit.edit ≡ false) → ((prefix : Prefix6) → sets_route6 prefix edit.edit ≡ false)
    → AreAfter (edit ∷ []) lines lines
put_other lines edit none none6 = record {
  line = λ prefix. sym (ap (λ b. cond b edit.line (line_in lines prefix)) (none prefix));
  line6 = λ prefix. sym (ap (λ b. cond b edit.line (line6_in lines prefix)) (none6 prefix));
}

-- ---- generations

-- the lines of the first generation
pub first_lines : (script : Script) (none lines : RouteLines) → ((prefix : Prefix) → line_in none prefix ≡ 0) → ((prefix : Prefix6) → line6_in none prefix ≡ 0)
    → AreAfter script.start none lines → AreLinesOf script 0 lines
first_lines script none lines zero4 zero6 after = record {
  line = λ prefix. after.line prefix ∙ ap (λ l. line_after (sets_route prefix) l script.start) (zero4 prefix)
      ∙ ap (line_after (sets_route prefix) 0) (sym (append-nil script.start));
  line6 = λ prefix. after.line6 prefix ∙ ap (λ l. line_after (sets_route6 prefix) l script.start) (zero6 prefix)
      ∙ ap (line_after (sets_route6 prefix) 0) (sym (append-nil script.start));
}

-- the edits that make one generation more
pub edits_more : (script : Script) (k : ℕ) (event : Event) → k < length (events script) → get_or (events script) k event ≡ event
    → edits_to script (k + 1) ≡ edits_to script k ++ event.edits
edits_more script k event within read =
    ap (λ es. script.start ++ flat_map (λ (e : Event). e.edits) es) (take_more (events script) k event within ∙ ap (λ e. take k (events script) ++ e ∷ []) read)
    ∙ ap (λ es. script.start ++ es) (flat_map-append (λ (e : Event). e.edits) (take k (events script)) (event ∷ []) ∙ ap (λ es. flat_map (λ (e : Event). e.edits) (take k (events script)) ++ es) (append-nil event.edits))
    ∙ sym (append_assoc script.start (flat_map (λ (e : Event). e.edits) (take k (events script))) event.edits)

-- the lines of one generation more
pub next_lines : {script : Script} {k : ℕ} (event : Event) {old new : RouteLines} → k < length (events script) → get_or (events script) k event ≡ event
    → AreLinesOf script k old → AreAfter event.edits old new → AreLinesOf script (k + 1) new
next_lines {script = script} {k = k} event within read are after = record {
  line = λ prefix. after.line prefix ∙ ap (λ l. line_after (sets_route prefix) l event.edits) (are.line prefix)
      ∙ sym (line_after-append (sets_route prefix) 0 (edits_to script k) event.edits) ∙ ap (line_after (sets_route prefix) 0) (sym (edits_more script k event within read));
  line6 = λ prefix. after.line6 prefix ∙ ap (λ l. line_after (sets_route6 prefix) l event.edits) (are.line6 prefix)
      ∙ sym (line_after-append (sets_route6 prefix) 0 (edits_to script k) event.edits) ∙ ap (line_after (sets_route6 prefix) 0) (sym (edits_more script k event within read));
}
